-- What the calls with results of their own answer, as answers.
use Rattle.std.specs.Prelude.{ℕ, Some, None, Ok, Err, Option, Result}
use Rattle.operations.specs.declared.operation.Action.{Action}
use Rattle.operations.specs.declared.operation.Outcome.{Outcome}
use Rattle.operations.specs.declared.operation.Outcome.TheVariants.{Figures, Average, Done}
use Rattle.ledger.specs.declared.call.Answer.{Answer}
use Rattle.ledger.specs.declared.call.Answer.TheVariants.{Job, Told, Head, Refused}
use Rattle.ledger.specs.declared.refusal.Refusal.{Refusal}
use Rattle.ledger.specs.Promises.{Shaped}
use Rattle.tables.specs.Turns.{told}

-- of a call whose answer is f of what it gives
abbrev pub as_answer : {T : Type 0} → (T → Answer) → Result T Refusal → Answer
as_answer f (Ok x) = f x
as_answer f (Err r) = Refused r

-- of a call that gives nothing
abbrev pub as_done : Result (Unit {0}) Refusal → Answer
as_done r = as_answer (λ _. Told Done) r

-- of an opening, which gives a number
abbrev pub as_job : Result ℕ Refusal → Answer
as_job r = as_answer (λ n. Job n) r

-- of a question, which gives a group mode and how many hold one
abbrev pub as_head : Result (ℕ × ℕ) Refusal → Answer
as_head r = as_answer (λ h. Head h.0 h.1) r

-- of an operation whose outcome is f of what the call gives
abbrev pub as_turn : {T : Type 0} → (T → Outcome) → Result (Option T) Refusal → Answer
as_turn f r = as_answer (told f) r

-- of a read, which gives a sum and a count
abbrev pub as_figures : Result (Option (ℕ × ℕ)) Refusal → Answer
as_figures r = as_turn (λ p. Figures p.0 p.1) r

-- of a mean
abbrev pub as_average : Result (Option ℕ) Refusal → Answer
as_average r = as_turn (λ m. Average m) r

-- of a set or an addition
abbrev pub as_written : Result (Option (Unit {0})) Refusal → Answer
as_written r = as_turn (λ _. Done) r

-- of an operation whose outcome is given whole
abbrev pub as_outcome : Result (Option Outcome) Refusal → Answer
as_outcome r = as_turn (λ o. o) r

-- An operation that is carried out answers in the shape that its action has.
abbrev pub InShape : Action → Result (Option Outcome) Refusal → Type 0
InShape a (Ok (Some o)) = Shaped a o
InShape a (Ok None) = Unit {0}
InShape a (Err r) = Unit {0}
