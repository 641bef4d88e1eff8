-- An operation that is carried out answers in the shape that its action has.
use Rattle.std.proofs.lemmas.Bool.Decides.{nat_tests}
use Rattle.std.proofs.Common.{◌≡◌, ℕ, Bool, true, false, Some, None, Ok, Err, Option, Result, refl, ap, subst, arith}
use Rattle.granules.specs.Paths.{records_beneath}
use Rattle.operations.specs.declared.operation.Action.{Action}
use Rattle.operations.specs.declared.operation.Action.TheVariants.{Read, Mean, Set, Add}
use Rattle.operations.specs.declared.operation.Operation.{Operation}
use Rattle.operations.specs.declared.operation.Outcome.{Outcome}
use Rattle.operations.specs.Words.{sum, told, answer}
use Rattle.ledger.specs.declared.call.Answer.TheVariants.{Told}
use Rattle.ledger.specs.declared.call.Call.TheVariants.{Carry}
use Rattle.ledger.specs.declared.refusal.Refusal.{Refusal}
use Rattle.ledger.specs.Refusals.{refusal}
use Rattle.ledger.specs.Ledgers.{Layout, facts, attempt}
use Rattle.ledger.specs.Promises.{Shaped}
use Rattle.ledger.specs.Models.{Model, Served, model_hands, refused_or, serve, try}
use Rattle.ledger.specs.Walks.{Walked}
use Rattle.tables.specs.Replies.{as_outcome, InShape}
use Rattle.tables.proofs.Tries.{follows}

shaped : (a : Action) (s c : ℕ) → Shaped a (told a s c)
shaped Read s c = tt
shaped Mean s c = tt
shaped (Set w) s c = tt
shaped (Add w) s c = tt

module _ (y : Layout) (j : ℕ) (o : Operation) (m : Model) (t : Outcome) where
  by_walk : (w : Walked Model) (b : Bool) → w.complete ≡ b → (follows y j o w).said ≡ Told t → Shaped o.action t
  by_walk w true e h =
      let done : Told (answer y.parents o w.left.words) ≡ Told t = rw (e, follows) at h in
      let is : answer y.parents o w.left.words ≡ t = cc in
      subst (Shaped o.action) is (shaped o.action (sum y.parents w.left.words o.granule) (records_beneath y.parents o.granule))
  by_walk w false e h = absurd (grind (arith, nat_tests, e, h))

  by_row : (r : Option Refusal) → (refused_or r m (try y j o m)).said ≡ Told t → Shaped o.action t
  by_row (Some r) e = absurd (grind (arith, e))
  by_row None e = let w = attempt model_hands y j o m in by_walk w w.complete refl e

  said_shaped : (serve y (Carry j o) m).said ≡ Told t → Shaped o.action t
  said_shaped e = by_row (refusal (facts y m.jobs) (Carry j o)) e

pub in_shape :
    (y : Layout) (j : ℕ) (o : Operation) (m n : Model) (r : Result (Option Outcome) Refusal)
    → serve y (Carry j o) m ≡ record { left = n; said = as_outcome r } → InShape o.action r
in_shape y j o m n (Ok (Some t)) e = said_shaped y j o m t (ap (λ (s : Served). s.said) e)
in_shape y j o m n (Ok None) e = tt
in_shape y j o m n (Err r) e = tt
