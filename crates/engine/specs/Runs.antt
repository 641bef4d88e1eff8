-- What a whole run promises.
use Rattle.std.specs.Prelude.{◌≡◌, ℕ, List, length, Some, None, Ok, Err, Result}
use Rattle.modes.specs.Systems.{System}
use Rattle.ledger.specs.declared.call.Answer.{Answer}
use Rattle.ledger.specs.declared.call.Call.{Call}
use Rattle.ledger.specs.declared.refusal.Refusal.{Refusal}
use Rattle.ledger.specs.Refusals.{refusal}
use Rattle.ledger.specs.Ledgers.{together}
use Rattle.ledger.specs.Promises.{Promise}
use Rattle.shelf.specs.Words.{over}
use Rattle.engine.specs.States.{nothing_yet}

-- The laying, on a shelf with the words `before`, was refused as the table says, and the shelf's words stay; or it was done,
-- each of the calls was answered, and the promise holds of the calls with their answers and of the words `now`.
abbrev pub Ran : System → List ℕ → Call → List ℕ → List ℕ → List Call → Result (List Answer) Refusal → List ℕ → Type 0
Ran s before laying parents first calls (Err r) words = (refusal (nothing_yet before) laying ≡ Some r) × (words ≡ before)
Ran s before laying parents first calls (Ok answers) words =
    (refusal (nothing_yet before) laying ≡ None)
    × (length answers ≡ length calls)
    × Promise (record { system = s; parents = parents }) (over first before) (together calls answers) words
