-- The cases at the edges, by computing them; what the ledger asks for in the story, by the theorem over all runs.
use Rattle.std.proofs.Common.{◌≡◌, [], ◌∷◌, None, refl, subst, arith}
use Rattle.std.proofs.lemmas.Grind.{common_steps}
use Rattle.modes.specs.Rights.{counting}
use Rattle.modes.specs.Laws.{lawful}
use Rattle.modes.proofs.Entries.{known_entries}
use Rattle.shelf.specs.Words.{Fit}
use Rattle.granules.specs.Paths.{path, is_record}
use Rattle.granules.specs.Tables.{fault}
use Rattle.operations.specs.Words.{after}
use Rattle.operations.proofs.Edges.{one_granule, wraps, halves_up, eight_deep}
use Rattle.ledger.specs.Ledgers.{blank, together}
use Rattle.ledger.specs.Promises.{EachEvent}
use Rattle.ledger.specs.Models.{fresh, history, served}
use Rattle.ledger.specs.Stories.{six, first_words, story_calls, story_answers, Restores, Seventeenth, Uppermost, EdgeCases}
use Rattle.ledger.proofs.Promised.{promise_kept}

said : history six story_calls (fresh first_words) ≡ together story_calls story_answers
unfolding path is_record after
said = refl

words : (served six story_calls (fresh first_words)).words ≡ 0 ∷ 0 ∷ 0 ∷ 22 ∷ 20 ∷ 4 ∷ []
unfolding path is_record after
words = refl

restores : Restores
unfolding path is_record after
restores = (refl, refl)

seventeenth : Seventeenth
unfolding path is_record after
seventeenth = refl

uppermost : Uppermost
unfolding path
uppermost =
    record {
      unlaid = refl;
      full = refl;
      used_up = refl;
      no_job = refl;
      hurt = refl;
      held = refl;
      outside = refl;
      gone = refl;
      idle = refl;
      well = refl;
      lengths = refl;
      parent = refl;
    }

fit : Fit first_words
fit place = grind (arith, common_steps)

laid : fault six.parents 6 ≡ None
unfolding path
laid = refl

pub edge_cases : EdgeCases
edge_cases =
    record {
      entries = known_entries;
      one_granule = one_granule;
      wraps = wraps;
      halves_up = halves_up;
      eight_deep = eight_deep;
      restores = restores;
      seventeenth = seventeenth;
      uppermost = uppermost;
      story =
          record {
            said = said;
            words = words;
            asked =
                subst (EachEvent six blank) said
                (promise_kept six.system (lawful counting refl) six.parents 6 laid first_words fit story_calls).events;
          };
    }
