use Rattle.std.proofs.Common.{◌≡◌, ℕ, IfOk, List, vec_items, subst, arith, rules, tests}
use Rattle.std.proofs.lemmas.Iterator.{YieldsList-from_range, items_from_collect}
use Rattle.std.proofs.lemmas.Iterator.Consumers.{YieldsList-from_filter_map}
use Rattle.shelf.specs.Words.{at}
use Rattle.alone.proofs.Floors.{words_at}
use Rattle.alone.proofs.floor.words_of.Goals as goal

pub returns : goal.returns
returns g c =
    let ws = g.S.Shelf.words c.args.shelf.now in
    let n = c.args.wanted in
    record {
      made =
          subst (λ (xs : List ℕ). IfOk c.collect.result (λ v. vec_items v ≡ xs)) (words_at ws n)
          (items_from_collect c.collect.result c.collect.ensures.ran
          (YieldsList-from_filter_map _ (λ (i : ℕ). at ws i) (YieldsList-from_range 0 n n c.filter_map.ensures.source (omega arith))
          c.filter_map.ensures.closure (λ x r q k. search (rules, tests))));
    }
