use Rattle.std.proofs.Common.{◌≡◌, ℕ, get_or, length, ◌∙◌, rules, tests, arith}
use Rattle.std.proofs.lemmas.Iterator.{YieldsList-from_map}
use Rattle.std.proofs.lemmas.Iterator.Consumers.{YieldsList-at, YieldsList-from_first, sum_by_from_yields_List, fits_by_from_yields_list}
use Rattle.granules.specs.Paths.{record_beneath, records}
use Rattle.granules.specs.Trees.{table, ahead}
use Rattle.granules.proofs.Counts.{sum_range}
use Rattle.granules.proofs.Kept.{size}
use Rattle.operations.specs.Words.{sum}
use Rattle.operations.proofs.Places.{sum_bound}
use Rattle.operations.proofs.carry.total.Goals as goal

pub sum-requires-clause-fits : goal.sum-requires-clause-fits
sum-requires-clause-fits g c =
    let t = c.args.tree.now in
    let ws = g.S.Shelf.words c.args.shelf.now in
    let word = λ (r : ℕ). get_or ws r 0 in
    let all = records (table t) c.args.granule in
    let bound =
    sum_bound (table t) ws c.args.granule (omega (arith, size t, t.few))
    (λ k. omega (arith, g.met.S.Shelf.fit c.args.shelf.now k))
    in
    fits_by_from_yields_list word all c.map.result _
    (YieldsList-from_map _ word (YieldsList-at c.map.ensures.source (YieldsList-from_first (λ x. x) ahead all c.records.ensures.value))
    c.map.ensures.closure (λ x r q k. search (rules, tests)))
    (omega (arith, sum_range (length (table t)) (record_beneath (table t) c.args.granule) word))

pub returns : goal.returns
returns g c =
    let t = c.args.tree.now in
    let ws = g.S.Shelf.words c.args.shelf.now in
    let word = λ (r : ℕ). get_or ws r 0 in
    let all = records (table t) c.args.granule in
    let value : c.sum.result ≡ sum (table t) ws c.args.granule =
    sum_by_from_yields_List word all c.map.result c.sum.result c.sum.ensures.ran
    (YieldsList-from_map _ word (YieldsList-at c.map.ensures.source (YieldsList-from_first (λ x. x) ahead all c.records.ensures.value))
    c.map.ensures.closure (λ x r q k. search (rules, tests)))
    ∙ sum_range (length (table t)) (record_beneath (table t) c.args.granule) word
    in
    let bound =
    sum_bound (table t) ws c.args.granule (omega (arith, size t, t.few))
    (λ k. omega (arith, g.met.S.Shelf.fit c.args.shelf.now k))
    in
    record { value = value; bound = omega arith }
