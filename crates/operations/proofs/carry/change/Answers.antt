use Rattle.std.proofs.Common.{sym, ap, ◌∙◌}
use Rattle.std.proofs.lemmas.List.{map-id}
use Rattle.std.proofs.lemmas.Iterator.Consumers.{YieldsList-at, YieldsList-from_first, YieldsList-end}
use Rattle.granules.specs.Paths.{records}
use Rattle.granules.specs.Trees.{table, ahead}
use Rattle.operations.proofs.Sweeps.{rewritten, rewritten_all}
use Rattle.operations.proofs.carry.change.Goals as goal

pub returns : goal.returns
returns g c =
    let ps = table c.args.tree.now in
    let o = c.args.operation in
    let start = g.S.Shelf.words c.args.shelf.now in
    let road =
    YieldsList-at c.into_iter-r-iterator.ensures.into_iter_gives
    (YieldsList-from_first (λ x. x) ahead (records ps o.granule) c.records-r-items.ensures.value)
    in
    let end = YieldsList-end road c.loop-r.yielded c.loop-r.r-iterator c.loop-r.yielded_by c.next.result c.next.new.self c.in-None.is c.next.ensures.steps in
    record { after = c.loop-r.invariant ∙ ap (rewritten o start) (sym (map-id c.loop-r.yielded) ∙ end.0) ∙ rewritten_all ps o start }
