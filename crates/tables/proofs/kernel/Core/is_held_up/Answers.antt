use Rattle.std.proofs.Common.{refl, ◌∙◌, arith, rules, tests}
use Rattle.std.proofs.lemmas.Iterator.{YieldsList-from_range}
use Rattle.std.proofs.lemmas.Iterator.Search.{any_from_yields_List}
use Rattle.tables.specs.Meetings.{holds_up_at}
use Rattle.tables.proofs.Meetings.{asked}
use Rattle.tables.proofs.kernel.Core.is_held_up.Goals as goal

pub returns : goal.returns
returns g c =
    let s = g.M.ModeSystem.meaning in
    let core = c.args.self.now in
    let claim = c.args.claim in
    let test = holds_up_at s core.seats core.held claim.asker claim.granule claim.target in
    record {
      value =
          any_from_yields_List test _ _ c.any.result c.any.ensures.ran (YieldsList-from_range 0 16 16 refl (omega arith))
          (λ x b q k. search (rules, tests))
          ∙ asked s g.met.M.ModeSystem.lawful g.S.Shelf.words core claim.asker claim.granule claim.target;
    }
