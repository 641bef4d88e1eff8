use Rattle.std.proofs.Common.{arith}
use Rattle.std.proofs.Common.{◌≡◌, ℕ, true, sym, refl, ap, ◌∙◌}
use Rattle.tables.specs.Views.{jobs_of}
use Rattle.tables.proofs.Heads.{all_stand}
use Rattle.tables.proofs.Meetings.{nobody_older, unhurt}
use Rattle.tables.proofs.kernel.Core.make_way.Goals as goal

pub returns-then-stands : goal.returns-then-stands
returns-then-stands g c =
    let s = g.M.ModeSystem.meaning in
    let law = g.met.M.ModeSystem.lawful in
    let t = c.args.self.now in
    let stand : (k : ℕ) → s.stands ((jobs_of t.seats t.held).mode k c.args.claim.granule) c.args.claim.target ≡ true =
    all_stand t c.args.claim.granule (omega arith) s law c.args.claim.target
    (ap (λ (m : ℕ). s.stands m c.args.claim.target) (sym c.row-row.ensures.group) ∙ sym c.if-stands.ensures.value)
    in
    record {
      value = sym (nobody_older s law g.S.Shelf.words t c.args.claim.asker c.args.claim.granule c.args.claim.target stand);
      model = unhurt s law g.S.Shelf.words t c.args.claim.asker c.args.claim.granule c.args.claim.target stand;
      numbers = refl;
    }
