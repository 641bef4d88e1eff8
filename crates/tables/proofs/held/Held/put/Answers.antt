use Rattle.std.proofs.Common.{ℕ, ◌<◌, List, length, sym, ap, ◌∙◌, arith}
use Rattle.std.proofs.lemmas.List.{length-set}
use Rattle.tables.specs.Heads.{tally}
use Rattle.tables.proofs.Grids.{long_at, long_set}
use Rattle.tables.proofs.Tallies.{agree_put, held_small, held_counted, tally_le}
use Rattle.tables.proofs.held.Held.put.Goals as goal

pub moved-requires : goal.moved-requires
moved-requires c =
    let t = c.args.self.now in
    let near : c.args.seat.slot < length t.modes.rows = omega (arith, t.modes.full, c.args.seat.within) in
    let old = c.get-old.ensures.value 0 in
    record {
      from =
          rw old
          (held_small t.modes.rows t.counts c.args.seat.slot c.args.granule near (omega (arith, t.counted.0, c.ranges.granule.fits)) t.counted.1 t.agree);
      to = c.requires;
      held =
          rw old (held_counted t.modes.rows t.counts c.args.seat.slot c.args.granule near t.agree);
      room = omega (arith, t.agree c.args.granule c.args.mode, tally_le t.modes.rows c.args.granule c.args.mode, t.modes.full);
    }

pub invariant_of-self : goal.invariant_of-self
invariant_of-self c =
    let t = c.args.self.now in
    let x = c.args.granule in
    let within : c.args.seat.slot < length t.modes.rows = omega (arith, t.modes.full, c.args.seat.within) in
    record {
      counted = (length-set t.counts _ _ ∙ t.counted.0, long_set 16 t.counts _ _ c.moved.ensures.len t.counted.1);
      agree = λ y m.
          agree_put t.modes.rows t.counts c.args.seat.slot x c.args.mode c.moved.result within (omega (arith, t.counted.0, c.ranges.granule.fits))
          (omega (arith, long_at 256 t.modes.rows c.args.seat.slot within t.modes.long, c.ranges.granule.fits)) t.agree
          (λ n. rw (sym (c.get-old.ensures.value 0)) (c.moved.ensures.value n)) y m
          ∙ ap (λ (rows : List (List ℕ)). tally rows y m) (sym c.put.ensures.rows);
    }
