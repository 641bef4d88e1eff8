use Rattle.std.proofs.Common.{◌<◌, sym, ap, ◌∙◌, subst}
use Rattle.ledger.specs.declared.job.Status.{Status}
use Rattle.ledger.specs.Jobs.{is_ended, is_open}
use Rattle.ledger.specs.Ledgers.{wanted}
use Rattle.tables.specs.Seats.{slot}
use Rattle.tables.proofs.Table.{has_seat}
use Rattle.tables.specs.Views.{numbers_of}
use Rattle.tables.proofs.Sitting.{near_at}
use Rattle.tables.proofs.kernel.Core.go.Goals as goal

pub try_out-requires : goal.try_out-requires
try_out-requires g c =
    let t = c.args.self.now in
    let is = sym c.status.ensures.value ∙ c.in_ok-operation.ensures.made in
    record {
      seated = has_seat t.seats c.args.job (ap is_ended is);
      opened = ap is_open is;
      near = subst (λ (st : Status). (wanted st).granule < 256) is (near_at t.seats (slot (numbers_of t.seats) c.args.job));
    }
