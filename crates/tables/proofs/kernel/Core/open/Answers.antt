use Rattle.std.proofs.Common.{◌≡◌, ℕ, ◌<◌, get_or, sym, ap, ◌∙◌, ap₂, add-one, arith}
use Rattle.std.proofs.lemmas.Bool.{le-leb, lt-leb}
use Rattle.ledger.specs.declared.call.Answer.TheVariants.{Job}
use Rattle.ledger.specs.declared.call.Call.TheVariants.{Open}
use Rattle.ledger.specs.declared.refusal.Refusal.TheVariants.{TooManyJobs, NumbersUsedUp}
use Rattle.ledger.specs.Models.{Model}
use Rattle.std.specs.Option.{option_map}
use Rattle.tables.specs.declared.seat.Seat.{Seat}
use Rattle.tables.specs.Seats.{place}
use Rattle.tables.specs.Views.{model, jobs_of, numbers_of}
use Rattle.tables.proofs.Counts.{all_taken, one_free}
use Rattle.tables.proofs.Places.{place_at, place_bound}
use Rattle.tables.proofs.Sitting.{numbers_full, seated_at, seated_none}
use Rattle.tables.proofs.Table.{denied, admitted, open_full, open_spent, open_free}
use Rattle.tables.proofs.kernel.Core.open.Goals.{In-Some, at-returns, at-returns-then-opened-ge1000000, at-seat-requires}
use Rattle.tables.proofs.kernel.Core.open.Goals as goal

-- the seat that is found is the first that is free
found :
    (g : _) (c : In-Some g) → (place (numbers_of c.args.self.now.seats) 0 < 16) × (place (numbers_of c.args.self.now.seats) 0 ≡ c.in-Some.seat.slot)
found g c = seated_at _ _ (ap (option_map (λ (s : Seat). s.slot)) (sym c.in-Some.is) ∙ c.free_seat.ensures.value)

pub returns-in_default : goal.returns-in_default
returns-in_default g c =
    let t = c.args.self.now in
    let full : place (numbers_of t.seats) 0 ≡ 16 =
    omega (arith, seated_none (place (numbers_of t.seats) 0) (ap (option_map (λ (s : Seat). s.slot)) (sym c.in_default.is) ∙ c.free_seat.ensures.value), place_bound (numbers_of t.seats) 0, numbers_full t.seats)
    in
    record {
      served =
          λ y.
          denied y Open (model g.S.Shelf.words t) TooManyJobs (open_full y (jobs_of t.seats t.held) (all_taken t.seats t.held full));
    }

pub returns-then-opened-ge1000000 : goal.returns-then-opened-ge1000000
returns-then-opened-ge1000000 g c =
    let t = c.args.self.now in
    let room = (found g (at-returns-then-opened-ge1000000 g c).In-Some).0 in
    record {
      served =
          λ y.
          denied y Open (model g.S.Shelf.words t) NumbersUsedUp
          (open_spent y (jobs_of t.seats t.held) (one_free t.seats t.held room)
          (le-leb 1000000 t.seats.opened (omega (arith, c.opened.ensures.value))));
    }

pub seat-requires : goal.seat-requires
seat-requires g c =
    let t = c.args.self.now.seats in
    let here = found g (at-seat-requires g c).In-Some in
    record {
      vacant =
          ap (λ (i : ℕ). get_or (numbers_of t) i 0) (sym here.1)
          ∙ place_at (numbers_of t) 0 (omega (arith, here.0, numbers_full t));
      left = omega (arith, c.opened.ensures.value);
    }

pub returns : goal.returns
returns g c =
    let t = c.args.self.now in
    let room = (found g (at-returns g c).In-Some).0 in
    record {
      served =
          λ y.
          admitted y Open (model g.S.Shelf.words t) _
          (open_free y (jobs_of t.seats t.held) (one_free t.seats t.held room)
          (lt-leb 1000000 t.seats.opened (omega (arith, c.opened.ensures.value))))
          (ap₂ (λ (m : Model) (n : ℕ). record { left = m; said = Job n }) (sym c.seat.ensures.model) (sym (c.seat.ensures.value ∙ add-one t.seats.opened)));
    }
