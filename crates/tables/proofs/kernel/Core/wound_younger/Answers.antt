use Rattle.std.proofs.Common.{◌≡◌, ℕ, List, Option, unwrap_or, sym, ap, arith}
use Rattle.std.proofs.lemmas.Bool.Decides.{nat_tests}
use Rattle.tables.specs.Seats.{given, next_above}
use Rattle.tables.proofs.kernel.Core.wound_younger.Goals.{In-Some, at-meet-requires, at-loop-next-smaller, at-loop-next-preserved}
use Rattle.tables.specs.Views.{numbers_of}
use Rattle.tables.proofs.Meetings.{Reached, begin, has_slot, nearer_end, again, end}
use Rattle.tables.proofs.kernel.Core.wound_younger.Goals as goal

-- the job at hand is the one that has been reached
at_hand :
    (g : _) (c : In-Some g)
    → (c.in-Some.job ≡ 0 → ⊥)
    × Reached g.M.ModeSystem.meaning g.met.M.ModeSystem.lawful g.S.Shelf.words c.args.self.now c.args.claim.asker c.args.claim.granule c.args.claim.target
    c.loop-next.self c.in-Some.job
at_hand g c =
    let inv = c.loop-next.invariant in
    let is : unwrap_or c.loop-next.next 0 ≡ c.in-Some.job = grind (arith, c.in-Some.is) in
    (λ z. grind (arith, nat_tests, inv.0, c.in-Some.is), rw (sym is) inv.1)

-- the next one, by the numbers that there were at the start
next_is :
    (o : Option ℕ) (job : ℕ) (now before start : List ℕ) → o ≡ given (next_above job now) → now ≡ before → before ≡ start
    → unwrap_or o 0 ≡ next_above job start
next_is o job now before start e s t = grind (arith, nat_tests, e, s, t)

pub loop-next-init : goal.loop-next-init
loop-next-init g c =
    let value = c.next_above-next.ensures.value in
    let first : unwrap_or c.next_above-next.result 0 ≡ next_above c.args.claim.asker (numbers_of c.args.self.now.seats) = grind (arith, nat_tests, value) in (
      grind (arith, nat_tests, value),
      rw first
          (begin g.M.ModeSystem.meaning g.met.M.ModeSystem.lawful g.S.Shelf.words c.args.self.now c.args.claim.asker c.args.claim.granule c.args.claim.target),
    )

pub meet-requires : goal.meet-requires
meet-requires g c =
    let here = at_hand g (at-meet-requires g c).In-Some in
    has_slot g.M.ModeSystem.meaning g.met.M.ModeSystem.lawful g.S.Shelf.words c.args.self.now c.args.claim.asker c.args.claim.granule c.args.claim.target
    c.loop-next.self c.in-Some.job here.0 here.1

pub loop-next-smaller : goal.loop-next-smaller
loop-next-smaller g c =
    let start = c.args.self.now in
    let claim = c.args.claim in
    let job = c.in-Some.job in
    let here = at_hand g (at-loop-next-smaller g c).In-Some in
    let was : unwrap_or c.loop-next.next 0 ≡ job = grind (arith, c.in-Some.is) in
    let next = next_is c.next_above-next-in-Some.result job _ _ (numbers_of start.seats) c.next_above-next-in-Some.ensures.value c.meet.ensures.numbers here.1.numbers in
    let near = nearer_end g.M.ModeSystem.meaning g.met.M.ModeSystem.lawful g.S.Shelf.words start claim.asker claim.granule claim.target c.loop-next.self job here.0 here.1 in
    rw (was, next) (omega (arith, near.0, near.1, near.2))

pub loop-next-preserved : goal.loop-next-preserved
loop-next-preserved g c =
    let start = c.args.self.now in
    let claim = c.args.claim in
    let job = c.in-Some.job in
    let here = at_hand g (at-loop-next-preserved g c).In-Some in
    let value = c.next_above-next-in-Some.ensures.value in
    let next = next_is c.next_above-next-in-Some.result job _ _ (numbers_of start.seats) value c.meet.ensures.numbers here.1.numbers in (
      grind (arith, nat_tests, value),
      rw next
          (again g.M.ModeSystem.meaning g.met.M.ModeSystem.lawful g.S.Shelf.words start claim.asker claim.granule claim.target
          c.loop-next.self c.meet.new.self job here.0 here.1 c.meet.ensures.numbers c.meet.ensures.model),
    )

pub returns : goal.returns
returns g c =
    let claim = c.args.claim in
    let inv = c.loop-next.invariant in
    let over : unwrap_or c.loop-next.next 0 ≡ 0 = ap (λ (o : Option ℕ). unwrap_or o 0) c.in_default.is in
    record {
      model =
          end g.M.ModeSystem.meaning g.met.M.ModeSystem.lawful g.S.Shelf.words c.args.self.now claim.asker claim.granule claim.target
          c.loop-next.self (unwrap_or c.loop-next.next 0) over inv.1;
      numbers = inv.1.numbers;
    }
