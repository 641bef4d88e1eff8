-- Who is in the way of a job that asks for a lock, and how far the wounding of the younger ones has come.
use Rattle.std.proofs.Common.{◌≡◌, ℕ, zero, suc, ◌+◌, ◌<◌, ◌≤◌, Bool, true, false, cond, ◌||◌, eqb, List, [], length, get_or, refl, sym, ap, ◌∙◌, inl, inr, arith}
use Rattle.std.specs.List.{list_any, range_with_len}
use Rattle.std.proofs.lemmas.Bool.Decides.{nat_tests}
use Rattle.std.proofs.lemmas.List.{get_or_past}
use Rattle.std.proofs.lemmas.Bool.{cases_Bool}
use Rattle.modes.specs.Systems.{System, Lawful}
use Rattle.granules.specs.Below.{some_below}
use Rattle.granules.specs.Paths.{among}
use Rattle.granules.proofs.Below.{never, some_at, some_from}
use Rattle.ledger.specs.Walks.{judge, must_give_way, yields, blocks}
use Rattle.ledger.specs.Models.{Model, model_hands}
use Rattle.ledger.proofs.Kept.{yields_young, blocks_old}
use Rattle.tables.specs.declared.kernel.Core.{Core}
use Rattle.tables.specs.Meetings.{holds_up_at}
use Rattle.tables.specs.Seats.{slot, next_above}
use Rattle.tables.specs.Views.{model, jobs_of, numbers_of}
use Rattle.tables.specs.Wounds.{wounded_if}
use Rattle.tables.proofs.Places.{next_nearest}
use Rattle.tables.proofs.Views.{seated_given, slot_number, slot_among, among_slot, slot_own_number}
use Rattle.tables.proofs.Wounds.{wounded_upto, skip, start, one, all}
use Rattle.tables.proofs.Sitting.{numbers_full}

-- where a search stands that has come to a job: at that job, or past all of them
abbrev pub far : ℕ → ℕ → ℕ
far opened job = cond (eqb job 0) (suc opened) job

or_false : (p : Bool) → (p || false) ≡ p
or_false true = refl
or_false false = refl

or_next : (p q r : Bool) → (p || (q || r)) ≡ ((p || q) || r)
or_next true q r = refl
or_next false q r = refl

-- a test of the numbers from a on, and of those before a
any_from : (a n : ℕ) (f : ℕ → Bool) → (some_below a f || list_any f (range_with_len a n)) ≡ some_below (a + n) f
any_from a zero f = let e : a ≡ a + 0 = omega arith in or_false (some_below a f) ∙ ap (λ (m : ℕ). some_below m f) e
any_from a (suc n) f =
    let more : a + 1 ≡ suc a = omega arith in
    let e : suc a + n ≡ a + suc n = omega arith in
    ap (λ (m : ℕ). some_below a f || (f a || list_any f (range_with_len m n))) more
    ∙ or_next (some_below a f) (f a) (list_any f (range_with_len (suc a) n))
    ∙ any_from (suc a) n f
    ∙ ap (λ (m : ℕ). some_below m f) e

module _ (s : System) (law : Lawful s) {S : Type 0} (words : S → List ℕ) (c : Core S) (a x t : ℕ) where
  -- whether a job gives way
  abbrev pub in_way : ℕ → Bool
  in_way k = yields s (jobs_of c.seats c.held) a x t k

  -- who does not stand with the target sits somewhere, since others hold nothing
  sits : (k : ℕ) → s.stands ((jobs_of c.seats c.held).mode k x) t ≡ false → slot (numbers_of c.seats) k < length (numbers_of c.seats)
  sits k e =
      let numbers = numbers_of c.seats in
      grind (
        arith,
        nat_tests,
        law.stands_none t,
        get_or_past c.held.modes.rows (slot numbers k) [],
        numbers_full c.seats,
        c.held.modes.full,
      )

  -- who gives way is younger and sits somewhere
  in_way_seated : (k : ℕ) → in_way k ≡ true → (a < k) × (among k (numbers_of c.seats) ≡ true)
  in_way_seated k e =
      let young = yields_young s law (jobs_of c.seats c.held) a x t k e in
      (young.0, slot_among (numbers_of c.seats) k (sits k young.1))

  -- nobody between a number and the next gives way
  between : (n k : ℕ) → n < k → k < far c.seats.opened (next_above n (numbers_of c.seats)) → in_way k ≡ false
  between n k l h =
      let next = next_nearest n (numbers_of c.seats) in
      grind (arith, nat_tests, in_way_seated k, next.least k)

  -- How far the wounding has come, in c', when `job` is the next to be met.
  pub record Reached (c' : Core S) (job : ℕ) : Type 0 where
    pub numbers : (numbers_of c'.seats) ≡ (numbers_of c.seats)
    pub so_far : model words c' ≡ wounded_upto in_way (far c.seats.opened job) (model words c)
    pub seated : (job ≡ 0 → ⊥) → among job (numbers_of c.seats) ≡ true

  pub has_slot : (c' : Core S) (job : ℕ) → (job ≡ 0 → ⊥) → Reached c' job → slot (numbers_of c'.seats) job < 16
  has_slot c' job d r = rw r.numbers (omega (arith, among_slot (numbers_of c.seats) job d (r.seated d), numbers_full c.seats))

  -- each step is nearer to the end
  pub nearer_end : (c' : Core S) (job : ℕ) → (job ≡ 0 → ⊥) → Reached c' job
      → (suc job ≤ far c.seats.opened (next_above job (numbers_of c.seats))) × (far c.seats.opened job ≡ job) × (job ≤ c.seats.opened)
  nearer_end c' job d r =
      let here = seated_given c.seats job (r.seated d) in
      (grind (arith, nat_tests, here, (next_nearest job (numbers_of c.seats)).above), grind (arith, nat_tests), here)

  pub begin : Reached c (next_above a (numbers_of c.seats))
  begin =
      let next = next_above a (numbers_of c.seats) in
      record {
        numbers = refl;
        so_far = start in_way (model words c) (far c.seats.opened next) (λ k l. grind (arith, in_way_seated k, between a k));
        seated = (next_nearest a (numbers_of c.seats)).found;
      }

  -- one job met
  met : (c' : Core S) (job : ℕ) → (job ≡ 0 → ⊥) → Reached c' job
      → wounded_if (yields s (jobs_of c'.seats c'.held) a x t job) job (model words c') ≡ wounded_upto in_way (suc job) (model words c)
  met c' job d r =
      let m = model words c in
      let at_job : far c.seats.opened job ≡ job = grind (arith, nat_tests) in
      let here = r.so_far ∙ ap (λ (n : ℕ). wounded_upto in_way n m) at_job in
      let own : (jobs_of c'.seats c'.held).mode job x ≡ m.jobs.mode job x = ap (λ (n : Model). n.jobs.mode job x) here ∙ grind (arith, nat_tests) in
      ap (λ (h : ℕ). wounded_if (must_give_way (judge s a t job h)) job (model words c')) own
      ∙ ap (wounded_if (in_way job) job) here
      ∙ elim (cases_Bool (in_way job)) [
        | inl e ↦ rw e (one in_way m job e)
        | inr e ↦ rw e (skip in_way m job (suc job) (omega arith) (λ k l h. let here : k ≡ job = omega arith in ap in_way here ∙ e))
      ]

  pub again : (c' c'' : Core S) (job : ℕ) → (job ≡ 0 → ⊥) → Reached c' job → (numbers_of c''.seats) ≡ (numbers_of c'.seats)
      → model words c'' ≡ wounded_if (yields s (jobs_of c'.seats c'.held) a x t job) job (model words c')
      → Reached c'' (next_above job (numbers_of c.seats))
  again c' c'' job d r n w =
      let next = next_above job (numbers_of c.seats) in
      record {
        numbers = n ∙ r.numbers;
        so_far =
            w
            ∙ met c' job d r
            ∙ skip in_way (model words c) (suc job) (far c.seats.opened next) (nearer_end c' job d r).0 (λ k l h. between job k (omega arith) h);
        seated = (next_nearest job (numbers_of c.seats)).found;
      }

  pub end : (c' : Core S) (job : ℕ) → job ≡ 0 → Reached c' job → model words c' ≡ model_hands.wound in_way (model words c)
  end c' job e r =
      let past : far c.seats.opened job ≡ suc c.seats.opened = grind (arith, nat_tests) in
      r.so_far
      ∙ ap (λ (n : ℕ). wounded_upto in_way n (model words c)) past
      ∙ all in_way (model words c) (suc c.seats.opened) (omega arith)
      (λ k z. omega (arith, seated_given c.seats k (in_way_seated k z).1))

  -- whether a job holds up, and a slot
  abbrev older : ℕ → Bool
  older k = blocks s (jobs_of c.seats c.held) a x t k

  abbrev at_slot : ℕ → Bool
  at_slot i = holds_up_at s c.seats c.held a x t i

  -- a slot that holds up has a job that does
  pub held_up : (i : ℕ) → i < 16 → at_slot i ≡ true → some_below a older ≡ true
  held_up i l e =
      let numbers = numbers_of c.seats in
      let k = get_or numbers i 0 in
      let up : older k ≡ true = grind (arith, nat_tests, slot_own_number numbers i, numbers_full c.seats, c.seats.apart) in
      some_from a older k (blocks_old s law (jobs_of c.seats c.held) a x t k up).0 up

  -- and the other way round
  pub not_held_up : some_below 16 at_slot ≡ false → some_below a older ≡ false
  not_held_up none = never (some_below a older) (λ e. let r = some_at a older e in cc (none, found r.0 r.2))
    where
      found : (k : ℕ) → older k ≡ true → some_below 16 at_slot ≡ true
      found k e =
          let numbers = numbers_of c.seats in
          let l = sits k (blocks_old s law (jobs_of c.seats c.held) a x t k e).1 in
          some_from 16 at_slot (slot numbers k) (omega (arith, l, numbers_full c.seats)) (grind (arith, nat_tests, slot_number numbers k l, e))

  -- the slots, asked in turn, say whether an older job is in the way
  pub asked : list_any at_slot (range_with_len 0 16) ≡ some_below a older
  asked =
      any_from 0 16 at_slot
      ∙ elim (cases_Bool (some_below 16 at_slot)) [
        | inr e ↦ e ∙ sym (not_held_up e)
        | inl e ↦
            let found = some_at 16 at_slot e in
            e ∙ sym (held_up found.0 found.1 found.2)
      ]

  -- where everybody stands with the target nobody is in the way
  module _ (stand : (k : ℕ) → s.stands ((jobs_of c.seats c.held).mode k x) t ≡ true) where
    pub nobody_older : some_below a older ≡ false
    nobody_older = never (some_below a older) (λ e. let r = some_at a older e in cc ((blocks_old s law (jobs_of c.seats c.held) a x t r.0 r.2).1, stand r.0))

    nobody_younger : (k : ℕ) → in_way k ≡ false
    nobody_younger k = grind (arith, nat_tests, yields_young s law (jobs_of c.seats c.held) a x t k, stand k)

    pub unhurt : model words c ≡ model_hands.wound in_way (model words c)
    unhurt =
        let last = suc c.seats.opened in
        start in_way (model words c) last (λ k l. nobody_younger k)
        ∙ all in_way (model words c) last (omega arith) (λ k e. absurd (cc (e, nobody_younger k)))
