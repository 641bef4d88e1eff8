-- The laws of a system out of rights, from one computed test over all of its codes.
-- Lemmas: they stand here, and not in proofs/, since an impl may show its laws only by what stands in specs/.
use Rattle.std.specs.Prelude.{◌≡◌, ℕ, ◌<◌, ◌≤◌, Bool, true, false, not, ◌&&◌, ◌||◌, length, ◌==◌, nat_le, nat_lt, slice_index_or, refl}
use Rattle.std.proofs.Common.{sym, ◌∙◌, ap₂, arith}
use Rattle.std.proofs.lemmas.Bool.{and_parts, eqb-true, ltb-true, leb-true, both_ways}
use Rattle.modes.specs.declared.kind.Kind.{Kind}
use Rattle.modes.specs.declared.kind.Kind.TheVariants.{Read, Set, Add}
use Rattle.modes.specs.Kinds.{commutes}
use Rattle.modes.specs.Systems.{System, Lawful, clipped}
use Rattle.modes.specs.Rights.{Design, system, Mode, NL, code, joined, stand}
use Rattle.modes.specs.Below.{below, at}

-- whether two tests say the same
abbrev pub alike : Bool → Bool → Bool
alike true b = b
alike false b = not b

pub alike_same : (a b : Bool) → alike a b ≡ true → a ≡ b
alike_same true true e = refl
alike_same true false e = sym e
alike_same false true e = e
alike_same false false e = refl

-- what is tested of one code: joined with itself or with no lock it stays, and no lock stands with it
abbrev one : System → ℕ → Bool
one s a = s.join a a == a && (s.join 0 a == a && s.stands 0 a)

-- of two: a join is a mode, in whatever order; so is standing together
abbrev two : System → ℕ → ℕ → Bool
two s a b = nat_lt (s.join a b) s.count && (s.join a b == s.join b a && alike (s.stands a b) (s.stands b a))

-- of three: joins associate, and to stand with a join is to stand with both
abbrev three : System → ℕ → ℕ → ℕ → Bool
three s a b c =
    (s.join (s.join a b) c == s.join a (s.join b c))
    && alike (s.stands a (s.join b c)) (s.stands a b && s.stands a c)

-- of a kind: its modes are modes of the system
abbrev kind : System → Kind → Bool
kind s k = nat_lt (s.full k) s.count && nat_lt (s.intent k) s.count

-- of two kinds: they commute, or their modes do not stand together
abbrev kinds : System → Kind → Kind → Bool
kinds s k l = commutes k l || (not (s.stands (s.full k) (s.full l)) && not (s.stands (s.full k) (s.intent l)))

-- a test of every kind
abbrev each_kind : (Kind → Bool) → Bool
each_kind f = f Read && (f Set && f Add)

-- all of these tests, of all codes and kinds
abbrev pub sound : System → Bool
sound s =
    (nat_lt 0 s.count && nat_le s.count 16)
    && ((below s.count (one s) && below s.count (λ a. below s.count (two s a)))
    && (below s.count (λ a. below s.count (λ b. below s.count (three s a b)))
    && (each_kind (kind s) && each_kind (λ k. each_kind (kinds s k)))))

at_kind : (f : Kind → Bool) → each_kind f ≡ true → (k : Kind) → f k ≡ true
at_kind f t Read = (and_parts (f Read) (f Set && f Add) t).0
at_kind f t Set = (and_parts (f Set) (f Add) (and_parts (f Read) (f Set && f Add) t).1).0
at_kind f t Add = (and_parts (f Set) (f Add) (and_parts (f Read) (f Set && f Add) t).1).1

apart : (c x y : Bool) → (c || (not x && not y)) ≡ true → c ≡ false → (x ≡ false) × (y ≡ false)
apart true x y t e = absurd (both_ways true e refl)
apart false true y t e = absurd (both_ways false refl t)
apart false false true t e = absurd (both_ways false refl t)
apart false false false t e = (refl, refl)

-- What the test says at codes within the count.
record Passed (s : System) : Type 0 where
  some_modes : 0 < s.count
  few_modes : s.count ≤ 16
  join_same : (a : ℕ) → a < s.count → s.join a a ≡ a
  join_none : (a : ℕ) → a < s.count → s.join 0 a ≡ a
  stands_none : (a : ℕ) → a < s.count → s.stands 0 a ≡ true
  join_within : (a b : ℕ) → a < s.count → b < s.count → s.join a b < s.count
  join_comm : (a b : ℕ) → a < s.count → b < s.count → s.join a b ≡ s.join b a
  stands_comm : (a b : ℕ) → a < s.count → b < s.count → s.stands a b ≡ s.stands b a
  join_assoc : (a b c : ℕ) → a < s.count → b < s.count → c < s.count → s.join (s.join a b) c ≡ s.join a (s.join b c)
  stands_join :
      (a b c : ℕ) → a < s.count → b < s.count → c < s.count → s.stands a (s.join b c) ≡ (s.stands a b && s.stands a c)
  kind_each : (k : Kind) → kind s k ≡ true
  kinds_each : (k l : Kind) → kinds s k l ≡ true

passed : (s : System) → sound s ≡ true → Passed s
passed s t =
    let n = s.count in
    let p = and_parts _ _ t in
    let size = and_parts _ _ p.0 in
    let q = and_parts _ _ p.1 in
    let small = and_parts _ _ q.0 in
    let r = and_parts _ _ q.1 in
    let k = and_parts _ _ r.1 in
    let ones : (a : ℕ) → a < n → one s a ≡ true = at n (one s) small.0 in
    let twos : (a b : ℕ) → a < n → b < n → two s a b ≡ true =
    λ a b la lb. at n (two s a) (at n (λ x. below n (two s x)) small.1 a la) b lb
    in
    let threes : (a b c : ℕ) → a < n → b < n → c < n → three s a b c ≡ true =
    λ a b c la lb lc.
    at n (three s a b)
    (at n (λ y. below n (three s a y)) (at n (λ x. below n (λ y. below n (three s x y))) r.0 a la) b lb) c lc
    in
    record {
      some_modes = ltb-true 0 n size.0;
      few_modes = leb-true n 16 size.1;
      join_same = λ a h. eqb-true _ _ (and_parts (s.join a a == a) _ (ones a h)).0;
      join_none = λ a h. eqb-true _ _ (and_parts (s.join 0 a == a) (s.stands 0 a) (and_parts (s.join a a == a) _ (ones a h)).1).0;
      stands_none = λ a h. (and_parts (s.join 0 a == a) (s.stands 0 a) (and_parts (s.join a a == a) _ (ones a h)).1).1;
      join_within = λ a b la lb. ltb-true _ _ (and_parts (nat_lt (s.join a b) n) _ (twos a b la lb)).0;
      join_comm = λ a b la lb. eqb-true _ _ (and_parts (s.join a b == s.join b a) _ (and_parts (nat_lt (s.join a b) n) _ (twos a b la lb)).1).0;
      stands_comm = λ a b la lb. alike_same _ _ (and_parts (s.join a b == s.join b a) _ (and_parts (nat_lt (s.join a b) n) _ (twos a b la lb)).1).1;
      join_assoc = λ a b c la lb lc. eqb-true _ _ (and_parts (s.join (s.join a b) c == s.join a (s.join b c)) _ (threes a b c la lb lc)).0;
      stands_join = λ a b c la lb lc. alike_same _ _ (and_parts (s.join (s.join a b) c == s.join a (s.join b c)) _ (threes a b c la lb lc)).1;
      kind_each = at_kind (kind s) k.0;
      kinds_each = λ k' l. at_kind (kinds s k') (at_kind (λ x. each_kind (kinds s x)) k.1 k') l;
    }

-- A system that reads codes beyond the last as the last, and passes the test, keeps the laws.
module _ (s : System) (ok : Passed s)
    (join_clips : (a b : ℕ) → s.join a b ≡ s.join (clipped s.count a) (clipped s.count b))
    (stands_clips : (a b : ℕ) → s.stands a b ≡ s.stands (clipped s.count a) (clipped s.count b)) where
  within : (a : ℕ) → clipped s.count a < s.count
  within a = omega (arith, ok.some_modes)

  join_within : (a b : ℕ) → s.join a b < s.count
  join_within a b = rw join_clips (ok.join_within _ _ (within a) (within b))

  -- a join is read as itself
  joined_read : (a b : ℕ) → clipped s.count (s.join a b) ≡ s.join a b
  joined_read a b = omega (arith, join_within a b)

  join_assoc : (a b c : ℕ) → s.join (s.join a b) c ≡ s.join a (s.join b c)
  join_assoc a b c =
      cc (
        ok.join_assoc _ _ _ (within a) (within b) (within c),
        join_clips a b,
        join_clips b c,
        join_clips (s.join a b) c,
        join_clips a (s.join b c),
        joined_read a b,
        joined_read b c,
      )

  stands_join : (a b c : ℕ) → s.stands a (s.join b c) ≡ (s.stands a b && s.stands a c)
  stands_join a b c =
      cc (
        ok.stands_join _ _ _ (within a) (within b) (within c),
        join_clips b c,
        stands_clips a (s.join b c),
        joined_read b c,
        stands_clips a b,
        stands_clips a c,
      )

  stands_none : (a : ℕ) → s.stands 0 a ≡ true
  stands_none a =
      let z : clipped s.count 0 ≡ 0 = omega arith in
      cc (stands_clips 0 a, ok.stands_none _ (within a), z)

  keeps : Lawful s
  keeps =
      record {
        some_modes = ok.some_modes;
        few_modes = ok.few_modes;
        join_clips = join_clips;
        stands_clips = stands_clips;
        join_within = join_within;
        full_within = λ k. ltb-true _ _ (and_parts (nat_lt (s.full k) s.count) _ (ok.kind_each k)).0;
        intent_within = λ k. ltb-true _ _ (and_parts (nat_lt (s.full k) s.count) _ (ok.kind_each k)).1;
        join_assoc = join_assoc;
        join_comm = λ a b. join_clips a b ∙ ok.join_comm _ _ (within a) (within b) ∙ sym (join_clips b a);
        join_same = ok.join_same;
        join_none = ok.join_none;
        stands_comm = λ a b. stands_clips a b ∙ ok.stands_comm _ _ (within a) (within b) ∙ sym (stands_clips b a);
        stands_none = stands_none;
        stands_join = stands_join;
        full_full = λ k l e. (apart (commutes k l) _ _ (ok.kinds_each k l) e).0;
        full_intent = λ k l e. (apart (commutes k l) (s.stands (s.full k) (s.full l)) _ (ok.kinds_each k l) e).1;
      }

clipped_twice : (n a : ℕ) → clipped n a ≡ clipped n (clipped n a)
clipped_twice n a = omega arith

-- The laws of a system out of rights, for any design that passes the test.
pub lawful : (d : Design) → sound (system d) ≡ true → Lawful (system d)
lawful d t =
    let n = length d.modes in
    let at_place : ℕ → Mode = λ x. slice_index_or d.modes x NL in
    keeps (system d) (passed (system d) t)
    (λ a b. ap₂ (λ (x y : ℕ). code d (joined (at_place x) (at_place y))) (clipped_twice n a) (clipped_twice n b))
    (λ a b. ap₂ (λ (x y : ℕ). stand (at_place x) (at_place y)) (clipped_twice n a) (clipped_twice n b))
