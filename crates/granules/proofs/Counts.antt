-- Tests, counts and sums over the numbers below n, as of the list of these numbers.
use Rattle.std.proofs.Common.{◌≡◌, ℕ, zero, suc, ◌+◌, ◌-◌, ◌<◌, ◌≤◌, Bool, true, false, cond, ◌&&◌, List, [], ◌∷◌, ◌++◌, length, get_or, take, sym, refl, ap, ◌∙◌, ap₂, inl, inr, add-zero, zero-add, arith}
use Rattle.std.specs.List.{list_all, filter, sum_by, range_with_len, enumerate_from}
use Rattle.std.proofs.lemmas.List.{append-nil, length-append, take_all, take_more}
use Rattle.std.proofs.lemmas.List.FromFn.{length-range_with_len, get_or-range_with_len, length-enumerate_from, get_or-enumerate_from}
use Rattle.std.proofs.lemmas.List.Folds.{list_all-append}
use Rattle.std.proofs.lemmas.List.Elements.{filter-append}
use Rattle.std.proofs.lemmas.List.Sums.{sum_by-append}
use Rattle.std.proofs.lemmas.Bool.{cases_lt, cond-false}
use Rattle.granules.specs.Below.{each_below, sum_below, count_below}
use Rattle.granules.proofs.Below.{never}

-- the numbers from a on, in two parts
range_parts : (a m n : ℕ) → range_with_len a (m + n) ≡ range_with_len a m ++ range_with_len (a + m) n
range_parts a zero n = rw (zero-add, add-zero)
range_parts a (suc m) n =
    let rest = range_parts (a + 1) m n in
    let at : (a + 1) + m ≡ a + suc m = omega arith in
    let e : suc m + n ≡ suc (m + n) = omega arith in
    rw e (ap (λ (xs : List ℕ). a ∷ xs) (rest ∙ ap (λ (x : ℕ). range_with_len (a + 1) m ++ range_with_len x n) at))

range_more : (n : ℕ) → range_with_len 0 (suc n) ≡ range_with_len 0 n ++ n ∷ []
range_more n =
    let e : suc n ≡ n + 1 = omega arith in
    ap (range_with_len 0) e ∙ range_parts 0 n 1 ∙ ap (λ (x : ℕ). range_with_len 0 n ++ x ∷ []) (zero-add n)

pub filter_more : (n : ℕ) (f : ℕ → Bool) → filter f (range_with_len 0 (suc n)) ≡ filter f (range_with_len 0 n) ++ cond (f n) (n ∷ []) []
filter_more n f = ap (filter f) (range_more n) ∙ filter-append f (range_with_len 0 n) (n ∷ [])

pub count_range : (n : ℕ) (f : ℕ → Bool) → length (filter f (range_with_len 0 n)) ≡ count_below n f
count_range zero f = refl
count_range (suc n) f =
    let more = ap length (filter_more n f) ∙ length-append (filter f (range_with_len 0 n)) (cond (f n) (n ∷ []) []) in
    let rest = count_range n f in
    grind (arith, more, rest)

pub sum_range : (n : ℕ) (f : ℕ → Bool) (figure : ℕ → ℕ) → sum_by figure (filter f (range_with_len 0 n)) ≡ sum_below n f figure
sum_range zero f figure = refl
sum_range (suc n) f figure =
    let more = ap (sum_by figure) (filter_more n f) ∙ sum_by-append figure (filter f (range_with_len 0 n)) (cond (f n) (n ∷ []) []) in
    let rest = sum_range n f figure in
    grind (arith, more, rest)

-- no number is kept where the test never passes
none_kept : (a n : ℕ) (f : ℕ → Bool) → ((k : ℕ) → a ≤ k → k < a + n → f k ≡ true → ⊥) → filter f (range_with_len a n) ≡ []
none_kept a zero f h = refl
none_kept a (suc n) f h =
    cond-false (f a) (a ∷ filter f (range_with_len (a + 1) n)) (filter f (range_with_len (a + 1) n)) (never (f a) (h a (omega arith) (omega arith)))
    ∙ none_kept (a + 1) n f (λ k l m. h k (omega arith) (omega arith))

-- what is kept of the numbers among which it passes is kept of all
pub kept_within :
    (first end n : ℕ) (f : ℕ → Bool) → ((k : ℕ) → f k ≡ true → (first ≤ k) × (k < end)) → end ≤ n
    → filter f (range_with_len first (end - first)) ≡ filter f (range_with_len 0 n)
kept_within first end n f p l =
    elim (cases_lt first end) [
      | inl h ↦
          let past = n - end in
          let front = first + (end - first) in
          let parts : n ≡ front + past = omega arith in
          let split =
          range_parts 0 front past
          ∙ ap (λ (xs : List ℕ). xs ++ range_with_len (0 + front) past) (range_parts 0 first (end - first))
          in
          let before = none_kept 0 first f (λ k a b t. omega (arith, p k t)) in
          let after = none_kept (0 + front) past f (λ k a b t. omega (arith, p k t)) in
          let middle = range_with_len first (end - first) in
          sym
          (ap (λ (m : ℕ). filter f (range_with_len 0 m)) parts
          ∙ ap (filter f) split
          ∙ filter-append f (range_with_len 0 first ++ range_with_len (0 + first) (end - first)) (range_with_len (0 + front) past)
          ∙ ap₂ (λ (xs ys : List ℕ). xs ++ ys) (filter-append f (range_with_len 0 first) (range_with_len (0 + first) (end - first))) after
          ∙ append-nil (filter f (range_with_len 0 first) ++ filter f (range_with_len (0 + first) (end - first)))
          ∙ ap₂ (λ (xs : List ℕ) (a : ℕ). xs ++ filter f (range_with_len a (end - first))) before (zero-add first))
      | inr h ↦
          none_kept first (end - first) f (λ k a b t. omega (arith, p k t))
          ∙ sym (none_kept 0 n f (λ k a b t. omega (arith, p k t)))
    ]

and_true : (b : Bool) → (b && true) ≡ b
and_true true = refl
and_true false = refl

-- a test of a list's elements is one of its places
pub all_listed :
    {X : Type 0} (p : X → Bool) (ys : List X) (d : X) (f : ℕ → Bool) → ((k : ℕ) → k < length ys → p (get_or ys k d) ≡ f k)
    → list_all p ys ≡ each_below (length ys) f
all_listed p ys d f same = sym (ap (list_all p) (take_all (length ys) ys (omega arith))) ∙ go (length ys) (omega arith)
  where
    go : (n : ℕ) → n ≤ length ys → list_all p (take n ys) ≡ each_below n f
    go zero h = refl
    go (suc n) h =
        let e : suc n ≡ n + 1 = omega arith in
        ap (λ (m : ℕ). list_all p (take m ys)) e
        ∙ ap (list_all p) (take_more ys n d (omega arith))
        ∙ list_all-append p (take n ys) (get_or ys n d ∷ [])
        ∙ ap₂ (λ (a b : Bool). a && b) (go n (omega arith)) (and_true (p (get_or ys n d)) ∙ same n (omega arith))

-- the tests of a table's entries, each with its number
pub all_pairs : (xs : List ℕ) (f : ℕ → ℕ → Bool) → list_all (λ p. f p.0 p.1) (enumerate_from 0 xs) ≡ each_below (length xs) (λ k. f k (get_or xs k 0))
all_pairs xs f =
    let n = length-enumerate_from 0 xs in
    all_listed (λ p. f p.0 p.1) (enumerate_from 0 xs) (0, 0) (λ k. f k (get_or xs k 0))
    (λ k h. ap (λ (p : ℕ × ℕ). f p.0 p.1) (get_or-enumerate_from 0 xs k (0, 0) (omega (arith, n))) ∙ ap (λ (m : ℕ). f m (get_or xs k 0)) (zero-add k))
    ∙ ap (λ (m : ℕ). each_below m (λ k. f k (get_or xs k 0))) n

pub all_range : (n : ℕ) (f : ℕ → Bool) → list_all f (range_with_len 0 n) ≡ each_below n f
all_range n f =
    let e = length-range_with_len 0 n in
    all_listed f (range_with_len 0 n) 0 f
    (λ k h. ap f (get_or-range_with_len 0 n k 0 (omega (arith, e)) ∙ zero-add k))
    ∙ ap (λ (m : ℕ). each_below m f) e
