-- The floor: what it holds at first, and words read off a shelf.
use Rattle.std.proofs.Common.{◌≡◌, ℕ, zero, suc, ◌+◌, ltb, List, ◌∷◌, length, get_or, take, drop, replicate, Some, None, refl, ap, ◌∙◌, inl, inr, arith}
use Rattle.std.specs.List.{filter_map, range_with_len}
use Rattle.std.proofs.Math.Seq.{take-nil}
use Rattle.std.proofs.lemmas.List.{drop_more, drop_all}
use Rattle.std.proofs.lemmas.Bool.{cases_lt, cond-true, cond-false, lt-ltb, le-ltb}
use Rattle.shelf.specs.Words.{at, joined}
use Rattle.alone.specs.Reports.{bare}

-- two shelves of 128 places that hold 0 are the bare floor
pub bare_halves : joined (replicate 128 0) (replicate 128 0) ≡ bare
unfolding bare
bare_halves = refl

-- what the places from a on have are the words from a on
words_from : (ws : List ℕ) (a n : ℕ) → filter_map (λ i. at ws i) (range_with_len a n) ≡ take n (drop a ws)
words_from ws a zero = refl
words_from ws a (suc n) =
    let rest = words_from ws (a + 1) n in
    elim (cases_lt a (length ws)) [
      | inl h ↦
          let here = cond-true (ltb a (length ws)) (Some (get_or ws a 0)) None (lt-ltb a (length ws) h) in
          rw (here, drop_more ws a 0 h) (ap (λ xs. get_or ws a 0 ∷ xs) rest)
      | inr h ↦
          let past = cond-false (ltb a (length ws)) (Some (get_or ws a 0)) None (le-ltb a (length ws) h) in
          let none = drop_all a ws h in
          let none_after = drop_all (a + 1) ws (omega arith) in
          rw (past, none) (rest ∙ rw none_after (take-nil n))
    ]

pub words_at : (ws : List ℕ) (n : ℕ) → filter_map (λ i. at ws i) (range_with_len 0 n) ≡ take n ws
words_at ws n = words_from ws 0 n
