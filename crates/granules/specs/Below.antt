-- Tests, counts and sums over the numbers below n.
use Rattle.std.specs.Prelude.{ℕ, zero, suc, ◌+◌, Bool, true, false, cond, ◌&&◌, ◌||◌}

-- the test passes at each of them
abbrev pub each_below : ℕ → (ℕ → Bool) → Bool
each_below zero f = true
each_below (suc n) f = each_below n f && f n

-- it passes at one of them at least
abbrev pub some_below : ℕ → (ℕ → Bool) → Bool
some_below zero f = false
some_below (suc n) f = some_below n f || f n

-- the sum of a figure over those at which the test passes
abbrev pub sum_below : ℕ → (ℕ → Bool) → (ℕ → ℕ) → ℕ
sum_below zero f figure = 0
sum_below (suc n) f figure = sum_below n f figure + cond (f n) (figure n) 0

-- how many they are
abbrev pub count_below : ℕ → (ℕ → Bool) → ℕ
count_below n f = sum_below n f (λ _. 1)
