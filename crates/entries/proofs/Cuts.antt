-- Where a text is cut: at the first of the bytes that cut it.
use Rattle.std.proofs.Common.{◌≡◌, ℕ, zero, suc, ◌<◌, List, [], ◌∷◌, length, take, drop, Some, None, refl, ap, slice_index, arith}
use Rattle.std.proofs.lemmas.Bool.{eq-eqb, ne_eqb}
use Rattle.entries.specs.Cuts.{head, tail}

-- none of the first n bytes cuts the text
abbrev pub Uncut : ℕ → List ℕ → ℕ → Type 0
Uncut at text n = (k : ℕ) → k < n → slice_index text k ≡ at → ⊥

-- the first byte that cuts it
pub cut_here :
    (at : ℕ) (text : List ℕ) (n : ℕ) → Uncut at text n → n < length text → slice_index text n ≡ at
    → (take n text ≡ head at text) × (Some (drop (suc n) text) ≡ tail at text)
cut_here at [] n u h e = absurd (omega arith)
cut_here at (b ∷ bs) zero u h e = let t = eq-eqb b at e in rw (t, head, tail) (refl, refl)
cut_here at (b ∷ bs) (suc n) u h e =
    let t = ne_eqb b at (u 0 (omega arith)) in
    let r = cut_here at bs n (λ k l. u (suc k) (omega arith)) (omega arith) e in
    rw (t, head, tail) (ap (λ (xs : List ℕ). b ∷ xs) r.0, r.1)

-- no byte that cuts it
pub uncut : (at : ℕ) (text : List ℕ) → Uncut at text (length text) → (text ≡ head at text) × (None ≡ tail at text)
uncut at [] u = (refl, refl)
uncut at (b ∷ bs) u =
    let t = ne_eqb b at (u 0 (omega arith)) in
    let r = uncut at bs (λ k l. u (suc k) (omega arith)) in
    rw (t, head, tail) (ap (λ (xs : List ℕ). b ∷ xs) r.0, r.1)
