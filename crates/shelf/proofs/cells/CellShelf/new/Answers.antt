use Rattle.std.specs.List.{AllClonesOf}
use Rattle.std.proofs.Common.{◌≡◌, ℕ, List, [], ◌∷◌, length, map, replicate, refl, sym, ap, ap₂, ◌∙◌, subst, inl, inr, arith}
use Rattle.std.proofs.lemmas.Grind.{common_steps}
use Rattle.shelf.specs.Words.{Fit}
use Rattle.shelf.proofs.cells.CellShelf.new.Goals as goal

-- zeros are words
zeros_fit : (n : ℕ) → Fit (replicate n 0)
zeros_fit n place = grind (arith, common_steps)

-- clones of a cell that holds 0 hold 0
clones_hold_0 :
    {X : Type 0} (held : X → ℕ) (is_clone : X → X → Type 0) → ((x y : X) → is_clone x y → held y ≡ held x)
    → (x : X) (ys : List X) → held x ≡ 0 → AllClonesOf is_clone x ys → map held ys ≡ replicate (length ys) 0
clones_hold_0 held is_clone same x [] e all = refl
clones_hold_0 held is_clone same x (y ∷ ys) e all =
    let first : held y ≡ 0 = elim all.0 [ inl it ↦ ap held it ∙ e | inr clone ↦ same x y clone ∙ e ] in
    ap₂ (λ (n : ℕ) (ns : List ℕ). n ∷ ns) first (clones_hold_0 held is_clone same x ys e all.1)

pub invariant_of-result : goal.invariant_of-result
invariant_of-result g c =
    let made = c.in_ok-cells.ensures in
    let zeros = clones_hold_0 g.C.Cell.held g.C.Clone.is_clone g.met.C.Cell.clones c.zero.result _ c.zero.ensures made.items in
    record { few = omega (arith, made.len, c.places.ensures); fit = subst Fit (sym zeros) (zeros_fit _) }

pub returns : goal.returns
returns g c =
    let made = c.in_ok-cells.ensures in
    let zeros = clones_hold_0 g.C.Cell.held g.C.Clone.is_clone g.met.C.Cell.clones c.zero.result _ c.zero.ensures made.items in
    record { made = zeros ∙ ap (λ n. replicate n 0) (omega (arith, made.len, c.places.ensures)) }
