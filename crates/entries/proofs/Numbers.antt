-- What is read as a number, and that it is right.
use Rattle.std.proofs.Common.{Bor, Iter, ◌≡◌, ℕ, ◌+◌, ◌-◌, ◌*◌, ◌<◌, ◌≤◌, Bool, true, false, cond, ◌&&◌, ltb, List, [], ◌∷◌, length, get_or, Some, None, decimal, Option, sym, refl, ap, ◌∙◌, subst, inl, inr, arith, rules}
use Rattle.std.proofs.lemmas.Fmt.{decimal-digits_value, decimal_digit, digits_decimal, digits_value-decimal, first_decimal}
use denote.Param.Members.{Mut}
use Rattle.std.proofs.iter.Yields.{fronts}
use Rattle.std.specs.Fn.{Called}
use Rattle.std.specs.Iterator.{Yields}
use Rattle.std.specs.List.{FoldsTo}
use Rattle.std.specs.Option.{MatchOption}
use Rattle.std.proofs.lemmas.List.{nil_from_length}
use Rattle.std.proofs.lemmas.Str.Parse.{IsNumeralModel, numerals_by_fold}
use Rattle.std.proofs.lemmas.Bool.{false≢true, both_ways, cases_Bool, cases_eq, cond-true, cond-false}
use Rattle.std.proofs.lemmas.Bool.Decides.{nat_tests}
use Rattle.entries.specs.Numbers.{digits, led, read_on, grown, numeral, Right}

-- these digits and this number are those of the standard library
own : IsNumeralModel (λ ds. digits ds ≡ true) (read_on 0)
own = numerals_by_fold _ (search rules) read_on (search rules)

-- an entry that is led has a first byte, which is no leading zero
led_parts : (bs : List ℕ) → led bs ≡ true → (0 < length bs) × (get_or bs 0 0 ≡ 48 → length bs ≡ 1)
led_parts [] t = absurd (false≢true t)
led_parts (b ∷ []) t = (omega arith, λ _. refl)
led_parts (b ∷ c ∷ bs) t = (omega arith, λ e. grind (arith, nat_tests))

-- what begins with another digit is led
led_from : (bs : List ℕ) → 48 < get_or bs 0 0 → led bs ≡ true
led_from [] h = absurd (omega arith)
led_from (b ∷ []) h = refl
led_from (b ∷ c ∷ bs) h = grind (arith, nat_tests)

-- a decimal is led
led_decimal : (v : ℕ) → v < 4294967296 → led (decimal v) ≡ true
led_decimal v h =
    elim (cases_eq v 0) [
      | inl z ↦ rw z (ap led (decimal_digit 0 (omega arith)))
      | inr p ↦ led_from (decimal v) (first_decimal v (omega arith) (omega arith))
    ]

-- the digits bs, read on after n, are a number that fits
abbrev fitting : ℕ → List ℕ → Bool
fitting n bs = digits bs && ltb (read_on n bs) 4294967296

-- what is read of the digits bs after n
abbrev pub rest : ℕ → List ℕ → Option ℕ
rest n bs = cond (fitting n bs) (Some (read_on n bs)) None

-- a decimal passes each test
fitting_decimal : (v : ℕ) → v < 4294967296 → (led (decimal v) && fitting 0 (decimal v)) ≡ true
fitting_decimal v h =
    let l = led_decimal v h in
    let d = digits_decimal own v (omega arith) in
    let e = digits_value-decimal own v (omega arith) in
    grind (arith, nat_tests)

-- what passes each test is a decimal
decimal_fitting :
    (bs : List ℕ) → (led bs && fitting 0 bs) ≡ true → (read_on 0 bs < 4294967296) × (bs ≡ decimal (read_on 0 bs))
decimal_fitting bs t =
    let l : led bs ≡ true = grind (arith, nat_tests) in
    let d : digits bs ≡ true = grind (arith, nat_tests) in
    let h : read_on 0 bs < 4294967296 = grind (arith, nat_tests) in
    let p = led_parts bs l in
    (h, sym (decimal-digits_value own bs d p.0 p.1 (omega arith)))

-- what is read is right
pub right : (bs : List ℕ) (r : Option ℕ) → r ≡ numeral bs → Right bs r
right bs r e =
    let t = led bs && fitting 0 bs in
    elim (cases_Bool t) [
      | inl p ↦ subst (Right bs) (sym (e ∙ cond-true t (Some (read_on 0 bs)) None p)) (decimal_fitting bs p)
      | inr f ↦
          subst (Right bs) (sym (e ∙ cond-false t (Some (read_on 0 bs)) None f))
          (λ v h d. both_ways t f (ap (λ (ds : List ℕ). led ds && fitting 0 ds) d ∙ fitting_decimal v h))
    ]

-- a number that is too large stays so
grows : (n : ℕ) (bs : List ℕ) → n ≤ read_on n bs
grows n [] = omega arith
grows n (b ∷ bs) = let g = grows (n * 10 + (b - 48)) bs in omega arith

-- one more byte: a digit with which the number fits, and any other; and the end
rest_more : (n b m : ℕ) (bs : List ℕ) → Some m ≡ grown n b → (m < 4294967296) × (rest m bs ≡ rest n (b ∷ bs))
rest_more n b m bs e = grind (arith, nat_tests)

rest_none : (n b : ℕ) (bs : List ℕ) → None ≡ grown n b → None ≡ rest n (b ∷ bs)
rest_none n b bs e = let g = grows (n * 10 + (b - 48)) bs in grind (arith, nat_tests)

rest_end : (n : ℕ) → n < 4294967296 → Some n ≡ rest n []
rest_end n h = grind (arith, nat_tests)

-- what is not led is no number
pub unled : (bs : List ℕ) → false ≡ led bs → None ≡ numeral bs
unled bs e = rw (← e)

-- the bytes of what is led decide
pub begins : (bs : List ℕ) → true ≡ led bs → rest 0 bs ≡ numeral bs
begins bs e = rw (← e)

-- bytes that a closure reads one after the other, as long as each is a digit with which the number fits
module _ {F : Type 0} (g : Mut F (ℕ × (Bor ℕ × Unit {0})) (Option ℕ)) where
  abbrev Turn : F × ℕ → Bor ℕ → F × ℕ → Type 0
  Turn p x q = (v : Option ℕ) × Called g p.0 (p.1, (x, tt)) v q.0 × (v ≡ Some q.1)

  abbrev Stop : Type 0 → F → ℕ → Option ℕ → Bor ℕ → Type 0
  Stop E p n r x = (v : Option ℕ) × (q : F) × E × Called g p (n, (x, tt)) v q × (v ≡ None) × (r ≡ None)

  pub reads :
      (E : Type 0) (p : F) (n : ℕ) (s t u : Iter ℕ) (q : F) (m : ℕ) (r : Option ℕ) (xs : List (Bor ℕ)) (o : Option (Bor ℕ))
      → ((p : F) (n : ℕ) (x : Bor ℕ) (v : Option ℕ) (q : F) → Called g p (n, (x, tt)) v q → v ≡ grown n x.now)
      → n < 4294967296 → Yields fronts s xs t → fronts t o u → FoldsTo Turn (p, n) xs (q, m)
      → MatchOption o (r ≡ Some m) (Stop E q m r) → r ≡ rest n s.rest.now
  reads E p n s t u q m r [] None k h y f d e =
      let same : n ≡ m = ap (λ z. z.1) d in
      let empty : s.rest.now ≡ [] = ap (λ (i : Iter ℕ). i.rest.now) y ∙ nil_from_length t.rest.now f.0 in
      e ∙ ap Some (sym same) ∙ rest_end n h ∙ ap (rest n) (sym empty)
  reads E p n s t u q m r [] (Some x) k h y f d e =
      let same : n ≡ m = ap (λ z. z.1) d in
      let bytes : s.rest.now ≡ x.now ∷ u.rest.now = ap (λ (i : Iter ℕ). i.rest.now) y ∙ f in
      let none : None ≡ grown n x.now = sym e.4 ∙ k q m x e.0 e.1 e.3 ∙ ap (λ (z : ℕ). grown z x.now) (sym same) in
      e.5 ∙ rest_none n x.now u.rest.now none ∙ ap (rest n) (sym bytes)
  reads E p n s t u q m r (x ∷ xs) o k h y f d e =
      let turn = d.1 in
      let some : Some d.0.1 ≡ grown n x.now = sym turn.2 ∙ k p n x turn.0 d.0.0 turn.1 in
      let more = rest_more n x.now d.0.1 y.0.rest.now some in
      reads E d.0.0 d.0.1 y.0 t u q m r xs o k more.0 y.2 f d.2 e ∙ more.1 ∙ ap (rest n) (sym y.1)
