-- The entries of a line, one after the other.
use Rattle.std.proofs.Common.{◌≡◌, ℕ, suc, ◌-◌, ◌<◌, Bool, true, false, ◌==◌, List, [], ◌∷◌, length, take, Some, None, Option, refl, Bor, ap, ap₂, ◌∙◌, inl, inr, arith}
use Rattle.std.specs.List.{slice_split, onto_first}
use Rattle.std.specs.Option.{MatchOption, option_map}
use Rattle.std.proofs.lemmas.Bool.{cases_Bool}
use Rattle.std.proofs.lemmas.Grind.{common_steps}
use Rattle.std.proofs.lemmas.List.Splits.{length-slice_split, slice_split-cons_no}
use Rattle.entries.specs.Cuts.{Remains, head, tail, entry, entries_after, entries}

abbrev space : ℕ → Bool
space b = b == 32

abbrev parts : List ℕ → List (List ℕ)
parts bs = slice_split space bs

-- a text with a space: its first entry ends there
cut_some : (bs more : List ℕ) → Some more ≡ tail 32 bs → parts bs ≡ head 32 bs ∷ parts more
cut_some [] more e = grind arith
cut_some (b ∷ bs) more e =
    elim (cases_Bool (space b)) [
      | inl cut ↦ grind (arith, common_steps)
      | inr uncut ↦
          let t : Some more ≡ tail 32 bs = rw (uncut, tail) at e in
          slice_split-cons_no space b bs uncut ∙ ap (onto_first b) (cut_some bs more t) ∙ rw (uncut, head) refl
    ]

-- a text without one is one entry
cut_none : (bs : List ℕ) → None ≡ tail 32 bs → parts bs ≡ bs ∷ []
cut_none [] e = refl
cut_none (b ∷ bs) e =
    elim (cases_Bool (space b)) [
      | inl cut ↦ grind (arith, common_steps)
      | inr uncut ↦
          let t : None ≡ tail 32 bs = rw (uncut, tail) at e in
          slice_split-cons_no space b bs uncut ∙ ap (onto_first b) (cut_none bs t)
    ]

-- the last of a row of parts is left out, and the first is not, where there are two
all_but_last :
    (x : List ℕ) (xs ys : List (List ℕ)) → xs ≡ x ∷ ys → 0 < length ys → take (length xs - 1) xs ≡ x ∷ take (length ys - 1) ys
all_but_last x xs ys e h =
    let longer : length xs - 1 ≡ suc (length ys - 1) = omega (arith, ap length e, h) in
    ap₂ take longer e

-- what is read is the first of the entries, and the others are left
abbrev Gives : Remains → Remains → Option (List ℕ) → Type 0
Gives old new read = MatchOption read ((entries old ≡ []) × (entries new ≡ [])) (λ x. entries old ≡ x ∷ entries new)

abbrev remaining : Option (List ℕ) → Bool → Remains
remaining bytes whole = record { bytes = bytes; whole = whole }

abbrev First : Remains → Type 0
First line = Gives line (entries_after line) (entry line)

first_by_tail : (bs : List ℕ) (whole : Bool) (t : Option (List ℕ)) → t ≡ tail 32 bs → First (remaining (Some bs) whole)
first_by_tail bs true None e = rw (← e) (cut_none bs e)
first_by_tail bs false None e =
    let one : length (parts bs) - 1 ≡ 0 = omega (arith, ap length (cut_none bs e)) in
    let none : take (length (parts bs) - 1) (parts bs) ≡ [] = ap (λ (n : ℕ). take n (parts bs)) one in
    rw (← e) (none, none)
first_by_tail bs true (Some more) e = rw (← e) (cut_some bs more e)
first_by_tail bs false (Some more) e =
    rw (← e) (all_but_last _ _ _ (cut_some bs more e) (omega (arith, length-slice_split space more)))

first_entry : (bytes : Option (List ℕ)) (whole : Bool) → First (remaining bytes whole)
first_entry None whole = (refl, refl)
first_entry (Some bs) whole = first_by_tail bs whole (tail 32 bs) refl

-- the same, where what is read is given by reference
by_reference :
    (old new : Remains) (r : Option (Bor (List ℕ))) → Gives old new (option_map (λ x. x.now) r)
    → MatchOption r ((entries old ≡ []) × (entries new ≡ [])) (λ x. entries old ≡ x.now ∷ entries new)
by_reference old new None gives = gives
by_reference old new (Some x) gives = gives

pub gives_first :
    (old new : Remains) (r : Option (Bor (List ℕ))) → option_map (λ x. x.now) r ≡ entry old → new.bytes ≡ (entries_after old).bytes
    → new.whole ≡ old.whole → MatchOption r ((entries old ≡ []) × (entries new ≡ [])) (λ x. entries old ≡ x.now ∷ entries new)
gives_first old new r value bytes whole =
    let left : new ≡ entries_after old = ap₂ remaining bytes whole in
    by_reference old new r (rw (value, left) (first_entry old.bytes old.whole))
