-- The entries of a line, read one after the other.
use Rattle.std.proofs.Common.{◌≡◌, ℕ, suc, ◌+◌, ◌-◌, ◌<◌, Bool, true, false, List, [], ◌∷◌, ◌++◌, IsErrAnd, Some, None, Ok, Err, Option, Result, sym, refl, ap, ◌∙◌, subst, add-one, arith}
use Rattle.std.proofs.lemmas.List.{append_assoc, append-nil}
use Rattle.entries.specs.Cuts.{Remains, entries_after}
use Rattle.alone.specs.declared.denied.Denied.{Denied}
use Rattle.alone.specs.Inputs.{ReadAs, Reading, good, bad, and_then, closed, spent, next, all_of}

-- what follows, after the values xs
abbrev onto : {A : Type 0} → List A → Reading (List A) → Reading (List A)
onto xs r = and_then r (λ ys. good (xs ++ ys))

onto_none : {A : Type 0} (r : Reading (List A)) → onto [] r ≡ r
onto_none (good ys) = refl
onto_none (bad l e) = refl

onto_more : {A : Type 0} (xs : List A) (x : A) (r : Reading (List A)) → onto xs (and_then r (λ ys. good (x ∷ ys))) ≡ onto (xs ++ x ∷ []) r
onto_more xs x (good ys) = ap good (sym (append_assoc xs (x ∷ []) ys))
onto_more xs x (bad l e) = refl

-- With xs read from the line `start`, i of them, and r left of it, r decides.
abbrev pub Left : {A : Type 0} → (List ℕ → Option A) → ℕ → ℕ → Remains → ℕ → List A → Remains → Type 0
Left f l count start i xs r = onto xs (all_of f l (i + 1) (count - i) r) ≡ all_of f l 1 count start

pub begins : {A : Type 0} (f : List ℕ → Option A) (l count : ℕ) (start : Remains) → Left f l count start 0 [] start
begins f l count start =
    let n : count - 0 ≡ count = omega arith in
    onto_none (all_of f l 1 (count - 0) start) ∙ ap (λ (m : ℕ). all_of f l 1 m start) n

all_more :
    {A : Type 0} (f : List ℕ → Option A) (l e count : ℕ) (r : Remains) (x : A) → next f r ≡ Some x
    → all_of f l e (suc count) r ≡ and_then (all_of f l (suc e) count (entries_after r)) (λ xs. good (x ∷ xs))
unfolding all_of
all_more f l e count r x h = rw h

all_bad :
    {A : Type 0} (f : List ℕ → Option A) (l e count : ℕ) (r : Remains) → next f r ≡ None
    → all_of f l e (suc count) r ≡ bad l e
unfolding all_of
all_bad f l e count r h = rw h

all_end :
    {A : Type 0} (f : List ℕ → Option A) (l e : ℕ) (r : Remains) → all_of f l e 0 r ≡ closed l e (spent r) []
unfolding all_of
all_end f l e r = refl

-- one more entry
pub goes_on :
    {A : Type 0} (f : List ℕ → Option A) (l count : ℕ) (start : Remains) (i : ℕ) (xs : List A) (r : Remains) (x : A)
    → i < count → Some x ≡ next f r → Left f l count start i xs r → Left f l count start (i + 1) (xs ++ x ∷ []) (entries_after r)
goes_on f l count start i xs r x h e left =
    let n : count - i ≡ suc (count - (i + 1)) = omega arith in
    let m = count - (i + 1) in
    let after = entries_after r in
    ap (λ (k : ℕ). onto (xs ++ x ∷ []) (all_of f l k m after)) (add-one (i + 1))
    ∙ sym (onto_more xs x (all_of f l (suc (i + 1)) m after))
    ∙ ap (onto xs) (sym (all_more f l (i + 1) m r x (sym e)))
    ∙ ap (λ (k : ℕ). onto xs (all_of f l (i + 1) k r)) (sym n)
    ∙ left

-- an entry that is not there or is bad
pub stops :
    {A : Type 0} (f : List ℕ → Option A) (l count : ℕ) (start : Remains) (i : ℕ) (xs : List A) (r : Remains)
    → i < count → None ≡ next f r → Left f l count start i xs r → all_of f l 1 count start ≡ bad l (i + 1)
stops f l count start i xs r h e left =
    let n : count - i ≡ suc (count - (i + 1)) = omega arith in
    sym left
    ∙ ap (λ (k : ℕ). onto xs (all_of f l (i + 1) k r)) n
    ∙ ap (onto xs) (all_bad f l (i + 1) (count - (i + 1)) r (sym e))

-- all entries read: the line ends there, or does not
onto_closed : {A : Type 0} (xs : List A) (l e : ℕ) (b : Bool) → onto xs (closed l e b []) ≡ closed l e b xs
onto_closed xs l e true = ap good (append-nil xs)
onto_closed xs l e false = refl

pub ends :
    {A : Type 0} (f : List ℕ → Option A) (l count : ℕ) (start : Remains) (i : ℕ) (xs : List A) (r : Remains) (b : Bool)
    → i ≡ count → b ≡ spent r → Left f l count start i xs r → all_of f l 1 count start ≡ closed l (count + 1) b xs
ends f l count start i xs r b h s left =
    let n : count - i ≡ 0 = omega arith in
    sym left
    ∙ ap (λ (k : ℕ). onto xs (all_of f l (i + 1) k r)) n
    ∙ ap (onto xs) (all_end f l (i + 1) r)
    ∙ onto_closed xs l (i + 1) (spent r)
    ∙ ap (λ (t : Bool). closed l (i + 1) t xs) (sym s)
    ∙ ap (λ (k : ℕ). closed l (k + 1) b xs) h

-- the same, by other names
pub kept :
    {A : Type 0} (f : List ℕ → Option A) (l count : ℕ) (start : Remains) (i : ℕ) {xs ys : List A} {r t : Remains} → xs ≡ ys → r ≡ t
    → Left f l count start i xs r → Left f l count start i ys t
kept f l count start i {ys = ys} {r = r} e h left =
    subst (λ t. Left f l count start i ys t) h (subst (λ zs. Left f l count start i zs r) e left)

-- what is said of an error is said of the answer that passes it on
pub passed :
    {A B : Type 0} (view : A → B) (defined : Reading B) (d : Denied) (r : Result A Denied) → IsErrAnd r (λ e. e ≡ d)
    → ReadAs view defined (Err d) → ReadAs view defined r
passed view defined d (Ok x) h p = absurd h
passed view defined d (Err e) h p = subst (λ (x : Denied). ReadAs view defined (Err x)) (sym h) p
