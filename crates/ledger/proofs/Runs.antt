-- Runs of steps: cut, joined, moved past one another, and what they do to one place.
use Rattle.std.proofs.Common.{◌≡◌, ℕ, ◌<◌, List, [], ◌∷◌, ◌++◌, length, get_or, sym, refl, ap, ◌∙◌, append-nil, subst, arith}
use Rattle.std.specs.List.{AllByRecursion}
use Rattle.std.proofs.lemmas.List.Elements.{All-weaker, All-append, All-from_recursion, recursion_from_All}
use Rattle.operations.specs.Words.{after, left_at}
use Rattle.operations.specs.Alone.{Step, Alone}
use Rattle.ledger.specs.Collisions.{Apart, ListsApart}
use Rattle.ledger.proofs.Swaps.{apart_comm, swap, length_after, word_after}

-- What steps do to the word at a place.
abbrev pub effect : List ℕ → List Step → ℕ → ℕ → ℕ
effect ps [] r w = w
effect ps (s ∷ ss) r w = effect ps ss r (left_at ps s.0 r w)

-- std's lemmas on `All`, for the same fact by recursion on the list
pub all_weaker :
    {X : Type 0} {P Q : X → Type 0} → ((x : X) → P x → Q x) → (xs : List X) → AllByRecursion P xs → AllByRecursion Q xs
all_weaker {P = P} {Q = Q} f xs h = recursion_from_All Q xs (All-weaker P Q f xs (All-from_recursion P xs h))

pub all_++ : {X : Type 0} (P : X → Type 0) (xs ys : List X) → AllByRecursion P xs → AllByRecursion P ys → AllByRecursion P (xs ++ ys)
all_++ P xs ys h k = recursion_from_All P (xs ++ ys) (All-append P xs ys (All-from_recursion P xs h) (All-from_recursion P ys k))

module _ (ps : List ℕ) where
  pub split :
      (xs ys : List Step) (ws out : List ℕ) → Alone ps ws (xs ++ ys) out → (mid : List ℕ) × Alone ps ws xs mid × Alone ps mid ys out
  split [] ys ws out a = (ws, refl, a)
  split (x ∷ xs) ys ws out a =
      let r = split xs ys (after ps x.0 ws) out a.1 in
      (r.0, (a.0, r.1), r.2)

  pub join : (xs ys : List Step) (ws mid out : List ℕ) → Alone ps ws xs mid → Alone ps mid ys out → Alone ps ws (xs ++ ys) out
  join [] ys ws mid out a b = let e : mid ≡ ws = a in subst (λ (z : List ℕ). Alone ps z ys out) e b
  join (x ∷ xs) ys ws mid out a b = (a.0, join xs ys (after ps x.0 ws) mid out a.1 b)

  -- a run ends in one way only
  pub same_end : (xs : List Step) (ws out out' : List ℕ) → Alone ps ws xs out → Alone ps ws xs out' → out ≡ out'
  same_end [] ws out out' a b = let e : out ≡ ws = a in let f : out' ≡ ws = b in e ∙ sym f
  same_end (x ∷ xs) ws out out' a b = same_end xs (after ps x.0 ws) out out' a.1 b.1

  -- one list runs wherever another does, to the same end
  abbrev pub Alike : List Step → List Step → Type 0
  Alike xs ys = (ws out : List ℕ) → Alone ps ws xs out → Alone ps ws ys out

  pub alike_after : (p xs ys : List Step) → Alike xs ys → Alike (p ++ xs) (p ++ ys)
  alike_after p xs ys h ws out a =
      let r = split p xs ws out a in
      join p ys ws r.0 out r.1 (h r.0 out r.2)

  alike_before : (p xs ys : List Step) → Alike xs ys → Alike (xs ++ p) (ys ++ p)
  alike_before p xs ys h ws out a =
      let r = split xs p ws out a in
      join ys p ws r.0 out (h ws r.0 r.1) r.2

  -- a step past a list, and a list past a list
  past : (s : Step) (ys rest : List Step) → AllByRecursion (λ t. Apart ps s.0 t.0) ys → Alike (s ∷ (ys ++ rest)) (ys ++ s ∷ rest)
  past s [] rest h ws out a = a
  past s (y ∷ ys) rest h ws out a =
      let b = swap ps s y (ys ++ rest) ws out h.0 a in
      (b.0, past s ys rest h.1 (after ps y.0 ws) out b.1)

  pub exchange : (xs ys : List Step) → ListsApart ps xs ys → Alike (xs ++ ys) (ys ++ xs)
  exchange [] ys h ws out a = rw append-nil a
  exchange (x ∷ xs) ys h ws out a = past x ys xs h.0 ws out (a.0, exchange xs ys h.1 (after ps x.0 ws) out a.1)

  -- being apart goes both ways, and over lists put together
  pub apart_one : (t : Step) (ss : List Step) → AllByRecursion (λ s. Apart ps t.0 s.0) ss → AllByRecursion (λ s. Apart ps s.0 t.0) ss
  apart_one t ss h = all_weaker (λ s. apart_comm ps t.0 s.0) ss h

  pub apart_none : (ts : List Step) → ListsApart ps ts []
  apart_none [] = tt
  apart_none (t ∷ ts) = (tt, apart_none ts)

  cons_apart :
      (s : Step) (ss ts : List Step) → AllByRecursion (λ t. Apart ps t.0 s.0) ts → ListsApart ps ts ss → ListsApart ps ts (s ∷ ss)
  cons_apart s ss [] h k = tt
  cons_apart s ss (t ∷ ts) h k = ((h.0, k.0), cons_apart s ss ts h.1 k.1)

  pub apart_sym : (ss ts : List Step) → ListsApart ps ss ts → ListsApart ps ts ss
  apart_sym [] ts h = apart_none ts
  apart_sym (s ∷ ss) ts h = cons_apart s ss ts (apart_one s ts h.0) (apart_sym ss ts h.1)

  pub apart_++ : (ss xs ys : List Step) → ListsApart ps ss xs → ListsApart ps ss ys → ListsApart ps ss (xs ++ ys)
  apart_++ [] xs ys h k = tt
  apart_++ (s ∷ ss) xs ys h k = (all_++ (λ t. Apart ps s.0 t.0) xs ys h.0 k.0, apart_++ ss xs ys h.1 k.1)

  pub apart_push : (ss xs : List Step) (x : Step) → ListsApart ps ss xs → AllByRecursion (λ s. Apart ps s.0 x.0) ss → ListsApart ps ss (xs ++ x ∷ [])
  apart_push ss xs x h k = apart_++ ss xs (x ∷ []) h (cons_apart x [] ss k (apart_none ss))

  -- two lists run alike, each wherever the other does
  abbrev pub Same : List Step → List Step → Type 0
  Same xs ys = Alike xs ys × Alike ys xs

  pub same_trans : (xs ys zs : List Step) → Same xs ys → Same ys zs → Same xs zs
  same_trans xs ys zs h k = (λ ws out a. k.0 ws out (h.0 ws out a), λ ws out a. h.1 ws out (k.1 ws out a))

  pub same_before : (p xs ys : List Step) → Same xs ys → Same (xs ++ p) (ys ++ p)
  same_before p xs ys h = (alike_before p xs ys h.0, alike_before p ys xs h.1)

  pub same_exchange : (xs ys : List Step) → ListsApart ps xs ys → Same (xs ++ ys) (ys ++ xs)
  same_exchange xs ys h = (exchange xs ys h, exchange ys xs (apart_sym xs ys h))

  -- what a run leaves at a place
  pub effect_++ : (xs ys : List Step) (r w : ℕ) → effect ps (xs ++ ys) r w ≡ effect ps ys r (effect ps xs r w)
  effect_++ [] ys r w = refl
  effect_++ (x ∷ xs) ys r w = effect_++ xs ys r (left_at ps x.0 r w)

  pub run_length : (xs : List Step) (ws out : List ℕ) → Alone ps ws xs out → length out ≡ length ws
  run_length [] ws out a = let e : out ≡ ws = a in ap length e
  run_length (x ∷ xs) ws out a = run_length xs (after ps x.0 ws) out a.1 ∙ length_after ps x.0 ws

  pub run_at :
      (xs : List Step) (ws out : List ℕ) → Alone ps ws xs out → (r : ℕ) → r < length ws → get_or out r 0 ≡ effect ps xs r (get_or ws r 0)
  run_at [] ws out a r h = let e : out ≡ ws = a in ap (λ (z : List ℕ). get_or z r 0) e
  run_at (x ∷ xs) ws out a r h =
      run_at xs (after ps x.0 ws) out a.1 r (omega (arith, length_after ps x.0 ws))
      ∙ ap (effect ps xs r) (word_after ps x.0 ws r h)
