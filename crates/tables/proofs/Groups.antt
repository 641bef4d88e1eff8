-- Joins of many modes.
use Rattle.std.proofs.lemmas.Bool.Decides.{nat_tests}
use Rattle.std.proofs.Common.{◌≡◌, ℕ, zero, suc, ◌<◌, true, ◌⊎◌, sym, refl, ap, ◌∙◌, inl, inr, arith}
use Rattle.modes.specs.Systems.{System, Lawful, clipped}
use Rattle.ledger.specs.Jobs.{Jobs}
use Rattle.ledger.specs.Promises.{group}
use Rattle.tables.specs.Heads.{join_below}

-- the group mode of the definitions is such a join
pub group_is : (s : System) (js : Jobs) (g n : ℕ) → group s js g n ≡ join_below s n (λ k. js.mode k g)
group_is s js g zero = refl
group_is s js g (suc n) = ap (λ (m : ℕ). s.join m (js.mode n g)) (group_is s js g n)

-- v is no lock, or stands among the h below m
abbrev pub Found : ℕ → (ℕ → ℕ) → ℕ → Type 0
Found m h v = (v ≡ 0) ⊎ ((i : ℕ) × (i < m) × (h i ≡ v))

module _ (s : System) (law : Lawful s) where
  -- a mode joined twice is joined once
  twice : (a b : ℕ) → s.join (s.join a b) b ≡ s.join a b
  twice a b =
      let c = clipped s.count b in
      let within : c < s.count = omega (arith, law.some_modes) in
      let once : clipped s.count c ≡ c = omega arith in
      grind (arith, law.join_assoc a b b, law.join_clips b b, law.join_same c within, law.join_clips a c, once, law.join_clips a b)

  within : (n : ℕ) (f : ℕ → ℕ) → join_below s n f < s.count
  within zero f = law.some_modes
  within (suc n) f = law.join_within (join_below s n f) (f n)

  none_more : (u : ℕ) → u < s.count → s.join u 0 ≡ u
  none_more u l = law.join_comm u 0 ∙ law.join_none u l

  -- a join has its parts in it, and nothing that the parts have not
  upper : (n : ℕ) (f : ℕ → ℕ) (k : ℕ) → k < n → s.join (join_below s n f) (f k) ≡ join_below s n f
  upper zero f k l = absurd (omega arith)
  upper (suc n) f k l =
      let b = join_below s n f in
      grind (
        arith,
        twice b (f n),
        law.join_assoc b (f n) (f k),
        law.join_comm (f n) (f k),
        law.join_assoc b (f k) (f n),
        upper n f k,
      )

  least : (n : ℕ) (f : ℕ → ℕ) (u : ℕ) → u < s.count → ((k : ℕ) → k < n → s.join u (f k) ≡ u) → s.join u (join_below s n f) ≡ u
  least zero f u l h = none_more u l
  least (suc n) f u l h = grind (arith, law.join_assoc u (join_below s n f) (f n), least n f u l (λ k m. h k (omega arith)), h n (omega arith))

  taken_in : (m : ℕ) (h : ℕ → ℕ) (v : ℕ) → Found m h v → s.join (join_below s m h) v ≡ join_below s m h
  taken_in m h v (inl e) = ap (s.join (join_below s m h)) e ∙ none_more (join_below s m h) (within m h)
  taken_in m h v (inr r) = ap (s.join (join_below s m h)) (sym r.2) ∙ upper m h r.0 r.1

  -- Two joins of the same modes are equal, in whatever order and however often each of them stands there.
  pub same_join :
      (n m : ℕ) (f h : ℕ → ℕ) → ((k : ℕ) → k < n → Found m h (f k)) → ((i : ℕ) → i < m → Found n f (h i))
      → join_below s n f ≡ join_below s m h
  same_join n m f h a b =
      let x = join_below s n f in
      let y = join_below s m h in
      sym (least m h x (within n f) (λ i l. taken_in n f (h i) (b i l)))
      ∙ law.join_comm x y
      ∙ least n f y (within m h) (λ k l. taken_in m h (f k) (a k l))

  -- what stands with a join stands with each part
  pub stands_below : (n : ℕ) (f : ℕ → ℕ) (t : ℕ) → s.stands t (join_below s n f) ≡ true → (k : ℕ) → k < n → s.stands t (f k) ≡ true
  stands_below zero f t e k l = absurd (omega arith)
  stands_below (suc n) f t e k l = grind (arith, nat_tests, law.stands_join t (join_below s n f) (f n), stands_below n f t)
