-- Jobs whose lists are apart run alike in every arrangement.
use Rattle.std.proofs.Common.{◌≡◌, ℕ, ◌<◌, ◌⊎◌, List, [], ◌∷◌, ◌++◌, refl, ap₂, inl, inr, arith}
use Rattle.std.proofs.lemmas.Bool.{cases_eq}
use Rattle.std.proofs.lemmas.Bool.Decides.{nat_tests}
use Rattle.operations.specs.Alone.{Step}
use Rattle.ledger.specs.Jobs.{put}
use Rattle.ledger.specs.Promises.{count_of, in_turn}
use Rattle.ledger.proofs.Runs.{Alike, alike_after}
use Rattle.ledger.proofs.Piles.{pile, pile_none, Pairwise, pairwise_clear, first}

-- lists that agree on the jobs in turn
pub in_turn_ext :
    (f g : ℕ → List Step) (ks : List ℕ) → ((k : ℕ) → (count_of k ks ≡ 0) ⊎ (f k ≡ g k)) → in_turn f ks ≡ in_turn g ks
in_turn_ext f g [] h = refl
in_turn_ext f g (x ∷ xs) h =
    ap₂ (λ (a b : List Step). a ++ b) (grind (arith, nat_tests, h x))
    (in_turn_ext f g xs (λ k. elim (h k) [ inl z ↦ inl (grind (arith, nat_tests)) | inr e ↦ inr e ]))

-- each job that has steps stands once in the list, and is below n
abbrev pub Once : (ℕ → List Step) → ℕ → List ℕ → Type 0
Once f n ks = (k : ℕ) → ((count_of k ks ≡ 1) × (k < n)) ⊎ (f k ≡ [])

module _ (ps : List ℕ) where
  pub arranged :
      (f : ℕ → List Step) → Pairwise ps f → (n : ℕ) (ks : List ℕ) → Once f n ks → Alike ps (pile f n) (in_turn f ks)
  arranged f h n [] once =
      let none : pile f n ≡ [] = pile_none f n (λ k l. elim (once k) [ inl c ↦ absurd (omega (arith, c.0)) | inr e ↦ e ]) in
      rw none (λ ws out run. run)
  arranged f h n (a ∷ ks) once =
      elim (once a) [
        | inl c ↦
            let g = put a [] f in
            let turned : in_turn g ks ≡ in_turn f ks =
            in_turn_ext g f ks (λ k. elim (cases_eq k a) [ inl e ↦ inl (grind (arith, nat_tests, c.0)) | inr e ↦ inr (grind (arith, nat_tests)) ]) in
            let once' : Once g n ks = λ k. grind (arith, nat_tests, once k) in
            λ ws out run.
            rw (← turned)
            (alike_after ps (f a) (pile g n) (in_turn g ks) (arranged g (pairwise_clear ps f h a) n ks once') ws out
            ((first ps f h a n c.1).0 ws out run))
        | inr e ↦ let once' : Once f n ks = λ k. grind (arith, nat_tests, once k) in rw e (arranged f h n ks once')
      ]
