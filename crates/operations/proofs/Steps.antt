-- Steps run alone, one more at the end.
use Rattle.std.proofs.Common.{◌≡◌, ℕ, ◌+◌, ◌<◌, List, [], ◌∷◌, ◌++◌, length, get_or, take, sym, refl, ap, ◌∙◌, subst, arith}
use Rattle.std.proofs.lemmas.List.{take_more, length-take-le}
use Rattle.operations.specs.declared.operation.Operation.{Operation}
use Rattle.operations.specs.declared.operation.Outcome.{Outcome}
use Rattle.operations.specs.Words.{answer, after}
use Rattle.operations.specs.Alone.{Step, Alone, noted}

pub alone_push :
    (ps ws : List ℕ) (ss : List Step) (s : Step) (mid next : List ℕ) → Alone ps ws ss mid → s.1 ≡ answer ps s.0 mid
    → next ≡ after ps s.0 mid → Alone ps ws (ss ++ s ∷ []) next
alone_push ps ws [] s mid next h a b =
    let e : mid ≡ ws = h in
    (subst (λ (x : List ℕ). s.1 ≡ answer ps s.0 x) e a, subst (λ (x : List ℕ). next ≡ after ps s.0 x) e b)
alone_push ps ws (t ∷ ts) s mid next h a b = (h.0, alone_push ps (after ps t.0 ws) ts s mid next h.1 a b)

noted_push :
    (os : List Operation) (answers : List Outcome) (o : Operation) (a : Outcome) → length os ≡ length answers
    → noted (os ++ o ∷ []) (answers ++ a ∷ []) ≡ noted os answers ++ (o, a) ∷ []
noted_push [] [] o a e = refl
noted_push [] (x ∷ xs) o a e = absurd (omega arith)
noted_push (p ∷ ps) [] o a e = absurd (omega arith)
noted_push (p ∷ ps) (x ∷ xs) o a e = ap (λ (ss : List Step). (p, x) ∷ ss) (noted_push ps xs o a (omega arith))

-- a turn of a loop that answers the operations in order
pub ran_more :
    (ps ws : List ℕ) (os : List Operation) (answers : List Outcome) (i : ℕ) (d : Operation) (a : Outcome) (mid next : List ℕ)
    → i < length os → length answers ≡ i → a ≡ answer ps (get_or os i d) mid → next ≡ after ps (get_or os i d) mid
    → Alone ps ws (noted (take i os) answers) mid → Alone ps ws (noted (take (i + 1) os) (answers ++ a ∷ [])) next
ran_more ps ws os answers i d a mid next l n e f h =
    let more : noted (take (i + 1) os) (answers ++ a ∷ []) ≡ noted (take i os) answers ++ (get_or os i d, a) ∷ [] =
    ap (λ (xs : List Operation). noted xs (answers ++ a ∷ [])) (take_more os i d l)
    ∙ noted_push (take i os) answers (get_or os i d) a (length-take-le i os (omega arith) ∙ sym n)
    in
    subst (λ (ss : List Step). Alone ps ws ss next) (sym more)
    (alone_push ps ws (noted (take i os) answers) (get_or os i d, a) mid next h e f)
