-- A run, call by call.
use Rattle.std.proofs.Common.{◌≡◌, ℕ, ◌+◌, ◌<◌, List, [], ◌∷◌, ◌++◌, length, get_or, take, sym, refl, ap, ◌∙◌, subst, arith}
use Rattle.std.proofs.lemmas.List.{take_more, length-take-le}
use Rattle.modes.specs.Systems.{System, Lawful}
use Rattle.ledger.specs.declared.call.Answer.{Answer}
use Rattle.ledger.specs.declared.call.Call.{Call}
use Rattle.ledger.specs.Ledgers.{Event, together}
use Rattle.engine.specs.States.{State, Served}
use Rattle.engine.proofs.Serves.{Follows, follows_on}

together_push :
    (cs : List Call) (xs : List Answer) (c : Call) (x : Answer) → length cs ≡ length xs
    → together (cs ++ c ∷ []) (xs ++ x ∷ []) ≡ together cs xs ++ (c, x) ∷ []
together_push [] [] c x e = refl
together_push [] (y ∷ ys) c x e = absurd (omega arith)
together_push (d ∷ ds) [] c x e = absurd (omega arith)
together_push (d ∷ ds) (y ∷ ys) c x e = ap (λ (es : List Event). (d, y) ∷ es) (together_push ds ys c x (omega arith))

-- one call more
pub run_more :
    (s : System) → Lawful s → (ps first : List ℕ) (cs : List Call) (xs : List Answer) (i : ℕ) (d : Call) (x : Answer) (before after : State) → i < length cs → length xs ≡ i
    → Served s (get_or cs i d) before after x → Follows s ps first (together (take i cs) xs) before
    → Follows s ps first (together (take (i + 1) cs) (xs ++ x ∷ [])) after
run_more s law ps first cs xs i d x before after l n done f =
    let more : together (take (i + 1) cs) (xs ++ x ∷ []) ≡ together (take i cs) xs ++ (get_or cs i d, x) ∷ [] =
    ap (λ (ds : List Call). together ds (xs ++ x ∷ [])) (take_more cs i d l)
    ∙ together_push (take i cs) xs (get_or cs i d) x (length-take-le i cs (omega arith) ∙ sym n)
    in
    subst (λ (h : List Event). Follows s ps first h after) (sym more)
    (follows_on s law ps first (together (take i cs) xs) (get_or cs i d) before after x done f)
