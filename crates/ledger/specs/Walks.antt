-- How a job takes the locks for an operation.
use Rattle.std.specs.Prelude.{ℕ, Bool, true, false, List, [], ◌∷◌, ◌==◌, nat_lt}
use Rattle.modes.specs.declared.kind.Kind.{Kind}
use Rattle.modes.specs.Systems.{System}
use Rattle.granules.specs.Below.{some_below}
use Rattle.ledger.specs.Jobs.{Jobs, raise}
pub use Rattle.ledger.specs.declared.job.Judgement.{Judgement}
pub use Rattle.ledger.specs.declared.job.Judgement.TheVariants.{Passes as passes, GivesWay as gives_way, HoldsUp as holds_up}

-- The judgement of one holder, for a job that asks for a mode on the granule that the other holds: first whether there is a
-- conflict, then which of the two is older. A younger holder gives way, an older one holds the asker up.
abbrev pub judge : System → ℕ → ℕ → ℕ → ℕ → Judgement
judge s asker target holder held =
    elim (holder == asker) [
      | true ↦ passes
      | false ↦ elim (s.stands held target) [ true ↦ passes | false ↦ elim (nat_lt asker holder) [ true ↦ gives_way | false ↦ holds_up ] ]
    ]

-- Whether a judgement wounds the holder.
abbrev pub must_give_way : Judgement → Bool
must_give_way passes = false
must_give_way gives_way = true
must_give_way holds_up = false

-- Whether a judgement lets the asker wait.
abbrev pub must_wait : Judgement → Bool
must_wait passes = false
must_wait gives_way = false
must_wait holds_up = true

-- Whether job k gives way to one that asks for a target on granule x.
abbrev pub yields : System → Jobs → ℕ → ℕ → ℕ → ℕ → Bool
yields s js asker x target k = must_give_way (judge s asker target k (js.mode k x))

-- Whether job k holds the asker up.
abbrev pub blocks : System → Jobs → ℕ → ℕ → ℕ → ℕ → Bool
blocks s js asker x target k = must_wait (judge s asker target k (js.mode k x))

-- A mode has another in it if joining that adds nothing.
abbrev pub has : System → ℕ → ℕ → Bool
has s m part = s.join m part == m

-- The mode that an operation of kind k on granule g wants on a granule x of g's path, for a job that has m there:
-- the full mode at g itself, the intent above.
abbrev pub target : System → Kind → ℕ → ℕ → ℕ → ℕ
target s k g x m = s.join m (elim (x == g) [ true ↦ s.full k | false ↦ s.intent k ])

-- Whatever holds jobs can be walked over, if it says how jobs are wounded in it.
pub record Hands (S : Type 0) : Type 0 where
  pub jobs : S → Jobs
  pub with_jobs : Jobs → S → S
  pub wound : (ℕ → Bool) → S → S

-- What a walk leaves, and whether it was completed.
pub record Walked (S : Type 0) : Type 0 where
  pub left : S
  pub complete : Bool

-- The walk of job `asker` for kind k on granule g, over what is left of the path of g.
-- 1. A mode that has the full mode of k in it completes the walk: it covers all that lies beneath.
-- 2. A target that is the mode it has needs nothing.
-- 3. Else every younger job whose mode does not stand with the target is wounded. If an older one is in the way, the
--    job waits, and keeps what it gained above. If not, the target becomes its mode.
abbrev pub walk : {S : Type 0} → Hands S → System → Kind → ℕ → ℕ → List ℕ → S → Walked S
walk h s k g asker [] st = record { left = st; complete = true }
walk h s k g asker (x ∷ xs) st =
    let js = h.jobs st in
    let m = js.mode asker x in
    let t = target s k g x m in
    elim (has s m (s.full k)) [
      | true ↦ record { left = st; complete = true }
      | false ↦
          elim (t == m) [
            | true ↦ walk h s k g asker xs st
            | false ↦
                let hurt = h.wound (yields s js asker x t) st in
                elim (some_below asker (blocks s js asker x t)) [
                  | true ↦ record { left = hurt; complete = false }
                  | false ↦ walk h s k g asker xs (h.with_jobs (raise asker x t (h.jobs hurt)) hurt)
                ]
          ]
    ]
