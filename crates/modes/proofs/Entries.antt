-- The entries by computing them, and Gray's modes within the counting ones by a computed test over all codes.
use Rattle.std.proofs.Common.{◌≡◌, ℕ, ◌<◌, Bool, true, ◌&&◌, eqb, get_or, refl, subst₂, arith}
use Rattle.std.proofs.lemmas.Bool.{and_parts, eqb-true}
use Rattle.modes.specs.Systems.{clipped}
use Rattle.modes.specs.Rights.{Mode, system, gray, counting, mode, code, joined, stand, NL}
use Rattle.modes.specs.Entries.{KnownEntries, GrayWithinCounting, in_counting}
use Rattle.modes.specs.Below.{below, at}
use Rattle.modes.specs.Laws.{alike, alike_same}

pub known_entries : KnownEntries
known_entries = (refl, refl, refl, refl)

-- what the theorem says of two codes, and as a test
abbrev Agree : ℕ → ℕ → Type 0
Agree a b =
    ((system gray).stands a b ≡ (system counting).stands (in_counting a) (in_counting b))
    × (in_counting ((system gray).join a b) ≡ (system counting).join (in_counting a) (in_counting b))

abbrev agree : ℕ → ℕ → Bool
agree a b =
    alike ((system gray).stands a b) ((system counting).stands (in_counting a) (in_counting b))
    && eqb (in_counting ((system gray).join a b)) ((system counting).join (in_counting a) (in_counting b))

-- Gray's mode at a place
abbrev at_place : ℕ → Mode
at_place x = get_or gray.modes x NL

within : (a b : ℕ) → a < 6 → b < 6 → Agree a b
within a b la lb =
    let t : agree a b ≡ true = at 6 (agree a) (at 6 (λ x. below 6 (agree x)) refl a la) b lb in
    let p =
    and_parts (alike ((system gray).stands a b) ((system counting).stands (in_counting a) (in_counting b)))
    (eqb (in_counting ((system gray).join a b)) ((system counting).join (in_counting a) (in_counting b))) t
    in
    (alike_same _ _ p.0, eqb-true _ _ p.1)

-- any code is read as one within the count, in Gray's system and so in the other
pub gray_within_counting : GrayWithinCounting
gray_within_counting a b =
    let a' = clipped 6 a in
    let b' = clipped 6 b in
    let ea : clipped 6 a' ≡ a' = omega arith in
    let eb : clipped 6 b' ≡ b' = omega arith in
    let la : a' < 6 = omega arith in
    let lb : b' < 6 = omega arith in
    let P : ℕ → ℕ → Type 0 =
    λ x y.
    (stand (at_place x) (at_place y) ≡ stand (mode counting (code counting (at_place x))) (mode counting (code counting (at_place y))))
    × (in_counting (code gray (joined (at_place x) (at_place y)))
    ≡ code counting (joined (mode counting (code counting (at_place x))) (mode counting (code counting (at_place y)))))
    in
    subst₂ P ea eb (within a' b' la lb)
