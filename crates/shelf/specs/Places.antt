-- What a shelf of cells shows of its words.
-- Lemmas: they stand here, and not in proofs/, since an impl may show its laws only by what stands in specs/.
use Rattle.std.specs.Prelude.{◌≡◌, ℕ, ◌<◌, ◌≤◌, List, length, map, slice_index, vec_len, Vec}
use Rattle.std.proofs.Common.{arith}
use Rattle.std.proofs.lemmas.List.{length-map}
use Rattle.shelf.specs.Words.{word}

-- a shelf of its own has at most as many places as any shelf
pub few_words : {X Z : Type 0} (held : X → ℕ) (cells : Vec X Z) → vec_len cells ≤ 256 → length (map held cells.items) ≤ 65536
few_words held cells few = rw length-map (omega arith)

-- the same four bytes stand for the same word
pub same_word : (x y : List ℕ) → ((i : ℕ) → i < 4 → slice_index y i ≡ slice_index x i) → word y ≡ word x
same_word x y same = omega (arith, same 0 (omega arith), same 1 (omega arith), same 2 (omega arith), same 3 (omega arith))
