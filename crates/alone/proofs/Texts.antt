-- A whole text, line by line.
use Rattle.std.proofs.Common.{◌≡◌, ℕ, List, IsErrAnd, Err, Result, refl, ap, ap₂}
use Rattle.std.specs.Option.{option_map}
use Rattle.entries.specs.declared.line.Line.{Line}
use Rattle.entries.specs.Lines.{remains}
use Rattle.entries.specs.Cuts.{Remains, line, lines_after}
use Rattle.alone.specs.declared.denied.Denied.{Denied}
use Rattle.alone.specs.declared.denied.Denied.TheVariants.{Entry, Table, Memory}
use Rattle.alone.proofs.Readings.{passed}
use Rattle.alone.specs.Inputs.{ReadAs, Reading, and_then, read_lines, reading}

-- a text is its four lines and what follows them
lines_of :
    (text : List ℕ) → let second = lines_after text in
    let third = lines_after second in
    let fourth = lines_after third in
    reading text ≡ read_lines (line text) (line second) (line third) (line fourth) (lines_after fourth)
unfolding reading
lines_of text = refl

pub text_of :
    (text : List ℕ) {a b c d e : List ℕ} {first second third fourth : Remains} → a ≡ text → first ≡ line a → b ≡ lines_after a
    → second ≡ line b → c ≡ lines_after b → third ≡ line c → d ≡ lines_after c → fourth ≡ line d → e ≡ lines_after d
    → read_lines first second third fourth e ≡ reading text
text_of text at f ab s bc t cd r de = let all = lines_of text in cc

-- a line that was read is the line with which the text began
pub line_by :
    (l : Line) (t : List ℕ) → option_map (λ x. x.now) l.rest ≡ (line t).bytes → l.whole ≡ (line t).whole → remains l ≡ line t
line_by l t bytes whole = ap₂ (λ b w. record { bytes = b; whole = w }) bytes whole

-- a bad part makes the whole bad
pub bad_part :
    {A B C D : Type 0} (part_view : C → A) (view : D → B) (part : Reading A) (next : A → Reading B) (d : Denied) (r : Result D Denied)
    → IsErrAnd r (λ e. e ≡ d) → ReadAs part_view part (Err d) → ReadAs view (and_then part next) r
bad_part part_view view part next (Entry l e) r h p = passed view _ (Entry l e) r h (ap (λ q. and_then q next) p)
bad_part part_view view part next (Table unfit) r h p = absurd p
bad_part part_view view part next Memory r h p = passed view _ Memory r h tt
