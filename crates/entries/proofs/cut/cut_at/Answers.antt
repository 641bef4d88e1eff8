use Rattle.std.proofs.Common.{◌≡◌, ◌<◌, length, Some, slice_index, ap, ◌∙◌, add-one, rules}
use Rattle.entries.proofs.Cuts.{Uncut, cut_here, uncut}
use Rattle.entries.proofs.cut.cut_at.Goals as goal

pub returns-in-Some : goal.returns-in-Some
returns-in-Some c =
    let at = c.args.at in
    let text = c.args.text.now in
    let here : (c.in-Some.place < length text) × (slice_index text c.in-Some.place ≡ at) = search rules in
    let before : Uncut at text c.in-Some.place = search rules in
    let cut = cut_here at text c.in-Some.place before here.0 here.1 in
    record { head = cut.0; tail = ap Some c.after.ensures ∙ rw add-one cut.1 }

pub returns-in-None : goal.returns-in-None
returns-in-None c =
    let at = c.args.at in
    let text = c.args.text.now in
    let all : Uncut at text (length text) = search rules in
    let whole = uncut at text all in
    record { head = whole.0; tail = whole.1 }
