use Rattle.std.proofs.Common.{◌≡◌, ℕ, ◌<◌, ◌≤◌, List, length, get_or, unwrap_or, Option, sym, ap, ap₂, ◌∙◌, arith}
use Rattle.std.proofs.lemmas.List.{map-id}
use Rattle.std.proofs.lemmas.List.Sums.{fold_push}
use Rattle.std.proofs.lemmas.Iterator.Consumers.{YieldsList-at, YieldsList-from_first, YieldsList-turn, YieldsList-end}
use Rattle.granules.specs.Paths.{records}
use Rattle.granules.specs.Trees.{table, ahead}
use Rattle.granules.proofs.Kept.{size}
use Rattle.operations.proofs.Places.{word_at}
use Rattle.ledger.specs.declared.job.Note.{Note}
use Rattle.ledger.specs.declared.job.Note.TheVariants.{Nothing}
use Rattle.ledger.specs.Models.{noted}
use Rattle.tables.specs.Grids.{cell, with_cell}
use Rattle.tables.proofs.Grids.{long_at}
use Rattle.tables.proofs.Notes.{note_on, noted_on, noted_only, noted_all, record_near}
use Rattle.tables.proofs.grid.notes.Grid+Note.note.Goals as goal

pub overflow_cast-place : goal.overflow_cast-place
overflow_cast-place g c =
    let ps = table c.args.tree.now in
    let o = c.args.operation in
    let road =
    YieldsList-at c.into_iter-record-iterator.ensures.into_iter_gives
    (YieldsList-from_first (λ x. x) ahead (records ps o.granule) c.records-record-items.ensures.value)
    in
    let turn =
    YieldsList-turn road c.loop-record.yielded c.loop-record.record-iterator c.loop-record.yielded_by c.next.result c.next.new.self c.in-Some.record c.in-Some.is
    c.next.ensures.steps
    in
    let near = record_near c.args.tree.now o.granule c.loop-record.yielded c.in-Some.record turn in
    omega (arith, near)

pub loop-record-preserved : goal.loop-record-preserved
loop-record-preserved g c =
    let o = c.args.operation in
    let ws = g.S.Shelf.words c.args.shelf.now in
    let s = c.args.seat.slot in
    let p = c.in-Some.record in
    let start = c.args.self.now.rows in
    let v : c.noted-note.result ≡ noted o.action (get_or ws p 0) (cell Nothing c.loop-record.self.rows s p) =
    c.noted-note.ensures.value
    ∙ ap₂ (λ (w : ℕ) (n : Note). noted o.action w n) (c.unwrap_or-word.ensures ∙ ap (λ (x : Option ℕ). unwrap_or x 0) c.get.ensures.value ∙ word_at ws p)
    (c.get-in-loop-record.ensures.value Nothing)
    in
    c.put.ensures.rows
    ∙ ap (with_cell c.loop-record.self.rows s p) v
    ∙ ap (λ (rows : List (List Note)). note_on o ws s rows p) c.loop-record.invariant
    ∙ sym (fold_push (note_on o ws s) start c.loop-record.yielded p)

pub returns : goal.returns
returns g c =
    let t = c.args.self.now in
    let ps = table c.args.tree.now in
    let o = c.args.operation in
    let ws = g.S.Shelf.words c.args.shelf.now in
    let s = c.args.seat.slot in
    let road =
    YieldsList-at c.into_iter-record-iterator.ensures.into_iter_gives
    (YieldsList-from_first (λ x. x) ahead (records ps o.granule) c.records-record-items.ensures.value)
    in
    let end =
    YieldsList-end road c.loop-record.yielded c.loop-record.record-iterator c.loop-record.yielded_by c.next.result c.next.new.self c.in-None.is c.next.ensures.steps
    in
    let now : c.loop-record.self.rows ≡ noted_on o ws s t.rows (records ps o.granule) =
    c.loop-record.invariant ∙ ap (noted_on o ws s t.rows) (sym (map-id c.loop-record.yielded) ∙ end.0)
    in
    let within : s < length t.rows = omega (arith, t.full, c.args.seat.within) in
    let long = long_at 256 t.rows s within t.long in
    let few : length ps ≤ 256 = omega (arith, size c.args.tree.now, c.args.tree.now.few) in
    record {
      others = rw now (noted_only ps o ws s t.rows within long few);
      notes = λ r. rw now (noted_all ps o ws s t.rows within long few r);
    }
