use Rattle.std.proofs.Common.{ℕ, ◌<◌, List, map, set, sym, ap, ◌∙◌, subst, arith}
use Rattle.std.proofs.lemmas.List.{map-set}
use Rattle.std.proofs.lemmas.Grind.{common_steps}
use Rattle.shelf.specs.Words.{Fit}
use Rattle.shelf.proofs.cells.CellShelfShelf.put.Goals as goal

-- a word put among words leaves words
set_fit : (words : List ℕ) (i w : ℕ) → w < 4294967296 → Fit words → Fit (set words i w)
set_fit words i w h fit place = grind (arith, common_steps, fit place)

pub invariant_of-self-2 : goal.invariant_of-self-2
invariant_of-self-2 g c =
    let put = map-set g.C.Cell.held c.args.self.now.cells.items c.args.place c.fill.new.cell in
    record {
      few = c.args.self.now.few;
      fit = subst Fit (sym put) (set_fit _ c.args.place _ (omega (arith, c.fill.ensures)) c.args.self.now.fit);
    }

pub returns-clause-after : goal.returns-clause-after
returns-clause-after g c =
    let words = map g.C.Cell.held c.args.self.now.cells.items in
    map-set g.C.Cell.held c.args.self.now.cells.items c.args.place c.fill.new.cell ∙ ap (set words c.args.place) c.fill.ensures
