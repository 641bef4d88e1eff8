use Rattle.std.proofs.Common.{rules}
use Rattle.entries.specs.Lines.{remains}
use Rattle.entries.proofs.Entries.{gives_first}
use Rattle.entries.proofs.line.LineIterator.next.Goals as goal

pub returns-clause-steps : goal.returns-clause-steps
returns-clause-steps c =
    let read = c.next_entry.ensures in
    let steps = gives_first (remains c.args.self.now) (remains c.next_entry.new.self) c.next_entry.result read.value read.bytes read.whole in
    search rules

pub returns-clause-goes : goal.returns-clause-goes
returns-clause-goes c =
    let read = c.next_entry.ensures in
    let steps = gives_first (remains c.args.self.now) (remains c.next_entry.new.self) c.next_entry.result read.value read.bytes read.whole in
    search rules
