use Rattle.modes.proofs.Entries.{known_entries, gray_within_counting}
use Rattle.modes.proofs.facts.table_facts.Goals as goal

pub returns : goal.returns
returns c = record { entries = known_entries; within = gray_within_counting }
