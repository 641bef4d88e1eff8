-- What a line that is being read stands for.
use Rattle.std.specs.Option.{option_map}
use Rattle.entries.specs.declared.line.Line.{Line}
use Rattle.entries.specs.Cuts.{Remains}

-- What is left to read of a `Line`.
abbrev pub remains : Line → Remains
remains l = record { bytes = option_map (λ x. x.now) l.rest; whole = l.whole }
