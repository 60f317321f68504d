-- Those of the runs of the lines so far are found.
use Rattle.std.proofs.Common.{◌≡◌, take}
use Rattle.std.specs.List.{filter}
use Rattle.shared_paths.specs.Listed.{runs_in}
use Rattle.shared_paths.specs.Columns.{goes}
use Rattle.shared_paths.proofs.crossing.runs_of_way.Given as goal

abbrev pub invariant-loop-line : goal.invariant-loop-line
invariant-loop-line l = l.found.items ≡ filter (goes l.way) (runs_in (take l.line-index l.lines))
