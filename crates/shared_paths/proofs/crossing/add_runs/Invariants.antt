-- Those of the runs so far are added.
use Rattle.std.proofs.Common.{◌≡◌, ◌++◌, take}
use Rattle.std.specs.List.{filter}
use Rattle.shared_paths.specs.Columns.{goes}
use Rattle.shared_paths.proofs.crossing.add_runs.Given as goal

abbrev pub invariant-loop-run : goal.invariant-loop-run
invariant-loop-run l = l.found.items ≡ l.initial.found.items ++ filter (goes l.way) (take l.run-index l.runs)
