-- The runs so far are counted.
use Rattle.std.proofs.Common.{◌≡◌, take}
use Rattle.std.specs.List.{sum_by}
use Rattle.shared_paths.proofs.Counting.{crossed_in}
use Rattle.shared_paths.proofs.crossing.crossings_along.Given as goal

abbrev pub invariant-loop-run : goal.invariant-loop-run
invariant-loop-run l = l.count ≡ sum_by (crossed_in l.level) (take l.run-index l.column)
