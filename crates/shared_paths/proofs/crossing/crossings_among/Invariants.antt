-- What is left has still to be counted.
use Rattle.std.proofs.Common.{◌≡◌, ◌+◌, ◌≤◌, length}
use Rattle.std.specs.List.{sum_by}
use Rattle.shared_paths.specs.Columns.{AreRising}
use Rattle.shared_paths.proofs.Counting.{crossed_in}
use Rattle.shared_paths.proofs.crossing.crossings_among.Given as goal

abbrev pub invariant-loop-left : goal.invariant-loop-left
invariant-loop-left l = record {
  counted : l.count + sum_by (crossed_in l.level) l.left ≡ sum_by (crossed_in l.level) l.upright;
  few : length l.left ≤ length l.upright;
  rising : AreRising l.left;
}

abbrev pub decreases-loop-left : goal.decreases-loop-left
decreases-loop-left l = length l.left
