-- The stages so far are those of the first checkpoints.
use Rattle.std.proofs.Common.{◌≡◌, ◌+◌, length}
use Rattle.search_problem.specs.Bounds.{AreStages, origins_after}
use Rattle.search_problem.proofs.problem.all_stages.Given as goal

abbrev pub invariant-loop-at : goal.invariant-loop-at
invariant-loop-at l = record {
  first : origins_after l.stages.items 0 ≡ l.fn.first.items;
  stages : AreStages l.penalty l.via l.stages.items;
  count : length l.stages.items ≡ l.at-index + 1;
}
