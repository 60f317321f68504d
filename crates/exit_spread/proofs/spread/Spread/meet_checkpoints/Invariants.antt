-- The checkpoints so far were met.
use Rattle.std.proofs.Common.{◌≡◌, ◌*◌, take, All}
use Rattle.line_lists.specs.Lists.{number_of}
use Rattle.exit_spread.specs.Propagating.{Adds, IsMetAt}
use Rattle.exit_spread.proofs.spread.Spread.meet_checkpoints.Given as goal

abbrev pub invariant-loop-at : goal.invariant-loop-at
invariant-loop-at l = record {
  rows : l.self.rows ≡ l.initial.self.rows;
  adds : Adds l.problem (number_of l.lists) l.initial.self l.self (2 * l.at-index);
  met : All (IsMetAt l.problem (number_of l.lists) l.self l.run) (take l.at-index l.problem.task.now.via);
}
