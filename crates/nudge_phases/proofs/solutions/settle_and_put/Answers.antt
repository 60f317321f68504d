-- The solution is that of the bundle, and carries its runs.
use Rattle.nudge_phases.proofs.solutions.settle_and_put.Goals as goal

pub returns : goal.returns
returns c = record { solution = c.in_ok-solution.solution; solved = c.in_ok-solution.ensures; carries = c.put_bundle.ensures }
