-- The tight links of least positions hold the forces.
use Rattle.existence_laws.proofs.Solving.Solved.{some_solution}
use Rattle.existence_laws.proofs.laws.some_solution.Goals as goal

pub returns : goal.returns
returns c = some_solution
