-- Raw routes, both phases, and the line along each route.
use Rattle.existence_laws.proofs.Nudging.Nudged.{some_nudged_lines}
use Rattle.existence_laws.proofs.laws.some_nudged_lines.Goals as goal

pub returns : goal.returns
returns c = some_nudged_lines
