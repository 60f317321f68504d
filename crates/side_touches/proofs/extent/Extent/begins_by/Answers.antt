-- To the West and to the North an extent begins at its end.
use Rattle.std.proofs.Common.{arith}
use Rattle.std.proofs.lemmas.Int.{ints}
use Rattle.side_touches.proofs.extent.Extent.begins_by.Goals as goal

pub returns-in-West : goal.returns-in-West
returns-in-West c = grind (arith, ints)
