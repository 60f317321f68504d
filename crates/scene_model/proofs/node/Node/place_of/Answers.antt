-- Answers at which mutants of this function are refused.
use Rattle.std.proofs.Common.{rules}
use Rattle.scene_model.proofs.node.Node.place_of.Goals as goal

pub returns-clause-place : goal.returns-clause-place
returns-clause-place c = search rules
