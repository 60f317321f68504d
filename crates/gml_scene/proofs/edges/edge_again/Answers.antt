-- Answers at which mutants of this function are refused.
use Rattle.std.proofs.Common.{rules}
use Rattle.gml_scene.proofs.edges.edge_again.Goals as goal

pub returns : goal.returns
returns c = search rules
