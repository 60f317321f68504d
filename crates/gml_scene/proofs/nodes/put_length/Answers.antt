-- Answers at which mutants of this function are refused.
use Rattle.std.proofs.Common.{rules}
use Rattle.gml_scene.proofs.nodes.put_length.Goals as goal

pub returns : goal.returns
returns c = search rules
