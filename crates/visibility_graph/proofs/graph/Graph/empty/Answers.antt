-- An arena without lines stands for a floor without solids and anchors.
use Rattle.std.proofs.Common.{rules}
use Rattle.visibility_graph.proofs.Empty.{empty_stands}
use Rattle.visibility_graph.proofs.graph.Graph.empty.Goals as goal

pub invariant_of-result : goal.invariant_of-result
invariant_of-result c = empty_stands _ _ (search rules) (search rules) (search rules)
