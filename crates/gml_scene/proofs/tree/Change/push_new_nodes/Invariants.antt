-- The new nodes so far are written, and those that are left follow them.
use Rattle.std.proofs.Common.{◌≡◌, drop}
use Rattle.gml_text.specs.Tree.{◌then◌}
use Rattle.gml_text.specs.View.{pairs}
use Rattle.gml_scene.specs.Tree.{new_nodes}
use Rattle.gml_scene.proofs.tree.Change.push_new_nodes.Given as goal

abbrev pub invariant-loop-node : goal.invariant-loop-node
invariant-loop-node l =
    pairs l.fn.out.items then new_nodes l.self.labels.now l.self.scene.now.nodes ≡ pairs l.out.items then new_nodes l.self.labels.now (drop l.node-index l.self.scene.now.nodes)
