-- The new edges so far are written, and those that are left follow them.
use Rattle.std.proofs.Common.{◌≡◌, drop}
use Rattle.gml_text.specs.Tree.{◌then◌}
use Rattle.gml_text.specs.View.{pairs}
use Rattle.gml_scene.specs.Tree.{new_edges}
use Rattle.gml_scene.proofs.tree.Change.push_new_edges.Given as goal

abbrev pub invariant-loop-edge : goal.invariant-loop-edge
invariant-loop-edge l =
    pairs l.fn.out.items then new_edges l.self.labels.now l.self.routes.now l.self.scene.now.edges
    ≡ pairs l.out.items then new_edges l.self.labels.now l.self.routes.now (drop l.edge-index l.self.scene.now.edges)
