-- The nodes so far, and the pairs that are left, give what the whole graph does.
use Rattle.std.proofs.Common.{◌≡◌, drop}
use Rattle.std.specs.Prelude.{codes}
use Rattle.gml_text.specs.View.{pairs}
use Rattle.diagram_read.specs.Nodes.{with_nodes_in}
use Rattle.diagram_read.specs.Values.{entries_from}
use Rattle.diagram_read.proofs.scene.Reader.load_nodes.Given as goal

abbrev pub invariant-loop-index : goal.invariant-loop-index
invariant-loop-index l =
    with_nodes_in l.initial.self.scene (entries_from 0 (codes "node") (pairs l.graph))
    ≡ with_nodes_in l.self.scene (entries_from l.index (codes "node") (pairs (drop l.index l.graph)))
