-- The scene of a diagram.
use Rattle.std.specs.Prelude.{codes, Result}
use Rattle.gml_text.specs.Tree.{Pairs}
use Rattle.scene_model.specs.Scene.{Scene, empty_scene}
use Rattle.diagram_read.specs.declared.fault.DiagramFault.{DiagramFault}
use Rattle.diagram_read.specs.declared.fault.DiagramFault.TheVariants.{NoGraph}
use Rattle.diagram_read.specs.Values.{list_at, entries_from}
use Rattle.diagram_read.specs.Faults.{◌>>=◌, need}
use Rattle.diagram_read.specs.Settings.{with_settings_in}
use Rattle.diagram_read.specs.Nodes.{with_nodes_in}
use Rattle.diagram_read.specs.Edges.{with_edges_in}

-- the scene of a tree, or its first fault
abbrev pub scene_of : Pairs → Result Scene DiagramFault
scene_of tree = do
  graph ← need NoGraph (list_at (codes "graph") tree)
  set ← with_settings_in (list_at (codes "router") graph) empty_scene
  noded ← with_nodes_in set (entries_from 0 (codes "node") graph)
  with_edges_in noded (entries_from 0 (codes "edge") graph)
