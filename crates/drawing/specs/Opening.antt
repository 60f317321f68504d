-- The session that a text of GML opens, or why it opens none.
use Rattle.std.specs.Prelude.{◌≡◌, ℕ, List, codes, Ok, Err}
use Rattle.gml_text.specs.declared.fault.GmlFault.TheVariants as gml
use Rattle.gml_text.specs.Parse.{IsDocument, IsSyntaxAt, IsTooDeepAt}
use Rattle.gml_text.specs.Tree.{Pairs, list, no_pairs, pair}
use Rattle.gml_text.specs.View.{tree}
use Rattle.diagram_read.specs.declared.fault.DiagramFault.{DiagramFault}
use Rattle.diagram_read.specs.declared.fault.DiagramFault.TheVariants as diagrams
use Rattle.diagram_read.specs.Scene.{scene_of}
use Rattle.scene_model.specs.Scene.{Scene}
use Rattle.drawing.specs.declared.fault.OpenFault.{OpenFault}
use Rattle.drawing.specs.declared.fault.OpenFault.TheVariants.{Text, Diagram, Memory}
use Rattle.drawing.specs.Drawing.{DrawingState, IsOpened}

-- the diagram without a node
abbrev pub empty_diagram : Pairs
empty_diagram = pair (codes "graph") (list no_pairs) no_pairs

-- the text is this document, and its scene is opened
pub record Opens (text : List ℕ) (d : DrawingState) : Type 0 where
  pub scene : Scene
  pub document : IsDocument (tree d.document) text
  pub source : scene_of (tree d.document) ≡ Ok scene
  pub opened : IsOpened scene d

-- the text is GML and not a valid diagram, for this reason
pub record IsNoDiagram (text : List ℕ) (fault : DiagramFault) : Type 0 where
  pub document : Pairs
  pub is_document : IsDocument document text
  pub refused : scene_of document ≡ Err fault

-- the text opens nothing, for this reason; where memory runs out nothing is said of the text
abbrev pub IsOpenFault : List ℕ → OpenFault → Type 0
IsOpenFault text (Text (gml.Syntax at)) = IsSyntaxAt text at
IsOpenFault text (Text (gml.TooDeep at)) = IsTooDeepAt text at
IsOpenFault text (Text gml.Memory) = Unit {0}
IsOpenFault text (Diagram diagrams.Memory) = Unit {0}
IsOpenFault text (Diagram fault) = IsNoDiagram text fault
IsOpenFault text Memory = Unit {0}
