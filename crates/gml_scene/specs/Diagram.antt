-- The diagram of a scene with its nudged lines, printed.
use Rattle.std.specs.Prelude.{◌≡◌, ℕ, List, [], ◌++◌}
use Rattle.gml_text.specs.Tree.{Pairs}
use Rattle.gml_text.specs.Printed.{printed}
use Rattle.walk_model.specs.declared.route.Answer.{Answer}
use Rattle.walk_model.specs.declared.route.WrittenRoute.{WrittenRoute}
use Rattle.scene_model.specs.Scene.{Scene}
use Rattle.nudge_phases.specs.Nudged.{AreLines}
use Rattle.gml_scene.specs.Labels.{LabelLists}
use Rattle.gml_scene.specs.Tree.{tree_of}

-- the text before, followed by the printed diagram of a scene with its labels and nudged lines, where `was` is the scene that is read from the diagram's tree
pub record EndsInDiagram (tree : Pairs) (was s : Scene) (labels : LabelLists) (answers : List Answer) (before text : List ℕ) : Type 0 where
  pub lines : List WrittenRoute
  pub are_lines : AreLines s answers lines
  pub is_text : text ≡ before ++ printed (tree_of tree was s labels lines)

-- the printed diagram alone
abbrev pub IsDiagram : Pairs → Scene → Scene → LabelLists → List Answer → List ℕ → Type 0
IsDiagram tree was s labels answers text = EndsInDiagram tree was s labels answers [] text
