-- The report, followed by the diagram.
use Rattle.std.specs.Prelude.{ℕ, Bool, List}
use Rattle.gml_text.specs.Tree.{Pairs}
use Rattle.walk_model.specs.declared.route.Answer.{Answer}
use Rattle.scene_model.specs.Scene.{Scene}
use Rattle.scene_model.specs.World.{World}
use Rattle.report_text.specs.declared.reply.LineReply.{LineReply}
use Rattle.gml_scene.specs.Diagram.{EndsInDiagram}
use Rattle.gml_scene.specs.Labels.{no_labels}
use Rattle.form_route.specs.Report.{report}

-- the report on the replies, followed by the printed diagram of the world's present scene, without labels
abbrev pub IsOutput : Pairs → Scene → Bool → ℕ → List LineReply → World → List Answer → List ℕ → Type 0
IsOutput tree was count opening replies end answers text = EndsInDiagram tree was end.present no_labels answers (report count opening replies end answers) text
