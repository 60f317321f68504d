-- Proposed transactions have answers.
use Rattle.std.specs.Prelude.{List}
use Rattle.std.specs.List.{AllByRecursion}
use Rattle.walk_model.specs.declared.route.Answer.{Answer}
use Rattle.scene_model.specs.declared.edit.Edit.{Edit}
use Rattle.scene_model.specs.Scene.{Scene}
use Rattle.scene_model.specs.Valid.{IsValid}
use Rattle.scene_model.specs.Answers.{AreAnswers}
use Rattle.scene_model.specs.Edits.{IsDirected}
use Rattle.preview.specs.declared.answer.Previewed.{Previewed}
use Rattle.preview.specs.Previews.{IsPreview}

-- the law: edits of a valid scene with right answers, whose pins have directions, have an answer
abbrev pub HavePreviews : Type 0
HavePreviews = (s : Scene) (answers : List Answer) (edits : List Edit) → IsValid s → AreAnswers s answers → AllByRecursion IsDirected edits →
    (answer : Previewed) × IsPreview s answers edits answer
