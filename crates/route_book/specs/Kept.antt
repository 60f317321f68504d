-- Which answers stay right after an edit.
use Rattle.std.specs.Prelude.{List}
use Rattle.walk_model.specs.declared.route.Answer.{Answer}
use Rattle.scene_model.specs.declared.edge.Edge.{Edge}
use Rattle.scene_model.specs.Scene.{Scene}
use Rattle.scene_model.specs.Valid.{IsValid}
use Rattle.scene_model.specs.Answers.{IsAnswerOf, AreAnswers}
use Rattle.scene_model.specs.Stale.{IsCurrent}

-- the law of reuse: the answer of a connector that is not stale is also right in the new scene
abbrev pub CurrentAnswersStay : Type 0
CurrentAnswersStay = (old new : Scene) (answers : List Answer) (e : Edge) → IsValid old → IsValid new → AreAnswers old answers
    → (c : IsCurrent old answers new e) → IsAnswerOf new e c.answer
