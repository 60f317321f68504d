-- Right answers can be nudged.
use Rattle.std.specs.Prelude.{List}
use Rattle.walk_model.specs.declared.route.Answer.{Answer}
use Rattle.walk_model.specs.declared.route.WrittenRoute.{WrittenRoute}
use Rattle.scene_model.specs.Scene.{Scene}
use Rattle.scene_model.specs.Valid.{IsValid}
use Rattle.scene_model.specs.Answers.{AreAnswers}
use Rattle.nudge_phases.specs.Nudged.{IsNudgedScene}

-- the law: right answers of a valid scene have nudged lines
abbrev pub HaveNudgedLines : Type 0
HaveNudgedLines = (s : Scene) (answers : List Answer) → IsValid s → AreAnswers s answers →
    (lines : List WrittenRoute) × IsNudgedScene s answers lines
