-- The lines of a session, and those that a commit would give.
use Rattle.std.specs.Prelude.{List, IsNone, IsSome, Ok}
use Rattle.walk_model.specs.declared.route.WrittenRoute.{WrittenRoute}
use Rattle.walk_model.specs.declared.route.Answer.{Answer}
use Rattle.nudge_phases.specs.Apart.{KeepsApart}
use Rattle.nudge_phases.specs.Nudged.{AreLegalNudgedLines, AreLines}
use Rattle.scene_model.specs.Scene.{Scene}
use Rattle.scene_model.specs.declared.edit.Command.TheVariants.{Commit}
use Rattle.scene_model.specs.declared.fault.SessionFault.{SessionFault}
use Rattle.scene_model.specs.declared.fault.SessionFault.TheVariants.{Memory, NoTransaction}
use Rattle.session_model.specs.Calls.{IsCall}
use Rattle.session_model.specs.State.{State}

-- the lines are those of the right answers of the scene, nudged; they are legal, and their separations are met
pub record AreDrawn (s : Scene) (answers : List Answer) (lines : List WrittenRoute) : Type 0 where
  pub are_lines : AreLines s answers lines
  pub apart_x : KeepsApart are_lines.nudged.nudged.x
  pub apart_y : KeepsApart are_lines.nudged.nudged.y
  pub legal : AreLegalNudgedLines s answers lines

-- the lines are those of the session after a commit of its open transaction
pub record AreProposed (s : State) (lines : List WrittenRoute) : Type 0 where
  pub after : State
  pub commit : IsCall Commit (Ok tt) s after
  pub drawn : AreDrawn after.world.present after.book lines

-- a preview is refused where no transaction is open, and otherwise only where memory runs out
abbrev pub IsUnproposed : State → SessionFault → Type 0
IsUnproposed s NoTransaction = IsNone s.world.working
IsUnproposed s Memory = IsSome s.world.working
IsUnproposed s fault = ⊥
