-- A turn toward the past or the future of a session. No public clause cites this module.
use Rattle.std.specs.Prelude.{List}
use Rattle.scene_model.specs.declared.edit.Command.{Command}
use Rattle.scene_model.specs.declared.edit.Command.TheVariants.{Redo, Undo}
use Rattle.scene_model.specs.declared.fault.SessionFault.{SessionFault}
use Rattle.scene_model.specs.declared.fault.SessionFault.TheVariants.{NothingToRedo, NothingToUndo}
use Rattle.scene_model.specs.Inverses.{redone, taken_back}
use Rattle.scene_model.specs.Scene.{Scene}
use Rattle.undo_log.specs.declared.step.Step.{Step}
use Rattle.undo_log.specs.Lending.{gone_back, gone_forth}
use Rattle.undo_log.specs.Log.{Log}
use Rattle.route_book.specs.Exchange.{Exchange}
use Rattle.route_session.specs.declared.turning.Toward.{Toward}
use Rattle.route_session.specs.declared.turning.Toward.TheVariants.{Future, Past}
use Rattle.route_session.specs.Upheld.{AreFree, AreRestorable}

-- the command that turns there
abbrev pub turn_command : Toward → Command
turn_command Past = Undo
turn_command Future = Redo

-- why it is refused if no step lies there
abbrev pub no_step : Toward → SessionFault
no_step Past = NothingToUndo
no_step Future = NothingToRedo

-- the steps that lie there, the nearest first
abbrev pub steps_toward : Toward → Log Exchange → List (Step Exchange)
steps_toward Past l = l.past
steps_toward Future l = l.future

-- the scene to which a step leads
abbrev pub scene_toward : Toward → Step Exchange → Scene → Scene
scene_toward Past t s = taken_back t.back s
scene_toward Future t s = redone t.forth s

-- the step may be taken from the scene
abbrev pub MayTurn : Toward → Step Exchange → Scene → Type 0
MayTurn Past t s = AreRestorable t.back s
MayTurn Future t s = AreFree t.forth s

-- the history after its nearest step that lies there went to the other side, as this one
abbrev pub turned_log : Toward → Log Exchange → Step Exchange → Log Exchange
turned_log Past l t = gone_back l t
turned_log Future l t = gone_forth l t
