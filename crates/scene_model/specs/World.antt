-- The world of a session, and the effect of each command on it.
use Rattle.std.specs.Prelude.{◌≡◌, List, [], ◌∷◌, take, Option, None, Some, IfSome, Result, Ok, Err}
use Rattle.std.specs.List.{AllByRecursion}
use Rattle.scene_model.specs.declared.fault.SceneFault.{SceneFault}
use Rattle.scene_model.specs.declared.fault.SessionFault.{SessionFault}
use Rattle.scene_model.specs.declared.fault.SessionFault.TheVariants as faults
use Rattle.scene_model.specs.declared.edit.Edit.{Edit as SceneEdit}
use Rattle.scene_model.specs.declared.edit.Command.{Command}
use Rattle.scene_model.specs.declared.edit.Command.TheVariants.{Begin, Edit, Commit, Abort, Undo, Redo, Bad}
use Rattle.scene_model.specs.Scene.{Scene}
use Rattle.scene_model.specs.Valid.{IsValid}
use Rattle.scene_model.specs.Edits.{refusal, changed, edited, IsDirected}

-- the past scenes, the latest first; the present one; the future ones, the next first; and the working one of an open transaction
pub record World : Type 0 where
  pub past : List Scene
  pub present : Scene
  pub future : List Scene
  pub working : Option Scene

-- the world before any command
abbrev pub opened : Scene → World
opened s = record { past = []; present = s; future = []; working = None }

-- the world without its transaction
abbrev pub rolled_back : World → World
rolled_back w = record w { working = None }

-- why a command is refused
pub data CommandRefusal : Type 0 where
  syntax_error : CommandRefusal
  refused : SessionFault → CommandRefusal

-- the working scene after an edit
abbrev pub edit_working : World → Result Scene SceneFault → Result World CommandRefusal
edit_working w (Ok s) = Ok (record w { working = Some s })
edit_working w (Err fault) = Err (refused (faults.Edit fault))

-- one scene back, and one scene forward
abbrev pub one_scene_back : World → List Scene → Result World CommandRefusal
one_scene_back w [] = Err (refused faults.NothingToUndo)
one_scene_back w (s ∷ ss) = Ok (record { past = ss; present = s; future = w.present ∷ w.future; working = None })

abbrev pub one_scene_on : World → List Scene → Result World CommandRefusal
one_scene_on w [] = Err (refused faults.NothingToRedo)
one_scene_on w (s ∷ ss) = Ok (record { past = w.present ∷ w.past; present = s; future = ss; working = None })

-- the world after a command, with this working scene, if it is not refused; at most 100 past scenes are kept
abbrev pub taken : Command → Option Scene → World → Result World CommandRefusal
taken Bad working w = Err syntax_error
taken Begin None w = Ok (record w { working = Some w.present })
taken Begin (Some s) w = Err (refused faults.AlreadyOpen)
taken (Edit e) None w = Err (refused faults.NoTransaction)
taken (Edit e) (Some s) w = edit_working w (edited e s)
taken Commit None w = Err (refused faults.NoTransaction)
taken Commit (Some s) w = Ok (record { past = take 100 (w.present ∷ w.past); present = s; future = []; working = None })
taken Abort None w = Err (refused faults.NoTransaction)
taken Abort (Some s) w = Ok (rolled_back w)
taken Undo None w = one_scene_back w w.past
taken Undo (Some s) w = Err (refused faults.AlreadyOpen)
taken Redo None w = one_scene_on w w.future
taken Redo (Some s) w = Err (refused faults.AlreadyOpen)

-- the world after a command, if it is not refused
abbrev pub step : Command → World → Result World CommandRefusal
step c w = taken c w.working w

-- after a refusal no transaction is open, and everything else is as before
abbrev pub or_rolled_back : World → Result World CommandRefusal → World
or_rolled_back w (Ok next) = next
or_rolled_back w (Err refusal) = rolled_back w

-- the world after a command, and after a list of them
abbrev pub next_world : Command → World → World
next_world c w = or_rolled_back w (step c w)

abbrev pub played : List Command → World → World
played [] w = w
played (c ∷ cs) w = played cs (next_world c w)

-- the property holds for each scene of a world
pub record Everywhere (P : Scene → Type 0) (w : World) : Type 0 where
  pub past : AllByRecursion P w.past
  pub present : P w.present
  pub future : AllByRecursion P w.future
  pub working : IfSome w.working P

-- a pin that a command adds has a direction, as each of a script has
abbrev pub IsDirectedCommand : Command → Type 0
IsDirectedCommand (Edit e) = IsDirected e
IsDirectedCommand c = Unit {0}

-- the property is kept by each edit that is not refused
abbrev pub EditsKeep : (Scene → Type 0) → Type 0
EditsKeep P = (e : SceneEdit) (s : Scene) → IsDirected e → P s → refusal e s ≡ None → P (changed e s)

-- the law: the scenes of a world stay valid
abbrev pub ScenesStayValid : Type 0
ScenesStayValid = (cs : List Command) (w : World) → AllByRecursion IsDirectedCommand cs → Everywhere IsValid w → Everywhere IsValid (played cs w)
