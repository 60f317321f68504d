-- A script that is played up to its first command that is refused.
use Rattle.std.specs.Prelude.{◌≡◌, ℕ, List, ◌∷◌, ◌++◌, map, Option, None, Some, Ok, Err}
use Rattle.scene_model.specs.declared.edit.Command.{Command}
use Rattle.scene_model.specs.declared.edit.Command.TheVariants.{Bad}
use Rattle.session_model.specs.Calls.{AreCalls, CommandResult}
use Rattle.drawing.specs.declared.script.Why.{Why}
use Rattle.drawing.specs.declared.script.Why.TheVariants.{NoForm, Refused}
use Rattle.drawing.specs.declared.script.Stopped.{Stopped}
use Rattle.drawing.specs.Drawing.{DrawingState, RollsBack, IsDrawingCall, Keeps}

-- a command that is done
abbrev pub done : ℕ × Command → CommandResult
done c = record { command = c.1; answer = Ok tt }

-- the commands are done, one after the other
pub record AreDone (commands : List (ℕ × Command)) (old new : DrawingState) : Type 0 where
  pub calls : AreCalls (map done commands) old.session new.session
  pub keeps : Keeps old new

-- the command is refused for this reason, or no memory is left for it
abbrev pub IsRefused : Command → Why → DrawingState → DrawingState → Type 0
IsRefused c NoForm old new = (c ≡ Bad) × RollsBack old new
IsRefused c (Refused fault) old new = IsDrawingCall c (Err fault) old new

-- the command is done, or refused
abbrev pub IsCommandPlayed : Command → Option Why → DrawingState → DrawingState → Type 0
IsCommandPlayed c None old new = IsDrawingCall c (Ok tt) old new
IsCommandPlayed c (Some why) old new = IsRefused c why old new

-- the commands before one of this line are done, and it is refused
pub record StopsAt (commands : List (ℕ × Command)) (stopped : Stopped) (old new : DrawingState) : Type 0 where
  pub before : List (ℕ × Command)
  pub command : Command
  pub rest : List (ℕ × Command)
  pub split : commands ≡ before ++ (stopped.line, command) ∷ rest
  pub middle : DrawingState
  pub are_done : AreDone before old middle
  pub is_refused : IsRefused command stopped.why middle new

-- all commands are done, or those before the first that is refused
abbrev pub IsPlayed : List (ℕ × Command) → Option Stopped → DrawingState → DrawingState → Type 0
IsPlayed commands None old new = AreDone commands old new
IsPlayed commands (Some stopped) old new = StopsAt commands stopped old new
