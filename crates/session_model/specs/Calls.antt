-- The results of the calls of a session, and of a list of them.
use Rattle.std.specs.Prelude.{◌≡◌, ℕ, List, [], ◌∷◌, Result, Ok, Err, OnOk, OnErr, IfErr, IsOk, map}
use Rattle.std.specs.List.{AllByRecursion}
use Rattle.scene_model.specs.declared.fault.SessionFault.{SessionFault}
use Rattle.scene_model.specs.declared.fault.SessionFault.TheVariants.{Memory}
use Rattle.scene_model.specs.declared.edit.Command.{Command}
use Rattle.scene_model.specs.declared.edit.Command.TheVariants as commands
use Rattle.scene_model.specs.World.{IsDirectedCommand, World, step, rolled_back, played, refused}
use Rattle.scene_model.specs.Answers.{AreAnswers}
use Rattle.session_model.specs.State.{State}

-- the command is refused with this fault in the world; out of memory only where the world does not refuse it
abbrev pub IsFaultOf : Command → World → SessionFault → Type 0
IsFaultOf c w Memory = IsOk (step c w)
IsFaultOf c w fault = step c w ≡ Err (refused fault)

-- each pin that the commands add has a direction, where each has the number of its line
abbrev pub AreDirected : List (ℕ × Command) → Type 0
AreDirected commands = AllByRecursion (λ c. IsDirectedCommand c.1) commands

-- the property of every call: the world's step, or the world's refusal, after which there is no transaction; and right answers
pub record IsCall (c : Command) (answer : Result Unit SessionFault) (old new : State) : Type 0 where
  pub ok : OnOk answer (step c old.world ≡ Ok new.world)
  pub fault : IfErr answer (IsFaultOf c old.world)
  pub err : OnErr answer (new.world ≡ rolled_back old.world)
  pub right : AreAnswers new.world.present new.book

-- a command with the result of its call
pub record CommandResult : Type 0 where
  pub command : Command
  pub answer : Result Unit SessionFault

-- the calls lead from the first state to the last
abbrev pub AreCalls : List CommandResult → State → State → Type 0
AreCalls [] old new = new ≡ old
AreCalls (t ∷ ts) old new = (next : State) × IsCall t.command t.answer old next × AreCalls ts next new

-- the command as it took effect: one that is refused if the call ran out of memory
abbrev pub effect : Command → Result Unit SessionFault → Command
effect c (Ok done) = c
effect c (Err Memory) = commands.Bad
effect c (Err fault) = c

-- the law: after any list of calls the session's world is that of their commands, with the right answers of its present scene
abbrev pub SessionsAreWorlds : Type 0
SessionsAreWorlds =
    (calls : List CommandResult) (old new : State) → AreAnswers old.world.present old.book → AreCalls calls old new
    → (new.world ≡ played (map (λ t. effect t.command t.answer) calls) old.world) × AreAnswers new.world.present new.book

-- the law: an undo of a commit restores the scene and the book before it; a redo of that undo restores the world and the book after it
abbrev pub CommitsAreGivenBack : Type 0
CommitsAreGivenBack =
    (a b c d : State) → AreAnswers a.world.present a.book → IsCall commands.Commit (Ok tt) a b → IsCall commands.Undo (Ok tt) b c → IsCall commands.Redo (Ok tt) c d
    → (c.world.present ≡ a.world.present) × (c.book ≡ a.book) × (d.world ≡ b.world) × (d.book ≡ b.book)
