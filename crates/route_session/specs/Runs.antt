-- What the call of a command does to the book and to the two numbers of a session, and why it is refused.
use Rattle.std.specs.Prelude.{◌≡◌, ◌≢◌, ℕ, Result, Ok, Err}
use Rattle.line_arena.specs.Count.{counted_by}
use Rattle.graph_repair.specs.Change.{CountsWrites}
use Rattle.scene_model.specs.declared.edit.Command.{Command}
use Rattle.scene_model.specs.declared.edit.Command.TheVariants.{Edit, Commit, Abort, Undo, Redo}
use Rattle.scene_model.specs.declared.fault.SceneFault.TheVariants as scene_faults
use Rattle.scene_model.specs.declared.fault.SessionFault.{SessionFault}
use Rattle.scene_model.specs.declared.fault.SessionFault.TheVariants as faults
use Rattle.scene_model.specs.declared.fault.SessionFault.TheVariants.{Memory}
use Rattle.scene_model.specs.Routing.{floor_of}
use Rattle.session_model.specs.State.{State}
use Rattle.route_book.specs.Exchange.{CountsStale}

-- a commit searches the stale connectors, and nothing else searches; the answers change only where a commit, an undo or a redo is done
abbrev pub Searches : Command → Result Unit SessionFault → State → State → Type 0
Searches Commit (Ok done) old new = CountsStale old.world.present old.book new.world.present old.searched new.searched
Searches Commit (Err Memory) old new = (new.book ≡ old.book) × ((n : ℕ) × (new.searched ≡ counted_by n old.searched))
Searches Undo (Ok done) old new = new.searched ≡ old.searched
Searches Redo (Ok done) old new = new.searched ≡ old.searched
Searches c answer old new = (new.book ≡ old.book) × (new.searched ≡ old.searched)

-- where the present scene is exchanged, the lines and crossings are written that its graph did not have, and nothing else is
abbrev pub Writes : Command → Result Unit SessionFault → State → State → Type 0
Writes Commit (Ok done) old new = CountsWrites (floor_of old.world.present) (floor_of new.world.present) old.written new.written
Writes Commit (Err Memory) old new = (n : ℕ) × (new.written ≡ counted_by n old.written)
Writes Undo (Ok done) old new = CountsWrites (floor_of old.world.present) (floor_of new.world.present) old.written new.written
Writes Redo (Ok done) old new = CountsWrites (floor_of old.world.present) (floor_of new.world.present) old.written new.written
Writes c answer old new = new.written ≡ old.written

-- an abort takes no memory, so it is refused only where no transaction is open; out of memory is no fault of an edit
abbrev pub IsRefusable : Command → SessionFault → Type 0
IsRefusable Abort fault = fault ≡ faults.NoTransaction
IsRefusable (Edit e) fault = fault ≢ faults.Edit scene_faults.Memory
IsRefusable c fault = Unit {0}
