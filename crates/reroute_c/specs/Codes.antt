-- The code and the value by which C learns why a call is refused, and what such a call did.
use Rattle.std.specs.Prelude.{◌≡◌, ℕ, pos, Result, Ok, Err}
use Rattle.scene_model.specs.declared.fault.SceneFault.{SceneFault}
use Rattle.scene_model.specs.declared.fault.SceneFault.TheVariants as scenes
use Rattle.scene_model.specs.declared.fault.SessionFault.{SessionFault}
use Rattle.scene_model.specs.declared.fault.SessionFault.TheVariants as faults
use Rattle.scene_model.specs.declared.edit.Command.{Command}
use Rattle.drawing.specs.Drawing.{DrawingState, IsDrawingCall}
use Rattle.reroute_c.specs.declared.fault.Fault.{Fault}

-- nothing is refused; what is asked for is not valid; no transaction is open; a session is open; there is no session; there is no memory
abbrev pub no_fault : Fault
no_fault = record { code = 0; value = pos 0 }

abbrev pub syntax_fault : Fault
syntax_fault = record { code = 1; value = pos 0 }

abbrev pub no_transaction_fault : Fault
no_transaction_fault = record { code = 2; value = pos 0 }

abbrev pub already_open_fault : Fault
already_open_fault = record { code = 3; value = pos 0 }

abbrev pub closed_fault : Fault
closed_fault = record { code = 98; value = pos 0 }

abbrev pub memory_fault : Fault
memory_fault = record { code = 99; value = pos 0 }

-- a fault that names a number
abbrev pub numbered : ℕ → ℕ → Fault
numbered c n = record { code = c; value = pos n }

-- why an edit is refused, and what the refusal names
abbrev pub edit_fault : SceneFault → Fault
edit_fault (scenes.UnknownNode id) = record { code = 4; value = id }
edit_fault (scenes.UnknownEdge number) = numbered 5 number
edit_fault (scenes.NodeExists id) = record { code = 6; value = id }
edit_fault (scenes.NodeInUse edge) = numbered 7 edge
edit_fault (scenes.SameNode id) = record { code = 8; value = id }
edit_fault (scenes.OutOfRange word) = numbered 9 word
edit_fault (scenes.PinOutside place) = numbered 10 place
edit_fault (scenes.UnknownPinClass class) = numbered 11 class
edit_fault (scenes.NoSuchPlace place) = numbered 12 place
edit_fault (scenes.TooMany limit) = numbered 13 limit
edit_fault (scenes.PinInUse edge) = numbered 17 edge
edit_fault scenes.Memory = memory_fault

-- why a call is refused
abbrev pub call_fault : SessionFault → Fault
call_fault faults.NoTransaction = no_transaction_fault
call_fault faults.AlreadyOpen = already_open_fault
call_fault faults.NothingToUndo = record { code = 14; value = pos 0 }
call_fault faults.NothingToRedo = record { code = 15; value = pos 0 }
call_fault (faults.Edit fault) = edit_fault fault
call_fault faults.Memory = memory_fault

-- the fault of an answer
abbrev pub fault_of : Result Unit SessionFault → Fault
fault_of (Ok done) = no_fault
fault_of (Err fault) = call_fault fault

-- the session's call of the command has an answer with this fault
abbrev pub IsFaultAnswered : Command → Fault → DrawingState → DrawingState → Type 0
IsFaultAnswered c fault old new = (answer : Result Unit SessionFault) × (fault ≡ fault_of answer) × IsDrawingCall c answer old new
