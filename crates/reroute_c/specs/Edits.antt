-- What edits from C ask for.
use Rattle.std.specs.Prelude.{◌≡◌, ◌||◌, ℕ, ℤ, Bool, true, false, Result, Ok, Err}
use Rattle.scene_model.specs.declared.fault.SessionFault.{SessionFault}
use Rattle.scene_model.specs.declared.pin.Dirs.{Dirs}
use Rattle.drawing.specs.declared.reconnect.End.{End}
use Rattle.drawing.specs.declared.reconnect.End.TheVariants.{From, To}
use Rattle.drawing.specs.Drawing.{DrawingState, RollsBack}
use Rattle.drawing.specs.Reconnect.{IsReconnected}
use Rattle.reroute_c.specs.declared.edits.Directions.{Directions}
use Rattle.reroute_c.specs.declared.fault.Fault.{Fault}
use Rattle.reroute_c.specs.Codes.{call_fault, no_fault, numbered}

-- the directions of a pin
abbrev pub dirs_of : Directions → Dirs
dirs_of d = record { east = d.east; south = d.south; west = d.west; north = d.north }

-- it is at least one
abbrev pub has_direction : Directions → Bool
has_direction d = d.east || d.south || d.west || d.north

-- the id of a box, which is the second parameter, is beyond those that a diagram can have
abbrev pub long_id_fault : Fault
long_id_fault = numbered 9 2

-- what was asked for is not valid for this reason, and the transaction is dropped
abbrev pub IsRolledBack : Fault → Fault → DrawingState → DrawingState → Type 0
IsRolledBack why fault old new = (fault ≡ why) × RollsBack old new

-- the end where a connector begins, or its target, where it ends
abbrev pub end_of : Bool → End
end_of false = From
end_of true = To

-- the fault of an answer that has a number
abbrev pub number_fault : Result ℕ SessionFault → Fault
number_fault (Ok number) = no_fault
number_fault (Err fault) = call_fault fault

-- the connector is moved, or is not for this reason
abbrev pub Reconnects : ℕ → End → ℤ → ℕ → Fault → DrawingState → DrawingState → Type 0
Reconnects connector end id class fault old new =
    (answer : Result ℕ SessionFault) × (fault ≡ number_fault answer) × IsReconnected connector end id class answer old new
