-- Diagrams in GML and scripts: their faults, and what is written.
use Rattle.std.specs.Prelude.{◌≡◌, ◌⊎◌, ℕ, ◌+◌, ◌-◌, ◌^◌, min, List, ◌++◌, length, take, drop, Option, None, Some}
use Rattle.gml_text.specs.declared.fault.GmlFault.{GmlFault}
use Rattle.gml_text.specs.declared.fault.GmlFault.TheVariants as gml
use Rattle.diagram_read.specs.declared.fault.Part.{Part}
use Rattle.diagram_read.specs.declared.fault.Part.TheVariants.{Router, Node, Edge, Pin, Via}
use Rattle.diagram_read.specs.declared.fault.DiagramFault.{DiagramFault}
use Rattle.diagram_read.specs.declared.fault.DiagramFault.TheVariants as diagrams
use Rattle.scene_model.specs.declared.edit.Command.{Command}
use Rattle.drawing.specs.declared.fault.OpenFault.{OpenFault}
use Rattle.drawing.specs.declared.fault.OpenFault.TheVariants as opens
use Rattle.drawing.specs.declared.script.Why.{Why}
use Rattle.drawing.specs.declared.script.Why.TheVariants.{NoForm, Refused}
use Rattle.drawing.specs.declared.script.Stopped.{Stopped}
use Rattle.drawing.specs.Drawing.{DrawingState, IsWritten}
use Rattle.drawing.specs.Opening.{IsOpenFault}
use Rattle.drawing.specs.Played.{IsPlayed}
use Rattle.reroute_c.specs.declared.fault.Fault.{Fault}
use Rattle.reroute_c.specs.Codes.{call_fault, memory_fault, no_fault, numbered, syntax_fault}

-- a part of a diagram, as a number
abbrev pub part_number : Part → ℕ
part_number Router = 1
part_number Node = 2
part_number Edge = 3
part_number Pin = 4
part_number Via = 5

-- a fault of a part, whose code is the part's after this one, with the part's place
abbrev pub part_fault : ℕ → Part → ℕ → Fault
part_fault code part place = numbered (code + part_number part) place

-- a fault at an offset, which is reported up to the greatest number
abbrev pub offset_fault : ℕ → ℕ → Fault
offset_fault code at = numbered code (min at (2 ^ 63 - 1))

-- why bytes are not valid GML
abbrev pub text_fault : GmlFault → Fault
text_fault (gml.Syntax at) = offset_fault 101 at
text_fault (gml.TooDeep at) = offset_fault 102 at
text_fault gml.Memory = memory_fault

-- why a document is not a valid diagram
abbrev pub diagram_fault : DiagramFault → Fault
diagram_fault diagrams.NoGraph = numbered 103 0
diagram_fault (diagrams.BadId place) = numbered 104 place
diagram_fault (diagrams.SameId place) = numbered 105 place
diagram_fault (diagrams.NoPlace place) = numbered 106 place
diagram_fault (diagrams.BadPin place) = numbered 107 place
diagram_fault (diagrams.BadEnd place) = numbered 108 place
diagram_fault (diagrams.BadVia place) = numbered 109 place
diagram_fault (diagrams.BadWeight place) = numbered 110 place
diagram_fault (diagrams.BadNumber part place) = part_fault 110 part place
diagram_fault (diagrams.OutOfRange part place) = part_fault 120 part place
diagram_fault (diagrams.TooMany part) = part_fault 130 part 0
diagram_fault diagrams.Memory = memory_fault

-- why a text opens no session
abbrev pub open_fault : OpenFault → Fault
open_fault (opens.Text fault) = text_fault fault
open_fault (opens.Diagram fault) = diagram_fault fault
open_fault opens.Memory = memory_fault

-- the text opens no session, and this is reported
abbrev pub IsUnopened : List ℕ → Fault → Type 0
IsUnopened text fault = (why : OpenFault) × IsOpenFault text why × (fault ≡ open_fault why)

-- the first bytes of a text, or items of a list, as many as there is room for, and then what was there
abbrev pub put_front : {X : Type 0} → ℕ → List X → List X → List X
put_front n text old = take n text ++ drop n old

abbrev pub overlaid : {X : Type 0} → List X → List X → List X
overlaid text old = put_front (min (length text) (length old)) text old

-- the diagram is written as far as there is room, and its whole length is reported
abbrev pub IsWrittenTo : DrawingState → List ℕ → List ℕ → ℕ → Type 0
IsWrittenTo d old new count = (text : List ℕ) × IsWritten d text × (new ≡ overlaid text old) × (count ≡ length text)

-- the fault of a script, and the line of its first command that is refused
abbrev pub why_fault : Why → Fault
why_fault NoForm = syntax_fault
why_fault (Refused fault) = call_fault fault

abbrev pub stop_fault : Option Stopped → Fault
stop_fault None = no_fault
stop_fault (Some stopped) = why_fault stopped.why

abbrev pub stop_line : Option Stopped → ℕ
stop_line None = 0
stop_line (Some stopped) = stopped.line

-- what is reported of the commands that are played
pub record ReportsPlayed (commands : List (ℕ × Command)) (fault : Fault) (line : ℕ) (old new : DrawingState) : Type 0 where
  pub stopped : Option Stopped
  pub played : IsPlayed commands stopped old new
  pub is_fault : fault ≡ stop_fault stopped
  pub is_line : line ≡ stop_line stopped

-- no memory is left before the first command
pub record ReportsUnplayed (fault : Fault) (line : ℕ) (old new : DrawingState) : Type 0 where
  pub same : new ≡ old
  pub is_fault : fault ≡ memory_fault
  pub is_line : line ≡ 0

abbrev pub ReportsScript : List (ℕ × Command) → Fault → ℕ → DrawingState → DrawingState → Type 0
ReportsScript commands fault line old new = ReportsPlayed commands fault line old new ⊎ ReportsUnplayed fault line old new
