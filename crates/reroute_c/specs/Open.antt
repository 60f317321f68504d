-- What a call does on an open handle.
use Rattle.std.specs.Prelude.{◌≡◌, Option, IfSome, IsNone}
use Rattle.gml_text.specs.View.{tree}
use Rattle.scene_model.specs.Scene.{empty_scene}
use Rattle.drawing.specs.Drawing.{DrawingState, IsOpened}
use Rattle.drawing.specs.Opening.{empty_diagram}
use Rattle.reroute_c.specs.declared.fault.Fault.{Fault}
use Rattle.reroute_c.specs.Codes.{closed_fault}

-- this holds of what a handle holds before and after, if it is open both times
abbrev pub IfOpen : Option DrawingState → Option DrawingState → (DrawingState → DrawingState → Type 0) → Type 0
IfOpen old new holds = IfSome old (λ s. IfSome new (λ n. holds s n))

-- a call on a closed handle is refused, and the handle stays closed
abbrev pub IsRefusedClosed : Fault → Option DrawingState → Type 0
IsRefusedClosed fault new = (fault ≡ closed_fault) × IsNone new

-- a session on the empty scene of a diagram without a node
pub record IsOpenedEmpty (n : DrawingState) : Type 0 where
  pub opened : IsOpened empty_scene n
  pub document : tree n.document ≡ empty_diagram
