-- A connector that is moved to another box: a cut, and a new connector with what the old one had.
use Rattle.std.specs.Prelude.{◌≡◌, ◌⊎◌, ℕ, ◌+◌, ℤ, List, [], ◌∷◌, Option, None, Some, Result, Ok, Err}
use Rattle.plane_geom.specs.declared.point.Point.{Point}
use Rattle.scene_model.specs.declared.edge.Edge.{Edge}
use Rattle.scene_model.specs.declared.edit.Edit.{Edit as SceneEdit}
use Rattle.scene_model.specs.declared.edit.Edit.TheVariants.{AddEdge, AddVia, CutEdge}
use Rattle.scene_model.specs.declared.edit.Command.TheVariants.{Edit}
use Rattle.scene_model.specs.declared.fault.SessionFault.{SessionFault}
use Rattle.scene_model.specs.declared.fault.SessionFault.TheVariants.{Memory}
use Rattle.scene_model.specs.Scene.{Scene, edge_with}
use Rattle.drawing.specs.declared.reconnect.End.{End}
use Rattle.drawing.specs.declared.reconnect.End.TheVariants.{From, To}
use Rattle.drawing.specs.Drawing.{DrawingState, IsDrawingCall, RollsBack, edited_scene, next_edge}

-- the connector with this end at the box, at a pin of the class; the other end stays as it is
abbrev pub joined : Edge → End → ℤ → ℕ → SceneEdit
joined e From id class = AddEdge id e.to class e.to_class
joined e To id class = AddEdge e.from id e.from_class class

-- the checkpoints of the connector with this number, from this place on
abbrev pub passing : ℕ → ℕ → List Point → List SceneEdit
passing number place [] = []
passing number place (p ∷ ps) = AddVia number place p.x p.y ∷ passing number (place + 1) ps

-- the new connector, if the old one is there, with its checkpoints
abbrev pub rejoined : Option Edge → ℕ → End → ℤ → ℕ → List SceneEdit
rejoined None next end id class = []
rejoined (Some e) next end id class = joined e end id class ∷ passing next 1 e.via

-- the edits that move an end of the connector with this number to the box
abbrev pub reconnection : Scene → ℕ → End → ℤ → ℕ → List SceneEdit
reconnection s number end id class = CutEdge number ∷ rejoined (edge_with s number) s.next_edge end id class

-- the edits are made, one after the other, or those before the first that is refused with this fault
abbrev pub AreEdited : List SceneEdit → Result Unit SessionFault → DrawingState → DrawingState → Type 0
AreEdited [] (Ok done) old new = new ≡ old
AreEdited [] (Err fault) old new = ⊥
AreEdited (e ∷ es) (Ok done) old new = (middle : DrawingState) × IsDrawingCall (Edit e) (Ok tt) old middle × AreEdited es (Ok tt) middle new
AreEdited (e ∷ es) (Err fault) old new =
    IsDrawingCall (Edit e) (Err fault) old new ⊎ ((middle : DrawingState) × IsDrawingCall (Edit e) (Ok tt) old middle × AreEdited es (Err fault) middle new)

-- all edits are made, and the number is that of the new connector; or one is refused, or no memory is left for any
abbrev pub AreMade : List SceneEdit → Result ℕ SessionFault → DrawingState → DrawingState → Type 0
AreMade es (Ok number) old new = AreEdited es (Ok tt) old new × (number ≡ next_edge old.session.world)
AreMade es (Err fault) old new = AreEdited es (Err fault) old new ⊎ ((fault ≡ Memory) × RollsBack old new)

-- the connector is moved, with this answer
abbrev pub IsReconnected : ℕ → End → ℤ → ℕ → Result ℕ SessionFault → DrawingState → DrawingState → Type 0
IsReconnected number end id class answer old new =
    AreMade (reconnection (edited_scene old.session.world.working old.session.world.present) number end id class) answer old new
