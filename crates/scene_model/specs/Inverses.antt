-- The inverses of edits.
use Rattle.std.specs.Prelude.{◌≡◌, ℕ, suc, ◌+◌, ◌-◌, ◌<◌, ◌≤◌, ◌==◌, ℤ, not, List, [], ◌∷◌, length, filter, insert, position, None, IsSome, IsNone}
use Rattle.std.specs.Ordering.{int_eq}
use Rattle.std.specs.Option.{option_map_or}
use Rattle.scene_model.specs.declared.settings.Settings.{Settings}
use Rattle.scene_model.specs.declared.settings.Setting.{Setting}
use Rattle.scene_model.specs.declared.settings.Setting.TheVariants.{Penalty, Buffer, Nudge}
use Rattle.scene_model.specs.declared.edit.Edit.{Edit}
use Rattle.scene_model.specs.declared.edit.Edit.TheVariants as edit
use Rattle.scene_model.specs.declared.edit.Inverse.{Inverse}
use Rattle.scene_model.specs.declared.edit.Inverse.TheVariants.{PutNode, TakeNode, SetNode, PutEdge, TakeEdge, SetEdge, Set}
use Rattle.scene_model.specs.Scene.{Scene, node_with, edge_with}
use Rattle.scene_model.specs.Valid.{IsValid}
use Rattle.scene_model.specs.Edits.{refusal, changed, IsDirected, change_node, change_edge, with_setting}

-- the scene after an inverse
abbrev pub restored : Inverse → Scene → Scene
restored (PutNode place node) s = record s { nodes = insert s.nodes (place - 1) node }
restored (TakeNode id) s = record s { nodes = filter (λ n. not (int_eq n.id id)) s.nodes }
restored (SetNode node) s = change_node s node.id (λ _. node)
restored (PutEdge place edge) s = record s { edges = insert s.edges (place - 1) edge }
restored (TakeEdge number next) s = record s { edges = filter (λ e. not (e.number == number)) s.edges; next_edge = next }
restored (SetEdge edge) s = change_edge s edge.number (λ _. edge)
restored (Set what value) s = record s { settings = with_setting what value s.settings }

-- what is to be removed or replaced exists, what is to be inserted does not, and the place is within the list or right after it
abbrev pub Fits : Inverse → Scene → Type 0
Fits (PutNode place node) s = IsNone (node_with s node.id) × (0 < place) × (place ≤ length s.nodes + 1)
Fits (TakeNode id) s = IsSome (node_with s id)
Fits (SetNode node) s = IsSome (node_with s node.id)
Fits (PutEdge place edge) s = IsNone (edge_with s edge.number) × (0 < place) × (place ≤ length s.edges + 1)
Fits (TakeEdge number next) s = IsSome (edge_with s number)
Fits (SetEdge edge) s = IsSome (edge_with s edge.number)
Fits (Set what value) s = Unit {0}

-- the inverse may be applied to the scene
pub record IsRestorable (i : Inverse) (s : Scene) : Type 0 where
  pub fits : Fits i s
  pub valid : IsValid (restored i s)

-- the value of a setting
abbrev pub setting_value : Setting → Settings → ℤ
setting_value Penalty t = t.penalty
setting_value Buffer t = t.buffer
setting_value Nudge t = t.nudge

-- the inverse that puts the node, or the edge, as it is now in place of the changed one
abbrev pub set_node : Scene → ℤ → Inverse
set_node s id = option_map_or SetNode (node_with s id) (TakeNode id)

abbrev pub set_edge : Scene → ℕ → Inverse
set_edge s number = option_map_or SetEdge (edge_with s number) (TakeEdge number s.next_edge)

-- the inverse that puts the node, or the edge, as it is now back at its place among the others
abbrev pub put_node : Scene → ℤ → Inverse
put_node s id = option_map_or (λ n. PutNode (suc (option_map_or (λ k. k) (position (λ m. int_eq m.id id) s.nodes) 0)) n) (node_with s id) (TakeNode id)

abbrev pub put_edge : Scene → ℕ → Inverse
put_edge s number = option_map_or (λ e. PutEdge (suc (option_map_or (λ k. k) (position (λ d. d.number == number) s.edges) 0)) e) (edge_with s number) (TakeEdge number s.next_edge)

-- the inverse of an edit that is not refused on the scene
abbrev pub inverse_of : Edit → Scene → Inverse
inverse_of (edit.AddNode id x y w h) s = TakeNode id
inverse_of (edit.MoveNode id x y) s = set_node s id
inverse_of (edit.SizeNode id w h) s = set_node s id
inverse_of (edit.DropNode id) s = put_node s id
inverse_of (edit.AddPin id class dx dy dirs) s = set_node s id
inverse_of (edit.DropPin id place) s = set_node s id
inverse_of (edit.AddEdge from to from_class to_class) s = TakeEdge s.next_edge s.next_edge
inverse_of (edit.CutEdge number) s = put_edge s number
inverse_of (edit.SetClasses number from_class to_class) s = set_edge s number
inverse_of (edit.AddVia number place x y) s = set_edge s number
inverse_of (edit.DropVia number place) s = set_edge s number
inverse_of (edit.Set what value) s = Set what (setting_value what s.settings)

-- the edits, none of which is refused, and each of whose pins has a direction, lead from the first scene to the last, and these are their inverses
abbrev pub Leads : Scene → List Edit → List Inverse → Scene → Type 0
Leads s [] [] end = end ≡ s
Leads s (e ∷ es) (i ∷ is) end = IsDirected e × (refusal e s ≡ None) × (i ≡ inverse_of e s) × Leads (changed e s) es is end
Leads s [] (i ∷ is) end = ⊥
Leads s (e ∷ es) [] end = ⊥

-- the scene before: each inverse in turn, from last to first
abbrev pub taken_back : List Inverse → Scene → Scene
taken_back [] s = s
taken_back (i ∷ is) s = restored i (taken_back is s)

-- the scene after: each edit in turn
abbrev pub redone : List Edit → Scene → Scene
redone [] s = s
redone (e ∷ es) s = redone es (changed e s)

-- the law: an edit that is not refused keeps a scene valid
abbrev pub KeepsValid : Type 0
KeepsValid = (e : Edit) (s : Scene) → IsDirected e → IsValid s → refusal e s ≡ None → IsValid (changed e s)

-- the law: its inverse may be applied to the scene after it, and restores the scene before
abbrev pub TakesBack : Type 0
TakesBack = (e : Edit) (s : Scene) → IsValid s → refusal e s ≡ None → Fits (inverse_of e s) (changed e s) × (restored (inverse_of e s) (changed e s) ≡ s)

-- the law: a sequence of edits leads from a valid scene to a valid one, and their inverses lead back
abbrev pub LeadsBack : Type 0
LeadsBack = (s end : Scene) (es : List Edit) (is : List Inverse) → IsValid s → Leads s es is end → IsValid end × (redone es s ≡ end) × (taken_back is end ≡ s)
