-- Which connectors a commit searches again.
use Rattle.std.specs.Prelude.{◌≡◌, ◌≢◌, ℕ, ◌+◌, ◌<◌, ◌≤◌, ◌⊎◌, ◌==◌, ℤ, unsigned_abs, Bool, List, [], ◌∷◌, ◌++◌, length, find, Contains, Option, Some, None, option_map}
use Rattle.plane_geom.specs.declared.point.Point.{Point}
use Rattle.plane_geom.specs.declared.rect.Rect.{Rect}
use Rattle.plane_geom.specs.declared.rect.Solid.{Solid}
use Rattle.plane_geom.specs.Point.{distance}
use Rattle.plane_geom.specs.Rect.{HasWithin}
use Rattle.walk_model.specs.declared.route.Route.{Route}
use Rattle.walk_model.specs.declared.route.Answer.{Answer}
use Rattle.walk_model.specs.Walk.{Walk, MeetsAt}
use Rattle.walk_model.specs.Line.{Draws}
use Rattle.scene_model.specs.declared.node.Node.{Node}
use Rattle.scene_model.specs.declared.edge.Edge.{Edge}
use Rattle.scene_model.specs.declared.pin.Pin.{Pin}
use Rattle.scene_model.specs.Scene.{Scene, node_with, edge_with, connectors}
use Rattle.scene_model.specs.Routing.{box, solids, pins_of_class, place_of}

-- a solid of the old scene that the new one has not, and the other way around
pub record IsRemoved (old new : Scene) (s : Solid) : Type 0 where
  pub was : Contains (solids old) s
  pub gone : Contains (solids new) s → ⊥

abbrev pub IsAdded : Scene → Scene → Solid → Type 0
IsAdded old new s = IsRemoved new old s

-- the data of a node that a task uses: its box, its group mark and its pins
pub record Shape : Type 0 where
  pub rect : Rect
  pub group : Bool
  pub pins : List Pin

abbrev pub shape : Scene → ℤ → Option Shape
shape s id = option_map (λ n. record { rect = box n; group = n.group; pins = n.pins }) (node_with s id)

-- the data of a connector that a search uses, except its number and the penalty
pub record Looks : Type 0 where
  pub from : ℤ
  pub to : ℤ
  pub from_class : ℕ
  pub to_class : ℕ
  pub via : List Point
  pub source : Option Shape
  pub target : Option Shape
  pub buffer : ℤ

abbrev pub looks : Scene → Edge → Looks
looks s e = record {
  from = e.from;
  to = e.to;
  from_class = e.from_class;
  to_class = e.to_class;
  via = e.via;
  source = shape s e.from;
  target = shape s e.to;
  buffer = s.settings.buffer;
}

-- the answer of the edge with the number
abbrev pub answer_of : List Answer → ℕ → Option Answer
answer_of answers number = find (λ a. a.edge == number) answers

-- the length of the way from the point through the others
abbrev pub way_length : Point → List Point → ℕ
way_length p [] = 0
way_length p (q ∷ qs) = distance p q + way_length q qs

-- n is the length of this way if one of its legs goes by the point
abbrev pub IsLengthBy : Point → Point → List Point → ℕ → Type 0
IsLengthBy by p [] n = ⊥
IsLengthBy by p (q ∷ qs) n =
    (n ≡ distance p by + distance by q + way_length q qs) ⊎ ((m : ℕ) × IsLengthBy by q qs m × (n ≡ distance p q + m))

-- the pin is one of those that an end with this class may use
abbrev pub IsPinOf : Scene → ℤ → ℕ → Node → Pin → Type 0
IsPinOf s id class n p = (node_with s id ≡ Some n) × Contains (pins_of_class n class) p

-- within the cost, a way from a pin of one end through the checkpoints to a pin of the other may touch the closed rectangle
pub record IsWithinReach (s : Scene) (e : Edge) (r : Rect) (cost : ℕ) : Type 0 where
  pub source : Node
  pub target : Node
  pub start : Pin
  pub end : Pin
  pub is_start : IsPinOf s e.from e.from_class source start
  pub is_end : IsPinOf s e.to e.to_class target end
  pub by : Point
  pub within : HasWithin r by
  pub way : ℕ
  pub is_way : IsLengthBy by (place_of source start) (e.via ++ place_of target end ∷ []) way
  pub reached : unsigned_abs start.cost + unsigned_abs end.cost + way ≤ cost

-- a step of the line meets the rectangle
pub record LineMeets (r : Rect) (points : List Point) : Type 0 where
  pub walk : Walk
  pub draws : Draws points walk
  pub k : ℕ
  pub within : k < length walk.steps
  pub meets : MeetsAt r walk k

-- why a connector without a route is searched again, and why one with a route
abbrev pub IsOpen : Scene → Scene → Edge → Option Route → Type 0
IsOpen old new e None = (s : Solid) × IsRemoved old new s
IsOpen old new e (Some r) =
    ((s : Solid) × IsAdded old new s × LineMeets s.rect r.points)
    ⊎ ((s : Solid) × IsRemoved old new s × IsWithinReach old e s.rect r.cost)

-- why a connector is searched again
pub data IsStale (old : Scene) (answers : List Answer) (new : Scene) (e : Edge) : Type 0 where
  is_new : answer_of answers e.number ≡ None → IsStale old answers new e
  looks_different : (was : Edge) → edge_with old e.number ≡ Some was → looks old was ≢ looks new e → IsStale old answers new e
  bends_cost_otherwise : old.settings.penalty ≢ new.settings.penalty → IsStale old answers new e
  is_open : (a : Answer) → answer_of answers e.number ≡ Some a → IsOpen old new e a.route → IsStale old answers new e

-- why a connector's answer may be kept: none of the above applies
pub record IsCurrent (old : Scene) (answers : List Answer) (new : Scene) (e : Edge) : Type 0 where
  pub was : Edge
  pub answer : Answer
  pub is_was : edge_with old e.number ≡ Some was
  pub is_answer : answer_of answers e.number ≡ Some answer
  pub looks_same : looks old was ≡ looks new e
  pub bends_cost_the_same : old.settings.penalty ≡ new.settings.penalty
  pub is_closed : IsOpen old new e answer.route → ⊥

-- the numbers are those of the edges with the first property, in order; all others have the second one
abbrev pub ArePicked : (Edge → Type 0) → (Edge → Type 0) → List Edge → List ℕ → Type 0
ArePicked P Q [] numbers = numbers ≡ []
ArePicked P Q (e ∷ es) numbers =
    (P e × ((rest : List ℕ) × ArePicked P Q es rest × (numbers ≡ e.number ∷ rest))) ⊎ (Q e × ArePicked P Q es numbers)

-- the stale connectors of the new scene, in order
abbrev pub AreStale : Scene → List Answer → Scene → List ℕ → Type 0
AreStale old answers new numbers = ArePicked (IsStale old answers new) (IsCurrent old answers new) (connectors new) numbers

-- the law: there is at most one such list
abbrev pub HaveOneStaleList : Type 0
HaveOneStaleList = (old : Scene) (answers : List Answer) (new : Scene) (these those : List ℕ) → AreStale old answers new these → AreStale old answers new those → these ≡ those
