-- The distances of ways from a rectangle. No public clause cites this module.
use Rattle.std.specs.Prelude.{ℕ, ◌+◌, ◌≤◌, ◌≤ℤ◌, unsigned_abs, List, [], ◌∷◌, ◌++◌, length, All, Contains}
use Rattle.plane_geom.specs.declared.point.Point.{Point}
use Rattle.plane_geom.specs.declared.rect.Rect.{Rect}
use Rattle.plane_geom.specs.Point.{PointIsOnSheet}
use Rattle.plane_geom.specs.Rect.{RectIsOnSheet, HasWithin}
use Rattle.scene_model.specs.declared.node.Node.{Node}
use Rattle.scene_model.specs.declared.edge.Edge.{Edge}
use Rattle.scene_model.specs.declared.pin.Pin.{Pin}
use Rattle.scene_model.specs.Routing.{pins_of_class, place_of}
use Rattle.scene_model.specs.Stale.{IsLengthBy}
use Rattle.scene_model.specs.Valid.{IsNode}

-- a rectangle on the sheet that has a point
pub record IsBox (r : Rect) : Type 0 where
  pub on_sheet : RectIsOnSheet r
  pub wide : r.left ≤ℤ r.right
  pub high : r.top ≤ℤ r.bottom

-- the nodes are on the field, and the checkpoints, of which there are few, on the sheet
pub record AreParts (source target : Node) (e : Edge) : Type 0 where
  pub is_source : IsNode source
  pub is_target : IsNode target
  pub few_via : length e.via ≤ 4
  pub via : All PointIsOnSheet e.via

-- the way from the point through the others may pass the closed rectangle with this length, and with no lesser one
pub record IsShortestBy (r : Rect) (p : Point) (qs : List Point) (n : ℕ) : Type 0 where
  pub by : Point
  pub within : HasWithin r by
  pub is_length : IsLengthBy by p qs n
  pub least : (other : Point) (m : ℕ) → HasWithin r other → IsLengthBy other p qs m → n ≤ m

-- within the cost, a way from one pin through the checkpoints to the other may touch the closed rectangle
pub record IsNear (source target : Node) (e : Edge) (cost : ℕ) (r : Rect) (start end : Pin) : Type 0 where
  pub by : Point
  pub within : HasWithin r by
  pub way : ℕ
  pub is_way : IsLengthBy by (place_of source start) (e.via ++ place_of target end ∷ []) way
  pub reached : unsigned_abs start.cost + unsigned_abs end.cost + way ≤ cost

-- so may one that ends at some pin of the class
pub record IsNearFrom (source target : Node) (e : Edge) (cost : ℕ) (r : Rect) (start : Pin) : Type 0 where
  pub end : Pin
  pub is_end : Contains (pins_of_class target e.to_class) end
  pub near : IsNear source target e cost r start end

-- so may one that also begins at some pin of the class
pub record IsNearBetween (source target : Node) (e : Edge) (cost : ℕ) (r : Rect) : Type 0 where
  pub start : Pin
  pub is_start : Contains (pins_of_class source e.from_class) start
  pub near : IsNearFrom source target e cost r start
