-- A way that may touch a rectangle within a cost, from the shortest one that does.
use Rattle.std.proofs.Common.{◌≡◌, ◌↔◌, ℕ, ◌+◌, List, [], ◌∷◌, ◌++◌, subst, arith}
use Rattle.std.specs.Prelude.{unsigned_abs, nat_le, IsTrue}
use Rattle.std.proofs.lemmas.Bool.{leb-true, le-leb}
use Rattle.plane_geom.specs.declared.point.Point.{Point}
use Rattle.plane_geom.specs.declared.rect.Rect.{Rect}
use Rattle.scene_model.specs.declared.node.Node.{Node}
use Rattle.scene_model.specs.declared.edge.Edge.{Edge}
use Rattle.scene_model.specs.declared.pin.Pin.{Pin}
use Rattle.scene_model.specs.Routing.{place_of}
use Rattle.route_book.specs.Reach.{IsNear, IsShortestBy}

near_by : (source target : Node) (e : Edge) (cost : ℕ) (r : Rect) (start end : Pin) (a b n : ℕ) → a ≡ unsigned_abs start.cost → b ≡ unsigned_abs end.cost
    → IsShortestBy r (place_of source start) (e.via ++ place_of target end ∷ []) n → IsTrue (nat_le (a + b + n) cost) ↔ IsNear source target e cost r start end
near_by source target e cost r start end a b n first last s = (
  λ h. let l = leb-true (a + b + n) cost h in record { by = s.by; within = s.within; way = n; is_way = s.is_length; reached = omega (arith, first, last, l) },
  λ x. let least = s.least x.by x.way x.within x.is_way in let reached = x.reached in le-leb (a + b + n) cost (omega (arith, first, last, least, reached)),
)

pub near_within : (source target : Node) (e : Edge) (cost : ℕ) (r : Rect) (start end : Pin) (from to : Point) (via : List Point) (a b n : ℕ) → from ≡ place_of source start → to ≡ place_of target end → via ≡ e.via
    → a ≡ unsigned_abs start.cost → b ≡ unsigned_abs end.cost → IsShortestBy r from (via ++ to ∷ []) n → IsTrue (nat_le (a + b + n) cost) ↔ IsNear source target e cost r start end
near_within source target e cost r start end from to via a b n at_from at_to same first last s =
    near_by source target e cost r start end a b n first last (subst (λ X. X) (λ i. IsShortestBy r (at_from i) (same i ++ at_to i ∷ []) n) s)
