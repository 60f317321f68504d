-- What the solids that went and came may change.
use Rattle.std.proofs.Common.{◌≡◌, ◌↔◌, ◌⊎◌, inl, inr, ℕ, ◌<◌, Bool, not, true, eqb, Option, Some, None, List, [], ◌∷◌, length, sym, ap, subst, ◌∙◌, arith, true≢false}
use Rattle.std.specs.Prelude.{◌+◌, ◌≤◌, ◌++◌, Any, unsigned_abs}
use Rattle.std.proofs.lemmas.Bool.{ne_eqb}
use Rattle.std.proofs.lemmas.List.Elements.{All-contains}
use Rattle.plane_geom.specs.declared.point.Point.{Point}
use Rattle.plane_geom.specs.declared.rect.Rect.{Rect}
use Rattle.plane_geom.specs.declared.rect.Solid.{Solid}
use Rattle.plane_geom.specs.Rect.{HasWithin}
use Rattle.walk_model.specs.declared.route.Route.{Route}
use Rattle.scene_model.specs.declared.node.Node.{Node}
use Rattle.scene_model.specs.declared.edge.Edge.{Edge}
use Rattle.scene_model.specs.declared.pin.Pin.{Pin}
use Rattle.scene_model.specs.Scene.{Scene}
use Rattle.scene_model.specs.Routing.{place_of}
use Rattle.scene_model.specs.Stale.{IsRemoved, Looks, looks, IsPinOf, IsLengthBy, IsWithinReach, IsOpen, LineMeets}
use Rattle.route_book.specs.Solids.{AreRemoved}

-- among the solids that went, one of which a fact holds is one of which it holds among all that went
any_removed : (P : Solid → Type 0) (old new : Scene) (removed : List Solid) → AreRemoved old new removed → Any P removed → (s : Solid) × IsRemoved old new s × P s
any_removed P old new removed are (k, s, l, at, p) = (s, All-contains (IsRemoved old new) removed s are.each (k, l, at), p)

removed_any : (P : Solid → Type 0) (old new : Scene) (removed : List Solid) → AreRemoved old new removed → (s : Solid) × IsRemoved old new s × P s → Any P removed
removed_any P old new removed are (s, went, p) = let c = are.all s went in (c.0, s, c.1, c.2, p)

pub open_none : (old new : Scene) (e : Edge) (removed : List Solid) → AreRemoved old new removed → 0 < length removed → IsOpen old new e None
open_none old new e [] are l = absurd (omega (arith, l))
open_none old new e (s ∷ removed) are l = (s, are.each 0 s (omega arith))

pub closed_none : (old new : Scene) (e : Edge) (removed : List Solid) → AreRemoved old new removed → length removed ≡ 0 → IsOpen old new e None → ⊥
closed_none old new e removed are none (s, went) = let c = are.all s went in let within : c.0 < length removed = c.1 in absurd (omega (arith, none, within))

-- a route is open where a solid that came meets it, or one that went is reached
pub open_some : (old new : Scene) (e : Edge) (r : Route) (removed added : List Solid) → AreRemoved old new removed → AreRemoved new old added
    → (Any (λ s. LineMeets s.rect r.points) added ⊎ Any (λ s. IsWithinReach old e s.rect r.cost) removed) ↔ IsOpen old new e (Some r)
open_some old new e r removed added went came = (opened, closing)
  where
    opened : Any (λ s. LineMeets s.rect r.points) added ⊎ Any (λ s. IsWithinReach old e s.rect r.cost) removed → IsOpen old new e (Some r)
    opened (inl h) = inl (any_removed (λ s. LineMeets s.rect r.points) new old added came h)
    opened (inr h) = inr (any_removed (λ s. IsWithinReach old e s.rect r.cost) old new removed went h)

    closing : IsOpen old new e (Some r) → Any (λ s. LineMeets s.rect r.points) added ⊎ Any (λ s. IsWithinReach old e s.rect r.cost) removed
    closing (inl h) = inl (removed_any (λ s. LineMeets s.rect r.points) new old added came h)
    closing (inr h) = inr (removed_any (λ s. IsWithinReach old e s.rect r.cost) old new removed went h)

-- the data of a connector that determine what it reaches
record ReachesBy (old : Scene) (l : Looks) (r : Rect) (cost : ℕ) : Type 0 where
  source : Node
  target : Node
  start : Pin
  end : Pin
  is_start : IsPinOf old l.from l.from_class source start
  is_end : IsPinOf old l.to l.to_class target end
  by : Point
  within : HasWithin r by
  way : ℕ
  is_way : IsLengthBy by (place_of source start) (l.via ++ place_of target end ∷ []) way
  reached : unsigned_abs start.cost + unsigned_abs end.cost + way ≤ cost

as_reaches : (old s : Scene) (e : Edge) (r : Rect) (cost : ℕ) → IsWithinReach old e r cost → ReachesBy old (looks s e) r cost
as_reaches old s e r cost h = record { source = h.source; target = h.target; start = h.start; end = h.end; is_start = h.is_start; is_end = h.is_end; by = h.by; within = h.within; way = h.way; is_way = h.is_way; reached = h.reached }

from_reaches : (old s : Scene) (e : Edge) (r : Rect) (cost : ℕ) → ReachesBy old (looks s e) r cost → IsWithinReach old e r cost
from_reaches old s e r cost h = record { source = h.source; target = h.target; start = h.start; end = h.end; is_start = h.is_start; is_end = h.is_end; by = h.by; within = h.within; way = h.way; is_way = h.is_way; reached = h.reached }

-- edges that look the same reach the same
same_reach : (old s t : Scene) (d e : Edge) (r : Rect) (cost : ℕ) → looks s d ≡ looks t e → IsWithinReach old d r cost → IsWithinReach old e r cost
same_reach old s t d e r cost same h = from_reaches old t e r cost (subst (λ l. ReachesBy old l r cost) same (as_reaches old s d r cost h))

-- so they are open alike
pub same_open : (old new s t : Scene) (d e : Edge) (route : Option Route) → looks s d ≡ looks t e → IsOpen old new d route → IsOpen old new e route
same_open old new s t d e None same h = h
same_open old new s t d e (Some r) same (inl h) = inl h
same_open old new s t d e (Some r) same (inr h) = inr (h.0, h.1, same_reach old s t d e h.0.rect r.cost same h.2)

some_left : (xs : List Solid) (r : Bool) → r ≡ eqb (length xs) 0 → not r ≡ true → 0 < length xs
some_left [] r is h = absurd (true≢false (sym h ∙ ap not is))
some_left (x ∷ xs) r is h = omega arith

is_left : (xs : List Solid) (r : Bool) → r ≡ eqb (length xs) 0 → (length xs ≡ 0 → ⊥) → not r ≡ true
is_left xs r is some = ap not (is ∙ ne_eqb (length xs) 0 some)

-- where there is no route, it depends on whether some solid was removed
pub none_open : (old new : Scene) (e : Edge) (removed : List Solid) (r : Bool) → AreRemoved old new removed → r ≡ eqb (length removed) 0 → (not r ≡ true) ↔ IsOpen old new e None
none_open old new e removed r are is = (
  λ h. open_none old new e removed are (some_left removed r is h),
  λ why. is_left removed r is (λ none. closed_none old new e removed are none why),
)
