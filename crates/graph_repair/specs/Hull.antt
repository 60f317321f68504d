-- Where two floors differ. No public clause cites this module.
use Rattle.std.specs.Prelude.{◌⊎◌, List, All, Contains}
use Rattle.plane_geom.specs.declared.point.Point.{Point}
use Rattle.plane_geom.specs.declared.rect.Rect.{Rect}
use Rattle.plane_geom.specs.declared.floor.Floor.{Floor}
use Rattle.plane_geom.specs.Rect.{HasWithin}
use Rattle.sweep_lines.specs.Bars.{far_corner, near_corner}

-- each of the items is one of the others, or both its corners are in the closed rectangle
abbrev pub AreListedOrWithin : {X : Type 0} → (X → Point) → (X → Point) → Rect → List X → List X → Type 0
AreListedOrWithin first last hull items others = All (λ x. Contains others x ⊎ (HasWithin hull (first x) × HasWithin hull (last x))) items

-- everything that the first floor has and the second has not is in the closed rectangle
pub record IsAloneWithin (hull : Rect) (a b : Floor) : Type 0 where
  pub solids : AreListedOrWithin (λ s. near_corner s.rect) (λ s. far_corner s.rect) hull a.solids b.solids
  pub anchors : AreListedOrWithin (λ p. p) (λ p. p) hull a.anchors b.anchors
