-- Kept lines run at coordinates of the floor, and are wide.
use Rattle.std.proofs.Common.{◌≡◌, ◌⊎◌, ℤ, ◌<ℤ◌, List, Any, Contains, refl, inl, inr, ap, subst, ◌∙◌}
use Rattle.plane_geom.specs.declared.point.Way.{Way}
use Rattle.plane_geom.specs.declared.point.Way.TheVariants.{Vertical, Horizontal}
use Rattle.plane_geom.specs.declared.rect.Rect.{Rect}
use Rattle.plane_geom.specs.declared.rect.Solid.{Solid}
use Rattle.plane_geom.specs.declared.floor.Line.{Line}
use Rattle.plane_geom.specs.declared.floor.Floor.{Floor}
use Rattle.plane_geom.specs.Along.{across}
use Rattle.plane_geom.specs.Floor.{point_on, first_side, last_side, Holds, SideOn, SharesSide, HasCoordinates, IsKept, IsWide, RunsAtMark}

-- the line of a point runs at its coordinate across
across_point : (way : Way) (at z : ℤ) → across way (point_on way at z) ≡ at
across_point Vertical at z = refl
across_point Horizontal at z = refl

-- a side on a whole line is one of the two
side_on : (way : Way) (r : Rect) (at lo hi : ℤ) → SideOn r way at lo hi → (first_side way r ≡ at) ⊎ (last_side way r ≡ at)
side_on Vertical r at lo hi h = h.0
side_on Horizontal r at lo hi h = h.0

pub kept_coordinate : (floor : Floor) (l : Line) (zs : List ℤ) → HasCoordinates floor l.way zs → IsKept floor l → Contains zs l.at
kept_coordinate floor l zs h kept = by_reason kept.reason
  where
    by_side : Any (λ s. SharesSide l s.rect) floor.solids → Contains zs l.at
    by_side (k, s, inside, is, (lo, hi, side, from, to)) = elim (side_on l.way s.rect l.at lo hi side) as (λ _. Contains zs l.at) [
      | inl e ↦ subst (Contains zs) (ap (λ (o : Solid). first_side l.way o.rect) is ∙ e) (h.first_sides k s inside)
      | inr e ↦ subst (Contains zs) (ap (λ (o : Solid). last_side l.way o.rect) is ∙ e) (h.last_sides k s inside)
    ]

    by_reason : ((l.lo <ℤ l.hi) × Any (λ s. SharesSide l s.rect) floor.solids) ⊎ Any (Holds l) floor.anchors → Contains zs l.at
    by_reason (inl (some, side)) = by_side side
    by_reason (inr (k, p, inside, is, here)) =
        subst (Contains zs) (ap (across l.way) (is ∙ here.here) ∙ across_point l.way l.at here.along) (h.anchors k p inside)

pub kept_wide : (floor : Floor) (l : Line) → IsKept floor l → IsWide floor l
kept_wide floor l kept = record { longest = kept.longest; mark = by_reason kept.reason }
  where
    by_reason : ((l.lo <ℤ l.hi) × Any (λ s. SharesSide l s.rect) floor.solids) ⊎ Any (Holds l) floor.anchors → RunsAtMark floor l
    by_reason (inl (some, (k, s, inside, is, (lo, hi, side, from, to)))) = inl (k, s, inside, is, side_on l.way s.rect l.at lo hi side)
    by_reason (inr (k, p, inside, is, here)) = inr (k, p, inside, is, ap (across l.way) here.here ∙ across_point l.way l.at here.along)
