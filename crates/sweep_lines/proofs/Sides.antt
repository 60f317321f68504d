-- What a solid blocks of a whole line, by its bar.
use Rattle.std.proofs.Common.{◌≡◌, ◌⊎◌, ℤ, ◌≤ℤ◌, ◌<ℤ◌, arith}
use Rattle.std.proofs.lemmas.Int.{ints, clamps}
use Rattle.plane_geom.specs.declared.point.Way.{Way}
use Rattle.plane_geom.specs.declared.point.Way.TheVariants.{Vertical, Horizontal}
use Rattle.plane_geom.specs.declared.rect.Rect.{Rect}
use Rattle.plane_geom.specs.Rect.{Meets, Overlaps}
use Rattle.plane_geom.specs.Floor.{point_on, SideOn}
use Rattle.plane_geom.proofs.Places.{halfway, overlap_ends}
use Rattle.sweep_lines.specs.Bars.{bar_of}
use Rattle.sweep_lines.specs.declared.bar.Bar.{Bar}

-- the piece from lo to hi of the whole line at the coordinate has a point inside the bar
pub record Blocks (b : Bar) (at lo hi : ℤ) : Type 0 where
  pub begun : b.begin <ℤ at
  pub not_ended : at <ℤ b.end
  pub below : lo <ℤ b.hi
  pub above : b.lo <ℤ hi
  pub long : b.lo <ℤ b.hi

at_inside : (low high at : ℤ) → low <ℤ at → at <ℤ high → Overlaps low high at at
at_inside low high at h k = halfway low high at at (omega (arith, ints)) (omega (arith, ints, clamps)) (omega (arith, ints, clamps))

pub meets_of_blocks : (r : Rect) (way : Way) (at lo hi : ℤ) → lo ≤ℤ hi → Blocks (bar_of way r) at lo hi → Meets r (point_on way at lo) (point_on way at hi)
meets_of_blocks r Vertical at lo hi o b = record {
  x = at_inside r.left r.right at b.begun b.not_ended;
  y = halfway r.top r.bottom lo hi b.long (omega (arith, ints, clamps, b.below)) (omega (arith, ints, clamps, b.above));
}
meets_of_blocks r Horizontal at lo hi o b = record {
  x = halfway r.left r.right lo hi b.long (omega (arith, ints, clamps, b.below)) (omega (arith, ints, clamps, b.above));
  y = at_inside r.top r.bottom at b.begun b.not_ended;
}

blocks_from : (begin end lo hi at from to : ℤ) → from ≤ℤ to → Overlaps begin end at at → Overlaps lo hi from to → Blocks (record { begin = begin; end = end; lo = lo; hi = hi }) at from to
blocks_from begin end lo hi at from to o x y =
    let e = overlap_ends _ _ _ _ x in
    let f = overlap_ends _ _ _ _ y in
    record {
      begun = omega (arith, ints, clamps, e.2);
      not_ended = omega (arith, ints, clamps, e.1);
      below = omega (arith, ints, clamps, f.1);
      above = omega (arith, ints, clamps, f.2);
      long = f.0;
    }

pub blocks_of_meets : (r : Rect) (way : Way) (at lo hi : ℤ) → lo ≤ℤ hi → Meets r (point_on way at lo) (point_on way at hi) → Blocks (bar_of way r) at lo hi
blocks_of_meets r Vertical at lo hi o m = blocks_from r.left r.right r.top r.bottom at lo hi o m.x m.y
blocks_of_meets r Horizontal at lo hi o m = blocks_from r.top r.bottom r.left r.right at lo hi o m.y m.x

-- a side on the whole line is where the bar begins or ends
pub bar_of_side : (r : Rect) (way : Way) (at lo hi : ℤ) → SideOn r way at lo hi →
    (((bar_of way r).begin ≡ at) ⊎ ((bar_of way r).end ≡ at)) × ((bar_of way r).lo ≡ lo) × ((bar_of way r).hi ≡ hi)
bar_of_side r Vertical at lo hi s = s
bar_of_side r Horizontal at lo hi s = s

pub side_of_bar : (r : Rect) (way : Way) (at lo hi : ℤ) →
    (((bar_of way r).begin ≡ at) ⊎ ((bar_of way r).end ≡ at)) × ((bar_of way r).lo ≡ lo) × ((bar_of way r).hi ≡ hi) → SideOn r way at lo hi
side_of_bar r Vertical at lo hi s = s
side_of_bar r Horizontal at lo hi s = s
