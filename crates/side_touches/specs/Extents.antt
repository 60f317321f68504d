-- Extents along whole lines, and where one who goes along the line reaches them.
use Rattle.std.specs.Prelude.{ℤ, pos, ◌-ℤ◌, ◌≤ℤ◌, ◌↔◌, List, Any, Option, IfSome, IsSomeAnd}
use Rattle.std.specs.Int.{int_max, int_min}
use Rattle.plane_geom.specs.declared.point.Dir.{Dir}
use Rattle.plane_geom.specs.declared.point.Dir.TheVariants.{East, South, West, North}
use Rattle.plane_geom.specs.Point.{IsCoordinate}
use Rattle.side_touches.specs.declared.extent.Extent.{Extent}

-- how far on the extent begins, for one who goes in the direction
abbrev pub begin_in : Dir → Extent → ℤ
begin_in East x = x.lo
begin_in South x = x.lo
begin_in West x = pos 0 -ℤ x.hi
begin_in North x = pos 0 -ℤ x.hi

-- how far on it ends
abbrev pub end_in : Dir → Extent → ℤ
end_in East x = x.hi
end_in South x = x.hi
end_in West x = pos 0 -ℤ x.lo
end_in North x = pos 0 -ℤ x.lo

-- one who goes in the direction, from the one place up to the other, reaches a point of the extent
pub record IsMet (d : Dir) (from at : ℤ) (x : Extent) : Type 0 where
  pub begins : begin_in d x ≤ℤ at
  pub ends : from ≤ℤ end_in d x

-- one who goes on in the direction up to the place `at` reaches one of the extents exactly if he sets out at the answer or behind it
pub record IsLastPlace (d : Dir) (at : ℤ) (xs : List Extent) (answer : Option ℤ) : Type 0 where
  pub met : (from : ℤ) → from ≤ℤ at → Any (IsMet d from at) xs ↔ IsSomeAnd answer (λ last. from ≤ℤ last)
  pub within : IfSome answer (λ last. last ≤ℤ at)

-- the least extent that has both extents within
abbrev pub joined : Extent → Extent → Extent
joined x y = record { lo = int_min x.lo y.lo; hi = int_max x.hi y.hi }

-- the extent begins, for one who goes in either direction, where the first of the extents begins
abbrev pub IsHull : List Extent → Extent → Type 0
IsHull xs hull = (d : Dir) (at : ℤ) → IsCoordinate at → (begin_in d hull ≤ℤ at) ↔ Any (λ x. begin_in d x ≤ℤ at) xs
