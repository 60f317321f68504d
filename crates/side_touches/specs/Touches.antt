-- Which sides of solids touch each line of a list.
use Rattle.std.specs.Prelude.{ℤ, ◌≡◌, ◌≢◌, ◌↔◌, ◌≤ℤ◌, Bool, IsTrue, Option, IfSome, IsSomeAnd, List, Any, Contains}
use Rattle.std.specs.List.{AllZip}
use Rattle.plane_geom.specs.declared.point.Point.{Point}
use Rattle.plane_geom.specs.declared.point.Dir.{Dir}
use Rattle.plane_geom.specs.declared.point.Dir.TheVariants.{East, South, West, North}
use Rattle.plane_geom.specs.declared.rect.Solid.{Solid}
use Rattle.plane_geom.specs.declared.floor.Line.{Line}
use Rattle.plane_geom.specs.Along.{reach, way_of}
use Rattle.walk_laws.specs.Sides.{SharesSideTo}
use Rattle.move_model.specs.Stations.{IsPartOf, line_between}
use Rattle.side_touches.specs.declared.extent.Extent.{Extent}
use Rattle.side_touches.specs.Sides.{side_of}

-- how far the sides reach that touch a line: those from which the solids lie at lesser coordinates, and those from which they lie at greater ones
pub record LineTouches : Type 0 where
  pub lesser : List Extent
  pub greater : List Extent

-- those from which the solids lie in the direction
abbrev pub touches_to : Dir → LineTouches → List Extent
touches_to East t = t.greater
touches_to South t = t.greater
touches_to West t = t.lesser
touches_to North t = t.lesser

-- the extents are those of the sides that the line shares a point with and from which the solids lie in the direction
abbrev pub AreTouching : List Solid → Line → Dir → List Extent → Type 0
AreTouching solids l side xs = (x : Extent) → Contains xs x ↔ Any (λ s. SharesSideTo side l s.rect × ((side_of side s.rect).extent ≡ x)) solids

-- what touches the line, to both directions across it
abbrev pub AreLineTouches : List Solid → Line → LineTouches → Type 0
AreLineTouches solids l t = (side : Dir) → way_of side ≢ l.way → AreTouching solids l side (touches_to side t)

-- what touches each line of the list
abbrev pub AreTouches : List Line → List Solid → List LineTouches → Type 0
AreTouches lines solids ts = AllZip (AreLineTouches solids) lines ts

-- a run along the line, in the direction from the first point to the second
pub record IsRunOn (l : Line) (d : Dir) (p q : Point) : Type 0 where
  pub part : IsPartOf (line_between d p q) l
  pub ordered : reach d p ≤ℤ reach d q

-- the run touches a side from which a solid lies in the direction
abbrev pub IsTouched : List Solid → Dir → Dir → Point → Point → Type 0
IsTouched solids side heading p q = Any (λ s. SharesSideTo side (line_between heading p q) s.rect) solids

-- of the runs along the line that end so far on, those touch a side that begin at the answer or behind it, and one begins there; none does where there is no answer
pub record IsTouchedFrom (solids : List Solid) (l : Line) (side heading : Dir) (at : ℤ) (answer : Option ℤ) : Type 0 where
  pub runs : (p q : Point) → IsRunOn l heading p q → reach heading q ≡ at → IsTouched solids side heading p q ↔ IsSomeAnd answer (λ from. reach heading p ≤ℤ from)
  pub begins : (q : Point) → IsRunOn l heading q q → reach heading q ≡ at → IfSome answer (λ from. (p : Point) × IsRunOn l heading p q × (reach heading p ≡ from))

-- whether some run along the line that ends so far on touches a side
pub record MayTouch (solids : List Solid) (l : Line) (side heading : Dir) (at : ℤ) (answer : Bool) : Type 0 where
  pub if_touched : (p q : Point) → IsRunOn l heading p q → reach heading q ≡ at → IsTouched solids side heading p q → IsTrue answer
  pub only_if : IsTrue answer → (q : Point) → IsRunOn l heading q q → reach heading q ≡ at → (p : Point) × IsRunOn l heading p q × IsTouched solids side heading p q
