-- The model of an arena, and the results of its calls.
use Rattle.std.specs.Prelude.{◌≡◌, ℕ, ◌⊎◌, ◌≤ℤ◌, Some, refl, Bool, true, false, ℤ}
use Rattle.std.specs.Coded.{Coded, code_by, coded×, coded_ℕ, coded_ℤ, coded_bool}
use Rattle.std.specs.Ordering.{nat_cmp}
use Rattle.std.specs.FinMap.{FinMap, get, code}
use Rattle.plane_geom.specs.declared.point.Point.{Point}
use Rattle.plane_geom.specs.declared.point.Dir.{Dir}
use Rattle.plane_geom.specs.declared.point.Dir.TheVariants.{East, South, West, North}
use Rattle.plane_geom.specs.declared.point.Way.{Way}
use Rattle.plane_geom.specs.declared.point.Way.TheVariants.{Vertical, Horizontal}
use Rattle.plane_geom.specs.declared.floor.Line.{Line}
use Rattle.plane_geom.specs.Floor.{AreOnOneWholeLine, Holds}
use Rattle.plane_geom.specs.Along.{IsFurther, rising}

-- the two ways as the two answers
abbrev pub is_vertical : Way → Bool
is_vertical Vertical = true
is_vertical Horizontal = false

abbrev pub way_by : Bool → Way
way_by true = Vertical
way_by false = Horizontal

abbrev pub way_again : (w : Way) → way_by (is_vertical w) ≡ w
way_again Vertical = refl
way_again Horizontal = refl

-- the lines of a crossing
pub record Pair : Type 0 where
  pub vertical : ℕ
  pub horizontal : ℕ

abbrev pub pair_code : Coded Pair
pair_code = code_by (ℕ × ℕ) (coded× coded_ℕ coded_ℕ) (λ p. (p.vertical, p.horizontal)) (λ p. record { vertical = p.0; horizontal = p.1 }) (λ _. refl)

-- a line is stored as the tuple of its fields
abbrev pub line_code : Coded Line
line_code =
    code_by
    (Bool × (ℤ × (ℤ × ℤ)))
    (coded× coded_bool (coded× coded_ℤ (coded× coded_ℤ coded_ℤ)))
    (λ l. (is_vertical l.way, (l.at, (l.lo, l.hi))))
    (λ p. record { way = way_by p.0; at = p.1.0; lo = p.1.1.0; hi = p.1.1.1 })
    (λ l. λ i. record l { way = way_again l.way i })

-- the lines and the crossings under their ids, the numbers of each that still fit, a number greater than those of all
-- crossings, and the number of lines and crossings that were put in
pub record Arena : Type 0 where
  pub lines : FinMap nat_cmp Line
  pub crossings : FinMap nat_cmp Pair
  pub spare_lines : ℕ
  pub spare_crossings : ℕ
  pub places : ℕ
  pub written : ℕ

abbrev pub arena_code : Coded Arena
arena_code =
    code_by
    (FinMap nat_cmp Line × (FinMap nat_cmp Pair × (ℕ × (ℕ × (ℕ × ℕ)))))
    (coded× (code coded_ℕ line_code) (coded× (code coded_ℕ pair_code) (coded× coded_ℕ (coded× coded_ℕ (coded× coded_ℕ coded_ℕ)))))
    (λ a. (a.lines, (a.crossings, (a.spare_lines, (a.spare_crossings, (a.places, a.written))))))
    (λ p. record { lines = p.0; crossings = p.1.0; spare_lines = p.1.1.0; spare_crossings = p.1.1.1.0; places = p.1.1.1.1.0; written = p.1.1.1.1.1 })
    (λ _. refl)

-- the line of the pair along which one travels in the direction
abbrev pub line_along : Dir → Pair → ℕ
line_along East p = p.horizontal
line_along South p = p.vertical
line_along West p = p.horizontal
line_along North p = p.vertical

-- the ids are of a vertical and of a horizontal line that share a point
pub record Meet (a : Arena) (vertical horizontal : ℕ) : Type 0 where
  pub down : Line
  pub across : Line
  pub is_down : get a.lines vertical ≡ Some down
  pub is_across : get a.lines horizontal ≡ Some across
  pub down_runs : down.way ≡ Vertical
  pub across_runs : across.way ≡ Horizontal
  pub point : Point
  pub on_down : Holds down point
  pub on_across : Holds across point

-- the crossing is at the point, which is on both its lines
pub record StandsAt (a : Arena) (crossing : ℕ) (point : Point) : Type 0 where
  pub pair : Pair
  pub is : get a.crossings crossing ≡ Some pair
  pub down : Line
  pub across : Line
  pub is_down : get a.lines pair.vertical ≡ Some down
  pub is_across : get a.lines pair.horizontal ≡ Some across
  pub on_down : Holds down point
  pub on_across : Holds across point

-- the crossing is one of the line
pub record IsOn (a : Arena) (line crossing : ℕ) : Type 0 where
  pub pair : Pair
  pub is : get a.crossings crossing ≡ Some pair
  pub on : (pair.vertical ≡ line) ⊎ (pair.horizontal ≡ line)

-- the second crossing is on the line along which one travels from the first in the direction, and further on
pub record LiesFurther (a : Arena) (direction : Dir) (from to : ℕ) : Type 0 where
  pub here : Pair
  pub there : Pair
  pub is_here : get a.crossings from ≡ Some here
  pub is_there : get a.crossings to ≡ Some there
  pub line : line_along direction there ≡ line_along direction here
  pub start : Point
  pub stop : Point
  pub stands_here : StandsAt a from start
  pub stands_there : StandsAt a to stop
  pub further : IsFurther direction start stop

-- the second crossing is the nearest one further on; any other is further than it
pub record IsNearest (a : Arena) (direction : Dir) (from to : ℕ) : Type 0 where
  pub lies : LiesFurther a direction from to
  pub others : (c : ℕ) → LiesFurther a direction from c → (c ≡ to) ⊎ LiesFurther a direction to c

-- the crossing is the one of the line with the smallest coordinate; any other is further in the rising direction
pub record IsFirst (a : Arena) (id : ℕ) (crossing : ℕ) : Type 0 where
  pub on : IsOn a id crossing
  pub line : Line
  pub is : get a.lines id ≡ Some line
  pub others : (c : ℕ) → IsOn a id c → (c ≡ crossing) ⊎ LiesFurther a (rising line.way) crossing c

-- the invariant of every arena
pub record IsArena (a : Arena) : Type 0 where
  pub ordered : (l : ℕ) (line : Line) → get a.lines l ≡ Some line → line.lo ≤ℤ line.hi
  pub apart : (i j : ℕ) (l m : Line) (p : Point) → get a.lines i ≡ Some l → get a.lines j ≡ Some m →
      AreOnOneWholeLine l m → Holds l p → Holds m p → i ≡ j
  pub meet : (c : ℕ) (pair : Pair) → get a.crossings c ≡ Some pair → Meet a pair.vertical pair.horizontal
  pub once : (c k : ℕ) (pair : Pair) → get a.crossings c ≡ Some pair → get a.crossings k ≡ Some pair → c ≡ k

-- the line shares no point with a line of its way at its coordinate
abbrev pub IsApart : Arena → Line → Type 0
IsApart a line = (l : ℕ) (other : Line) (p : Point) → get a.lines l ≡ Some other → AreOnOneWholeLine other line → Holds other p → Holds line p → ⊥
