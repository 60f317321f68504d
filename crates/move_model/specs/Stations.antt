-- Straight legs, and the stations: the places where a way bends, ends, or has passed more checkpoints.
use Rattle.std.specs.Prelude.{ℕ, ◌≡◌, ◌≢◌, ◌⊎◌, ◌<◌, ◌≤ℤ◌, List, [], ◌∷◌, ◌++◌, All, Contains, Some, length, slice_get}
use Rattle.std.specs.FinMap.{get}
use Rattle.plane_geom.specs.declared.point.Point.{Point}
use Rattle.plane_geom.specs.declared.point.Dir.{Dir}
use Rattle.plane_geom.specs.declared.point.Dir.TheVariants.{East, South, West, North}
use Rattle.plane_geom.specs.declared.point.Way.TheVariants.{Vertical, Horizontal}
use Rattle.plane_geom.specs.declared.floor.Line.{Line}
use Rattle.plane_geom.specs.declared.rect.Solid.{Solid}
use Rattle.plane_geom.specs.Point.{distance}
use Rattle.line_arena.specs.Arena.{Arena, IsOn, LiesFurther, StandsAt}
use Rattle.walk_model.specs.declared.task.Choice.{Choice}
use Rattle.walk_model.specs.declared.task.Task.{Task}
use Rattle.walk_model.specs.Cost.{turn}
use Rattle.walk_model.specs.Order.{Triple}
use Rattle.walk_laws.specs.Lines.{run_line}
use Rattle.walk_laws.specs.Sides.{IsHeldTo, held_to}
use Rattle.move_model.specs.declared.place.Place.{Place}
use Rattle.move_model.specs.Places.{IsEnding}
use Rattle.move_model.specs.Ways.{GoesAlongWay, HasRest, IsWay, Leads, Leg}

-- the legs all lead in the direction
abbrev pub AreStraightLegs : Dir → List Leg → Type 0
AreStraightLegs d ls = All (λ l. l.to.heading ≡ d) ls

-- along the direction from crossing b to crossing c, no crossing between the two is at checkpoint number k
abbrev pub HasNoneBetween : Arena → List Point → Dir → ℕ → ℕ → ℕ → Type 0
HasNoneBetween a via d k b c = (z : ℕ) (r : Point) → StandsAt a z r → LiesFurther a d b z → LiesFurther a d z c → slice_get via k ≢ Some r

-- the legs, at least one, lead in the direction from the first place to the second, and only the last one may reach another stage
pub record GoesStraight (a : Arena) (via : List Point) (x : Place) (d : Dir) (legs : List Leg) (y : Place) : Type 0 where
  pub front : List Leg
  pub last : Leg
  pub all : legs ≡ front ++ (last ∷ [])
  pub leads : Leads a via x legs y
  pub straight : AreStraightLegs d legs
  pub same_stage : All (λ l. l.to.stage ≡ x.stage) front

-- after a step in the direction the first of the legs begins with a bend
abbrev pub BeginsWithTurn : Dir → List Leg → Type 0
BeginsWithTurn d [] = ⊥
BeginsWithTurn d (l ∷ ls) = 0 < turn d l.to.heading

-- a way from the place begins with straight legs to a station: there it ends, bends, or has passed more checkpoints
pub record HasStation (solids : List Solid) (a : Arena) (via : List Point) (x : Place) (d : Dir) (rest : List Leg) (e : Choice) : Type 0 where
  pub legs : List Leg
  pub back : List Leg
  pub to : Place
  pub split : rest ≡ legs ++ back
  pub straight : GoesStraight a via x d legs to
  pub behind : IsWay solids a via to back e
  pub stops : (back ≡ []) ⊎ (BeginsWithTurn d back ⊎ (x.stage < to.stage))

-- the legs from the first place to the second end with straight legs, which begin at a bend or are all of them
pub record ComesStraight (a : Arena) (via : List Point) (x : Place) (legs : List Leg) (y : Place) : Type 0 where
  pub before : List Leg
  pub first : Leg
  pub more : List Leg
  pub from : Place
  pub split : legs ≡ before ++ (first ∷ more)
  pub led : Leads a via x before from
  pub leads : Leads a via from (first ∷ more) y
  pub straight : AreStraightLegs y.heading (first ∷ more)
  pub begins : (before ≡ []) ⊎ (0 < turn from.heading y.heading)

-- from the place the walk's way goes straight on to a station, where fewer legs remain
pub record IsNextStation (solids : List Solid) (a : Arena) (task : Task) (t : Triple) (along : GoesAlongWay solids a task t) (x : Place) (p : Point) (l : Leg) (rest : List Leg) : Type 0 where
  pub station : HasStation solids a task.via x l.to.heading (l ∷ rest) along.end
  pub point : Point
  pub here : StandsAt a station.to.crossing point
  pub on : HasRest solids a task t along station.to point station.back
  pub fewer : length station.back < length (l ∷ rest)

-- the walk's way reaches the place by straight legs, which begin at a bend or at the entry
pub record IsRunInto (solids : List Solid) (a : Arena) (task : Task) (t : Triple) (along : GoesAlongWay solids a task t) (y : Place) (q : Point) (rest : List Leg) : Type 0 where
  pub first : Leg
  pub more : List Leg
  pub from : Place
  pub point : Point
  pub on : HasRest solids a task t along from point ((first ∷ more) ++ rest)
  pub leads : Leads a task.via from (first ∷ more) y
  pub straight : AreStraightLegs y.heading (first ∷ more)
  pub begins : (on.front ≡ []) ⊎ (0 < turn from.heading y.heading)

-- the line between the two points, the second of which lies further on in the direction
abbrev pub line_between : Dir → Point → Point → Line
line_between East p q = record { way = Horizontal; at = p.y; lo = p.x; hi = q.x }
line_between South p q = record { way = Vertical; at = p.x; lo = p.y; hi = q.y }
line_between West p q = record { way = Horizontal; at = p.y; lo = q.x; hi = p.x }
line_between North p q = record { way = Vertical; at = p.x; lo = q.y; hi = p.y }

-- the first line is a part of the second
pub record IsPartOf (l m : Line) : Type 0 where
  pub way : l.way ≡ m.way
  pub at : l.at ≡ m.at
  pub from : m.lo ≤ℤ l.lo
  pub to : l.hi ≤ℤ m.hi

-- both crossings are on a line of the arena, and the line drawn between them is a part of it
pub record LieOnLine (a : Arena) (d : Dir) (b c : ℕ) (p q : Point) : Type 0 where
  pub id : ℕ
  pub line : Line
  pub is : get a.lines id ≡ Some line
  pub first : IsOn a id b
  pub second : IsOn a id c
  pub part : IsPartOf (line_between d p q) line

-- at the place the walk's way turns: the run that ends there begins at the entry or is held, the run that begins there is held if it ends with a bend
pub record IsTurn (solids : List Solid) (a : Arena) (task : Task) (t : Triple) (along : GoesAlongWay solids a task t) (y : Place) (q : Point) (m : Leg) (back : List Leg) : Type 0 where
  pub once : turn y.heading m.to.heading ≡ 1
  pub into : IsRunInto solids a task t along y q (m ∷ back)
  pub into_held : (into.on.front ≡ []) ⊎ IsHeldTo solids task.via (held_to into.from.heading m.to.heading) (run_line into.point y.heading (distance into.point q))
  pub next : IsNextStation solids a task t along y q m back
  pub next_held : (k : Leg) (ks : List Leg) → next.station.back ≡ k ∷ ks → 0 < turn m.to.heading k.to.heading →
      IsHeldTo solids task.via (held_to y.heading k.to.heading) (run_line q m.to.heading (distance q next.point))

-- what the way of a first walk does at the station y, to which it comes straight from x: it ends, turns, doubles back, or goes straight on with more passed
pub data Stop (solids : List Solid) (a : Arena) (task : Task) (t : Triple) (along : GoesAlongWay solids a task t) (x y : Place) (q : Point) (rest : List Leg) : Type 0 where
  ends : rest ≡ [] → IsEnding solids a task.via along.end y → Stop solids a task t along x y q rest
  turns : (m : Leg) (back : List Leg) → rest ≡ m ∷ back → IsTurn solids a task t along y q m back → Stop solids a task t along x y q rest
  doubles : (m : Leg) (back : List Leg) → rest ≡ m ∷ back → turn y.heading m.to.heading ≡ 2 → Contains task.via q → Stop solids a task t along x y q rest
  rises : (m : Leg) (back : List Leg) → rest ≡ m ∷ back → y.heading ≡ m.to.heading → x.stage < y.stage → Stop solids a task t along x y q rest
