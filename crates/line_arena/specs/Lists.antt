-- How the crossings of the lines are linked. No public clause cites this module.
use Rattle.std.specs.Prelude.{◌≡◌, ◌≢◌, ◌==◌, if◌then◌else◌, ℕ, ℤ, ◌<ℤ◌, ◌≤ℤ◌, Option, Some, None, option_and_then}
use Rattle.std.specs.Option.{option_map}
use Rattle.slab.specs.Slab.{slab_len}
use Rattle.plane_geom.specs.declared.point.Point.{Point}
use Rattle.plane_geom.specs.declared.point.Dir.{Dir}
use Rattle.plane_geom.specs.declared.point.Dir.TheVariants.{East, South, West, North}
use Rattle.plane_geom.specs.declared.point.Way.TheVariants.{Vertical, Horizontal}
use Rattle.plane_geom.specs.declared.floor.Line.{Line}
use Rattle.plane_geom.specs.Floor.{AreOnOneWholeLine, Holds}
use Rattle.line_arena.specs.declared.lists.Lists.{Lists}
use Rattle.line_arena.specs.declared.node.Node.{Node}
use Rattle.plane_geom.specs.Along.{reach, way_of}
use Rattle.line_arena.specs.Entries.{entry_at}
use Rattle.line_arena.specs.Node.{next_of, start_of}

-- the point of a crossing
pub record Spot : Type 0 where
  pub point : Point
  pub vertical : ℕ
  pub horizontal : ℕ

abbrev pub spot_of : Point × Node → Spot
spot_of e = record { point = e.0; vertical = e.1.vertical; horizontal = e.1.horizontal }

-- the line of the crossing along which one travels in the direction
abbrev pub line_along : Dir → Spot → ℕ
line_along East s = s.horizontal
line_along South s = s.vertical
line_along West s = s.horizontal
line_along North s = s.vertical

-- the line, the spot of the crossing under an id
abbrev pub line_at : Lists → ℕ → Option Line
line_at a l = option_map (λ e. e.0) (entry_at a.lines l)

abbrev pub spot_at : Lists → ℕ → Option Spot
spot_at a c = option_map spot_of (entry_at a.crossings c)

-- the crossing after this one in the line's list in the direction; after none it is the beginning of the list
abbrev pub link : Lists → ℕ → Option ℕ → Dir → Option ℕ
link a l None d = option_and_then (λ e. start_of d e.1) (entry_at a.lines l)
link a l (Some c) d = option_and_then (λ e. next_of d e.1) (entry_at a.crossings c)

-- the coordinate is past the other one, if there is one
abbrev pub IsPast : Option ℤ → ℤ → Type 0
IsPast None z = Unit {0}
IsPast (Some b) z = b <ℤ z

-- of the entries with coordinates, this is the nearest past the given one
abbrev pub IsNext : (ℕ → ℤ → Type 0) → Option ℤ → Option ℕ → Type 0
IsNext At from None = (c : ℕ) (z : ℤ) → At c z → IsPast from z → ⊥
IsNext At from (Some n) = (y : ℤ) × At n y × IsPast from y × ((c : ℕ) (z : ℤ) → At c z → IsPast from z → y ≤ℤ z)

-- of the entries with coordinates, this is the nearest that the given one is not past
abbrev pub IsFirstFrom : (ℕ → ℤ → Type 0) → ℤ → Option ℕ → Type 0
IsFirstFrom At from None = (c : ℕ) (z : ℤ) → At c z → from ≤ℤ z → ⊥
IsFirstFrom At from (Some n) = (y : ℤ) × At n y × (from ≤ℤ y) × ((c : ℕ) (z : ℤ) → At c z → from ≤ℤ z → y ≤ℤ z)

-- the crossing is on the line along which one travels in the direction, with this coordinate in that direction
pub record Stands (spots : ℕ → Option Spot) (l : ℕ) (d : Dir) (c : ℕ) (z : ℤ) : Type 0 where
  pub spot : Spot
  pub is : spots c ≡ Some spot
  pub line : line_along d spot ≡ l
  pub along : reach d spot.point ≡ z

-- the crossing is on the line along which one travels in the direction, and the point is beyond it
pub record IsShortOf (spots : ℕ → Option Spot) (l : ℕ) (d : Dir) (p : Point) (c : ℕ) : Type 0 where
  pub at : ℤ
  pub stands : Stands spots l d c at
  pub before : at <ℤ reach d p

-- all crossings except one
abbrev pub without : ℕ → (ℕ → Option Spot) → ℕ → Option Spot
without k spots c = if c == k then None else spots c

-- in the direction, each crossing is followed by the nearest one further on its line, and each list begins with its first
pub record AreLinked (a : Lists) (spots : ℕ → Option Spot) (d : Dir) : Type 0 where
  pub starts : (l : ℕ) (line : Line) → line_at a l ≡ Some line → line.way ≡ way_of d → IsNext (Stands spots l d) None (link a l None d)
  pub nexts : (c : ℕ) (s : Spot) → spots c ≡ Some s →
      IsNext (Stands spots (line_along d s) d) (Some (reach d s.point)) (link a (line_along d s) (Some c) d)

-- the vertical and the horizontal line of a crossing exist, and both contain its point
pub record IsSpot (lines : ℕ → Option Line) (s : Spot) : Type 0 where
  pub vertical : Line
  pub horizontal : Line
  pub is_vertical : lines s.vertical ≡ Some vertical
  pub is_horizontal : lines s.horizontal ≡ Some horizontal
  pub vertical_runs : vertical.way ≡ Vertical
  pub horizontal_runs : horizontal.way ≡ Horizontal
  pub on_vertical : Holds vertical s.point
  pub on_horizontal : Holds horizontal s.point

-- no two lines share a point of one whole line, each crossing is of two lines, and no two are at one point
pub record IsSound (lines : ℕ → Option Line) (spots : ℕ → Option Spot) : Type 0 where
  pub ordered : (l : ℕ) (line : Line) → lines l ≡ Some line → line.lo ≤ℤ line.hi
  pub apart : (i j : ℕ) (a b : Line) (p : Point) → lines i ≡ Some a → lines j ≡ Some b →
      AreOnOneWholeLine a b → Holds a p → Holds b p → i ≡ j
  pub on_lines : (c : ℕ) (s : Spot) → spots c ≡ Some s → IsSpot lines s
  pub single : (c k : ℕ) (s t : Spot) → spots c ≡ Some s → spots k ≡ Some t → s.point ≡ t.point → c ≡ k

-- the invariant of the lists between two calls
pub record AreLists (a : Lists) : Type 0 where
  pub sound : IsSound (line_at a) (spot_at a)
  pub linked : (d : Dir) → AreLinked a (spot_at a) d

-- the line exists, and one travels along it in the direction
pub record RunsAlong (a : Lists) (l : ℕ) (d : Dir) : Type 0 where
  pub line : Line
  pub is : line_at a l ≡ Some line
  pub way : line.way ≡ way_of d

-- both have lines and crossings in the same places, and the same room
pub record SamePlaces (a b : Lists) : Type 0 where
  pub lines : (l : ℕ) → line_at b l ≡ line_at a l
  pub spots : (c : ℕ) → spot_at b c ≡ spot_at a c
  pub line_count : slab_len b.lines.slab ≡ slab_len a.lines.slab
  pub crossing_count : slab_len b.crossings.slab ≡ slab_len a.crossings.slab
  pub line_room : b.lines.room ≡ a.lines.room
  pub crossing_room : b.crossings.room ≡ a.crossings.room
  pub places : b.crossings.slab.capacity ≡ a.crossings.slab.capacity

-- all links in the direction are the same
pub record SameDirection (a b : Lists) (d : Dir) : Type 0 where
  pub starts : (l : ℕ) (line : Line) → line_at a l ≡ Some line → line.way ≡ way_of d → link b l None d ≡ link a l None d
  pub nexts : (m c : ℕ) → link b m (Some c) d ≡ link a m (Some c) d

-- only this one of the links in the direction has changed
pub record Relinks (a b : Lists) (l : ℕ) (from : Option ℕ) (d : Dir) (to : Option ℕ) : Type 0 where
  pub places : SamePlaces a b
  pub changed : link b l from d ≡ to
  pub other_directions : (e : Dir) → e ≢ d → SameDirection a b e
  pub other_crossings : (m : ℕ) (f : Option ℕ) → f ≢ from → link b m f d ≡ link a m f d
  pub other_lines : (m : ℕ) → m ≢ l → link b m None d ≡ link a m None d

-- no two crossings of a line are at one point of it
abbrev pub AreApart : (ℕ → Option Spot) → Dir → Type 0
AreApart spots d = (l c e : ℕ) (z : ℤ) → Stands spots l d c z → Stands spots l d e z → c ≡ e

-- the crossing has the nearest of the others on both its lines as its neighbours
pub record KnowsNeighbours (a : Lists) (k : ℕ) : Type 0 where
  pub spot : Spot
  pub is : spot_at a k ≡ Some spot
  pub runs : (d : Dir) → RunsAlong a (line_along d spot) d
  pub next : (d : Dir) → IsNext (Stands (without k (spot_at a)) (line_along d spot) d) (Some (reach d spot.point)) (link a (line_along d spot) (Some k) d)
  pub apart : (d : Dir) → AreApart (spot_at a) d

-- the neighbours of the crossing are the same
abbrev pub SameLinks : Lists → Lists → ℕ → Type 0
SameLinks a b k = (m : ℕ) (d : Dir) → link b m (Some k) d ≡ link a m (Some k) d

-- the new map has this at the id, and everywhere else what the old one had
pub record UpdatesAt {X : Type 0} (old new : ℕ → Option X) (id : ℕ) (x : Option X) : Type 0 where
  pub changed : new id ≡ x
  pub others : (other : ℕ) → other ≢ id → new other ≡ old other

-- no line of its whole line shares a point with the line
abbrev pub IsApart : (ℕ → Option Line) → Line → Type 0
IsApart lines l = (i : ℕ) (m : Line) (p : Point) → lines i ≡ Some m → AreOnOneWholeLine m l → Holds m p → Holds l p → ⊥

-- the ids are of a vertical and of a horizontal line that share a point
pub record AreMet (lines : ℕ → Option Line) (vertical horizontal : ℕ) : Type 0 where
  pub point : Point
  pub spot : IsSpot lines (record { point = point; vertical = vertical; horizontal = horizontal })

-- a crossing of the two lines was added
pub record IsPut (old new : ℕ → Option Spot) (id vertical horizontal : ℕ) : Type 0 where
  pub point : Point
  pub updates : UpdatesAt old new id (Some (record { point = point; vertical = vertical; horizontal = horizontal }))
