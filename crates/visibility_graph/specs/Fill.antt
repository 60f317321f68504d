-- The conditions for putting lines into an arena, and the contents of the arena after it.
use Rattle.std.specs.Prelude.{◌≡◌, ◌↔◌, ◌⊎◌, ℕ, ◌+◌, ◌≤◌, ◌≤ℤ◌, Some, List, length, Contains, All}
use Rattle.std.specs.FinMap.{get, len}
use Rattle.plane_geom.specs.declared.point.Point.{Point}
use Rattle.plane_geom.specs.declared.point.Way.{Way}
use Rattle.plane_geom.specs.declared.point.Way.TheVariants.{Vertical, Horizontal}
use Rattle.plane_geom.specs.declared.floor.Line.{Line}
use Rattle.plane_geom.specs.Floor.{AreOnOneWholeLine, Holds}
use Rattle.plane_geom.specs.Order.{AreOrdered}
use Rattle.line_arena.specs.Arena.{Arena, Pair}
use Rattle.line_arena.specs.Stands.{HasLine, IsComplete}
use Rattle.visibility_graph.specs.Meeting.{coming}
use Rattle.line_arena.specs.Count.{counted_by}

-- the lines are exactly those of the arena
abbrev pub AreLines : Arena → List Line → Type 0
AreLines a ls = (l : Line) → HasLine a l ↔ Contains ls l

-- no line is in both lists
abbrev pub AreStrange : List Line → List Line → Type 0
AreStrange ls ms = (l : Line) → Contains ls l → Contains ms l → ⊥

-- two lines of one whole line that share a point are one
abbrev pub AreApart : (Line → Type 0) → Type 0
AreApart Is = (l m : Line) (p : Point) → Is l → Is m → AreOnOneWholeLine l m → Holds l p → Holds m p → l ≡ m

-- new lines may be put beside those that stay, which are all lines of the arena
pub record CanPut (a : Arena) (new stay : List Line) : Type 0 where
  pub lines : AreLines a stay
  pub complete : IsComplete a
  pub new_ordered : AreOrdered new
  pub stay_ordered : AreOrdered stay
  pub strange : AreStrange stay new
  pub long : All (λ l. l.lo ≤ℤ l.hi) new
  pub apart : AreApart (λ l. Contains new l ⊎ Contains stay l)
  pub room_for_lines : length new ≤ a.spare_lines
  pub room_for_crossings : coming new stay ≤ a.spare_crossings

-- the lines were added, with this number of crossings, so that none is missing
pub record ArePut (old new : Arena) (lines : List Line) (crossings : ℕ) : Type 0 where
  pub stands : (l : Line) → HasLine new l ↔ (HasLine old l ⊎ Contains lines l)
  pub complete : IsComplete new
  pub line_entries : len new.lines ≡ len old.lines + length lines
  pub crossing_entries : len new.crossings ≡ len old.crossings + crossings
  pub spare_lines : new.spare_lines + length lines ≡ old.spare_lines
  pub spare_crossings : new.spare_crossings + crossings ≡ old.spare_crossings
  pub written : new.written ≡ counted_by (length lines + crossings) old.written

-- the crossing of the line under the first id, which runs this way, with the other one
abbrev pub pair_along : Way → ℕ → ℕ → Pair
pair_along Vertical id other = record { vertical = id; horizontal = other }
pair_along Horizontal id other = record { vertical = other; horizontal = id }

-- the line under the id, which runs this way, has no crossing with the other one
abbrev pub IsUncrossed : Arena → ℕ → Way → Line → Type 0
IsUncrossed a id way other = (o c : ℕ) → get a.lines o ≡ Some other → get a.crossings c ≡ Some (pair_along way id o) → ⊥

-- the pair is of the line under the id with one of the others
pub record IsWithOneOf (a : Arena) (id : ℕ) (way : Way) (others : List Line) (pair : Pair) : Type 0 where
  pub other : Line
  pub listed : Contains others other
  pub other_id : ℕ
  pub is : get a.lines other_id ≡ Some other
  pub pair_is : pair ≡ pair_along way id other_id

-- the line under the id, which runs this way, has a crossing with each of the others now
pub record IsCrossed (old new : Arena) (id : ℕ) (way : Way) (others : List Line) : Type 0 where
  pub lines : new.lines ≡ old.lines
  pub stay : (c : ℕ) (p : Pair) → get old.crossings c ≡ Some p → get new.crossings c ≡ Some p
  pub come : (l : Line) (o : ℕ) → Contains others l → get old.lines o ≡ Some l → (c : ℕ) × (get new.crossings c ≡ Some (pair_along way id o))
  pub only : (c : ℕ) (p : Pair) → get new.crossings c ≡ Some p → (get old.crossings c ≡ Some p) ⊎ IsWithOneOf old id way others p
  pub entries : len new.crossings ≡ len old.crossings + length others
  pub spare_lines : new.spare_lines ≡ old.spare_lines
  pub spare_crossings : new.spare_crossings + length others ≡ old.spare_crossings
  pub written : new.written ≡ counted_by (length others) old.written
