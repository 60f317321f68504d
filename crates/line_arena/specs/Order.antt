-- Lines with their ids, in order.
use Rattle.std.specs.Prelude.{◌≡◌, ◌≤◌, ◌↔◌, ℕ, true, false, ◌≤ℤ◌, List, Some, Contains}
use Rattle.slab.specs.Slab.{slab_len}
use Rattle.plane_geom.specs.declared.point.Point.{Point}
use Rattle.plane_geom.specs.declared.point.Way.TheVariants.{Vertical}
use Rattle.plane_geom.specs.declared.floor.Line.{Line}
use Rattle.plane_geom.specs.Floor.{AreOnOneWholeLine, Holds}
use Rattle.plane_geom.specs.Order.{AreOrderedBy, stands_before}
use Rattle.line_arena.specs.declared.lists.Lists.{Lists}
use Rattle.line_arena.specs.Lists.{AreLists, line_at}

-- the vertical line with this point alone
abbrev pub at_point : Point → Line
at_point p = record { way = Vertical; at = p.x; lo = p.y; hi = p.y }

-- each line, with its id, comes before all later ones
abbrev pub AreOrderedWithIds : List (Line × ℕ) → Type 0
AreOrderedWithIds = AreOrderedBy (λ e. e.0)

-- each of the lines comes before the line or after it
abbrev pub HasPlace : List (Line × ℕ) → Line → Type 0
HasPlace lines line = (e : Line × ℕ) → Contains lines e → stands_before line e.0 ≡ false → stands_before e.0 line ≡ true

-- no two of the lines share a point of one whole line, and none ends before it begins
pub record AreApart (lines : List (Line × ℕ)) : Type 0 where
  pub ordered : (e : Line × ℕ) → Contains lines e → e.0.lo ≤ℤ e.0.hi
  pub apart : (d e : Line × ℕ) (p : Point) → Contains lines d → Contains lines e → AreOnOneWholeLine d.0 e.0 → Holds d.0 p → Holds e.0 p → d ≡ e

-- the invariant of an arena: its lists, and all their `held` lines in order, with a capacity of at least the room
pub record IsOrderedArena (a : Lists) (lines : List (Line × ℕ)) (held capacity : ℕ) : Type 0 where
  pub lists : AreLists a
  pub ordered : AreOrderedWithIds lines
  pub listed : (line : Line) (id : ℕ) → Contains lines (line, id) ↔ (line_at a id ≡ Some line)
  pub count : held ≡ slab_len a.lines.slab
  pub room : a.lines.room ≤ capacity
