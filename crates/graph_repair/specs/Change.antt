-- The model of a repair, the floors between which it leads, and its number of writes.
use Rattle.std.specs.Prelude.{◌≡◌, ◌↔◌, ℕ, ◌+◌, ◌≤◌, Bool, List, Contains, length}
use Rattle.std.specs.FinMap.{len}
use Rattle.plane_geom.specs.declared.floor.Line.{Line}
use Rattle.plane_geom.specs.declared.floor.Floor.{Floor}
use Rattle.plane_geom.specs.Floor.{IsKept}
use Rattle.plane_geom.specs.Order.{AreOrdered}
use Rattle.visibility_graph.specs.Drawing.{Drawing}
use Rattle.visibility_graph.specs.Meeting.{coming, meets, pairs_by}
use Rattle.line_arena.specs.Count.{counted_by}

-- the floor that the graph does not represent; the kept lines of both floors, those of the graph's floor alone, and those of
-- the other floor alone; and whether the repair was applied
pub record Change : Type 0 where
  pub floor : Floor
  pub stay : List Line
  pub here : List Line
  pub there : List Line
  pub applied : Bool

-- the kept lines of both floors, each once, in order
pub record AreShared (a b : Floor) (ls : List Line) : Type 0 where
  pub listed : (l : Line) → Contains ls l ↔ (IsKept a l × IsKept b l)
  pub ordered : AreOrdered ls

-- the kept lines of the first floor that the second has not, each once, in order
pub record AreAlone (a b : Floor) (ls : List Line) : Type 0 where
  pub listed : (l : Line) → Contains ls l ↔ (IsKept a l × (IsKept b l → ⊥))
  pub ordered : AreOrdered ls

-- the repair leads from the graph's floor to its own, and the arena has places for all lines and crossings of that floor
pub record LeadsFrom (graph : Drawing) (change : Change) : Type 0 where
  pub stay : AreShared graph.floor change.floor change.stay
  pub here : AreAlone graph.floor change.floor change.here
  pub there : AreAlone change.floor graph.floor change.there
  pub line_places : length change.stay + length change.there ≤ len graph.arena.lines + graph.arena.spare_lines
  pub crossing_places : pairs_by meets change.stay + coming change.there change.stay ≤ len graph.arena.crossings + graph.arena.spare_crossings

-- n is the number of kept lines that the old floor has not, and of crossings on such a line
pub record IsWriteCount (old new : Floor) (n : ℕ) : Type 0 where
  pub stay : List Line
  pub come : List Line
  pub are_stay : AreShared old new stay
  pub are_come : AreAlone new old come
  pub count : n ≡ length come + coming come stay

-- the count rose by the number of writes for the change from the old floor to the new one
abbrev pub CountsWrites : Floor → Floor → ℕ → ℕ → Type 0
CountsWrites old new before after = (n : ℕ) × IsWriteCount old new n × (after ≡ counted_by n before)
