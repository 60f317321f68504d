-- The lines of an arena by number, each with its crossings in order.
use Rattle.std.specs.Prelude.{◌≡◌, ℕ, ◌<ℤ◌, Some, List, [], All, AllPairs, Any, length, slice_get, slice_index_or}
use Rattle.std.specs.FinMap.{get}
use Rattle.plane_geom.specs.declared.point.Way.{Way}
use Rattle.plane_geom.specs.declared.floor.Line.{Line}
use Rattle.plane_geom.specs.Along.{rising}
use Rattle.plane_geom.specs.Floor.{point_on}
use Rattle.line_arena.specs.Arena.{Arena, IsOn, Pair, StandsAt, line_along}
use Rattle.line_lists.specs.declared.stop.Numbers.{Numbers}
use Rattle.line_lists.specs.declared.stop.Stop.{Stop}
use Rattle.line_lists.specs.Numbers.{no_numbers, number_in, other_way}

-- the lines by number, the stops of each, and the numbers of each crossing's lines by the number of the crossing
pub record Lists : Type 0 where
  pub lines : List Line
  pub stops : List (List Stop)
  pub numbers : List Numbers

-- the stops of the line with the number
abbrev pub stops_of : Lists → ℕ → List Stop
stops_of lists n = slice_index_or lists.stops n []

-- the number of the line of the crossing that lies this way
abbrev pub number_of : Lists → ℕ → Way → ℕ
number_of lists crossing way = number_in way (slice_index_or lists.numbers crossing no_numbers)

-- the line of the arena under the id has the number
pub record IsNumbered (a : Arena) (lists : Lists) (id n : ℕ) (line : Line) : Type 0 where
  pub is : get a.lines id ≡ Some line
  pub listed : slice_get lists.lines n ≡ Some line

abbrev pub HasNumber : Arena → Lists → ℕ → ℕ → Type 0
HasNumber a lists id n = (line : Line) × IsNumbered a lists id n line

-- the stop is at a crossing of the line, which stands there on it
pub record IsStopOf (a : Arena) (id : ℕ) (line : Line) (s : Stop) : Type 0 where
  pub pair : Pair
  pub is : get a.crossings s.crossing ≡ Some pair
  pub here : line_along (rising line.way) pair ≡ id
  pub stands : StandsAt a s.crossing (point_on line.way line.at s.along)

-- the stops are at all crossings of the line, in the order of rising coordinate
pub record AreStopsOf (a : Arena) (id : ℕ) (line : Line) (stops : List Stop) : Type 0 where
  pub each : All (IsStopOf a id line) stops
  pub all : (c : ℕ) → IsOn a id c → Any (λ s. s.crossing ≡ c) stops
  pub rise : AllPairs (λ s t. s.along <ℤ t.along) stops

-- a stop of a line of this way has the number of the line across
abbrev pub LeadsAcross : Arena → Lists → Way → Stop → Type 0
LeadsAcross a lists way s = (pair : Pair) → get a.crossings s.crossing ≡ Some pair →
    HasNumber a lists (line_along (rising (other_way way)) pair) s.across

-- the lists are those of the arena: each line has one number and its stops, and each crossing has the numbers of its lines
pub record AreListsOf (a : Arena) (lists : Lists) : Type 0 where
  pub of_number : (n : ℕ) (line : Line) → slice_get lists.lines n ≡ Some line → ∥ ((id : ℕ) × (get a.lines id ≡ Some line)) ∥₁
  pub of_line : (id : ℕ) (line : Line) → get a.lines id ≡ Some line → ∥ ((n : ℕ) × (slice_get lists.lines n ≡ Some line)) ∥₁
  pub once : (n m : ℕ) (line : Line) → slice_get lists.lines n ≡ Some line → slice_get lists.lines m ≡ Some line → n ≡ m
  pub stops : (id n : ℕ) (line : Line) → IsNumbered a lists id n line → AreStopsOf a id line (stops_of lists n)
  pub across : (id n : ℕ) (line : Line) → IsNumbered a lists id n line → All (LeadsAcross a lists line.way) (stops_of lists n)
  pub numbers : (c : ℕ) (pair : Pair) (way : Way) → get a.crossings c ≡ Some pair →
      HasNumber a lists (line_along (rising way) pair) (number_of lists c way)
  pub places : length lists.numbers ≡ a.places
