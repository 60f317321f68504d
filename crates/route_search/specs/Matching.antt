-- The lists of an arena by equations, so that the fact has one proof and a finder can keep it. Public clauses cite `AreLinesOf`.
use Rattle.std.specs.Prelude.{ℕ, ◌≡◌, ◌≢◌, ◌==◌, ◌<ℤ◌, true, Option, Some, None, List, All, AllPairs, length, slice_get}
use Rattle.std.specs.List.{list_any}
use Rattle.std.specs.FinMap.{get}
use Rattle.std.specs.Option.{option_map}
use Rattle.plane_geom.specs.declared.point.Point.{Point}
use Rattle.plane_geom.specs.declared.rect.Solid.{Solid}
use Rattle.plane_geom.specs.declared.point.Way.{Way}
use Rattle.plane_geom.specs.declared.floor.Line.{Line}
use Rattle.plane_geom.specs.Along.{rising}
use Rattle.plane_geom.specs.Floor.{point_on}
use Rattle.line_arena.specs.Arena.{Arena, IsOn, Pair, line_along}
use Rattle.line_lists.specs.Lists.{IsNumbered, Lists, number_of, stops_of}
use Rattle.line_lists.specs.Numbers.{other_way}
use Rattle.line_lists.specs.declared.stop.Stop.{Stop}
use Rattle.search_problem.specs.Stubs.{AreSame}
use Rattle.side_touches.specs.Touches.{AreTouches}
use Rattle.route_search.specs.declared.lines.Lines.{Lines as SearchLines}
use Rattle.route_search.specs.declared.lines.FinderLines.{FinderLines}
use Rattle.route_search.specs.declared.lines.FinderLines.TheVariants.{Unmade, Own, Lent}

-- the point where two lines cross, if both are there
abbrev pub point_across : Option Line → Option Line → Option Point
point_across None across = None
point_across (Some down) None = None
point_across (Some down) (Some across) = Some (record { x = down.at; y = across.at })

-- the point of the crossing with these lines, if it is there
abbrev pub point_with : Arena → Option Pair → Option Point
point_with a None = None
point_with a (Some pair) = point_across (get a.lines pair.vertical) (get a.lines pair.horizontal)

-- the line with the number is the one under the id, which is there
pub record HasMatchingNumber (a : Arena) (lists : Lists) (id n : ℕ) : Type 0 where
  pub same : slice_get lists.lines n ≡ get a.lines id
  pub there : get a.lines id ≢ None

-- the stop is at a crossing of the line, which stands there on it
pub record IsMatchingStop (a : Arena) (id : ℕ) (line : Line) (s : Stop) : Type 0 where
  pub on : option_map (line_along (rising line.way)) (get a.crossings s.crossing) ≡ Some id
  pub at : point_with a (get a.crossings s.crossing) ≡ Some (point_on line.way line.at s.along)

-- the stops are at all crossings of the line, in the order of rising coordinate
pub record AreMatchingStops (a : Arena) (id : ℕ) (line : Line) (stops : List Stop) : Type 0 where
  pub each : All (IsMatchingStop a id line) stops
  pub all : (c : ℕ) → IsOn a id c → list_any (λ s. s.crossing == c) stops ≡ true
  pub rise : AllPairs (λ s t. s.along <ℤ t.along) stops

-- the lists are those of the arena
pub record AreMatchingLists (a : Arena) (lists : Lists) : Type 0 where
  pub of_number : (n : ℕ) (line : Line) → slice_get lists.lines n ≡ Some line → ∥ ((id : ℕ) × (get a.lines id ≡ Some line)) ∥₁
  pub of_line : (id : ℕ) (line : Line) → get a.lines id ≡ Some line → ∥ ((n : ℕ) × (slice_get lists.lines n ≡ Some line)) ∥₁
  pub once : (n m : ℕ) (line : Line) → slice_get lists.lines n ≡ Some line → slice_get lists.lines m ≡ Some line → n ≡ m
  pub stops : (id n : ℕ) (line : Line) → IsNumbered a lists id n line → AreMatchingStops a id line (stops_of lists n)
  pub across : (id n : ℕ) (line : Line) → IsNumbered a lists id n line →
      All (λ s. (pair : Pair) → get a.crossings s.crossing ≡ Some pair → HasMatchingNumber a lists (line_along (rising (other_way line.way)) pair) s.across) (stops_of lists n)
  pub numbers : (c : ℕ) (pair : Pair) (way : Way) → get a.crossings c ≡ Some pair → HasMatchingNumber a lists (line_along (rising way) pair) (number_of lists c way)
  pub places : length lists.numbers ≡ a.places

-- the lines are those of the arena with these solids
pub record AreLinesOf (a : Arena) (solids : List Solid) (l : SearchLines) : Type 0 where
  pub are_lists : AreMatchingLists a l.lists
  pub are_touches : ∥ AreTouches l.lists.lines solids l.touches ∥₁
  pub are_sorted : AreSame solids l.sorted.solids.items

-- the lines of a finder, if there are any
abbrev pub made_lines : FinderLines → Option SearchLines
made_lines Unmade = None
made_lines (Own lines) = Some lines
made_lines (Lent lines) = Some lines.now
