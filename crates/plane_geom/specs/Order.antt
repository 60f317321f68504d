-- The order of lines.
use Rattle.std.specs.Prelude.{◌≡◌, Bool, true, false, ◌&&◌, ◌||◌, int_lt, List, AllPairs}
use Rattle.std.specs.Ordering.{int_eq}
use Rattle.plane_geom.specs.declared.point.Way.{Way}
use Rattle.plane_geom.specs.declared.point.Way.TheVariants.{Vertical, Horizontal}
use Rattle.plane_geom.specs.declared.floor.Line.{Line}

-- whether a line of the first way comes before a line of the second; `rest` decides for lines of the same way
abbrev pub way_before : Way → Way → Bool → Bool
way_before Vertical Vertical rest = rest
way_before Vertical Horizontal rest = true
way_before Horizontal Vertical rest = false
way_before Horizontal Horizontal rest = rest

-- whether one line comes before another: vertical ones first, then by coordinate, then by begin
abbrev pub stands_before : Line → Line → Bool
stands_before l m = way_before l.way m.way (int_lt l.at m.at || (int_eq l.at m.at && int_lt l.lo m.lo))

-- the line of each entry comes before those of all later entries
abbrev pub AreOrderedBy : {X : Type 0} → (X → Line) → List X → Type 0
AreOrderedBy line = AllPairs (λ d e. stands_before (line d) (line e) ≡ true)

-- each line comes before all later ones
abbrev pub AreOrdered : List Line → Type 0
AreOrdered = AreOrderedBy (λ line. line)
