-- Whether a line is in a list, whether it stays, and the lines of pairs. No public clause cites this module.
use Rattle.std.specs.Prelude.{Bool, not, ◌&&◌, ◌||◌, ℕ, List, map}
use Rattle.std.specs.List.{list_any}
use Rattle.std.specs.Ordering.{int_eq}
use Rattle.plane_geom.specs.declared.rect.Rect.{Rect}
use Rattle.plane_geom.specs.declared.floor.Line.{Line}
use Rattle.sweep_lines.specs.Kept.{is_near}
use Rattle.visibility_graph.specs.Meeting.{same_way}

-- whether the lines are equal
abbrev pub same_line : Line → Line → Bool
same_line l m = same_way l.way m.way && (int_eq l.at m.at && (int_eq l.lo m.lo && int_eq l.hi m.hi))

-- whether the line is one of those listed
abbrev pub is_listed : List Line → Line → Bool
is_listed ls l = list_any (same_line l) ls

-- whether an old line stays, given the list of the new lines near a rectangle
abbrev pub stays : Rect → List Line → Line → Bool
stays near news l = not (is_near near l) || is_listed news l

-- whether an old line is removed
abbrev pub goes : Rect → List Line → Line → Bool
goes near news l = not (stays near news l)

-- the lines of pairs of a line and its id
abbrev pub lines_of : List (Line × ℕ) → List Line
lines_of = map (λ e. e.0)
