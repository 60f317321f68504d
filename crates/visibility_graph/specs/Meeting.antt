-- Which lines meet, and the numbers of crossings.
use Rattle.std.specs.Prelude.{ℕ, ℤ, ◌+◌, Bool, true, false, not, ◌&&◌, int_lt, List, [], ◌∷◌, sum_by, count_by}
use Rattle.plane_geom.specs.declared.point.Way.{Way}
use Rattle.plane_geom.specs.declared.point.Way.TheVariants.{Vertical, Horizontal}
use Rattle.plane_geom.specs.declared.floor.Line.{Line}

abbrev pub same_way : Way → Way → Bool
same_way Vertical Vertical = true
same_way Vertical Horizontal = false
same_way Horizontal Vertical = false
same_way Horizontal Horizontal = true

-- whether the line runs past the coordinate along it, or ends there
abbrev pub reaches : Line → ℤ → Bool
reaches l at = not (int_lt at l.lo) && not (int_lt l.hi at)

-- whether the lines run different ways and share a point
abbrev pub meets : Line → Line → Bool
meets l m = not (same_way l.way m.way) && (reaches l m.at && reaches m l.at)

-- the number of pairs of elements that pass the test
abbrev pub pairs_by : {X : Type 0} → (X → X → Bool) → List X → ℕ
pairs_by test [] = 0
pairs_by test (x ∷ xs) = count_by (test x) xs + pairs_by test xs

-- the number of crossings that are added with new lines beside those that stay: with these, and with one another
abbrev pub coming : List Line → List Line → ℕ
coming new stay = sum_by (λ l. count_by (meets l) stay) new + pairs_by meets new

-- a counter of writes after n more writes; it stays at its last value
abbrev pub sorted_out : Way → Way → Bool → Bool
sorted_out Vertical Vertical rest = true
sorted_out Vertical Horizontal rest = rest
sorted_out Horizontal Vertical rest = rest
sorted_out Horizontal Horizontal rest = false
