-- Where spans begin and end.
use Rattle.std.specs.Prelude.{ℕ, Bool, cond, ◌&&◌, ℤ, int_lt, List, [], ◌∷◌, filter, map}
use Rattle.std.specs.Int.{int_max}
use Rattle.plane_geom.specs.Point.{sheet_start}
use Rattle.interval_index.specs.declared.span.Span.{Span}

-- the greatest end of the spans, or the start of the sheet
abbrev pub greatest_end : List Span → ℤ
greatest_end [] = sheet_start
greatest_end (s ∷ ss) = int_max s.hi (greatest_end ss)

-- the greatest end of the spans that begin before the coordinate, or the start of the sheet
abbrev pub greatest_end_before : ℤ → List Span → ℤ
greatest_end_before at [] = sheet_start
greatest_end_before at (s ∷ ss) = cond (int_lt s.lo at) (int_max s.hi (greatest_end_before at ss)) (greatest_end_before at ss)

-- where the first span begins that does not begin before the coordinate
abbrev pub start_from : ℤ → ℤ → List Span → ℤ
start_from at otherwise [] = otherwise
start_from at otherwise (s ∷ ss) = cond (int_lt s.lo at) (start_from at otherwise ss) s.lo

-- whether the span begins before hi and ends after lo
abbrev pub meets : ℤ → ℤ → Span → Bool
meets lo hi s = int_lt s.lo hi && int_lt lo s.hi

-- the keys of the spans that begin before hi and end after lo
abbrev pub keys_met : ℤ → ℤ → List Span → List ℕ
keys_met lo hi ss = map (λ s. s.key) (filter (meets lo hi) ss)
