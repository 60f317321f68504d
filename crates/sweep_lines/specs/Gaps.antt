-- The gaps between open spans on one whole line.
use Rattle.std.specs.Prelude.{cond, ℤ, ◌≤ℤ◌, ◌⊎◌, List, [], ◌∷◌, int_lt}
use Rattle.std.specs.Int.{int_max}
use Rattle.std.specs.List.{AllByRecursion}
use Rattle.plane_geom.specs.Point.{sheet_end}
use Rattle.interval_index.specs.declared.span.Span.{Span}

-- a closed interval
pub record Piece : Type 0 where
  pub lo : ℤ
  pub hi : ℤ

-- the gaps between the spans, which are ordered by their begins, from a number to the end of the sheet
abbrev pub gaps : ℤ → List Span → List Piece
gaps from [] = record { lo = from; hi = sheet_end } ∷ []
gaps from (s ∷ ss) =
    let rest = gaps (int_max from s.hi) ss in
    cond (int_lt s.lo from) rest (record { lo = from; hi = s.lo } ∷ rest)

-- no point of the piece is inside a span
abbrev pub IsClear : Piece → List Span → Type 0
IsClear p = AllByRecursion (λ s. (p.hi ≤ℤ s.lo) ⊎ (s.hi ≤ℤ p.lo))

-- the first piece lies in the second
pub record LiesIn (p q : Piece) : Type 0 where
  pub lo : q.lo ≤ℤ p.lo
  pub hi : p.hi ≤ℤ q.hi
