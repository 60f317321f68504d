-- The order of the spans in the index.
use Rattle.std.specs.Prelude.{◌≡◌, true, Bool, cond, ◌||◌, ◌&&◌, List, [], ◌∷◌, int_lt, nat_lt, filter}
use Rattle.std.specs.List.{AllByRecursion}
use Rattle.std.specs.Ordering.{int_eq}
use Rattle.interval_index.specs.declared.span.Span.{Span}

-- whether one span comes before another: by lo, and then by key
abbrev pub is_before : Span → Span → Bool
is_before s t = int_lt s.lo t.lo || (int_eq s.lo t.lo && nat_lt s.key t.key)

-- each span comes before all later ones
abbrev pub IsSorted : List Span → Type 0
IsSorted [] = Unit {0}
IsSorted (s ∷ ss) = AllByRecursion (λ t. is_before s t ≡ true) ss × IsSorted ss

-- the spans with s inserted at its place
abbrev pub inserted : Span → List Span → List Span
inserted s [] = s ∷ []
inserted s (t ∷ ts) = cond (is_before s t) (s ∷ t ∷ ts) (t ∷ inserted s ts)

-- the spans that are before or after s
abbrev pub without : Span → List Span → List Span
without s = filter (λ t. is_before s t || is_before t s)
