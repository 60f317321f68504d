-- The model of the index, and the results of its calls.
use Rattle.std.specs.Prelude.{◌≡◌, ℕ, ◌^◌, ◌<◌, Bool, not, ◌&&◌, ◌==◌, ◌⊎◌, ℤ, ◌≤ℤ◌, ◌<ℤ◌, int_lt, false, List, [], ◌∷◌, filter, find, map}
use Rattle.std.specs.List.{AllByRecursion, list_any}
use Rattle.std.specs.Int.{int_max, int_min}
use Rattle.std.specs.Ordering.{nat_cmp}
use Rattle.std.specs.BTreeMap.{BTreeMap}
use Rattle.std.specs.BTreeMap as tree
use Rattle.interval_index.specs.declared.span.Span.{Span}
use Rattle.plane_geom.specs.Point.{IsCoordinate}
use Rattle.interval_index.specs.Order.{IsSorted}

-- a span that may be in the index: on the sheet, and not empty
pub record IsSpan (s : Span) : Type 0 where
  pub key : s.key < 2 ^ 32
  pub lo : IsCoordinate s.lo
  pub hi : IsCoordinate s.hi
  pub not_empty : s.lo <ℤ s.hi

-- no two spans have the same key
abbrev pub HaveDistinctKeys : List Span → Type 0
HaveDistinctKeys [] = Unit {0}
HaveDistinctKeys (s ∷ ss) = AllByRecursion (λ t. (t.key == s.key) ≡ false) ss × HaveDistinctKeys ss

-- the spans rise by lo and then key, and their keys are distinct
pub record IsListed (ss : List Span) : Type 0 where
  pub sorted : IsSorted ss
  pub spans : AllByRecursion IsSpan ss
  pub distinct : HaveDistinctKeys ss

-- the map leads from each key to its span
pub record IsIndex (ss : List Span) (by_key : BTreeMap ℕ Span) : Type 0 where
  pub listed : IsListed ss
  pub found : (k : ℕ) → tree.get nat_cmp by_key k ≡ find (λ s. s.key == k) ss

-- whether a span has the key
abbrev pub has_key : ℕ → List Span → Bool
has_key k = list_any (λ s. s.key == k)

-- the spans with other keys
abbrev pub without_key : ℕ → List Span → List Span
without_key k = filter (λ s. not (s.key == k))

-- whether the coordinate is strictly between the ends of one of the spans
abbrev pub inside_any : ℤ → List Span → Bool
inside_any at = list_any (λ s. int_lt s.lo at && int_lt at s.hi)

-- a closed interval around the coordinate, on the sheet, that has no point inside a span
pub record IsFree (ss : List Span) (at from to : ℤ) : Type 0 where
  pub from_within : IsCoordinate from
  pub to_within : IsCoordinate to
  pub before : from ≤ℤ at
  pub after : at ≤ℤ to
  pub clear : AllByRecursion (λ s. (to ≤ℤ s.lo) ⊎ (s.hi ≤ℤ from)) ss

-- such an interval that contains all others
pub record IsWidestFree (ss : List Span) (at from to : ℤ) : Type 0 where
  pub free : IsFree ss at from to
  pub widest : (a b : ℤ) → IsFree ss at a b → (from ≤ℤ a) × (b ≤ℤ to)

-- whether the span and the open interval from lo to hi share a point
abbrev pub touches : ℤ → ℤ → Span → Bool
touches lo hi s = int_lt (int_max lo s.lo) (int_min hi s.hi)

-- the keys of the spans that share a point with the open interval from lo to hi
abbrev pub keys_touching : ℤ → ℤ → List Span → List ℕ
keys_touching lo hi ss = map (λ s. s.key) (filter (touches lo hi) ss)
