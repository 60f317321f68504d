-- The spans of the bars that a whole line crosses.
use Rattle.std.specs.Prelude.{◌≡◌, ◌⊎◌, ℕ, ℤ, ◌<ℤ◌, ◌≤ℤ◌, List, All, Any, Contains, Some, slice_get}
use Rattle.std.specs.List.{AllByRecursion}
use Rattle.plane_geom.specs.declared.point.Way.{Way}
use Rattle.plane_geom.specs.declared.rect.Solid.{Solid}
use Rattle.plane_geom.specs.Point.{IsCoordinate}
use Rattle.interval_index.specs.declared.span.Span.{Span}
use Rattle.sweep_lines.specs.declared.bar.Bar.{Bar}
use Rattle.sweep_lines.specs.declared.mark.Mark.{Mark}
use Rattle.sweep_lines.specs.Bars.{bar_of}
use Rattle.sweep_lines.specs.Marks.{begun_span}

-- two places on the sheet, the first before the second
pub record HasLength (lo hi : ℤ) : Type 0 where
  pub from : IsCoordinate lo
  pub to : IsCoordinate hi
  pub long : lo <ℤ hi

-- the extent of the bar with the number along the lines
abbrev pub span_of : ℕ → Bar → Span
span_of k b = record { key = k; lo = b.lo; hi = b.hi }

-- a span, and the numbered bar that has it, with a property
pub record IsSpanOf (bars : List Bar) (Is : Bar → Type 0) (s : Span) : Type 0 where
  pub bar : Bar
  pub numbered : slice_get bars s.key ≡ Some bar
  pub span : s ≡ span_of s.key bar
  pub is : Is bar

-- the spans are those of the numbered bars with the property
pub record AreSpansOf (bars : List Bar) (Is : Bar → Type 0) (ss : List Span) : Type 0 where
  pub each : (s : Span) → Contains ss s → IsSpanOf bars Is s
  pub all : (k : ℕ) (b : Bar) → slice_get bars k ≡ Some b → Is b → Contains ss (span_of k b)

-- the bar has begun before the coordinate, and ends at it or later
abbrev pub HasBegun : ℤ → Bar → Type 0
HasBegun at b = (b.begin <ℤ at) × (at ≤ℤ b.end)

-- the whole line at the coordinate runs through the inside of the bar
abbrev pub IsCrossed : ℤ → Bar → Type 0
IsCrossed at b = (b.begin <ℤ at) × (at <ℤ b.end)

-- the bar has begun at it or before, and ends later
abbrev pub HasNotEnded : ℤ → Bar → Type 0
HasNotEnded at b = (b.begin ≤ℤ at) × (at <ℤ b.end)

-- the new spans are the old ones and those that begin with a mark
pub record AreOpened (here : List Mark) (before after : List Span) : Type 0 where
  pub kept : (s : Span) → Contains before s → Contains after s
  pub begun : (s : Span) → Any (λ m. begun_span m ≡ Some s) here → Contains after s
  pub each : (s : Span) → Contains after s → Contains before s ⊎ Any (λ m. begun_span m ≡ Some s) here

-- the whole line at the coordinate runs through the inside of the bar, from one end of the span to the other
pub record Opens (b : Bar) (at : ℤ) (s : Span) : Type 0 where
  pub begun : b.begin <ℤ at
  pub not_ended : at <ℤ b.end
  pub lo : s.lo ≡ b.lo
  pub hi : s.hi ≡ b.hi
  pub long : b.lo <ℤ b.hi

-- the spans are those of the solids that the whole line crosses
pub record AreOpen (way : Way) (at : ℤ) (solids : List Solid) (ss : List Span) : Type 0 where
  pub each : AllByRecursion (λ s. Any (λ q. Opens (bar_of way q.rect) at s) solids) ss
  pub all : All (λ q. (bar_of way q.rect).begin <ℤ at → at <ℤ (bar_of way q.rect).end → Any (λ s. Opens (bar_of way q.rect) at s) ss) solids
