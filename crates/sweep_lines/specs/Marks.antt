-- The marks on whole lines, and which pieces they keep.
use Rattle.std.specs.Prelude.{◌≡◌, ℕ, ◌+◌, Bool, true, false, not, cond, ◌&&◌, ◌||◌, ◌==◌, int_lt, ℤ, List, [], ◌∷◌, ◌++◌, map, filter, Contains, Option, Some, None}
use Rattle.std.specs.List.{list_any}
use Rattle.plane_geom.specs.declared.point.Point.{Point}
use Rattle.plane_geom.specs.declared.point.Way.{Way}
use Rattle.plane_geom.specs.declared.floor.Line.{Line}
use Rattle.plane_geom.specs.Point.{sheet_start}
use Rattle.plane_geom.specs.Along.{across, along}
use Rattle.interval_index.specs.declared.span.Span.{Span}
use Rattle.sweep_lines.specs.declared.bar.Bar.{Bar}
use Rattle.sweep_lines.specs.declared.mark.Kind.{Kind}
use Rattle.sweep_lines.specs.declared.mark.Kind.TheVariants.{Begin, End, Anchor}
use Rattle.sweep_lines.specs.declared.mark.Mark.{Mark}
use Rattle.sweep_lines.specs.Gaps.{Piece, gaps}

abbrev pub begin_mark : ℕ → Bar → Mark
begin_mark n b = record { at = b.begin; lo = b.lo; hi = b.hi; kind = Begin n }

abbrev pub end_mark : ℕ → Bar → Mark
end_mark n b = record { at = b.end; lo = b.lo; hi = b.hi; kind = End n }

abbrev pub anchor_mark : Way → Point → Mark
anchor_mark way p = record { at = across way p; lo = along way p; hi = along way p; kind = Anchor }

-- both sides of each bar, which are numbered from n on
abbrev pub sides_from : ℕ → List Bar → List Mark
sides_from n [] = []
sides_from n (b ∷ bs) = begin_mark n b ∷ end_mark n b ∷ sides_from (n + 1) bs

-- all marks on whole lines of the way
abbrev pub marks_of : Way → List Bar → List Point → List Mark
marks_of way bars anchors = sides_from 0 bars ++ map (anchor_mark way) anchors

abbrev pub is_anchor : Kind → Bool
is_anchor (Begin n) = false
is_anchor (End n) = false
is_anchor Anchor = true

-- whether the bar with the number begins with the side
abbrev pub begins : ℕ → Kind → Bool
begins k (Begin n) = n == k
begins k (End n) = false
begins k Anchor = false

-- whether it ends with the side
abbrev pub ends : ℕ → Kind → Bool
ends k (Begin n) = false
ends k (End n) = n == k
ends k Anchor = false

-- the span of the bar that begins with the side
abbrev pub span_begun : Kind → ℤ → ℤ → Option Span
span_begun (Begin n) lo hi = Some (record { key = n; lo = lo; hi = hi })
span_begun (End n) lo hi = None
span_begun Anchor lo hi = None

abbrev pub begun_span : Mark → Option Span
begun_span m = span_begun m.kind m.lo m.hi

-- whether the mark keeps a free piece of its whole line
abbrev pub keeps : Piece → Mark → Bool
keeps p m = not (int_lt p.hi m.lo) && not (int_lt m.hi p.lo) && (int_lt p.lo p.hi || is_anchor m.kind)

abbrev pub line_of : Way → ℤ → Piece → Line
line_of way at p = record { way = way; at = at; lo = p.lo; hi = p.hi }

-- the piece, if it has a point and a mark keeps it
abbrev pub kept_one : Way → ℤ → List Mark → Piece → List Line
kept_one way at marks p = cond (not (int_lt p.hi p.lo) && list_any (keeps p) marks) (line_of way at p ∷ []) []

-- the pieces that a mark keeps
abbrev pub kept_pieces : Way → ℤ → List Mark → List Piece → List Line
kept_pieces way at marks ps = map (line_of way at) (filter (λ p. list_any (keeps p) marks) ps)

-- the gaps between the spans that a mark keeps
abbrev pub kept_gaps : Way → ℤ → List Mark → List Span → List Line
kept_gaps way at marks ss = kept_pieces way at marks (gaps sheet_start ss)

-- the marks at the coordinate
pub record AreAt (at : ℤ) (marks here : List Mark) : Type 0 where
  pub each : (m : Mark) → Contains here m → Contains marks m × (m.at ≡ at)
  pub all : (m : Mark) → Contains marks m → m.at ≡ at → Contains here m
