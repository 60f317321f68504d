-- The gaps between open spans are the widest pieces that are free of them.
use Rattle.std.proofs.Common.{◌≡◌, ◌⊎◌, inl, inr, ℤ, ◌≤ℤ◌, ◌<ℤ◌, Bool, true, false, cond, List, [], ◌∷◌, refl, arith}
use Rattle.std.proofs.lemmas.Int.{ints, clamps}
use Rattle.std.specs.Prelude.{int_lt}
use Rattle.std.specs.Int.{int_max}
use Rattle.std.specs.List.{AllByRecursion}
use Rattle.interval_index.specs.declared.span.Span.{Span}
use Rattle.plane_geom.specs.Point.{sheet_end}
use Rattle.sweep_lines.specs.Gaps.{Piece, gaps, IsClear, LiesIn}

-- one of the pieces holds p
abbrev pub Holding : Piece → List Piece → Type 0
Holding p [] = ⊥
Holding p (q ∷ qs) = LiesIn p q ⊎ Holding p qs

below_not : (a b : ℤ) → int_lt a b ≡ true → b ≤ℤ a → ⊥
below_not a b e h = grind (arith, ints)

from_not_below : (a b : ℤ) → int_lt a b ≡ false → b ≤ℤ a
from_not_below a b e = grind (arith, ints)

held : (b : Bool) (from : ℤ) (s : Span) (rest : List Piece) (p : Piece) → int_lt s.lo from ≡ b → from ≤ℤ p.lo → p.lo ≤ℤ p.hi →
    (p.hi ≤ℤ s.lo) ⊎ (s.hi ≤ℤ p.lo) → (s.hi ≤ℤ p.lo → Holding p rest) → Holding p (cond b rest (record { lo = from; hi = s.lo } ∷ rest))
held true from s rest p e f o (inl before) r = absurd (below_not s.lo from e (omega (arith, ints)))
held true from s rest p e f o (inr after) r = r after
held false from s rest p e f o (inl before) r = inl (record { lo = f; hi = before })
held false from s rest p e f o (inr after) r = inr (r after)

-- each piece that is free of the spans lies in a gap
pub gaps_hold : (from : ℤ) (ss : List Span) (p : Piece) → from ≤ℤ p.lo → p.lo ≤ℤ p.hi → p.hi ≤ℤ sheet_end → IsClear p ss → Holding p (gaps from ss)
gaps_hold from [] p f o e c = inl (record { lo = f; hi = e })
gaps_hold from (s ∷ ss) p f o e c =
    held (int_lt s.lo from) from s (gaps (int_max from s.hi) ss) p refl f o c.0
    (λ after. gaps_hold (int_max from s.hi) ss p (omega (arith, ints, clamps)) o e c.1)

-- a gap lies from the number on, has no point inside a span, and ends where it begins or later
pub record IsGap (from : ℤ) (ss : List Span) (p : Piece) : Type 0 where
  pub from_here : from ≤ℤ p.lo
  pub ordered : p.lo ≤ℤ p.hi
  pub to_end : p.hi ≤ℤ sheet_end
  pub clear : IsClear p ss

-- the spans rise by their begins, and end on the sheet after they begin
abbrev pub Rise : List Span → Type 0
Rise [] = Unit {0}
Rise (s ∷ ss) = (s.lo <ℤ s.hi) × (s.hi ≤ℤ sheet_end) × AllByRecursion (λ t. s.lo ≤ℤ t.lo) ss × Rise ss

clear_later : (p : Piece) (z : ℤ) (ss : List Span) → p.hi ≤ℤ z → AllByRecursion (λ t. z ≤ℤ t.lo) ss → IsClear p ss
clear_later p z [] h a = tt
clear_later p z (t ∷ ss) h a = (inl (let k : z ≤ℤ t.lo = a.0 in omega (arith, ints)), clear_later p z ss h a.1)

gaps_later : (from : ℤ) (s : Span) (ss : List Span) (ps : List Piece) → AllByRecursion (IsGap (int_max from s.hi) ss) ps → AllByRecursion (IsGap from (s ∷ ss)) ps
gaps_later from s ss [] a = tt
gaps_later from s ss (p ∷ ps) a =
    let g = a.0 in (
      record { from_here = omega (arith, ints, clamps, g.from_here); ordered = g.ordered; to_end = g.to_end; clear = (inr (omega (arith, ints, clamps, g.from_here)), g.clear) },
      gaps_later from s ss ps a.1,
    )

free_by : (b : Bool) (from : ℤ) (s : Span) (ss : List Span) (rest : List Piece) → int_lt s.lo from ≡ b → s.lo ≤ℤ sheet_end →
    AllByRecursion (λ t. s.lo ≤ℤ t.lo) ss → AllByRecursion (IsGap from (s ∷ ss)) rest →
    AllByRecursion (IsGap from (s ∷ ss)) (cond b rest (record { lo = from; hi = s.lo } ∷ rest))
free_by true from s ss rest e h k a = a
free_by false from s ss rest e h k a =
    let o : from ≤ℤ s.lo = from_not_below s.lo from e in
    (record { from_here = omega (arith, ints); ordered = o; to_end = h; clear = (inl (omega (arith, ints)), clear_later _ s.lo ss (omega (arith, ints)) k) }, a)

-- each gap is free of the spans
pub gaps_free : (from : ℤ) (ss : List Span) → from ≤ℤ sheet_end → Rise ss → AllByRecursion (IsGap from ss) (gaps from ss)
gaps_free from [] e r = (record { from_here = omega (arith, ints); ordered = e; to_end = omega (arith, ints); clear = tt }, tt)
gaps_free from (s ∷ ss) e r =
    let w : s.lo <ℤ s.hi = r.0 in
    let h : s.hi ≤ℤ sheet_end = r.1 in
    let later = gaps_free (int_max from s.hi) ss (omega (arith, ints, clamps)) r.3 in
    free_by (int_lt s.lo from) from s ss (gaps (int_max from s.hi) ss) refl (omega (arith, ints)) r.2 (gaps_later from s ss _ later)

-- each gap ends before the next begins
abbrev pub AreApart : List Piece → Type 0
AreApart [] = Unit {0}
AreApart (p ∷ ps) = AllByRecursion (λ q. p.hi <ℤ q.lo) ps × AreApart ps

past : (z : ℤ) (from : ℤ) (ss : List Span) (ps : List Piece) → z <ℤ from → AllByRecursion (IsGap from ss) ps → AllByRecursion (λ q. z <ℤ q.lo) ps
past z from ss [] h a = tt
past z from ss (p ∷ ps) h a = (omega (arith, ints, a.0.from_here), past z from ss ps h a.1)

apart_by : (b : Bool) (p : Piece) (ps : List Piece) → AllByRecursion (λ q. p.hi <ℤ q.lo) ps → AreApart ps → AreApart (cond b ps (p ∷ ps))
apart_by true p ps h a = a
apart_by false p ps h a = (h, a)

pub gaps_apart : (from : ℤ) (ss : List Span) → from ≤ℤ sheet_end → Rise ss → AreApart (gaps from ss)
gaps_apart from [] e r = (tt, tt)
gaps_apart from (s ∷ ss) e r =
    let w : s.lo <ℤ s.hi = r.0 in
    let h : s.hi ≤ℤ sheet_end = r.1 in
    let inner : int_max from s.hi ≤ℤ sheet_end = omega (arith, ints, clamps) in
    apart_by (int_lt s.lo from) (record { lo = from; hi = s.lo }) (gaps (int_max from s.hi) ss)
    (past s.lo (int_max from s.hi) ss _ (omega (arith, ints, clamps)) (gaps_free _ ss inner r.3))
    (gaps_apart (int_max from s.hi) ss inner r.3)
