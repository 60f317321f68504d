-- The gaps between the spans of the solids that a whole line crosses are its longest free pieces.
use Rattle.std.proofs.Common.{◌≡◌, ◌⊎◌, inl, inr, ℤ, ◌≤ℤ◌, ◌<ℤ◌, List, [], ◌∷◌, refl, sym, subst, ◌∙◌, arith, get_or, All}
use Rattle.std.specs.Prelude.{Any}
use Rattle.std.proofs.lemmas.Int.{ints, by_lt_z}
use Rattle.std.specs.List.{AllByRecursion}
use Rattle.std.proofs.lemmas.List.Elements.{All-from_recursion}
use Rattle.plane_geom.specs.declared.point.Way.{Way}
use Rattle.plane_geom.specs.declared.rect.Solid.{Solid}
use Rattle.plane_geom.specs.declared.floor.Floor.{Floor}
use Rattle.plane_geom.specs.Point.{IsCoordinate}
use Rattle.plane_geom.specs.Rect.{Meets}
use Rattle.plane_geom.specs.Floor.{point_on, IsFreePiece, IsLongestFreePiece}
use Rattle.interval_index.specs.declared.span.Span.{Span}
use Rattle.plane_geom.specs.Point.{sheet_start}
use Rattle.sweep_lines.specs.Bars.{bar_of}
use Rattle.sweep_lines.specs.Gaps.{Piece, gaps, IsClear, LiesIn}
use Rattle.sweep_lines.specs.Open.{Opens, AreOpen}
use Rattle.sweep_lines.specs.Marks.{line_of}
use Rattle.sweep_lines.proofs.Members.{Among}
use Rattle.sweep_lines.proofs.Gaps.{Holding, gaps_hold, IsGap, Rise, gaps_free, AreApart, gaps_apart}
use Rattle.sweep_lines.proofs.Sides.{meets_of_blocks, blocks_of_meets}

holder : (p : Piece) (qs : List Piece) → Holding p qs → (q : Piece) × Among q qs × LiesIn p q
holder p [] h = absurd h
holder p (q ∷ qs) (inl l) = (q, inl refl, l)
holder p (q ∷ qs) (inr h) = let r = holder p qs h in (r.0, inr r.1, r.2)

pub gap_of : (from : ℤ) (ss : List Span) (p : Piece) (qs : List Piece) → Among p qs → AllByRecursion (IsGap from ss) qs → IsGap from ss p
gap_of from ss p [] h a = absurd h
gap_of from ss p (q ∷ qs) (inl e) a = subst (IsGap from ss) (sym e) a.0
gap_of from ss p (q ∷ qs) (inr h) a = gap_of from ss p qs h a.1

later : (z : ℤ) (p : Piece) (qs : List Piece) → Among p qs → AllByRecursion (λ q. z <ℤ q.lo) qs → z <ℤ p.lo
later z p [] h a = absurd h
later z p (q ∷ qs) (inl e) a = subst (λ (r : Piece). z <ℤ r.lo) (sym e) a.0
later z p (q ∷ qs) (inr h) a = later z p qs h a.1

-- two of the gaps that share a place are one
one_gap : (p q : Piece) (qs : List Piece) → Among p qs → Among q qs → AreApart qs → p.lo ≤ℤ q.hi → q.lo ≤ℤ p.hi → p ≡ q
one_gap p q [] i j a h k = absurd i
one_gap p q (r ∷ qs) (inl e) (inl f) a h k = e ∙ sym f
one_gap p q (r ∷ qs) (inl e) (inr j) a h k = absurd (let b : p.hi <ℤ q.lo = subst (λ (t : Piece). t.hi <ℤ q.lo) (sym e) (later r.hi q qs j a.0) in omega (arith, ints))
one_gap p q (r ∷ qs) (inr i) (inl f) a h k = absurd (let b : q.hi <ℤ p.lo = subst (λ (t : Piece). t.hi <ℤ p.lo) (sym f) (later r.hi p qs i a.0) in omega (arith, ints))
one_gap p q (r ∷ qs) (inr i) (inr j) a h k = one_gap p q qs i j a.1 h k

abbrev Free : List Solid → Way → ℤ → Piece → Type 0
Free solids way at p = All (λ s. Meets s.rect (point_on way at p.lo) (point_on way at p.hi) → ⊥) solids

clear_of_any : (solids : List Solid) (way : Way) (at : ℤ) (p : Piece) (s : Span) → p.lo ≤ℤ p.hi → Free solids way at p →
    Any (λ q. Opens (bar_of way q.rect) at s) solids → (p.hi ≤ℤ s.lo) ⊎ (s.hi ≤ℤ p.lo)
clear_of_any solids way at p s o f a =
    let q = a.1 in
    let op = a.4 in
    let free : Meets q.rect (point_on way at p.lo) (point_on way at p.hi) → ⊥ =
    subst (λ (t : Solid). Meets t.rect (point_on way at p.lo) (point_on way at p.hi) → ⊥) a.3 (f a.0 q a.2) in
    by_lt_z s.lo p.hi
    (λ u. by_lt_z p.lo s.hi
    (λ v. absurd (free (meets_of_blocks q.rect way at p.lo p.hi o (record {
      begun = op.begun;
      not_ended = op.not_ended;
      below = subst (λ (z : ℤ). p.lo <ℤ z) op.hi v;
      above = subst (λ (z : ℤ). z <ℤ p.hi) op.lo u;
      long = op.long;
    }))))
    (λ v. inr v))
    (λ u. inl u)

clear_of_free : (solids : List Solid) (way : Way) (at : ℤ) (p : Piece) (ss : List Span) → p.lo ≤ℤ p.hi → Free solids way at p →
    AllByRecursion (λ s. Any (λ q. Opens (bar_of way q.rect) at s) solids) ss → IsClear p ss
clear_of_free solids way at p [] o f a = tt
clear_of_free solids way at p (s ∷ ss) o f a = (clear_of_any solids way at p s o f a.0, clear_of_free solids way at p ss o f a.1)

-- a piece that no span of an across solid blocks is free
free_of_clear : (solids : List Solid) (way : Way) (at : ℤ) (p : Piece) (ss : List Span) → p.lo ≤ℤ p.hi → AreOpen way at solids ss → IsClear p ss → Free solids way at p
free_of_clear solids way at p ss o across c = λ k d l m.
    let q = get_or solids k d in
    let b = blocks_of_meets q.rect way at p.lo p.hi o m in
    let a = across.all k d l b.begun b.not_ended in
    let op = a.4 in
    let here : (p.hi ≤ℤ a.1.lo) ⊎ (a.1.hi ≤ℤ p.lo) =
    subst (λ (s : Span). (p.hi ≤ℤ s.lo) ⊎ (s.hi ≤ℤ p.lo)) a.3 (All-from_recursion (λ s. (p.hi ≤ℤ s.lo) ⊎ (s.hi ≤ℤ p.lo)) ss c a.0 a.1 a.2) in
    elim here as (λ _. ⊥) [
      | inl h ↦ (let i : p.hi ≤ℤ (bar_of way q.rect).lo = subst (λ (z : ℤ). p.hi ≤ℤ z) op.lo h in
          let j : (bar_of way q.rect).lo <ℤ p.hi = b.above in omega (arith, ints))
      | inr h ↦ (let i : (bar_of way q.rect).hi ≤ℤ p.lo = subst (λ (z : ℤ). z ≤ℤ p.lo) op.hi h in
          let j : p.lo <ℤ (bar_of way q.rect).hi = b.below in omega (arith, ints))
    ]

module _ (floor : Floor) (way : Way) (at : ℤ) (ss : List Span) (on : IsCoordinate at) (across : AreOpen way at floor.solids ss) (rise : Rise ss) where
  pub are_gaps : AllByRecursion (IsGap sheet_start ss) (gaps sheet_start ss)
  are_gaps = gaps_free sheet_start ss (omega (arith, ints)) rise

  pub apart : AreApart (gaps sheet_start ss)
  apart = gaps_apart sheet_start ss (omega (arith, ints)) rise

  -- a free piece lies in a gap
  in_gap : (p : Piece) → IsFreePiece floor (line_of way at p) → (q : Piece) × Among q (gaps sheet_start ss) × LiesIn p q
  in_gap p f = holder p _ (gaps_hold sheet_start ss p f.lo.low f.ordered f.hi.high (clear_of_free floor.solids way at p ss f.ordered f.free across.each))

  piece_of_gap : (p : Piece) → Among p (gaps sheet_start ss) → IsFreePiece floor (line_of way at p)
  piece_of_gap p i =
      let g = gap_of sheet_start ss p _ i are_gaps in
      record {
        at = on;
        lo = record { low = g.from_here; high = omega (arith, ints, g.ordered, g.to_end) };
        hi = record { low = omega (arith, ints, g.ordered, g.from_here); high = g.to_end };
        ordered = g.ordered;
        free = free_of_clear floor.solids way at p ss g.ordered across g.clear;
      }

  pub longest_of_gap : (p : Piece) → Among p (gaps sheet_start ss) → IsLongestFreePiece floor (line_of way at p)
  longest_of_gap p i =
      let own = piece_of_gap p i in
      record {
        piece = own;
        longest = λ m f same lo hi.
            let pm : Piece = record { lo = m.lo; hi = m.hi } in
            let me : m ≡ line_of way at pm = λ j. record { way = sym same.way j; at = sym same.at j; lo = m.lo; hi = m.hi } in
            let q = in_gap pm (subst (IsFreePiece floor) me f) in
            let into : LiesIn pm q.0 = q.2 in
            let o : p.lo ≤ℤ p.hi = own.ordered in
            let same_gap : p ≡ q.0 = one_gap p q.0 _ i q.1 apart (omega (arith, ints, into.hi)) (omega (arith, ints, into.lo)) in
            let held : LiesIn pm p = subst (LiesIn pm) (sym same_gap) into in
            let l : m.lo ≡ p.lo = omega (arith, ints, held.lo) in
            let h : m.hi ≡ p.hi = omega (arith, ints, held.hi) in
            me ∙ (λ j. record { way = way; at = at; lo = l j; hi = h j });
      }

  pub gap_of_longest : (p : Piece) → IsLongestFreePiece floor (line_of way at p) → Among p (gaps sheet_start ss)
  gap_of_longest p l =
      let q = in_gap p l.piece in
      let r : line_of way at q.0 ≡ line_of way at p =
      l.longest (line_of way at q.0) (piece_of_gap q.0 q.1) (record { way = refl; at = refl }) q.2.lo q.2.hi in
      subst (λ (t : Piece). Among t (gaps sheet_start ss)) (λ i. record { lo = (r i).lo; hi = (r i).hi }) q.1
