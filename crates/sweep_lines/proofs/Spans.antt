-- The open spans before a coordinate, on it, and after it.
use Rattle.std.proofs.Common.{◌≡◌, inl, inr, ℕ, ℤ, ◌≤ℤ◌, ◌<ℤ◌, Bool, true, false, not, Some, List, get_or, refl, sym, ap, ◌∙◌, arith, All, Contains}
use Rattle.std.specs.Prelude.{Any, filter, slice_get}
use Rattle.std.specs.List.{list_any}
use Rattle.std.proofs.lemmas.Int.{ints, by_lt_z}
use Rattle.std.proofs.lemmas.List.Elements.{Contains-get_or}
use Rattle.std.proofs.lemmas.List.Folds.{Any-from_list_any, list_any-from_Any}
use Rattle.plane_geom.specs.declared.point.Point.{Point}
use Rattle.plane_geom.specs.declared.point.Way.{Way}
use Rattle.interval_index.specs.declared.span.Span.{Span}
use Rattle.sweep_lines.specs.declared.bar.Bar.{Bar}
use Rattle.sweep_lines.specs.declared.mark.Mark.{Mark}
use Rattle.sweep_lines.specs.declared.mark.Kind.{Kind}
use Rattle.sweep_lines.specs.declared.mark.Kind.TheVariants.{Begin, End, Anchor}
use Rattle.sweep_lines.specs.Marks.{begin_mark, end_mark, marks_of, begins, ends, span_begun, begun_span, AreAt}
use Rattle.sweep_lines.specs.Open.{span_of, AreSpansOf, HasBegun, IsCrossed, HasNotEnded, AreOpened}
use Rattle.sweep_lines.proofs.Members.{among_of_contains, contains_of_among, among_filter, among_filtered, among_of_any, any_of_among}
use Rattle.sweep_lines.proofs.Standing.{marks_have_sides, kind_of_begins, kind_of_ends, ends_of_kind, begun_by, ended_by}

-- spans of bars with a property, where another property holds of the same bars
pub spans_alike : (bars : List Bar) (Is Becomes : Bar → Type 0) (ss : List Span) → AreSpansOf bars Is ss →
    ((k : ℕ) (b : Bar) → slice_get bars k ≡ Some b → Is b → Becomes b) → ((k : ℕ) (b : Bar) → slice_get bars k ≡ Some b → Becomes b → Is b) → AreSpansOf bars Becomes ss
spans_alike bars Is Becomes ss a f g = record {
  each = λ s c. let i = a.each s c in record { bar = i.bar; numbered = i.numbered; span = i.span; is = f s.key i.bar i.numbered i.is };
  all = λ k b n is. a.all k b n (g k b n is);
}

not_true : (b : Bool) → (b ≡ true → ⊥) → not b ≡ true
not_true true h = absurd (h refl)
not_true false h = refl

true_not : (b : Bool) → not b ≡ true → b ≡ true → ⊥
true_not true h e = cc
true_not false h e = cc

-- the consequences if a span begins with a mark
record Begun (m : Mark) (s : Span) : Type 0 where
  kind : m.kind ≡ Begin s.key
  lo : m.lo ≡ s.lo
  hi : m.hi ≡ s.hi

begun_by_kind : (kind : Kind) (lo hi : ℤ) (s : Span) → span_begun kind lo hi ≡ Some s → (kind ≡ Begin s.key) × (lo ≡ s.lo) × (hi ≡ s.hi)
begun_by_kind (Begin n) lo hi s e = let t : Span = record { key = n; lo = lo; hi = hi } in let z : t ≡ s = cc in (ap (λ (s : Span). Begin s.key) z, ap (λ (s : Span). s.lo) z, ap (λ (s : Span). s.hi) z)
begun_by_kind (End n) lo hi s e = absurd (cc)
begun_by_kind Anchor lo hi s e = absurd (cc)

begun_is : (m : Mark) (s : Span) → begun_span m ≡ Some s → Begun m s
begun_is m s e = let r = begun_by_kind m.kind m.lo m.hi s e in record { kind = r.0; lo = r.1; hi = r.2 }

module _ (way : Way) (bars : List Bar) (anchors : List Point) (at : ℤ) (here : List Mark) (are : AreAt at (marks_of way bars anchors) here) where
  abbrev ends_here : Span → Bool
  ends_here s = list_any (λ m. ends s.key m.kind) here

  ended_here : (k : ℕ) (b : Bar) → slice_get bars k ≡ Some b → list_any (λ m. ends k m.kind) here ≡ true → b.end ≡ at
  ended_here k b n e =
      let a = Any-from_list_any (λ (m : Mark). ends k m.kind) here e in
      let c = are.each a.1 (contains_of_among here a.1 (among_of_any (λ m. ends k m.kind ≡ true) here a)) in
      let r = ended_by way bars anchors a.1 k c.0 (kind_of_ends k a.1.kind a.4) in
      let same : r.0 ≡ b = let t : Some r.0 ≡ Some b = sym r.1 ∙ n in cc in
      let p : a.1.at ≡ r.0.end = ap (λ (m : Mark). m.at) r.2 in
      let q : r.0.end ≡ b.end = ap (λ (c : Bar). c.end) same in
      sym q ∙ sym p ∙ c.1

  ends_if_here : (k : ℕ) (b : Bar) → slice_get bars k ≡ Some b → b.end ≡ at → list_any (λ m. ends k m.kind) here ≡ true
  ends_if_here k b n e =
      let c = are.all (end_mark k b) (marks_have_sides way bars anchors k b n).1 e in
      list_any-from_Any (λ (m : Mark). ends k m.kind) here
      (any_of_among (λ m. ends k m.kind ≡ true) here (end_mark k b) (among_of_contains here (end_mark k b) c) (ends_of_kind k (End k) refl))

  pub closed : (before : List Span) → AreSpansOf bars (HasBegun at) before → AreSpansOf bars (IsCrossed at) (filter (λ s. not (ends_here s)) before)
  closed before a = record {
    each = λ s c.
        let f = among_filtered (λ (s : Span). not (ends_here s)) before s (among_of_contains _ s c) in
        let i = a.each s (contains_of_among before s f.0) in
        let last : at ≤ℤ i.bar.end = i.is.1 in
        let past : at <ℤ i.bar.end = by_lt_z at i.bar.end (λ h. h) (λ h. absurd (true_not (ends_here s) f.1 (ends_if_here s.key i.bar i.numbered (omega (arith, ints))))) in
        record { bar = i.bar; numbered = i.numbered; span = i.span; is = (i.is.0, past) };
    all = λ k b n is.
        let past : at <ℤ b.end = is.1 in
        let c = a.all k b n (is.0, omega (arith, ints)) in
        contains_of_among _ (span_of k b) (among_filter (λ (s : Span). not (ends_here s)) before (span_of k b) (among_of_contains before (span_of k b) c)
        (not_true (list_any (λ m. ends k m.kind) here) (λ e. let z = ended_here k b n e in omega (arith, ints))));
  }

  begun_here : (m : Mark) (k : ℕ) → Contains here m → m.kind ≡ Begin k → (b : Bar) × (slice_get bars k ≡ Some b) × (m ≡ begin_mark k b) × (b.begin ≡ at)
  begun_here m k c e =
      let i = are.each m c in
      let r = begun_by way bars anchors m k i.0 e in
      (r.0, r.1, r.2, sym (ap (λ (m : Mark). m.at) r.2) ∙ i.1)

  not_begun : (b : Bool) → (b ≡ true → ⊥) → b ≡ false
  not_begun true h = absurd (h refl)
  not_begun false h = refl

  -- no bar that the whole line crosses begins on it
  pub new_keys : (mid : List Span) → AreSpansOf bars (IsCrossed at) mid → (s : Span) → Contains mid s → All (λ m. begins s.key m.kind ≡ false) here
  new_keys mid a s c = λ j d l.
      let m : Mark = get_or here j d in
      let i = a.each s c in
      not_begun (begins s.key m.kind) (λ e.
      let r = begun_here m s.key (Contains-get_or here j d l) (kind_of_begins s.key m.kind e) in
      let same : r.0 ≡ i.bar = let t : Some r.0 ≡ Some i.bar = sym r.1 ∙ i.numbered in cc in
      let q : r.0.begin ≡ i.bar.begin = ap (λ (c : Bar). c.begin) same in
      let z : i.bar.begin ≡ at = sym q ∙ r.3 in
      let f : i.bar.begin <ℤ at = i.is.0 in
      omega (arith, ints))

  pub begun_spans : (s : Span) → Any (λ m. begun_span m ≡ Some s) here → (b : Bar) × (slice_get bars s.key ≡ Some b) × (s ≡ span_of s.key b) × (b.begin ≡ at)
  begun_spans s x =
      let c = contains_of_among here x.1 (among_of_any (λ m. begun_span m ≡ Some s) here x) in
      let h = begun_is x.1 s x.4 in
      let r = begun_here x.1 s.key c h.kind in
      let lo : s.lo ≡ r.0.lo = sym h.lo ∙ ap (λ (m : Mark). m.lo) r.2 in
      let hi : s.hi ≡ r.0.hi = sym h.hi ∙ ap (λ (m : Mark). m.hi) r.2 in
      (r.0, r.1, (λ i. record { key = s.key; lo = lo i; hi = hi i }), r.3)

  pub opened : (mid after : List Span) → ((k : ℕ) (b : Bar) → slice_get bars k ≡ Some b → b.begin <ℤ b.end) → AreSpansOf bars (IsCrossed at) mid → AreOpened here mid after → AreSpansOf bars (HasNotEnded at) after
  opened mid after wide a o = record {
    each = λ s c. elim (o.each s c) [
      | inl h ↦ (let i = a.each s h in let f : i.bar.begin <ℤ at = i.is.0 in
          record { bar = i.bar; numbered = i.numbered; span = i.span; is = (omega (arith, ints), i.is.1) })
      | inr x ↦ (let r = begun_spans s x in let w = wide s.key r.0 r.1 in let z : r.0.begin ≡ at = r.3 in
          record { bar = r.0; numbered = r.1; span = r.2; is = (omega (arith, ints), omega (arith, ints)) })
    ];
    all = λ k b n is. by_lt_z b.begin at
        (λ h. o.kept (span_of k b) (a.all k b n (h, is.1)))
        (λ h. let f : b.begin ≤ℤ at = is.0 in
        let c = are.all (begin_mark k b) (marks_have_sides way bars anchors k b n).0 (omega (arith, ints)) in
        o.begun (span_of k b) (any_of_among (λ m. begun_span m ≡ Some (span_of k b)) here (begin_mark k b) (among_of_contains here (begin_mark k b) c) refl));
  }
