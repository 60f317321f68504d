-- On one whole line, the gaps that a mark keeps are the kept lines.
use Rattle.std.proofs.Common.{◌≡◌, ◌⊎◌, inl, inr, ℕ, ℤ, ◌≤ℤ◌, ◌<ℤ◌, Bool, true, false, not, Some, List, [], ◌∷◌, get_or, refl, sym, ap, subst, ◌∙◌, arith, Contains}
use Rattle.std.specs.Prelude.{Any, slice_get, int_lt, ◌||◌, ◌&&◌}
use Rattle.std.specs.List.{AllByRecursion, list_any}
use Rattle.std.proofs.lemmas.Int.{ints}
use Rattle.std.proofs.lemmas.List.Elements.{Contains-get_or}
use Rattle.std.proofs.lemmas.List.Folds.{Any-from_list_any, list_any-from_Any}
use Rattle.plane_geom.specs.declared.point.Point.{Point}
use Rattle.plane_geom.specs.declared.point.Way.{Way}
use Rattle.plane_geom.specs.declared.point.Way.TheVariants.{Vertical, Horizontal}
use Rattle.plane_geom.specs.declared.rect.Solid.{Solid}
use Rattle.plane_geom.specs.declared.floor.Line.{Line}
use Rattle.plane_geom.specs.declared.floor.Floor.{Floor}
use Rattle.plane_geom.specs.Along.{across, along}
use Rattle.plane_geom.specs.Floor.{point_on, Holds, SharesSide}
use Rattle.interval_index.specs.declared.span.Span.{Span}
use Rattle.interval_index.specs.Index.{IsListed, IsSpan}
use Rattle.interval_index.specs.Order.{IsSorted, is_before}
use Rattle.interval_index.proofs.GreatestEnds.{lo_of_before}
use Rattle.sweep_lines.specs.declared.bar.Bar.{Bar}
use Rattle.sweep_lines.specs.declared.mark.Mark.{Mark}
use Rattle.sweep_lines.specs.Bars.{bar_of, bars_of}
use Rattle.sweep_lines.specs.Gaps.{Piece}
use Rattle.sweep_lines.specs.Marks.{begin_mark, end_mark, anchor_mark, marks_of, is_anchor, keeps, line_of, AreAt}
use Rattle.sweep_lines.specs.Open.{span_of, AreSpansOf, IsCrossed, Opens, AreOpen}
use Rattle.sweep_lines.proofs.Members.{Among, among_of_contains, contains_of_among, among_all, any_of_among, among_of_any, among_number, number_map, number_mapped}
use Rattle.sweep_lines.proofs.Standing.{mark_cases, marks_have_sides, marks_have_anchors}
use Rattle.sweep_lines.proofs.Sides.{bar_of_side, side_of_bar}
use Rattle.sweep_lines.proofs.Gaps.{Rise}

-- spans in order rise by their begins
all_later : (s : Span) (ss : List Span) → AllByRecursion (λ t. is_before s t ≡ true) ss → AllByRecursion (λ t. s.lo ≤ℤ t.lo) ss
all_later s [] a = tt
all_later s (t ∷ ss) a = (lo_of_before s t a.0, all_later s ss a.1)

rise_from : (ss : List Span) → IsSorted ss → AllByRecursion IsSpan ss → Rise ss
rise_from [] o i = tt
rise_from (s ∷ ss) o i = (i.0.not_empty, i.0.hi.high, all_later s ss o.0, rise_from ss o.1 i.1)

pub rise_of_listed : (ss : List Span) → IsListed ss → Rise ss
rise_of_listed ss l = rise_from ss l.sorted l.spans

-- the numbered bars are those of the solids
module _ (way : Way) (at : ℤ) (solids : List Solid) (ss : List Span) (long : (k : ℕ) (b : Bar) → slice_get (bars_of way solids) k ≡ Some b → b.lo <ℤ b.hi) (are : AreSpansOf (bars_of way solids) (IsCrossed at) ss) where
  open_of : (b : Bar) (s : Span) → b.lo <ℤ b.hi → s ≡ span_of s.key b → IsCrossed at b → Opens b at s
  open_of b s h e c = record { begun = c.0; not_ended = c.1; lo = ap (λ (s : Span). s.lo) e; hi = ap (λ (s : Span). s.hi) e; long = h }

  opened_by : (s : Span) → Among s ss → Any (λ q. Opens (bar_of way q.rect) at s) solids
  opened_by s i =
      let o = are.each s (contains_of_among ss s i) in
      let r = number_mapped (λ (q : Solid). bar_of way q.rect) solids s.key o.bar o.numbered in
      any_of_among (λ q. Opens (bar_of way q.rect) at s) solids r.0 r.1 (subst (λ b. Opens b at s) r.2 (open_of o.bar s (long s.key o.bar o.numbered) o.span o.is))

  crossed_opens : (q : Solid) → Among q solids → (bar_of way q.rect).begin <ℤ at → at <ℤ (bar_of way q.rect).end → Any (λ s. Opens (bar_of way q.rect) at s) ss
  crossed_opens q i b e =
      let n = among_number solids q i in
      let bar = bar_of way q.rect in
      let m = number_map (λ (q : Solid). bar_of way q.rect) solids n.0 q n.1 in
      let c = are.all n.0 bar m (b, e) in
      any_of_among (λ s. Opens (bar_of way q.rect) at s) ss (span_of n.0 bar) (among_of_contains ss (span_of n.0 bar) c)
      (record { begun = b; not_ended = e; lo = refl; hi = refl; long = long n.0 bar m })

  pub are_open : AreOpen way at solids ss
  are_open = record {
    each = among_all (λ s. Any (λ q. Opens (bar_of way q.rect) at s) solids) ss opened_by;
    all = λ k d l. crossed_opens (get_or solids k d) (among_of_contains solids (get_or solids k d) (Contains-get_or solids k d l));
  }

-- the two reasons for which a piece is kept
abbrev pub Reason : Floor → Line → Type 0
Reason floor l = ((l.lo <ℤ l.hi) × Any (λ s. SharesSide l s.rect) floor.solids) ⊎ Any (Holds l) floor.anchors

pub and_left : (a b : Bool) → (a && b) ≡ true → a ≡ true
and_left true b e = refl
and_left false b e = absurd (cc)

pub and_right : (a b : Bool) → (a && b) ≡ true → b ≡ true
and_right true b e = e
and_right false b e = absurd (cc)

pub and_both : (a b : Bool) → a ≡ true → b ≡ true → (a && b) ≡ true
and_both true b e f = f
and_both false b e f = absurd (cc)

or_either : (a b : Bool) → (a || b) ≡ true → (a ≡ true) ⊎ (b ≡ true)
or_either true b e = inl refl
or_either false b e = inr e

or_first : (a b : Bool) → a ≡ true → (a || b) ≡ true
or_first true b e = refl
or_first false b e = absurd (cc)

or_second : (a b : Bool) → b ≡ true → (a || b) ≡ true
or_second true b e = refl
or_second false b e = e

pub not_lt : (a b : ℤ) → not (int_lt a b) ≡ true → b ≤ℤ a
not_lt a b e = grind (arith, ints)

pub lt_not : (a b : ℤ) → b ≤ℤ a → not (int_lt a b) ≡ true
lt_not a b h = grind (arith, ints)

lt_holds : (a b : ℤ) → int_lt a b ≡ true → a <ℤ b
lt_holds a b e = grind (arith, ints)

lt_passes : (a b : ℤ) → a <ℤ b → int_lt a b ≡ true
lt_passes a b h = grind (arith, ints)

-- the consequences if a mark keeps a piece
record Keeps (p : Piece) (m : Mark) : Type 0 where
  from : m.lo ≤ℤ p.hi
  to : p.lo ≤ℤ m.hi
  why : (p.lo <ℤ p.hi) ⊎ (is_anchor m.kind ≡ true)

keeps_holds : (p : Piece) (m : Mark) → keeps p m ≡ true → Keeps p m
keeps_holds p m e =
    let a = not (int_lt p.hi m.lo) in
    let b = not (int_lt m.hi p.lo) in
    let c = int_lt p.lo p.hi || is_anchor m.kind in
    record {
      from = not_lt p.hi m.lo (and_left a b (and_left (a && b) c e));
      to = not_lt m.hi p.lo (and_right a b (and_left (a && b) c e));
      why = elim (or_either (int_lt p.lo p.hi) (is_anchor m.kind) (and_right (a && b) c e)) [ inl h ↦ inl (lt_holds p.lo p.hi h) | inr h ↦ inr h ];
    }

keeps_passes : (p : Piece) (m : Mark) → Keeps p m → keeps p m ≡ true
keeps_passes p m k =
    and_both (not (int_lt p.hi m.lo) && not (int_lt m.hi p.lo)) (int_lt p.lo p.hi || is_anchor m.kind)
    (and_both (not (int_lt p.hi m.lo)) (not (int_lt m.hi p.lo)) (lt_not p.hi m.lo k.from) (lt_not m.hi p.lo k.to))
    (elim k.why [ inl h ↦ or_first (int_lt p.lo p.hi) (is_anchor m.kind) (lt_passes p.lo p.hi h) | inr h ↦ or_second (int_lt p.lo p.hi) (is_anchor m.kind) h ])

held_by : (way : Way) (at : ℤ) (p : Piece) (q : Point) → across way q ≡ at → p.lo ≤ℤ along way q → along way q ≤ℤ p.hi → Holds (line_of way at p) q
held_by Vertical at p q e l h = record { along = q.y; from = l; to = h; here = λ i. record { x = e i; y = q.y } }
held_by Horizontal at p q e l h = record { along = q.x; from = l; to = h; here = λ i. record { x = q.x; y = e i } }

pub held_across : (way : Way) (at z : ℤ) (q : Point) → q ≡ point_on way at z → (across way q ≡ at) × (along way q ≡ z)
held_across Vertical at z q e = (ap (λ (q : Point). q.x) e, ap (λ (q : Point). q.y) e)
held_across Horizontal at z q e = (ap (λ (q : Point). q.y) e, ap (λ (q : Point). q.x) e)

module _ (floor : Floor) (way : Way) (at : ℤ) (here : List Mark) (are : AreAt at (marks_of way (bars_of way floor.solids) floor.anchors) here) where
  -- the side of a solid on the whole line is a reason for the piece
  side_reason : (p : Piece) (k : ℕ) (b : Bar) → slice_get (bars_of way floor.solids) k ≡ Some b → (b.begin ≡ at) ⊎ (b.end ≡ at) →
      p.lo <ℤ p.hi → b.lo ≤ℤ p.hi → p.lo ≤ℤ b.hi → Reason floor (line_of way at p)
  side_reason p k b n s o f t =
      let r = number_mapped (λ (q : Solid). bar_of way q.rect) floor.solids k b n in
      let c : Bar = bar_of way r.0.rect in
      let lo : b.lo ≡ c.lo = ap (λ (b : Bar). b.lo) r.2 in
      let hi : b.hi ≡ c.hi = ap (λ (b : Bar). b.hi) r.2 in
      let begin : b.begin ≡ c.begin = ap (λ (b : Bar). b.begin) r.2 in
      let end : b.end ≡ c.end = ap (λ (b : Bar). b.end) r.2 in
      let side : (c.begin ≡ at) ⊎ (c.end ≡ at) = elim s [ inl e ↦ inl (sym begin ∙ e) | inr e ↦ inr (sym end ∙ e) ] in
      inl (
        o,
        any_of_among (λ s. SharesSide (line_of way at p) s.rect) floor.solids r.0 r.1
            (c.lo, c.hi, side_of_bar r.0.rect way at c.lo c.hi (side, refl, refl), subst (λ z. p.lo ≤ℤ z) hi t, subst (λ z. z ≤ℤ p.hi) lo f),
      )

  long_of_side : (p : Piece) (m : Mark) → Keeps p m → is_anchor m.kind ≡ false → p.lo <ℤ p.hi
  long_of_side p m k e = elim k.why [ inl h ↦ h | inr h ↦ absurd (cc) ]

  reason_of_side : (p : Piece) (m : Mark) → Keeps p m → (k : ℕ) (b : Bar) → slice_get (bars_of way floor.solids) k ≡ Some b → m.at ≡ at →
      (m ≡ begin_mark k b) ⊎ (m ≡ end_mark k b) → Reason floor (line_of way at p)
  reason_of_side p m h k b n a (inl e) =
      side_reason p k b n (inl (sym (ap (λ (m : Mark). m.at) e) ∙ a)) (long_of_side p m h (ap (λ (m : Mark). is_anchor m.kind) e))
      (subst (λ z. z ≤ℤ p.hi) (ap (λ (m : Mark). m.lo) e) h.from) (subst (λ z. p.lo ≤ℤ z) (ap (λ (m : Mark). m.hi) e) h.to)
  reason_of_side p m h k b n a (inr e) =
      side_reason p k b n (inr (sym (ap (λ (m : Mark). m.at) e) ∙ a)) (long_of_side p m h (ap (λ (m : Mark). is_anchor m.kind) e))
      (subst (λ z. z ≤ℤ p.hi) (ap (λ (m : Mark). m.lo) e) h.from) (subst (λ z. p.lo ≤ℤ z) (ap (λ (m : Mark). m.hi) e) h.to)

  reason_of_mark : (p : Piece) (m : Mark) → Contains here m → Keeps p m → Reason floor (line_of way at p)
  reason_of_mark p m c k =
      let i = are.each m c in
      elim (mark_cases way (bars_of way floor.solids) floor.anchors m i.0) [
        | inl (n, b, g, s) ↦ reason_of_side p m k n b g i.1 s
        | inr (q, j, e) ↦ (let a : across way q ≡ at = sym (ap (λ (m : Mark). m.at) e) ∙ i.1 in
            let lo : m.lo ≡ along way q = ap (λ (m : Mark). m.lo) e in
            let hi : m.hi ≡ along way q = ap (λ (m : Mark). m.hi) e in
            inr (any_of_among (Holds (line_of way at p)) floor.anchors q j (held_by way at p q a (subst (λ z. p.lo ≤ℤ z) hi k.to) (subst (λ z. z ≤ℤ p.hi) lo k.from))))
      ]

  pub reason_of_keeps : (p : Piece) → list_any (keeps p) here ≡ true → Reason floor (line_of way at p)
  reason_of_keeps p e =
      let a = Any-from_list_any (keeps p) here e in
      reason_of_mark p a.1 (contains_of_among here a.1 (among_of_any (λ m. keeps p m ≡ true) here a)) (keeps_holds p a.1 a.4)

  keeps_by : (p : Piece) (m : Mark) → Contains (marks_of way (bars_of way floor.solids) floor.anchors) m → m.at ≡ at → Keeps p m → list_any (keeps p) here ≡ true
  keeps_by p m c a k =
      list_any-from_Any (keeps p) here (any_of_among (λ m. keeps p m ≡ true) here m (among_of_contains here m (are.all m c a)) (keeps_passes p m k))

  keeps_of_side : (p : Piece) → p.lo <ℤ p.hi → (s : Solid) → Among s floor.solids → SharesSide (line_of way at p) s.rect → list_any (keeps p) here ≡ true
  keeps_of_side p o s i (lo, hi, side, to, from) =
      let b = bar_of way s.rect in
      let t = bar_of_side s.rect way at lo hi side in
      let n = among_number floor.solids s i in
      let h = marks_have_sides way (bars_of way floor.solids) floor.anchors n.0 b (number_map (λ (q : Solid). bar_of way q.rect) floor.solids n.0 s n.1) in
      let f : b.lo ≤ℤ p.hi = subst (λ z. z ≤ℤ p.hi) (sym t.1) from in
      let g : p.lo ≤ℤ b.hi = subst (λ z. p.lo ≤ℤ z) (sym t.2) to in
      elim t.0 [
        | inl e ↦ keeps_by p (begin_mark n.0 b) h.0 e (record { from = f; to = g; why = inl o })
        | inr e ↦ keeps_by p (end_mark n.0 b) h.1 e (record { from = f; to = g; why = inl o })
      ]

  pub keeps_of_reason : (p : Piece) → Reason floor (line_of way at p) → list_any (keeps p) here ≡ true
  keeps_of_reason p (inl (o, a)) = keeps_of_side p o a.1 (among_of_any (λ s. SharesSide (line_of way at p) s.rect) floor.solids a) a.4
  keeps_of_reason p (inr a) =
      let q = a.1 in
      let h = a.4 in
      let e = held_across way at h.along q h.here in
      keeps_by p (anchor_mark way q) (marks_have_anchors way (bars_of way floor.solids) floor.anchors q (among_of_any (Holds (line_of way at p)) floor.anchors a)) e.0
      (record { from = subst (λ z. z ≤ℤ p.hi) (sym e.1) h.to; to = subst (λ z. p.lo ≤ℤ z) (sym e.1) h.from; why = inr refl })
