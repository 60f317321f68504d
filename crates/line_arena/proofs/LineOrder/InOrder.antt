-- Lines in order: the place of one, one added, one removed, and the one through a point.
use Rattle.std.proofs.Common.{◌≡◌, ◌≢◌, ◌⊎◌, inl, inr, ℕ, ◌+◌, ◌-◌, ◌<◌, ◌≤◌, ℤ, ◌<ℤ◌, ◌≤ℤ◌, Bool, true, false, not, Result, Ok, Err, List, ◌∷◌, length, get_or, refl, sym, ap, subst, ◌∙◌, arith}
use Rattle.std.specs.Prelude.{AllPairs, Contains, IsOk, is_ok, if◌then◌else◌, ◌↔◌, ◌&&◌, ◌||◌, int_lt}
use Rattle.std.specs.List.{AllWithin, insert, remove}
use Rattle.std.specs.List.Sorted.{IsPartitionedBy}
use Rattle.std.specs.Ordering.{int_eq}
use Rattle.std.proofs.lemmas.Bool.{cases_Bool, cases_eq, cases_lt}
use Rattle.std.proofs.lemmas.Bool.Decides.{Decides-int_eq}
use Rattle.std.proofs.lemmas.Int.{ints}
use Rattle.std.proofs.lemmas.List.{get_or_default}
use Rattle.std.proofs.lemmas.List.Elements.{Contains-get_or}
use Rattle.std.proofs.lemmas.List.Edits.{get_or-insert_above, get_or-insert_at, get_or-insert_below, get_or-remove_above, get_or-remove_below, length-insert, length-remove}
use Rattle.std.proofs.lemmas.List.Sorted.{Contains-permutation, IsPermutation-insert, IsPermutation-sym}
use Rattle.slab.proofs.SlabLemmas.{Contains-cons, Contains-cons_cases}
use Rattle.plane_geom.specs.declared.point.Point.{Point}
use Rattle.plane_geom.specs.declared.point.Way.{Way}
use Rattle.plane_geom.specs.declared.point.Way.TheVariants.{Vertical, Horizontal}
use Rattle.plane_geom.specs.declared.floor.Line.{Line}
use Rattle.plane_geom.specs.Floor.{Holds, point_on}
use Rattle.line_arena.specs.Order.{AreApart, AreOrderedWithIds, HasPlace, at_point}
use Rattle.plane_geom.specs.Order.{stands_before, way_before}
use Rattle.plane_geom.proofs.Order.{before_apart, not_before_itself, stands_through}
use Rattle.line_arena.proofs.Linking.Put.{held}

true_false : (b : Bool) → b ≡ true → b ≡ false → ⊥
true_false b t f = cc (t, f)

-- ---- the place of a line

none_before : (line l m : Line) → stands_before l m ≡ true → not (stands_before line m) ≡ true → not (stands_before line l) ≡ true
none_before line l m e f =
    elim (cases_Bool (stands_before line l)) [
      | inl t ↦ absurd (true_false (not (stands_before line m)) f (ap not (stands_through line l m t e)))
      | inr n ↦ ap not n
    ]

pub parted : (line : Line) (lines : List (Line × ℕ)) → AreOrderedWithIds lines → IsPartitionedBy (λ e. not (stands_before line e.0)) lines
parted line lines ordered = λ i j d h l e. elim (cases_lt i j) [
  | inl k ↦ none_before line (get_or lines i d).0 (get_or lines j d).0 (ordered i j d k l) e
  | inr k ↦ (let same : i ≡ j = omega arith in subst (λ (n : ℕ). not (stands_before line (get_or lines n d).0) ≡ true) (sym same) e)
]

pub not_true : (b : Bool) → not b ≡ true → b ≡ false
not_true true e = absurd (cc)
not_true false e = refl

pub not_false : (b : Bool) → not b ≡ false → b ≡ true
not_false true e = refl
not_false false e = absurd (cc)

-- ---- a line added

-- what an edit that succeeds leaves
pub succeeded : {T E X : Type 0} (r : Result T E) (new done failed : X) → IsOk r → new ≡ (if is_ok r then done else failed) → new ≡ done
succeeded (Ok x) new done failed ok is = is
succeeded (Err e) new done failed ok is = absurd (cc ok)

all_pairs_insert : {X : Type 0} (R : X → X → Type 0) (xs : List X) (n : ℕ) (y : X) → n ≤ length xs → AllPairs R xs
    → ((k : ℕ) (d : X) → k < n → R (get_or xs k d) y) → ((k : ℕ) (d : X) → n ≤ k → k < length xs → R y (get_or xs k d)) → AllPairs R (insert xs n y)
all_pairs_insert R xs n y l h front back i j d lt within =
    let long = length-insert xs n y l in
    let later : (k : ℕ) → n < k → get_or (insert xs n y) k d ≡ get_or xs (k - 1) d = λ k more.
    let e : k ≡ (k - 1) + 1 = omega arith in
    ap (λ m. get_or (insert xs n y) m d) e ∙ get_or-insert_above xs n y d (k - 1) (omega arith) l in
    elim (cases_lt j n) [
      | inl jn ↦ rw (get_or-insert_below xs n y d i (omega arith) l, get_or-insert_below xs n y d j jn l) (h i j d lt (omega arith))
      | inr nj ↦
          elim (cases_eq j n) [
            | inl at ↦ rw (get_or-insert_below xs n y d i (omega arith) l, ap (λ m. get_or (insert xs n y) m d) at ∙ get_or-insert_at xs n y d l) (front i d (omega arith))
            | inr ne ↦
                elim (cases_lt i n) [
                  | inl below ↦ rw (get_or-insert_below xs n y d i below l, later j (omega arith)) (h i (j - 1) d (omega arith) (omega arith))
                  | inr above ↦
                      elim (cases_eq i n) [
                        | inl at ↦ rw (ap (λ m. get_or (insert xs n y) m d) at ∙ get_or-insert_at xs n y d l, later j (omega arith)) (back (j - 1) d (omega arith) (omega arith))
                        | inr other ↦ rw (later i (omega arith), later j (omega arith)) (h (i - 1) (j - 1) d (omega arith) (omega arith))
                      ]
                ]
          ]
    ]

module _ (lines : List (Line × ℕ)) (ordered : AreOrderedWithIds lines) (line : Line) (p : ℕ) (bound : p ≤ length lines)
    (front : AllWithin (λ e. stands_before line e.0 ≡ false) lines 0 p) (back : AllWithin (λ e. stands_before line e.0 ≡ true) lines p (length lines)) where
  pub in_order_put : (id : ℕ) → HasPlace lines line → AreOrderedWithIds (insert lines p (line, id))
  in_order_put id place = all_pairs_insert (λ d e. stands_before d.0 e.0 ≡ true) lines p (line, id) bound ordered
      (λ k d less. place (get_or lines k d) (Contains-get_or lines k d (omega arith)) (front k d (omega arith) less)) back

  pub there_put : (id : ℕ) (e : Line × ℕ) → Contains (insert lines p (line, id)) e ↔ ((e ≡ (line, id)) ⊎ Contains lines e)
  there_put id e =
      let moved = IsPermutation-insert lines p (line, id) in (
        λ c. elim (Contains-cons_cases (line, id) e lines (Contains-permutation _ _ e (IsPermutation-sym _ _ moved) c)) [ inl same ↦ inl (sym same) | inr old ↦ inr old ],
        λ h. Contains-permutation _ _ e moved (elim h [
          | inl same ↦ subst (Contains ((line, id) ∷ lines)) (sym same) (0, omega arith, refl)
          | inr old ↦ Contains-cons (line, id) e lines old
        ]),
      )

  -- a line that is there stands last of those that it does not stand before
  module _ (id : ℕ) (there : Contains lines (line, id)) where
    not_after : there.0 < p
    not_after = elim (cases_lt there.0 p) [
      | inl less ↦ less
      | inr more ↦ absurd (true_false (stands_before line line) (subst (λ (e : Line × ℕ). stands_before line e.0 ≡ true) there.2 (back there.0 (line, id) more there.1)) (not_before_itself line))
    ]

    pub last_upto : there.0 + 1 ≡ p
    last_upto = elim (cases_lt (there.0 + 1) p) [
      | inl less ↦ absurd (
          let e = get_or lines (p - 1) (line, id) in
          true_false (stands_before line e.0)
          (subst (λ (d : Line × ℕ). stands_before d.0 e.0 ≡ true) there.2 (ordered there.0 (p - 1) (line, id) (omega arith) (omega arith)))
          (front (p - 1) (line, id) (omega arith) (omega arith)))
      | inr more ↦ let low = not_after in omega arith
    ]

-- ---- a line removed

module _ (lines : List (Line × ℕ)) (ordered : AreOrderedWithIds lines) (line : Line) (id : ℕ) (there : Contains lines (line, id)) (p : ℕ) (at : there.0 + 1 ≡ p) where
  pub inside : p - 1 < length lines
  inside = let l = there.1 in omega arith

  here : (d : Line × ℕ) → get_or lines (p - 1) d ≡ (line, id)
  here d =
      let same : p - 1 ≡ there.0 = omega arith in
      ap (λ n. get_or lines n d) same ∙ get_or_default lines there.0 d (line, id) there.1 ∙ there.2

  other_line : (k : ℕ) (e : Line × ℕ) → k < length lines → get_or lines k e ≡ e → k ≢ p - 1 → e.0 ≢ line
  other_line k e within is ne same =
      elim (cases_lt k (p - 1)) [
        | inl less ↦
            let b = subst (λ (f : Line × ℕ). stands_before (get_or lines k e).0 f.0 ≡ true) (here e) (ordered k (p - 1) e less inside) in
            before_apart e.0 line (subst (λ (d : Line × ℕ). stands_before d.0 line ≡ true) is b) same
        | inr more ↦
            let b = subst (λ (d : Line × ℕ). stands_before d.0 (get_or lines k e).0 ≡ true) (here e) (ordered (p - 1) k e (omega arith) within) in
            before_apart line e.0 (subst (λ (f : Line × ℕ). stands_before line f.0 ≡ true) is b) (sym same)
      ]

  pub left_out : (e : Line × ℕ) → Contains (remove lines (p - 1)) e ↔ (Contains lines e × (e.0 ≢ line))
  left_out e =
      let long = length-remove lines (p - 1) inside in (
        λ c. elim (cases_lt c.0 (p - 1)) [
          | inl less ↦
              let is = sym (get_or-remove_below lines (p - 1) e c.0 less inside) ∙ c.2 in
              let within : c.0 < length lines = let l = c.1 in omega arith in
              ((c.0, within, is), other_line c.0 e within is (omega arith))
          | inr more ↦
              let is = sym (get_or-remove_above lines (p - 1) e c.0 more inside) ∙ c.2 in
              let within : c.0 + 1 < length lines = let l = c.1 in omega arith in
              ((c.0 + 1, within, is), other_line (c.0 + 1) e within is (omega arith))
        ],
        λ h.
            let k = h.0.0 in
            let within : k < length lines = h.0.1 in
            elim (cases_lt k (p - 1)) [
              | inl less ↦ (k, omega arith, get_or-remove_below lines (p - 1) e k less inside ∙ h.0.2)
              | inr more ↦
                  elim (cases_eq k (p - 1)) [
                    | inl same ↦ absurd (h.1 (ap (λ (x : Line × ℕ). x.0) (sym h.0.2 ∙ ap (λ n. get_or lines n e) same ∙ here e)))
                    | inr ne ↦
                        let back : (k - 1) + 1 ≡ k = omega arith in
                        (k - 1, omega arith, get_or-remove_above lines (p - 1) e (k - 1) (omega arith) inside ∙ ap (λ n. get_or lines n e) back ∙ h.0.2)
                  ]
            ],
      )

-- ---- the vertical line through a point

-- a vertical line that begins no further on than the point, by column and then by row
upto_by : (x y at lo : ℤ) → (int_lt x at || (int_eq x at && int_lt y lo)) ≡ false → (at <ℤ x) ⊎ ((at ≡ x) × (lo ≤ℤ y))
upto_by x y at lo e = elim (cases_Bool (int_lt at x)) [
  | inl t ↦ inl (omega (arith, ints))
  | inr f ↦ inr (grind (arith, ints, Decides-int_eq x at), grind (arith, ints, Decides-int_eq x at))
]

lo_upto : (a b x y : ℤ) → (int_lt a b || (int_eq a b && int_lt x y)) ≡ true → a ≡ b → x ≤ℤ y
lo_upto a b x y e same = grind (arith, ints, Decides-int_eq a b)

at_upto : (a b x y : ℤ) → (int_lt a b || (int_eq a b && int_lt x y)) ≡ true → a ≤ℤ b
at_upto a b x y e = grind (arith, ints, Decides-int_eq a b)

-- what stands between two vertical lines of one column is a vertical line of it
column_between : (w : Way) (x y at lo far near : ℤ) → way_before Vertical w (int_lt x far || (int_eq x far && int_lt y near)) ≡ false
    → way_before Vertical w (int_lt at far || (int_eq at far && int_lt lo near)) ≡ true → at ≡ x
    → (w ≡ Vertical) × (far ≡ x) × (near ≤ℤ y) × (lo ≤ℤ near)
column_between Vertical x y at lo far near e f same =
    let low = at_upto at far lo near f in
    elim (upto_by x y far near e) [
      | inl less ↦ absurd (omega (arith, ints))
      | inr h ↦ (refl, h.0, h.1, lo_upto at far lo near f (same ∙ sym h.0))
    ]
column_between Horizontal x y at lo far near e f same = absurd (cc)

upto_point : (w : Way) (x y at lo : ℤ) → w ≡ Vertical → at ≡ x → lo ≤ℤ y → way_before Vertical w (int_lt x at || (int_eq x at && int_lt y lo)) ≡ false
upto_point Vertical x y at lo v same le = grind (arith, ints, Decides-int_eq x at)
upto_point Horizontal x y at lo v same le = absurd (cc)

-- where a vertical line holds the point
pub record HoldsDown (l : Line) (p : Point) : Type 0 where
  pub at : l.at ≡ p.x
  pub from : l.lo ≤ℤ p.y
  pub to : p.y ≤ℤ l.hi

pub held_down : (l : Line) (p : Point) → l.way ≡ Vertical → Holds l p → HoldsDown l p
held_down l p way h =
    let is = held l p Vertical way h in
    let y : p.y ≡ h.along = ap (λ (q : Point). q.y) is in
    record {
      at = sym (ap (λ (q : Point). q.x) is);
      from = subst (λ z. l.lo ≤ℤ z) (sym y) h.from;
      to = subst (λ z. z ≤ℤ l.hi) (sym y) h.to;
    }

down_holds : (l : Line) (x y : ℤ) → l.way ≡ Vertical → l.at ≡ x → l.lo ≤ℤ y → y ≤ℤ l.hi → Holds l (record { x = x; y = y })
down_holds l x y way at from to = record {
  along = y;
  from = from;
  to = to;
  here = sym (λ i. point_on (way i) (at i) y);
}

module _ (lines : List (Line × ℕ)) (ordered : AreOrderedWithIds lines) (apart : AreApart lines) (point : Point) (p : ℕ) (bound : p ≤ length lines)
    (front : AllWithin (λ e. stands_before (at_point point) e.0 ≡ false) lines 0 p) (back : AllWithin (λ e. stands_before (at_point point) e.0 ≡ true) lines p (length lines))
    (e : Line × ℕ) (there : Contains lines e) (way : e.0.way ≡ Vertical) (holds : Holds e.0 point) where
  down : HoldsDown e.0 point
  down = held_down e.0 point way holds

  pub begins_upto : there.0 < p
  begins_upto = elim (cases_lt there.0 p) [
    | inl less ↦ less
    | inr more ↦ absurd (true_false (stands_before (at_point point) e.0)
        (subst (λ (f : Line × ℕ). stands_before (at_point point) f.0 ≡ true) there.2 (back there.0 e more there.1))
        (upto_point e.0.way point.x point.y e.0.at e.0.lo way down.at down.from))
  ]

  -- it is the last line that begins no further on
  pub last_is : get_or lines (p - 1) e ≡ e
  last_is = elim (cases_lt there.0 (p - 1)) [
    | inl less ↦
        let low = begins_upto in
        let c = get_or lines (p - 1) e in
        let before : stands_before e.0 c.0 ≡ true = subst (λ (f : Line × ℕ). stands_before f.0 c.0 ≡ true) there.2 (ordered there.0 (p - 1) e less (omega arith)) in
        let upto : stands_before (at_point point) c.0 ≡ false = front (p - 1) e (omega arith) (omega arith) in
        let vertical : stands_before (record e.0 { way = Vertical }) c.0 ≡ true = subst (λ w. way_before w c.0.way (int_lt e.0.at c.0.at || (int_eq e.0.at c.0.at && int_lt e.0.lo c.0.lo)) ≡ true) way before in
        let between = column_between c.0.way point.x point.y e.0.at e.0.lo c.0.at c.0.lo upto vertical down.at in
        let in_list = Contains-get_or lines (p - 1) e (omega arith) in
        let long = apart.ordered c in_list in
        let over = down.to in
        apart.apart c e (record { x = point.x; y = c.0.lo }) in_list there
        (record { way = between.0 ∙ sym way; at = between.1 ∙ sym down.at })
        (down_holds c.0 point.x c.0.lo between.0 between.1 (omega (arith, ints)) long)
        (down_holds e.0 point.x c.0.lo way down.at between.3 (let h = between.2 in omega (arith, ints)))
    | inr more ↦
        let low = begins_upto in
        let same : p - 1 ≡ there.0 = omega arith in
        ap (λ n. get_or lines n e) same ∙ there.2
  ]
