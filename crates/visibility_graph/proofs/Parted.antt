-- Which lines of a list in order cannot meet a line.
use Rattle.std.proofs.Common.{◌≡◌, ℕ, ◌<◌, ◌≤◌, ℤ, ◌≤ℤ◌, Bool, true, false, not, ◌&&◌, inl, inr, List, length, get_or, refl, sym, ap, subst, ◌∙◌, arith}
use Rattle.std.specs.Prelude.{int_lt, ◌||◌}
use Rattle.std.specs.Ordering.{int_eq}
use Rattle.std.specs.List.Sorted.{IsPartitionedBy}
use Rattle.std.proofs.lemmas.Bool.{cases_lt}
use Rattle.std.proofs.lemmas.Bool.Decides.{Decides-int_eq}
use Rattle.std.proofs.lemmas.Int.{ints}
use Rattle.plane_geom.specs.declared.point.Way.{Way}
use Rattle.plane_geom.specs.declared.point.Way.TheVariants.{Vertical, Horizontal}
use Rattle.plane_geom.specs.declared.floor.Line.{Line}
use Rattle.plane_geom.specs.Order.{AreOrdered, way_before}
use Rattle.visibility_graph.specs.Meeting.{meets, reaches, same_way, sorted_out}

not_both : (a b : Bool) → ((a && false) && b) ≡ false
not_both true b = refl
not_both false b = refl

before_by : (v w : Way) (l m : Line) → sorted_out v w (int_lt m.at l.lo) ≡ true → (not (same_way v w) && (reaches l m.at && reaches m l.at)) ≡ false
before_by Vertical Vertical l m e = refl
before_by Vertical Horizontal l m e = ap (λ b. (not b && not (int_lt l.hi m.at)) && reaches m l.at) e
before_by Horizontal Vertical l m e = ap (λ b. (not b && not (int_lt l.hi m.at)) && reaches m l.at) e
before_by Horizontal Horizontal l m e = refl

-- what stands before those across that the line reaches does not meet it
pub not_met_before : (l m : Line) → sorted_out l.way m.way (int_lt m.at l.lo) ≡ true → meets l m ≡ false
not_met_before l m e = before_by l.way m.way l m e

beyond : (l m : Line) → not (int_lt l.hi m.at) ≡ false → (reaches l m.at && reaches m l.at) ≡ false
beyond l m e = subst (λ b. ((not (int_lt m.at l.lo) && b) && reaches m l.at) ≡ false) (sym e) (not_both (not (int_lt m.at l.lo)) (reaches m l.at))

behind_by : (v w : Way) (l m : Line) → sorted_out v w (not (int_lt l.hi m.at)) ≡ false → (not (same_way v w) && (reaches l m.at && reaches m l.at)) ≡ false
behind_by Vertical Vertical l m e = refl
behind_by Vertical Horizontal l m e = beyond l m e
behind_by Horizontal Vertical l m e = beyond l m e
behind_by Horizontal Horizontal l m e = refl

-- nor does what comes after them
pub not_met_behind : (l m : Line) → sorted_out l.way m.way (not (int_lt l.hi m.at)) ≡ false → meets l m ≡ false
not_met_behind l m e = behind_by l.way m.way l m e

between : (l m : Line) → int_lt m.at l.lo ≡ false → not (int_lt l.hi m.at) ≡ true → (reaches l m.at && reaches m l.at) ≡ reaches m l.at
between l m e f = ap (λ b. (not b && not (int_lt l.hi m.at)) && reaches m l.at) e ∙ ap (λ b. b && reaches m l.at) f

across_by : (v w : Way) (l m : Line) → sorted_out v w (int_lt m.at l.lo) ≡ false → sorted_out v w (not (int_lt l.hi m.at)) ≡ true → (not (same_way v w) && (reaches l m.at && reaches m l.at)) ≡ reaches m l.at
across_by Vertical Vertical l m e f = absurd (cc)
across_by Vertical Horizontal l m e f = between l m e f
across_by Horizontal Vertical l m e f = between l m e f
across_by Horizontal Horizontal l m e f = absurd (cc)

-- what stands between these meets the line exactly where it reaches the line's whole line
pub met_across : (l m : Line) → sorted_out l.way m.way (int_lt m.at l.lo) ≡ false → sorted_out l.way m.way (not (int_lt l.hi m.at)) ≡ true → meets l m ≡ reaches m l.at
met_across l m e f = across_by l.way m.way l m e f

vertical_by : (v w : Way) (rest : Bool) → way_before v w rest ≡ true → w ≡ Vertical → v ≡ Vertical
vertical_by Vertical w rest e f = refl
vertical_by Horizontal Vertical rest e f = absurd (cc)
vertical_by Horizontal Horizontal rest e f = absurd (cc)

-- all that stands up to a vertical line is vertical
pub vertical_upto : (ls : List Line) (i j : ℕ) (d : Line) → AreOrdered ls → i ≤ j → j < length ls → (get_or ls j d).way ≡ Vertical → (get_or ls i d).way ≡ Vertical
vertical_upto ls i j d ordered h l e = elim (cases_lt i j) [
  | inl k ↦ (let x = get_or ls i d in let y = get_or ls j d in vertical_by x.way y.way (int_lt x.at y.at || (int_eq x.at y.at && int_lt x.lo y.lo)) (ordered i j d k l) e)
  | inr k ↦ (let same : i ≡ j = omega arith in subst (λ (n : ℕ). (get_or ls n d).way ≡ Vertical) (sym same) e)
]

-- lines of one way do not meet
pub not_met_alongside : (l m : Line) → l.way ≡ Vertical → m.way ≡ Vertical → meets l m ≡ false
not_met_alongside l m e f =
    ap (λ w. not (same_way w m.way) && (reaches l m.at && reaches m l.at)) e ∙ ap (λ w. not (same_way Vertical w) && (reaches l m.at && reaches m l.at)) f

no_fall : (a b c d : ℤ) → (int_lt a b || (int_eq a b && int_lt c d)) ≡ true → a ≤ℤ b
no_fall a b c d e = grind (arith, ints, Decides-int_eq a b)

-- a test that what stands at a lesser coordinate passes too
module _ (t : ℤ → Bool) (falls : (a b : ℤ) → a ≤ℤ b → t b ≡ true → t a ≡ true) where
  passed_by : (v w u : Way) (x y : Line) → way_before w u (int_lt x.at y.at || (int_eq x.at y.at && int_lt x.lo y.lo)) ≡ true → sorted_out v u (t y.at) ≡ true → sorted_out v w (t x.at) ≡ true
  passed_by Vertical Vertical u x y o e = refl
  passed_by Vertical Horizontal Vertical x y o e = absurd (cc)
  passed_by Vertical Horizontal Horizontal x y o e = falls x.at y.at (no_fall x.at y.at x.lo y.lo o) e
  passed_by Horizontal Vertical Vertical x y o e = falls x.at y.at (no_fall x.at y.at x.lo y.lo o) e
  passed_by Horizontal Vertical Horizontal x y o e = absurd (cc)
  passed_by Horizontal Horizontal Vertical x y o e = absurd (cc)
  passed_by Horizontal Horizontal Horizontal x y o e = absurd (cc)

  -- lines in order are parted by it
  pub parted : (v : Way) (ls : List Line) → AreOrdered ls → IsPartitionedBy (λ m. sorted_out v m.way (t m.at)) ls
  parted v ls ordered = λ i j d h l e. elim (cases_lt i j) [
    | inl k ↦ passed_by v (get_or ls i d).way (get_or ls j d).way (get_or ls i d) (get_or ls j d) (ordered i j d k l) e
    | inr k ↦ (let same : i ≡ j = omega arith in subst (λ (n : ℕ). sorted_out v (get_or ls n d).way (t (get_or ls n d).at) ≡ true) (sym same) e)
  ]

pub falls_below : (z a b : ℤ) → a ≤ℤ b → int_lt b z ≡ true → int_lt a z ≡ true
falls_below z a b h e = grind (arith, ints)

pub falls_upto : (z a b : ℤ) → a ≤ℤ b → not (int_lt z b) ≡ true → not (int_lt z a) ≡ true
falls_upto z a b h e = grind (arith, ints)
