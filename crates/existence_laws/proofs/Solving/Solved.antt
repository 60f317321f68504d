-- A solution of each bundle: least positions over small denominators, with the multipliers that balance them.
use Rattle.std.proofs.Common.{◌≡◌, ℕ, zero, suc, ◌+◌, ◌<◌, ◌≤◌, ℤ, pos, negsuc, ◌+ℤ◌, ◌-ℤ◌, ◌*ℤ◌, ◌≤ℤ◌, List, [], ◌∷◌, length, get_or, map, refl, sym, ap, subst, ◌∙◌, ⊎_elim, arith}
use Rattle.std.specs.List.{range_with_len}
use Rattle.std.specs.Prelude.{EachIndex, unsigned_abs}
use Rattle.std.proofs.lemmas.Int.{ints}
use Rattle.std.proofs.lemmas.List.Elements.{All-from_get_or}
use Rattle.std.proofs.lemmas.List.FromFn.{get_or-map-range_with_len, length-map-range_with_len}
use Rattle.separation_model.specs.declared.bundle.Item.{Item}
use Rattle.separation_model.specs.declared.bundle.Rule.{Rule}
use Rattle.separation_model.specs.declared.bundle.Bundle.{Bundle}
use Rattle.separation_model.specs.declared.bundle.Solution.{Solution}
use Rattle.separation_model.specs.Apart.{fraction_slack}
use Rattle.separation_model.specs.Bundle.{IsBundle, IsItem, IsWithinLimits, asked, int_at, item_at, no_item, no_rule, rule_at}
use Rattle.separation_model.specs.Certified.{IsAccepted, IsLimitTight, IsSmall, from_left, from_right}
use Rattle.separation_model.specs.Checked.{HasLengths, HasMultipliers, IsAtRest, IsMultiplier, KeepsLimits, KeepsLimitsAt, KeepsRuleAt}
use Rattle.separation_model.specs.Gap.{IsWidestGap}
use Rattle.separation_model.specs.Least.{IsLeast, over_product}
use Rattle.separation_model.specs.Sum.{here, product, sum_at, sum_below}
use Rattle.separation_model.proofs.Arithmetic.Ring.{ring, var, num, ◌⊗◌, ◌⊖◌}
use Rattle.separation_model.proofs.Arithmetic.Order.{cancel, cancel_le, cancel_nonneg, mul-mono, mul-nonneg}
use Rattle.separation_model.proofs.Arithmetic.Sums.{part_of_sum, sum_below-le, sum_below-same, sum_below-sign, sum_below-single, sum_below-zero}
use Rattle.separation_model.proofs.Arithmetic.Exchange.{here_other, here_same}
use Rattle.separation_model.proofs.Optimum.Certificates.{certified_least}
use Rattle.separation_model.proofs.Optimum.Duality.{force}
use Rattle.separation_model.proofs.Optimum.Existence.{least_exist}
use Rattle.separation_model.proofs.Optimum.Middle.{least_over}
use Rattle.separation_model.proofs.Optimum.Positions.{MeetsOver, ends_within, int_at-listed, limits_on_sheet, listed, over_product_meets}
use Rattle.separation_model.proofs.Gaps.WidestExists.{widest_exists}
use Rattle.separation_model.proofs.Verifying.Accepted.{accepted}
use Rattle.nudge_phases.specs.Phase.{IsSolutionOf}
use Rattle.nudge_phases.proofs.Fewer.{vec_like}
use Rattle.existence_laws.specs.Solutions.{HaveSolutions}
use Rattle.existence_laws.proofs.Solving.Flows.{IsMet, flow_or_cut, gathered, here_sign, touch}
use Rattle.existence_laws.proofs.Solving.Links.{Link, IsTight, IsTightLink, link, link_of_high, link_of_low, link_of_rule, link_sum, link_count, at_item, at_wall, ends_in, from, supply, supply_even, supply_item, supply_wall, tight_or, to}
use Rattle.existence_laws.proofs.Solving.Classes.{constant_sum}
use Rattle.existence_laws.proofs.Solving.Multipliers.{balanced, den, den_most, den_positive, force_of, num_of, one_den, same_place}
use Rattle.existence_laws.proofs.Solving.Pulled.{no_cut}

-- ---- sums and lists

sum_below_first : (n : ℕ) (f : ℕ → ℤ) → sum_below (suc n) f ≡ f 0 +ℤ sum_below n (λ j. f (suc j))
sum_below_first zero f = omega (arith, ints)
sum_below_first (suc n) f = omega (arith, ints, sum_below_first n f)

-- the sum at an index, over the indexes of the elements
sum_at_is : {A : Type 0} (end : A → ℕ) (i : ℕ) (xs : List A) (zs : List ℤ) (d : A) → length zs ≡ length xs →
    sum_at end i xs zs ≡ sum_below (length xs) (λ j. here (end (get_or xs j d)) i (int_at zs j))
sum_at_is end i [] zs d e = refl
sum_at_is end i (x ∷ xs) [] d e = absurd (omega arith)
sum_at_is end i (x ∷ xs) (z ∷ zs) d e =
    omega (arith, ints, sum_below_first (length xs) (λ j. here (end (get_or (x ∷ xs) j d)) i (int_at (z ∷ zs) j)), sum_at_is end i xs zs d (omega arith))

sum_own : (n i : ℕ) (g : ℕ → ℤ) → i < n → sum_below n (λ k. here k i (g k)) ≡ g i
sum_own n i g l = sum_below-single n (λ k. here k i (g k)) i l (λ k m other. here_other k i (g k) other) ∙ here_same i i (g i) refl

sum_walled : (n i : ℕ) (g : ℕ → ℤ) → i < n → sum_below n (λ k. here n i (g k)) ≡ pos 0
sum_walled n i g l = sum_below-zero n (λ k. here n i (g k)) (λ k m. here_other n i (g k) (λ e. omega (arith, l, e)))

abs_sum : (n : ℕ) (f : ℕ → ℤ) → pos (unsigned_abs (sum_below n f)) ≤ℤ sum_below n (λ i. pos (unsigned_abs (f i)))
abs_sum zero f = omega (arith, ints)
abs_sum (suc n) f = omega (arith, ints, abs_sum n f)

-- ---- the same places over other denominators

slack_scaled : (d dl dr a pl pr xl xr : ℤ) → d *ℤ pl ≡ dl *ℤ xl → d *ℤ pr ≡ dr *ℤ xr →
    d *ℤ ((pr *ℤ dl) -ℤ (pl *ℤ dr) -ℤ (a *ℤ dl *ℤ dr)) ≡ (dl *ℤ dr) *ℤ ((xr -ℤ xl) -ℤ (a *ℤ d))
slack_scaled d dl dr a pl pr xl xr e g =
    ring (d ∷ dl ∷ dr ∷ a ∷ pl ∷ pr ∷ []) (var 0 ⊗ ((var 5 ⊗ var 1) ⊖ (var 4 ⊗ var 2) ⊖ (var 3 ⊗ var 1 ⊗ var 2)))
    (((var 0 ⊗ var 5) ⊗ var 1) ⊖ ((var 0 ⊗ var 4) ⊗ var 2) ⊖ (var 0 ⊗ (var 3 ⊗ var 1 ⊗ var 2))) refl
    ∙ ap (λ z. (z *ℤ dl) -ℤ ((d *ℤ pl) *ℤ dr) -ℤ (d *ℤ (a *ℤ dl *ℤ dr))) g
    ∙ ap (λ z. ((dr *ℤ xr) *ℤ dl) -ℤ (z *ℤ dr) -ℤ (d *ℤ (a *ℤ dl *ℤ dr))) e
    ∙ ring (d ∷ dl ∷ dr ∷ a ∷ xl ∷ xr ∷ []) (((var 2 ⊗ var 5) ⊗ var 1) ⊖ ((var 1 ⊗ var 4) ⊗ var 2) ⊖ (var 0 ⊗ (var 3 ⊗ var 1 ⊗ var 2)))
    ((var 1 ⊗ var 2) ⊗ ((var 5 ⊖ var 4) ⊖ (var 3 ⊗ var 0))) refl

low_scaled : (d e : ℕ) (lo p x : ℤ) → 0 < d → pos d *ℤ p ≡ pos e *ℤ x → (lo *ℤ pos d) ≤ℤ x → (lo *ℤ pos e) ≤ℤ p
low_scaled d e lo p x some same h =
    let turn : pos d *ℤ (lo *ℤ pos e) ≡ pos e *ℤ (lo *ℤ pos d) = ring (pos d ∷ pos e ∷ lo ∷ []) (var 0 ⊗ (var 2 ⊗ var 1)) (var 1 ⊗ (var 2 ⊗ var 0)) refl in
    cancel_le d (lo *ℤ pos e) p some (omega (arith, ints, turn, same, mul-mono (pos e) (lo *ℤ pos d) x (omega (arith, ints)) h))

high_scaled : (d e : ℕ) (hi p x : ℤ) → 0 < d → pos d *ℤ p ≡ pos e *ℤ x → x ≤ℤ (hi *ℤ pos d) → p ≤ℤ (hi *ℤ pos e)
high_scaled d e hi p x some same h =
    let turn : pos d *ℤ (hi *ℤ pos e) ≡ pos e *ℤ (hi *ℤ pos d) = ring (pos d ∷ pos e ∷ hi ∷ []) (var 0 ⊗ (var 2 ⊗ var 1)) (var 1 ⊗ (var 2 ⊗ var 0)) refl in
    cancel_le d p (hi *ℤ pos e) some (omega (arith, ints, turn, same, mul-mono (pos e) x (hi *ℤ pos d) (omega (arith, ints)) h))

-- ---- sizes

force_small : (item : Item) (e : ℕ) (p : ℤ) → IsItem item → e ≤ 3400000000 → IsWithinLimits item e p →
    unsigned_abs (pos 2 *ℤ pos item.weight *ℤ (p -ℤ (pos e *ℤ item.want))) ≤ 108800000000000000000
force_small item e p ok most within =
    let w = pos item.weight in
    let g = p -ℤ (pos e *ℤ item.want) in
    let lo = ok.lo.low in
    let hi = ok.hi.high in
    let want_low = mul-mono (pos e) item.lo item.want (omega (arith, ints)) ok.want_low in
    let want_high = mul-mono (pos e) item.want item.hi (omega (arith, ints)) ok.want_high in
    let least = mul-mono (pos e) (negsuc 1999999999) item.lo (omega (arith, ints)) lo in
    let greatest = mul-mono (pos e) item.hi (pos 2000000000) (omega (arith, ints)) hi in
    let turn_low : item.lo *ℤ pos e ≡ pos e *ℤ item.lo = ring (item.lo ∷ pos e ∷ []) (var 0 ⊗ var 1) (var 1 ⊗ var 0) refl in
    let turn_high : item.hi *ℤ pos e ≡ pos e *ℤ item.hi = ring (item.hi ∷ pos e ∷ []) (var 0 ⊗ var 1) (var 1 ⊗ var 0) refl in
    let above : g ≤ℤ pos 13600000000000000000 = omega (arith, ints, within.high, turn_high, greatest, least, want_low, most) in
    let below : (pos 0 -ℤ pos 13600000000000000000) ≤ℤ g = omega (arith, ints, within.low, turn_low, greatest, least, want_high, most) in
    let turn : pos 2 *ℤ w *ℤ g ≡ pos 2 *ℤ (w *ℤ g) = ring (w ∷ g ∷ []) (num (pos 2) ⊗ var 0 ⊗ var 1) (num (pos 2) ⊗ (var 0 ⊗ var 1)) refl in
    let upper = mul-mono w g (pos 13600000000000000000) (omega (arith, ints)) above in
    let lower = mul-mono w (pos 0 -ℤ pos 13600000000000000000) g (omega (arith, ints)) below in
    omega (arith, ints, turn, upper, lower, ok.weight_low, ok.weight_high)

-- ---- the solution

module _ (b : Bundle) (gap : ℤ) (ok : IsBundle b) (widest : IsWidestGap b gap) (d : ℕ) (some : 0 < d) (X : ℕ → ℤ) (meets : MeetsOver b gap d X)
    (balance : IsMet (suc (length b.items.items)) (link_count b gap) (from b gap) (to b gap) (IsTight b gap d X) (supply (length b.items.items) (force b.items.items d X))) where
  abbrev n : ℕ
  n = length b.items.items

  abbrev rules : ℕ
  rules = length b.rules.items

  abbrev e : ℕ → ℕ
  e = den b gap ok d some X balance

  abbrev p : ℕ → ℤ
  p = num_of b gap ok d some X balance

  abbrev f : ℕ → ℤ
  f = force_of b gap ok d some X balance

  abbrev same : (i : ℕ) → i < n → pos d *ℤ p i ≡ pos (e i) *ℤ X i
  same = same_place b gap ok d some X balance

  abbrev met : IsMet (suc n) (link_count b gap) (from b gap) (to b gap) (IsTight b gap d X) (supply n f)
  met = balanced b gap ok d some X balance

  -- the multipliers
  abbrev m : ℕ → ℤ
  m = met.flow

  abbrev dens : List ℕ
  dens = map e (range_with_len 0 n)

  abbrev nums : List ℤ
  nums = listed n p

  abbrev mults : List ℤ
  mults = listed rules m

  abbrev lows : List ℤ
  lows = listed n (λ i. m (rules + i))

  abbrev highs : List ℤ
  highs = listed n (λ i. m (rules + (n + i)))

  abbrev length_of : {A : Type 0} (g : ℕ → A) (k : ℕ) → length (map g (range_with_len 0 k)) ≡ k
  length_of g k = length-map-range_with_len g 0 k

  -- their places and multipliers
  abbrev pub solution : Solution
  solution = record {
    gap = gap;
    den = vec_like b.items dens (length_of e n);
    pos = vec_like b.items nums (length_of p n);
    mult = vec_like b.rules mults (length_of m rules);
    low = vec_like b.items lows (length_of (λ i. m (rules + i)) n);
    high = vec_like b.items highs (length_of (λ i. m (rules + (n + i))) n);
  }

  den_at : (i : ℕ) → i < n → get_or dens i 0 ≡ e i
  den_at i l = get_or-map-range_with_len e 0 n i i 0 l (omega arith)

  most : (i : ℕ) → e i ≤ 3400000000
  most i = let k = den_most b gap ok d some X balance i in let few = ok.few in omega (arith, k, few)

  within : (i : ℕ) → i < n → IsWithinLimits (item_at b.items.items i) (e i) (p i)
  within i l = record {
    low = low_scaled d (e i) (item_at b.items.items i).lo (p i) (X i) some (same i l) (meets.low i l);
    high = high_scaled d (e i) (item_at b.items.items i).hi (p i) (X i) some (same i l) (meets.high i l);
  }

  place_small : (i : ℕ) → i < n → IsSmall (p i)
  place_small i l =
      let on = limits_on_sheet (item_at b.items.items i) (e i) (p i) (ok.items i no_item l) (den_positive b gap ok d some X balance i l) (within i l) in
      omega (arith, ints, on.low, on.high, most i)

  -- all forces together, and so all that the multipliers do at a node
  forces_small : sum_below (suc n) (λ x. pos (unsigned_abs (supply n f x))) ≤ℤ pos 184960000000000000000000000000
  forces_small =
      let sizes = λ (i : ℕ). pos (unsigned_abs (f i)) in
      let each : (i : ℕ) → i < n → pos (unsigned_abs (supply n f i)) ≡ sizes i = λ i l. ap (λ z. pos (unsigned_abs z)) (supply_item n f i l) in
      let wall : pos (unsigned_abs (supply n f n)) ≡ pos (unsigned_abs (pos 0 -ℤ sum_below n f)) = ap (λ z. pos (unsigned_abs z)) (supply_wall n f) in
      let few = ok.few in
      omega (
        arith,
        ints,
        few,
        wall,
        abs_sum n f,
        sum_below-same n (λ x. pos (unsigned_abs (supply n f x))) sizes each,
        sum_below-le n sizes (λ i. pos 108800000000000000000) (λ i l. let k = force_small (item_at b.items.items i) (e i) (p i) (ok.items i no_item l) (most i) (within i l) in omega (arith, ints, k)),
        constant_sum n 108800000000000000000,
      )

  touch_small : (x : ℕ) → touch (link_count b gap) (from b gap) (to b gap) m x ≤ℤ pos 184960000000000000000000000000
  touch_small x = omega (arith, ints, met.small x, forces_small)

  mult_is : (j : ℕ) → j < link_count b gap → IsMultiplier (m j)
  mult_is j l =
      let at = from b gap j in
      let part = part_of_sum (link_count b gap) (λ i. here (from b gap i) at (m i)) j l (λ i k. here_sign (from b gap i) at (m i) (met.is.sign i)) in
      let others = sum_below-sign (link_count b gap) (λ i. here (to b gap i) at (m i)) (λ i k. here_sign (to b gap i) at (m i) (met.is.sign i)) in
      record { sign = met.is.sign j; small = omega (arith, ints, part, others, here_same at at (m j) refl, touch_small at) }

  mults_are : HasMultipliers solution
  mults_are = record {
    mults = All-from_get_or IsMultiplier mults (pos 0) (λ j l. let k : j < rules = omega (arith, l, length_of m rules) in subst IsMultiplier (sym (int_at-listed rules m j k)) (mult_is j (omega (arith, k))));
    lows = All-from_get_or IsMultiplier lows (pos 0) (λ i l. let k : i < n = omega (arith, l, length_of (λ i. m (rules + i)) n) in subst IsMultiplier (sym (int_at-listed n (λ i. m (rules + i)) i k)) (mult_is (rules + i) (omega (arith, k))));
    highs = All-from_get_or IsMultiplier highs (pos 0) (λ i l. let k : i < n = omega (arith, l, length_of (λ i. m (rules + (n + i))) n) in subst IsMultiplier (sym (int_at-listed n (λ i. m (rules + (n + i))) i k)) (mult_is (rules + (n + i)) (omega (arith, k))));
  }

  -- a link with a multiplier is tight
  tight_link : (a : Link) (j : ℕ) → j < link_count b gap → link b gap j ≡ a → (m j ≡ pos 0 → ⊥) → IsTightLink b gap d X a
  tight_link a j l same_link more = subst (IsTightLink b gap d X) same_link (met.is.opens j l more)

  limit_tight : (i : ℕ) → i < n → IsLimitTight (item_at b.items.items i) (e i) (p i) (m (rules + i)) (m (rules + (n + i)))
  limit_tight i l =
      let lo = (item_at b.items.items i).lo in
      let hi = (item_at b.items.items i).hi in
      let at : (z : ℤ) → X i ≡ z *ℤ pos d → p i ≡ z *ℤ pos (e i) =
      λ z g. cancel d (p i) (z *ℤ pos (e i)) some (same i l ∙ ap (λ x. pos (e i) *ℤ x) g ∙ ring (pos (e i) ∷ z ∷ pos d ∷ []) (var 0 ⊗ (var 1 ⊗ var 2)) (var 2 ⊗ (var 1 ⊗ var 0)) refl) in
      record {
        at_low = λ more. at lo (let t = tight_link _ (rules + i) (omega (arith, l)) (link_of_low b gap i l) more in omega (arith, ints, t, at_item n X i l, at_wall n X));
        at_high = λ more. at hi (let t = tight_link _ (rules + (n + i)) (omega (arith, l)) (link_of_high b gap i) more in
            omega (arith, ints, t, at_item n X i l, at_wall n X, ring (hi ∷ pos d ∷ []) ((num (pos 0) ⊖ var 0) ⊗ var 1) (num (pos 0) ⊖ (var 0 ⊗ var 1)) refl));
      }

  limits_kept : EachIndex b.items.items (KeepsLimitsAt b solution)
  limits_kept i l =
      let kept : KeepsLimits (item_at b.items.items i) (e i) (p i) (m (rules + i)) (m (rules + (n + i))) = record {
        positive = den_positive b gap ok d some X balance i l;
        within = within i l;
        small = place_small i l;
        tight = limit_tight i l;
      } in
      rw (den_at i l, int_at-listed n p i l, int_at-listed n (λ i. m (rules + i)) i l, int_at-listed n (λ i. m (rules + (n + i))) i l) kept

  -- the slack of a rule over the small denominators
  slack_of : ℕ → ℤ
  slack_of j = let r = rule_at b.rules.items j in fraction_slack (p r.left) (e r.left) (p r.right) (e r.right) (asked gap r)

  slack_is : (j : ℕ) → j < rules → let r = rule_at b.rules.items j in pos d *ℤ slack_of j ≡ (pos (e r.left) *ℤ pos (e r.right)) *ℤ ((X r.right -ℤ X r.left) -ℤ (asked gap r *ℤ pos d))
  unfolding slack_of
  slack_is j l =
      let r = rule_at b.rules.items j in
      let ends = ends_within b j no_rule ok l in
      slack_scaled (pos d) (pos (e r.left)) (pos (e r.right)) (asked gap r) (p r.left) (p r.right) (X r.left) (X r.right) (same r.left ends.0) (same r.right ends.1)

  rule_met : (j : ℕ) → j < rules → pos 0 ≤ℤ slack_of j
  rule_met j l =
      let r = rule_at b.rules.items j in
      let z = (X r.right -ℤ X r.left) -ℤ (asked gap r *ℤ pos d) in
      let kept : pos 0 ≤ℤ z = omega (arith, ints, meets.rules j no_rule l) in
      cancel_nonneg d (slack_of j) some (subst (λ x. pos 0 ≤ℤ x) (sym (slack_is j l)) (mul-nonneg (pos (e r.left) *ℤ pos (e r.right)) z (omega (arith, ints)) kept))

  rule_tight : (j : ℕ) → j < rules → (m j ≡ pos 0 → ⊥) → (slack_of j ≡ pos 0) × (e (rule_at b.rules.items j).left ≡ e (rule_at b.rules.items j).right)
  rule_tight j l more =
      let r = rule_at b.rules.items j in
      let ends = ends_within b j no_rule ok l in
      let t = tight_link _ j (omega (arith, l)) (link_of_rule b gap j l) more in
      let z = (X r.right -ℤ X r.left) -ℤ (asked gap r *ℤ pos d) in
      let none : z ≡ pos 0 = omega (arith, ints, t, at_item n X r.left ends.0, at_item n X r.right ends.1) in (
        cancel d (slack_of j) (pos 0) some (slack_is j l ∙ ap (λ x. (pos (e r.left) *ℤ pos (e r.right)) *ℤ x) none ∙ omega (arith, ints)),
        subst (λ a. e a.from ≡ e a.to) (link_of_rule b gap j l) (one_den b gap ok d some X balance j (met.is.opens j (omega (arith, l)) more)),
      )

  rules_kept : EachIndex b.rules.items (KeepsRuleAt b solution)
  unfolding slack_of
  rules_kept j l =
      let r = rule_at b.rules.items j in
      let ends = ends_within b j no_rule ok l in
      record {
        met = rw (den_at r.left ends.0, den_at r.right ends.1, int_at-listed n p r.left ends.0, int_at-listed n p r.right ends.1) (rule_met j l);
        tight = rw (den_at r.left ends.0, den_at r.right ends.1, int_at-listed n p r.left ends.0, int_at-listed n p r.right ends.1, int_at-listed rules m j l) (rule_tight j l);
      }

  -- what flows into an item, and what leaves it
  rule_sum : (end : Rule → ℕ) (i : ℕ) → sum_at end i b.rules.items mults ≡ sum_below rules (λ j. here (end (rule_at b.rules.items j)) i (m j))
  rule_sum end i =
      sum_at_is end i b.rules.items mults no_rule (length_of m rules)
      ∙ sum_below-same rules (λ j. here (end (rule_at b.rules.items j)) i (int_at mults j)) (λ j. here (end (rule_at b.rules.items j)) i (m j)) (λ j l. ap (here (end (rule_at b.rules.items j)) i) (int_at-listed rules m j l))

  comes_in : (i : ℕ) → i < n → gathered (link_count b gap) (to b gap) m i ≡ from_left i b.rules.items mults +ℤ int_at lows i
  comes_in i l = omega (
    arith,
    ints,
    link_sum b gap (λ a z. here a.to i z) m,
    rule_sum (λ r. r.right) i,
    sum_own n i (λ k. m (rules + k)) l,
    sum_walled n i (λ k. m (rules + (n + k))) l,
    int_at-listed n (λ i. m (rules + i)) i l,
  )

  goes_out : (i : ℕ) → i < n → gathered (link_count b gap) (from b gap) m i ≡ from_right i b.rules.items mults +ℤ int_at highs i
  goes_out i l = omega (
    arith,
    ints,
    link_sum b gap (λ a z. here a.from i z) m,
    rule_sum (λ r. r.left) i,
    sum_walled n i (λ k. m (rules + k)) l,
    sum_own n i (λ k. m (rules + (n + k))) l,
    int_at-listed n (λ i. m (rules + (n + i))) i l,
  )

  at_rest : EachIndex b.items.items (IsAtRest b solution)
  at_rest i l =
      let own : f i ≡ (from_left i b.rules.items mults -ℤ from_right i b.rules.items mults) +ℤ int_at lows i -ℤ int_at highs i =
      omega (arith, ints, comes_in i l, goes_out i l, met.brings i (omega (arith, l)), supply_item n f i l) in
      record {
        small = omega (arith, ints, comes_in i l, goes_out i l, touch_small i);
        balanced = rw (den_at i l, int_at-listed n p i l) own;
      }

  lengths_are : HasLengths b solution
  lengths_are = record {
    dens = length_of e n;
    places = length_of p n;
    mults = length_of m rules;
    lows = length_of (λ i. m (rules + i)) n;
    highs = length_of (λ i. m (rules + (n + i))) n;
  }

  shown : IsAccepted b solution
  shown = accepted b solution widest.low widest.high lengths_are mults_are limits_kept rules_kept at_rest

  pub solved : IsSolutionOf b solution
  solved = record { gap = widest; least = certified_least b solution ok shown.certified; accepted = shown }

-- least positions over any denominators lead to a solution
by_least : (b : Bundle) (gap : ℤ) (den : List ℕ) (place : List ℤ) → IsBundle b → IsWidestGap b gap → IsLeast b gap den place → (s : Solution) × IsSolutionOf b s
by_least b gap den place ok widest least =
    let n = length b.items.items in
    let d = product den in
    let X = over_product den place in
    let meets = over_product_meets b gap den place ok least.meets in
    let forces = force b.items.items d X in
    let balance : IsMet (suc n) (link_count b gap) (from b gap) (to b gap) (IsTight b gap d X) (supply n forces) =
    ⊎_elim (λ met. met) (λ cut. absurd (no_cut b gap ok d X meets (least_over b gap den place ok least) cut))
    (flow_or_cut (suc n) (link_count b gap) (from b gap) (to b gap) (IsTight b gap d X) (tight_or b gap d X) (λ j l. (ends_in b gap ok j l).0) (λ j l. (ends_in b gap ok j l).1) (supply n forces) (supply_even n forces)) in
    (solution b gap ok widest d meets.positive X meets balance, solved b gap ok widest d meets.positive X meets balance)

pub some_solution : HaveSolutions
some_solution b ok =
    let room = widest_exists b ok in
    let least = least_exist b room.0 ok (record { low = room.1.low; widest = room.0; is_widest = room.1; not_above = omega (arith, ints) }) in
    by_least b room.0 least.0 least.1 ok room.1 least.2
