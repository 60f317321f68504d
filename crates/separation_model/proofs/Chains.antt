-- Rules that follow from chains of others are met where those are.
use Rattle.std.proofs.Common.{◌≡◌, ℕ, zero, suc, ◌+◌, ◌<◌, ◌≤◌, ◌⊎◌, ℤ, pos, ◌+ℤ◌, ◌-ℤ◌, ◌*ℤ◌, ◌≤ℤ◌, Bool, true, false, cond, List, [], ◌∷◌, length, replicate, ap, sym, subst, refl, ◌∙◌, ⊎_elim, arith}
use Rattle.std.specs.Prelude.{◌↔◌, slice_index, slice_index_or, All, Contains, EachIndex}
use Rattle.std.proofs.lemmas.Int.{ints}
use Rattle.std.proofs.lemmas.List.Elements.{All-get_or, All-contains, All-from_get_or, Contains-get_or}
use Rattle.separation_model.specs.declared.bundle.Rule.{Rule}
use Rattle.separation_model.specs.declared.bundle.Bundle.{Bundle}
use Rattle.separation_model.specs.declared.bundle.Item.{Item}
use Rattle.separation_model.specs.Apart.{fraction_slack}
use Rattle.separation_model.specs.Bundle.{IsBundle, IsRule, IsWithinLimits, MeetsBundle, int_at, item_at, no_rule, rule_at, slack}
use Rattle.separation_model.specs.Sum.{product}
use Rattle.separation_model.specs.Gap.{IsWidestGap}
use Rattle.separation_model.specs.Least.{IsLeast, square, squared_displacement, over_product}
use Rattle.separation_model.proofs.Arithmetic.Ring.{ring, var, ◌⊕◌, ◌⊗◌, ◌⊖◌}
use Rattle.separation_model.proofs.Arithmetic.Order.{mul-nonneg, cancel_nonneg}
use Rattle.separation_model.specs.Chains.{Leads, one, weaker, first, last, IsReduced, IsReducedBundle, HaveMiddles, HasMiddle}

-- two distances in a row: the middle denominator is cancelled
pub slack_onward : (p q r : ℤ) (d e f : ℕ) (a c : ℤ) → 0 < e → pos 0 ≤ℤ fraction_slack p d q e a → pos 0 ≤ℤ fraction_slack q e r f c →
    pos 0 ≤ℤ fraction_slack p d r f (a +ℤ c)
slack_onward p q r d e f a c some h k =
    let one = (q *ℤ pos d) -ℤ (p *ℤ pos e) -ℤ (a *ℤ pos d *ℤ pos e) in
    let two = (r *ℤ pos e) -ℤ (q *ℤ pos f) -ℤ (c *ℤ pos e *ℤ pos f) in
    let all = (r *ℤ pos d) -ℤ (p *ℤ pos f) -ℤ ((a +ℤ c) *ℤ pos d *ℤ pos f) in
    let g : pos e *ℤ all ≡ (pos f *ℤ one) +ℤ (pos d *ℤ two) =
    ring (p ∷ q ∷ r ∷ pos d ∷ pos e ∷ pos f ∷ a ∷ c ∷ [])
    (var 4 ⊗ (((var 2 ⊗ var 3) ⊖ (var 0 ⊗ var 5)) ⊖ ((var 6 ⊕ var 7) ⊗ var 3 ⊗ var 5)))
    ((var 5 ⊗ (((var 1 ⊗ var 3) ⊖ (var 0 ⊗ var 4)) ⊖ (var 6 ⊗ var 3 ⊗ var 4))) ⊕ (var 3 ⊗ (((var 2 ⊗ var 4) ⊖ (var 1 ⊗ var 5)) ⊖ (var 7 ⊗ var 4 ⊗ var 5)))) refl in
    cancel_nonneg e all some (omega (arith, ints, g, mul-nonneg (pos f) one (omega (arith, ints)) h, mul-nonneg (pos d) two (omega (arith, ints)) k))

-- less is asked
pub slack_weaker : (p q : ℤ) (d e : ℕ) (a c : ℤ) → c ≤ℤ a → pos 0 ≤ℤ fraction_slack p d q e a → pos 0 ≤ℤ fraction_slack p d q e c
slack_weaker p q d e a c h k =
    let g : (a -ℤ c) *ℤ (pos d *ℤ pos e) ≡ (a *ℤ pos d *ℤ pos e) -ℤ (c *ℤ pos d *ℤ pos e) =
    ring (a ∷ c ∷ pos d ∷ pos e ∷ []) ((var 0 ⊖ var 1) ⊗ (var 2 ⊗ var 3)) ((var 0 ⊗ var 2 ⊗ var 3) ⊖ (var 1 ⊗ var 2 ⊗ var 3)) refl in
    omega (arith, ints, k, g, mul-nonneg (a -ℤ c) (pos d *ℤ pos e) (omega (arith, ints, h)) (mul-nonneg (pos d) (pos e) (omega (arith, ints)) (omega (arith, ints))))

-- what a chain asks of its ends
abbrev ask : ℤ → Bool → ℤ
ask gap s = cond s gap (pos 0)

-- the places keep a distance along each rule, so along each chain
record Keeps (gap : ℤ) (den : List ℕ) (nums : List ℤ) (rules : List Rule) : Type 0 where
  gap_low : pos 0 ≤ℤ gap
  right : (k : ℕ) → k < length rules → 0 < slice_index den (rule_at rules k).right
  met : (k : ℕ) → k < length rules → pos 0 ≤ℤ slack gap den nums (rule_at rules k)

ends_positive : (gap : ℤ) (den : List ℕ) (nums : List ℤ) (rules : List Rule) → Keeps gap den nums rules → (i j : ℕ) (s : Bool) → Leads rules i j s → 0 < slice_index den j
ends_positive gap den nums rules h i j s (one k l) = h.right k l
ends_positive gap den nums rules h i j s (weaker a b p) = ends_positive gap den nums rules h i j true p
ends_positive gap den nums rules h i j s (first a k b t p q) = ends_positive gap den nums rules h k j false q
ends_positive gap den nums rules h i j s (last a k b t p q) = ends_positive gap den nums rules h k j s q

led_slack : (gap : ℤ) (den : List ℕ) (nums : List ℤ) (rules : List Rule) → Keeps gap den nums rules → (i j : ℕ) (s : Bool) → Leads rules i j s →
    pos 0 ≤ℤ fraction_slack (int_at nums i) (slice_index den i) (int_at nums j) (slice_index den j) (ask gap s)
led_slack gap den nums rules h i j s (one k l) = h.met k l
led_slack gap den nums rules h i j s (weaker a b p) =
    slack_weaker (int_at nums i) (int_at nums j) (slice_index den i) (slice_index den j) gap (pos 0) h.gap_low (led_slack gap den nums rules h i j true p)
led_slack gap den nums rules h i j s (first a k b t p q) =
    let sum = slack_onward (int_at nums i) (int_at nums k) (int_at nums j) (slice_index den i) (slice_index den k) (slice_index den j) (ask gap s) (pos 0)
    (ends_positive gap den nums rules h i k s p) (led_slack gap den nums rules h i k s p) (led_slack gap den nums rules h k j false q) in
    slack_weaker (int_at nums i) (int_at nums j) (slice_index den i) (slice_index den j) (ask gap s +ℤ pos 0) (ask gap s) (omega (arith, ints)) sum
led_slack gap den nums rules h i j s (last a k b t p q) =
    let sum = slack_onward (int_at nums i) (int_at nums k) (int_at nums j) (slice_index den i) (slice_index den k) (slice_index den j) (pos 0) (ask gap s)
    (ends_positive gap den nums rules h i k false p) (led_slack gap den nums rules h i k false p) (led_slack gap den nums rules h k j s q) in
    slack_weaker (int_at nums i) (int_at nums j) (slice_index den i) (slice_index den j) (pos 0 +ℤ ask gap s) (ask gap s) (omega (arith, ints)) sum

contains_leads : (rules : List Rule) (r : Rule) → Contains rules r → Leads rules r.left r.right r.spaced
contains_leads rules r c =
    All-contains (λ q. Leads rules q.left q.right q.spaced) rules r (All-from_get_or (λ q. Leads rules q.left q.right q.spaced) rules no_rule (λ k l. one k l)) c

keeps : (b few : Bundle) (gap : ℤ) (den : List ℕ) (nums : List ℤ) → IsBundle b → IsReducedBundle b few → pos 0 ≤ℤ gap → MeetsBundle few gap den nums → Keeps gap den nums few.rules.items
keeps b few gap den nums ok red low m = record {
  gap_low = low;
  right = λ k l.
      let is = All-contains (IsRule b.items.items) b.rules.items (rule_at few.rules.items k) ok.rules (red.rules.kept k no_rule l) in
      All-get_or (λ d. 0 < d) den (rule_at few.rules.items k).right 0 (omega (arith, is.within, m.dens, ap length red.items)) m.positive;
  met = λ k l. m.rules k no_rule l;
}

pub few_meet : (b few : Bundle) (gap : ℤ) (den : List ℕ) (nums : List ℤ) → IsBundle b → IsReducedBundle b few → pos 0 ≤ℤ gap → MeetsBundle few gap den nums → MeetsBundle b gap den nums
few_meet b few gap den nums ok red low m = record {
  dens = m.dens ∙ ap length red.items;
  places = m.places ∙ ap length red.items;
  positive = m.positive;
  limits = subst (λ xs. EachIndex xs (λ i. IsWithinLimits (item_at xs i) (slice_index den i) (int_at nums i))) red.items m.limits;
  rules = λ k d l. let r = slice_index_or b.rules.items k d in
      led_slack gap den nums few.rules.items (keeps b few gap den nums ok red low m) r.left r.right r.spaced (red.rules.led k d l);
}

pub all_meet : (b few : Bundle) (gap : ℤ) (den : List ℕ) (nums : List ℤ) → IsReducedBundle b few → MeetsBundle b gap den nums → MeetsBundle few gap den nums
all_meet b few gap den nums red m = record {
  dens = m.dens ∙ sym (ap length red.items);
  places = m.places ∙ sym (ap length red.items);
  positive = m.positive;
  limits = subst (λ xs. EachIndex xs (λ i. IsWithinLimits (item_at xs i) (slice_index den i) (int_at nums i))) (sym red.items) m.limits;
  rules = λ k d l. All-contains (λ r. pos 0 ≤ℤ slack gap den nums r) b.rules.items (slice_index_or few.rules.items k d) m.rules (red.rules.kept k d l);
}

pub one_set : (b few : Bundle) (gap : ℤ) (den : List ℕ) (nums : List ℤ) → IsBundle b → IsReducedBundle b few → pos 0 ≤ℤ gap → MeetsBundle few gap den nums ↔ MeetsBundle b gap den nums
one_set b few gap den nums ok red low = (few_meet b few gap den nums ok red low, all_meet b few gap den nums red)

pub one_widest_gap : (b few : Bundle) (gap : ℤ) → IsBundle b → IsReducedBundle b few → IsWidestGap few gap → IsWidestGap b gap
one_widest_gap b few gap ok red w = record {
  low = w.low;
  high = subst (λ z. gap ≤ℤ z) red.wanted w.high;
  positions = record {
    places = w.positions.places;
    meets = subst (λ xs. MeetsBundle b gap (replicate (length xs) 1) w.positions.places) red.items
        (few_meet b few gap (replicate (length few.items.items) 1) w.positions.places ok red w.low w.positions.meets);
  };
  widest = λ wider den nums more within m. w.widest wider den nums more (subst (λ z. wider ≤ℤ z) (sym red.wanted) within) (all_meet b few wider den nums red m);
}

pub one_least : (b few : Bundle) (gap : ℤ) (den : List ℕ) (nums : List ℤ) → IsBundle b → IsReducedBundle b few → pos 0 ≤ℤ gap → IsLeast few gap den nums → IsLeast b gap den nums
one_least b few gap den nums ok red low is = record {
  meets = few_meet b few gap den nums ok red low is.meets;
  least = λ q other some m. subst (λ xs. (square (pos q) *ℤ squared_displacement xs (product den) (over_product den nums)) ≤ℤ (square (pos (product den)) *ℤ squared_displacement xs q (int_at other))) red.items
      (is.least q other some (subst (λ xs. MeetsBundle few gap (replicate (length xs) q) other) (sym red.items) (all_meet b few gap (replicate (length b.items.items) q) other red m)));
}

-- by the number of items between the ends
led_within : (items : List Item) (all few : List Rule) → All (IsRule items) all → HaveMiddles all few → (n : ℕ) (r : Rule) → r.right ≤ r.left + n → Contains all r → Leads few r.left r.right r.spaced
led_within items all few ok h zero r near c = let is = All-contains (IsRule items) all r ok c in absurd (omega (arith, is.forward, near))
led_within items all few ok h (suc n) r near c =
    ⊎_elim
    (λ own. contains_leads few r own)
    (λ mid.
    let a : Rule = record { left = r.left; right = mid.middle; spaced = true } in
    let b : Rule = record { left = mid.middle; right = r.right; spaced = true } in
    let before = All-contains (IsRule items) all a ok mid.left in
    let after = All-contains (IsRule items) all b ok mid.right in
    let p : Leads few r.left mid.middle true = led_within items all few ok h n a (omega (arith, near, after.forward)) mid.left in
    let q : Leads few mid.middle r.right true = led_within items all few ok h n b (omega (arith, near, before.forward)) mid.right in
    let s : Leads few r.left r.right true = first r.left mid.middle r.right true p (weaker mid.middle r.right q) in
    elim r.spaced as (λ t. Leads few r.left r.right t) [ true ↦ s | false ↦ weaker r.left r.right s ])
    (All-contains (λ x. Contains few x ⊎ HasMiddle all x) all r h.each c)

pub middles_reduce : (items : List Item) (all few : List Rule) → All (IsRule items) all → HaveMiddles all few → IsReduced all few
middles_reduce items all few ok h = record {
  kept = h.kept;
  led = All-from_get_or (λ r. Leads few r.left r.right r.spaced) all no_rule (λ k l. let r = rule_at all k in
      led_within items all few ok h r.right r (omega arith) (Contains-get_or all k no_rule l));
}
