-- The end: places and flow of a balanced network as a certified solution.
use Rattle.std.proofs.Common.{◌≡◌, ◌≢◌, ℕ, ◌+◌, ◌^◌, ◌<◌, ◌≤◌, ℤ, pos, neg_ℤ, ◌+ℤ◌, ◌-ℤ◌, ◌*ℤ◌, ◌≤ℤ◌, unsigned_abs, List, [], ◌∷◌, ◌++◌, length, get_or, map, take, drop, slice_index, false, if◌then◌else◌, All, arith, refl, ap, sym, subst, ◌∙◌, length-append, lit<}
use Rattle.std.proofs.lemmas.Int.{ints}
use Rattle.std.proofs.lemmas.List.{append_assoc, get_or-append_right, get_or_append_left, get_or-map, get_or-take, length-drop, length-map, length-take-le, take-append-drop}
use Rattle.std.proofs.lemmas.List.Elements.{All-from_get_or, All-get_or, All-map, All-weaker}
use Rattle.separation_model.specs.declared.bundle.Item.{Item}
use Rattle.separation_model.specs.declared.bundle.Bundle.{Bundle}
use Rattle.separation_model.specs.declared.bundle.Solution.{Solution}
use Rattle.separation_solve.specs.declared.fraction.Fraction.{Fraction}
use Rattle.separation_solve.specs.declared.network.Link.{Link}
use Rattle.separation_solve.specs.declared.network.Network.{Network}
use Rattle.separation_model.specs.Bundle.{IsBundle, asked, int_at, item_at, rule_at, no_item, no_rule}
use Rattle.separation_model.specs.Checked.{IsMultiplier, KeepsLimitsAt, KeepsRule, KeepsRuleAt}
use Rattle.separation_model.specs.Certified.{IsAccepted, IsBalanced, IsSmall, all_multipliers, from_left, from_right}
use Rattle.separation_model.specs.Gap.{IsGap}
use Rattle.separation_model.specs.Sum.{sum_at}
use Rattle.separation_solve.specs.Network.{IsKept, IsLink, IsNetworkOf, IsSound, IsSpot, IsTight, force, items_of, link_at, links_of, most_force, place_at, rule_link, total_size, turned_link, no_place}
use Rattle.separation_model.proofs.Verifying.Accepted.{accepted}
use Rattle.separation_solve.proofs.Networks.Frames.{are_links, item_count, length-lower_end, length-rule_part, length-links_of, lower_at_link, lower_part, rule_at_link, rule_count, rule_part, upper_at_link, upper_part}
use Rattle.separation_solve.proofs.Searches.Leads.{total_size_sign}
use Rattle.separation_solve.proofs.Networks.LinkLists.{lower_is, lower_link, numbered, upper_is, upper_link}
use Rattle.separation_solve.proofs.Lists.PartSums.{both_ends, sum_at-append, sum_at-map, sum_at-numbered, sum_at-numbered_none}
use Rattle.separation_model.proofs.Arithmetic.Order.{mul-nonneg}
use Rattle.separation_model.proofs.Arithmetic.Ring.{ring, var, num, minus, ◌⊗◌, ◌⊖◌}
use Rattle.separation_solve.proofs.Blocks.Shifted.{wall_is}
use Rattle.separation_solve.proofs.LightFractions.Spots.{spot_at, spot_num}

-- the solution has the places and, in three parts, the flow of a balanced network of the bundle
pub record IsEnding (b : Bundle) (gap : ℤ) (n : Network) (s : Solution) : Type 0 where
  pub bundle : IsBundle b
  pub is_gap : IsGap b gap
  pub sound : IsSound n
  pub balanced : All (λ z. z ≡ pos 0) n.excess.items
  pub links : n.links.items ≡ links_of b gap
  pub wants : n.wants.items ≡ map (λ (item : Item). item.want) b.items.items
  pub weights : n.weights.items ≡ map (λ (item : Item). item.weight) b.items.items
  pub same_gap : s.gap ≡ gap
  pub dens : s.den.items ≡ map (λ (p : Fraction). p.den) (take (item_count b) n.places.items)
  pub nums : s.pos.items ≡ map (λ (p : Fraction). p.num) (take (item_count b) n.places.items)
  pub flow : n.flow.items ≡ (s.mult.items ++ s.low.items) ++ s.high.items
  pub mults : length s.mult.items ≡ rule_count b
  pub lows : length s.low.items ≡ item_count b
  pub highs : length s.high.items ≡ item_count b

items_are : (b : Bundle) (gap : ℤ) (n : Network) (s : Solution) → IsEnding b gap n s → items_of n ≡ item_count b
items_are b gap n s end = ap length end.wants ∙ length-map b.items.items (λ (item : Item). item.want)

-- an item's parts
pub record IsItemEnd (b : Bundle) (n : Network) (s : Solution) (i : ℕ) : Type 0 where
  pub den : slice_index s.den.items i ≡ (place_at n.places.items i).den
  pub num : int_at s.pos.items i ≡ (place_at n.places.items i).num
  pub want : int_at n.wants.items i ≡ (item_at b.items.items i).want
  pub weight : slice_index n.weights.items i ≡ (item_at b.items.items i).weight
  pub spot : IsSpot (place_at n.places.items i)

taken : (b : Bundle) (gap : ℤ) (n : Network) (s : Solution) → IsEnding b gap n s → length (take (item_count b) n.places.items) ≡ item_count b
taken b gap n s end = length-take-le (item_count b) n.places.items (omega (arith, end.sound.frame.places, items_are b gap n s end))

item_end : (b : Bundle) (gap : ℤ) (n : Network) (s : Solution) (i : ℕ) → IsEnding b gap n s → i < item_count b → IsItemEnd b n s i
item_end b gap n s i end h =
    let few = take (item_count b) n.places.items in
    let inside : i < length few = omega (arith, taken b gap n s end) in
    let at : get_or few i no_place ≡ place_at n.places.items i = get_or-take (item_count b) n.places.items i no_place h in
    record {
      den = ap (λ l. get_or l i 0) end.dens ∙ get_or-map (λ (p : Fraction). p.den) few i no_place 0 inside ∙ ap (λ (p : Fraction). p.den) at;
      num = ap (λ l. int_at l i) end.nums ∙ get_or-map (λ (p : Fraction). p.num) few i no_place (pos 0) inside ∙ ap (λ (p : Fraction). p.num) at;
      want = ap (λ l. int_at l i) end.wants ∙ get_or-map (λ (item : Item). item.want) b.items.items i no_item (pos 0) h;
      weight = ap (λ l. get_or l i 0) end.weights ∙ get_or-map (λ (item : Item). item.weight) b.items.items i no_item 0 h;
      spot = spot_at n i end.sound.frame end.sound.kept (omega (arith, items_are b gap n s end));
    }

flow_count : (b : Bundle) (gap : ℤ) (n : Network) (s : Solution) → IsEnding b gap n s → length n.flow.items ≡ rule_count b + item_count b + item_count b
flow_count b gap n s end = end.sound.frame.flow ∙ ap length end.links ∙ length-links_of b gap

-- the flow's parts
mult_is : (b : Bundle) (gap : ℤ) (n : Network) (s : Solution) (j : ℕ) → IsEnding b gap n s → j < rule_count b → int_at n.flow.items j ≡ int_at s.mult.items j
mult_is b gap n s j end h =
    ap (λ l. int_at l j) end.flow
    ∙ get_or_append_left (s.mult.items ++ s.low.items) s.high.items (pos 0) j (omega (arith, length-append s.mult.items s.low.items, end.mults))
    ∙ get_or_append_left s.mult.items s.low.items (pos 0) j (omega (arith, end.mults))

low_is : (b : Bundle) (gap : ℤ) (n : Network) (s : Solution) (i : ℕ) → IsEnding b gap n s → i < item_count b → int_at n.flow.items (rule_count b + i) ≡ int_at s.low.items i
low_is b gap n s i end h =
    ap (λ l. int_at l (rule_count b + i)) end.flow
    ∙ get_or_append_left (s.mult.items ++ s.low.items) s.high.items (pos 0) (rule_count b + i) (omega (arith, length-append s.mult.items s.low.items, end.mults, end.lows))
    ∙ get_or-append_right s.mult.items s.low.items (rule_count b) (rule_count b + i) (pos 0) end.mults (omega arith)
    ∙ ap (int_at s.low.items) (omega arith)

high_is : (b : Bundle) (gap : ℤ) (n : Network) (s : Solution) (i : ℕ) → IsEnding b gap n s → i < item_count b → int_at n.flow.items (rule_count b + item_count b + i) ≡ int_at s.high.items i
high_is b gap n s i end h =
    let m = rule_count b + item_count b in
    ap (λ l. int_at l (m + i)) end.flow
    ∙ get_or-append_right (s.mult.items ++ s.low.items) s.high.items m (m + i) (pos 0) (omega (arith, length-append s.mult.items s.low.items, end.mults, end.lows)) (omega arith)
    ∙ ap (int_at s.high.items) (omega arith)

-- a link of the bundle is kept, and tight where it has flow
kept_at : (b : Bundle) (gap : ℤ) (n : Network) (s : Solution) (j : ℕ) (link : Link) → IsEnding b gap n s → j < rule_count b + item_count b + item_count b → link_at (links_of b gap) j ≡ link → IsKept n.places.items link
kept_at b gap n s j link end h e =
    subst (IsKept n.places.items) (ap (λ l. link_at l j) end.links ∙ e)
    (end.sound.kept.kept j (omega (arith, flow_count b gap n s end, end.sound.frame.flow)))

tight_at : (b : Bundle) (gap : ℤ) (n : Network) (s : Solution) (j : ℕ) (link : Link) (z : ℤ) → IsEnding b gap n s → j < rule_count b + item_count b + item_count b → link_at (links_of b gap) j ≡ link →
    int_at n.flow.items j ≡ z → z ≢ pos 0 → IsTight n.places.items link
tight_at b gap n s j link z end h e f some =
    subst (IsTight n.places.items) (ap (λ l. link_at l j) end.links ∙ e)
    (end.sound.flow.tight j (omega (arith, flow_count b gap n s end)) (λ q. some (sym f ∙ q)))

-- the flow is not negative, and small
flow_sign : (b : Bundle) (gap : ℤ) (n : Network) (s : Solution) (j : ℕ) (z : ℤ) → IsEnding b gap n s → j < rule_count b + item_count b + item_count b → int_at n.flow.items j ≡ z → pos 0 ≤ℤ z
flow_sign b gap n s j z end h e = omega (arith, ints, e, end.sound.flow.sign j (omega (arith, flow_count b gap n s end)))

flow_small : (b : Bundle) (gap : ℤ) (n : Network) (s : Solution) (j : ℕ) (z : ℤ) → IsEnding b gap n s → j < rule_count b + item_count b + item_count b → int_at n.flow.items j ≡ z → IsSmall z
flow_small b gap n s j z end h e =
    let inside : j < length n.flow.items = omega (arith, flow_count b gap n s end) in
    let most : unsigned_abs z ≤ 92480000000000000000000000000 =
    omega (arith, ints, e, end.sound.flow.sign j inside, end.sound.flow.small_each j inside, total_size_sign n.excess.items) in
    omega (arith, most, lit< {m = 92480000000000000000000000000} {n = 2 ^ 100} tt)

-- a sum over all links, by their parts
parts_sum : (b : Bundle) (gap : ℤ) (n : Network) (s : Solution) (ends : Link → ℕ) (i : ℕ) → IsEnding b gap n s →
    sum_at ends i n.links.items n.flow.items ≡ sum_at ends i (rule_part b gap) s.mult.items +ℤ sum_at ends i (lower_part b) s.low.items +ℤ sum_at ends i (upper_part b) s.high.items
parts_sum b gap n s ends i end =
    let first : length (rule_part b gap) ≡ length s.mult.items = omega (arith, length-rule_part b gap, end.mults) in
    let second : length (rule_part b gap ++ lower_part b) ≡ length (s.mult.items ++ s.low.items) =
    omega (arith, length-lower_end b gap, length-append s.mult.items s.low.items, end.mults, end.lows) in
    ap (λ l. sum_at ends i l n.flow.items) end.links
    ∙ ap (λ l. sum_at ends i (links_of b gap) l) end.flow
    ∙ sum_at-append ends i (rule_part b gap ++ lower_part b) (upper_part b) (s.mult.items ++ s.low.items) s.high.items second
    ∙ ap (λ z. z +ℤ sum_at ends i (upper_part b) s.high.items) (sum_at-append ends i (rule_part b gap) (lower_part b) s.mult.items s.low.items first)

own_number : (i : ℕ) → 0 + i ≡ i
own_number i = omega arith

-- the flow into an item
comes_in : (b : Bundle) (gap : ℤ) (n : Network) (s : Solution) (i : ℕ) → IsEnding b gap n s → i < item_count b →
    sum_at (λ l. l.to) i n.links.items n.flow.items ≡ from_left i b.rules.items s.mult.items +ℤ int_at s.low.items i
comes_in b gap n s i end h =
    let to = λ (l : Link). l.to in
    let wall = item_count b in
    let rules : sum_at to i (rule_part b gap) s.mult.items ≡ from_left i b.rules.items s.mult.items = sum_at-map to (rule_link gap) i b.rules.items s.mult.items in
    let lowers : sum_at to i (lower_part b) s.low.items ≡ int_at s.low.items i =
    ap (λ l. sum_at to i l s.low.items) (lower_is wall 0 b.items.items)
    ∙ ap (λ k. sum_at to k (numbered (lower_link wall) 0 b.items.items) s.low.items) (sym (own_number i))
    ∙ sum_at-numbered to (lower_link wall) 0 i b.items.items s.low.items (λ j x. refl) (omega (arith, end.lows)) h in
    let uppers : sum_at to i (upper_part b) s.high.items ≡ pos 0 =
    ap (λ l. sum_at to i l s.high.items) (upper_is wall 0 b.items.items)
    ∙ sum_at-numbered_none to (upper_link wall) i 0 b.items.items s.high.items (λ j x from below e. omega (arith, e)) in
    omega (arith, ints, parts_sum b gap n s to i end, rules, lowers, uppers)

-- the flow that goes out
goes_out : (b : Bundle) (gap : ℤ) (n : Network) (s : Solution) (i : ℕ) → IsEnding b gap n s → i < item_count b →
    sum_at (λ l. l.from) i n.links.items n.flow.items ≡ from_right i b.rules.items s.mult.items +ℤ int_at s.high.items i
goes_out b gap n s i end h =
    let from = λ (l : Link). l.from in
    let wall = item_count b in
    let rules : sum_at from i (rule_part b gap) s.mult.items ≡ from_right i b.rules.items s.mult.items = sum_at-map from (rule_link gap) i b.rules.items s.mult.items in
    let lowers : sum_at from i (lower_part b) s.low.items ≡ pos 0 =
    ap (λ l. sum_at from i l s.low.items) (lower_is wall 0 b.items.items)
    ∙ sum_at-numbered_none from (lower_link wall) i 0 b.items.items s.low.items (λ j x at below e. omega (arith, e)) in
    let uppers : sum_at from i (upper_part b) s.high.items ≡ int_at s.high.items i =
    ap (λ l. sum_at from i l s.high.items) (upper_is wall 0 b.items.items)
    ∙ ap (λ k. sum_at from k (numbered (upper_link wall) 0 b.items.items) s.high.items) (sym (own_number i))
    ∙ sum_at-numbered from (upper_link wall) 0 i b.items.items s.high.items (λ j x. refl) (omega (arith, end.highs)) h in
    omega (arith, ints, parts_sum b gap n s from i end, rules, lowers, uppers)

-- a force, by its parts
force_is : (n : Network) (i : ℕ) (place want : ℤ) (den weight : ℕ) → den ≡ (place_at n.places.items i).den → place ≡ (place_at n.places.items i).num → int_at n.wants.items i ≡ want →
    slice_index n.weights.items i ≡ weight → pos 2 *ℤ pos weight *ℤ (place -ℤ (pos den *ℤ want)) ≡ force n i
force_is n i place want den weight d p w m =
    ap (λ (k : ℕ). pos 2 *ℤ pos k *ℤ (place -ℤ (pos den *ℤ want))) (sym m)
    ∙ ap (λ z. pos 2 *ℤ pos (slice_index n.weights.items i) *ℤ (place -ℤ (pos den *ℤ z))) (sym w)
    ∙ ap (λ z. pos 2 *ℤ pos (slice_index n.weights.items i) *ℤ (z -ℤ (pos den *ℤ int_at n.wants.items i))) p
    ∙ ap (λ (k : ℕ). pos 2 *ℤ pos (slice_index n.weights.items i) *ℤ ((place_at n.places.items i).num -ℤ (pos k *ℤ int_at n.wants.items i))) d

is_balanced : (b : Bundle) (gap : ℤ) (n : Network) (s : Solution) (i : ℕ) → IsEnding b gap n s → i < item_count b → IsBalanced b s i
is_balanced b gap n s i end h =
    let item = item_end b gap n s i end h in
    let inside : i < length n.excess.items = omega (arith, end.sound.frame.excess, items_are b gap n s end) in
    let none : int_at n.excess.items i ≡ pos 0 = All-get_or (λ z. z ≡ pos 0) n.excess.items i (pos 0) inside end.balanced in
    let is = force_is n i (int_at s.pos.items i) (item_at b.items.items i).want (slice_index s.den.items i) (item_at b.items.items i).weight item.den item.num item.want item.weight in
    omega (arith, ints, is, none, end.sound.flow.excess i inside, comes_in b gap n s i end h, goes_out b gap n s i end h)

-- the multipliers of an item are a part of the flow
small_sum : (b : Bundle) (gap : ℤ) (n : Network) (s : Solution) (i : ℕ) → IsEnding b gap n s → i < item_count b → all_multipliers b s i ≤ℤ pos (2 ^ 126)
small_sum b gap n s i end h =
    let apart = All-weaker (IsLink (item_count b + 1)) (λ l. l.from ≢ l.to) (λ l is. is.apart) (links_of b gap) (are_links b gap end.bundle end.is_gap) in
    let apart_here : All (λ (l : Link). l.from ≢ l.to) n.links.items = subst (All (λ (l : Link). l.from ≢ l.to)) (sym end.links) apart in
    let sign : All (λ z. pos 0 ≤ℤ z) n.flow.items = All-from_get_or (λ z. pos 0 ≤ℤ z) n.flow.items (pos 0) end.sound.flow.sign in
    let both = both_ends (λ (l : Link). l.to) (λ (l : Link). l.from) i n.links.items n.flow.items apart_here sign in
    let rest : pos 0 ≤ℤ (pos (items_of n) *ℤ total_size n.excess.items) = mul-nonneg (pos (items_of n)) (total_size n.excess.items) (omega (arith, ints)) (total_size_sign n.excess.items) in
    let few : (pos (items_of n) *ℤ pos most_force) ≤ℤ pos 78608000000000000000000000000000000000 = omega (arith, ints, end.sound.frame.few) in
    let most : pos 78608000000000000000000000000000000000 ≤ℤ pos (2 ^ 126) = omega (arith, ints, lit< {m = 78608000000000000000000000000000000000} {n = 2 ^ 126} tt) in
    omega (arith, ints, both, rest, few, most, end.sound.flow.small_all, comes_in b gap n s i end h, goes_out b gap n s i end h)

-- over a place of 0 in whole numbers
beside_wall_low : (lo p : ℤ) (den : ℕ) → (lo *ℤ pos 1 *ℤ pos den) ≤ℤ ((p *ℤ pos 1) -ℤ (pos 0 *ℤ pos den)) → (lo *ℤ pos den) ≤ℤ p
beside_wall_low lo p den h =
    omega (
      arith,
      ints,
      h,
      ring (lo ∷ pos den ∷ []) (var 0 ⊗ num (pos 1) ⊗ var 1) (var 0 ⊗ var 1) refl,
      ring (p ∷ pos den ∷ []) ((var 0 ⊗ num (pos 1)) ⊖ (num (pos 0) ⊗ var 1)) (var 0) refl,
    )

beside_wall_high : (hi p : ℤ) (den : ℕ) → (neg_ℤ hi *ℤ pos den *ℤ pos 1) ≤ℤ ((pos 0 *ℤ pos den) -ℤ (p *ℤ pos 1)) → p ≤ℤ (hi *ℤ pos den)
beside_wall_high hi p den h =
    omega (
      arith,
      ints,
      h,
      ring (hi ∷ pos den ∷ []) (minus (var 0) ⊗ var 1 ⊗ num (pos 1)) (minus (var 0 ⊗ var 1)) refl,
      ring (p ∷ pos den ∷ []) ((num (pos 0) ⊗ var 1) ⊖ (var 0 ⊗ num (pos 1))) (minus (var 0)) refl,
    )

-- the item's place
abbrev pub place_of : Solution → ℕ → Fraction
place_of s i = record { num = int_at s.pos.items i; den = slice_index s.den.items i }

stands : (b : Bundle) (gap : ℤ) (n : Network) (s : Solution) (i : ℕ) → IsEnding b gap n s → i < item_count b → place_at n.places.items i ≡ place_of s i
stands b gap n s i end h = let item = item_end b gap n s i end h in λ k. record { num = sym item.num k; den = sym item.den k }

wall_stands : (b : Bundle) (gap : ℤ) (n : Network) (s : Solution) → IsEnding b gap n s → place_at n.places.items (item_count b) ≡ no_place
wall_stands b gap n s end = subst (λ i. place_at n.places.items i ≡ no_place) (items_are b gap n s end) (wall_is n end.sound)

kept_between : (places : List Fraction) (link : Link) (p q : Fraction) → place_at places link.from ≡ p → place_at places link.to ≡ q → IsKept places link →
    (link.gap *ℤ pos p.den *ℤ pos q.den) ≤ℤ ((q.num *ℤ pos p.den) -ℤ (p.num *ℤ pos q.den))
kept_between places link p q e f kept =
    subst (λ (r : Fraction). (link.gap *ℤ pos p.den *ℤ pos r.den) ≤ℤ ((r.num *ℤ pos p.den) -ℤ (p.num *ℤ pos r.den))) f
    (subst (λ (r : Fraction). (link.gap *ℤ pos r.den *ℤ pos (place_at places link.to).den) ≤ℤ (((place_at places link.to).num *ℤ pos r.den) -ℤ (r.num *ℤ pos (place_at places link.to).den))) e kept)

tight_between : (places : List Fraction) (link : Link) (p q : Fraction) → place_at places link.from ≡ p → place_at places link.to ≡ q → IsTight places link →
    (p.den ≡ q.den) × (q.num -ℤ p.num ≡ link.gap *ℤ pos p.den)
tight_between places link p q e f tight = (
  sym (ap (λ (r : Fraction). r.den) e) ∙ tight.den ∙ ap (λ (r : Fraction). r.den) f,
  omega (arith, ints, tight.apart, ap (λ (r : Fraction). r.num) e, ap (λ (r : Fraction). r.num) f, ap (λ (r : Fraction). link.gap *ℤ pos r.den) e),
)

tight_slack : (p q a : ℤ) (d e : ℕ) → d ≡ e → q -ℤ p ≡ a *ℤ pos d → (q *ℤ pos d) -ℤ (p *ℤ pos e) -ℤ (a *ℤ pos d *ℤ pos e) ≡ pos 0
tight_slack p q a d e same apart =
    subst (λ (k : ℕ). (q *ℤ pos d) -ℤ (p *ℤ pos k) -ℤ (a *ℤ pos d *ℤ pos k) ≡ pos 0) same
    (omega (arith, ints, ap (λ z. z *ℤ pos d) apart, ring (q ∷ p ∷ pos d ∷ []) ((var 0 ⊖ var 1) ⊗ var 2) ((var 0 ⊗ var 2) ⊖ (var 1 ⊗ var 2)) refl))

keeps_rule : (b : Bundle) (gap : ℤ) (n : Network) (s : Solution) (j : ℕ) → IsEnding b gap n s → j < rule_count b → KeepsRuleAt b s j
keeps_rule b gap n s j end h =
    let rule = rule_at b.rules.items j in
    let is = end.bundle.rules j no_rule h in
    let left : rule.left < item_count b = omega (arith, is.forward, is.within) in
    let from = stands b gap n s rule.left end left in
    let to = stands b gap n s rule.right end is.within in
    let all : j < rule_count b + item_count b + item_count b = omega arith in
    let link = rule_at_link b gap j h in
    let kept = kept_between n.places.items (rule_link gap rule) (place_of s rule.left) (place_of s rule.right) from to (kept_at b gap n s j (rule_link gap rule) end all link) in
    let keeps : KeepsRule gap s.den.items s.pos.items rule (int_at s.mult.items j) = record {
      met = omega (arith, ints, kept);
      tight = λ some.
          let tight = tight_between n.places.items (rule_link gap rule) (place_of s rule.left) (place_of s rule.right) from to
          (tight_at b gap n s j (rule_link gap rule) (int_at s.mult.items j) end all link (mult_is b gap n s j end h) some) in
          (tight_slack (int_at s.pos.items rule.left) (int_at s.pos.items rule.right) (asked gap rule) (slice_index s.den.items rule.left) (slice_index s.den.items rule.right) tight.0 tight.1, tight.0);
    } in
    subst (λ g. KeepsRule g s.den.items s.pos.items rule (int_at s.mult.items j)) (sym end.same_gap) keeps

keeps_limits : (b : Bundle) (gap : ℤ) (n : Network) (s : Solution) (i : ℕ) → IsEnding b gap n s → i < item_count b → KeepsLimitsAt b s i
keeps_limits b gap n s i end h =
    let item = item_at b.items.items i in
    let is = item_end b gap n s i end h in
    let den = slice_index s.den.items i in
    let place = int_at s.pos.items i in
    let wall = wall_stands b gap n s end in
    let here = stands b gap n s i end h in
    let low = lower_link (item_count b) i item in
    let high = upper_link (item_count b) i item in
    let low_at = lower_at_link b gap i h in
    let high_at = upper_at_link b gap i h in
    let low_in : rule_count b + i < rule_count b + item_count b + item_count b = omega arith in
    let high_in : rule_count b + item_count b + i < rule_count b + item_count b + item_count b = omega arith in
    let low_kept = kept_between n.places.items low no_place (place_of s i) wall here (kept_at b gap n s (rule_count b + i) low end low_in low_at) in
    let high_kept = kept_between n.places.items high (place_of s i) no_place here wall (kept_at b gap n s (rule_count b + item_count b + i) high end high_in high_at) in
    record {
      positive = subst (λ k. 0 < k) (sym is.den) is.spot.reduced.positive;
      within = record { low = beside_wall_low item.lo place den low_kept; high = beside_wall_high item.hi place den high_kept };
      small = omega (arith, ap unsigned_abs is.num, spot_num (place_at n.places.items i) is.spot, lit< {m = 6800000000000000000} {n = 2 ^ 100} tt);
      tight = record {
        at_low = λ some.
            let tight = tight_between n.places.items low no_place (place_of s i) wall here
            (tight_at b gap n s (rule_count b + i) low (int_at s.low.items i) end low_in low_at (low_is b gap n s i end h) some) in
            omega (arith, ints, tight.1, ap (λ (k : ℕ). item.lo *ℤ pos k) tight.0);
        at_high = λ some.
            let tight = tight_between n.places.items high (place_of s i) no_place here wall
            (tight_at b gap n s (rule_count b + item_count b + i) high (int_at s.high.items i) end high_in high_at (high_is b gap n s i end h) some) in
            omega (arith, ints, tight.1, ring (item.hi ∷ pos den ∷ []) (minus (var 0) ⊗ var 1) (minus (var 0 ⊗ var 1)) refl);
      };
    }

multiplier : (b : Bundle) (gap : ℤ) (n : Network) (s : Solution) (j : ℕ) (z : ℤ) → IsEnding b gap n s → j < rule_count b + item_count b + item_count b → int_at n.flow.items j ≡ z → IsMultiplier z
multiplier b gap n s j z end h e =
    let sign = flow_sign b gap n s j z end h e in
    record { sign = sign; small = omega (arith, ints, sign, flow_small b gap n s j z end h e) }

pub ending_accepted : (b : Bundle) (gap : ℤ) (n : Network) (s : Solution) → IsEnding b gap n s → IsAccepted b s
ending_accepted b gap n s end =
    let long = taken b gap n s end in
    let few = take (item_count b) n.places.items in
    accepted b s (omega (arith, ints, end.same_gap, end.is_gap.low))
    (omega (arith, ints, end.same_gap, end.is_gap.not_above, end.is_gap.is_widest.high))
    (record {
      dens = ap length end.dens ∙ length-map few (λ (p : Fraction). p.den) ∙ long;
      places = ap length end.nums ∙ length-map few (λ (p : Fraction). p.num) ∙ long;
      mults = end.mults;
      lows = end.lows;
      highs = end.highs;
    })
    (record {
      mults = All-from_get_or IsMultiplier s.mult.items (pos 0) (λ j h. let inside : j < rule_count b = omega (arith, h, end.mults) in
          multiplier b gap n s j (int_at s.mult.items j) end (omega arith) (mult_is b gap n s j end inside));
      lows = All-from_get_or IsMultiplier s.low.items (pos 0) (λ i h. let inside : i < item_count b = omega (arith, h, end.lows) in
          multiplier b gap n s (rule_count b + i) (int_at s.low.items i) end (omega arith) (low_is b gap n s i end inside));
      highs = All-from_get_or IsMultiplier s.high.items (pos 0) (λ i h. let inside : i < item_count b = omega (arith, h, end.highs) in
          multiplier b gap n s (rule_count b + item_count b + i) (int_at s.high.items i) end (omega arith) (high_is b gap n s i end inside));
    })
    (λ i h. keeps_limits b gap n s i end h)
    (λ j h. keeps_rule b gap n s j end h)
    (λ i h. record { small = small_sum b gap n s i end h; balanced = is_balanced b gap n s i end h })

-- the links of a network that is not mirrored
upright_is : (b : Bundle) (gap : ℤ) (n : Network) → n.mirrored ≡ false → IsNetworkOf b gap n → n.links.items ≡ links_of b gap
upright_is b gap n upright of = sym (ap (λ m. if m then map turned_link n.links.items else n.links.items) upright) ∙ of.links

wants_are : (b : Bundle) (gap : ℤ) (n : Network) → n.mirrored ≡ false → IsNetworkOf b gap n → n.wants.items ≡ map (λ (item : Item). item.want) b.items.items
wants_are b gap n upright of = sym (ap (λ m. if m then map neg_ℤ n.wants.items else n.wants.items) upright) ∙ of.wants

pub flow_long : (b : Bundle) (gap : ℤ) (n : Network) → IsSound n → n.mirrored ≡ false → IsNetworkOf b gap n → length n.flow.items ≡ rule_count b + item_count b + item_count b
flow_long b gap n sound upright of = sound.frame.flow ∙ ap length (upright_is b gap n upright of) ∙ length-links_of b gap

-- a list in three parts
three_parts : (zs front rest low high : List ℤ) (m k : ℕ) → front ≡ take m zs → rest ≡ drop m zs → low ≡ take k rest → high ≡ drop k rest → zs ≡ (front ++ low) ++ high
three_parts zs front rest low high m k a b c d =
    sym (take-append-drop m zs) ∙ ap (λ l. l ++ drop m zs) (sym a) ∙ ap (λ l. front ++ l) (sym b)
    ∙ ap (λ l. front ++ l) (sym (take-append-drop k rest)) ∙ ap (λ l. front ++ (l ++ drop k rest)) (sym c) ∙ ap (λ l. front ++ (low ++ l)) (sym d)
    ∙ sym (append_assoc front low high)

-- what is read from a network of the bundle
pub record IsRead (b : Bundle) (n : Network) (s : Solution) : Type 0 where
  pub dens : s.den.items ≡ map (λ (p : Fraction). p.den) (take (item_count b) n.places.items)
  pub nums : s.pos.items ≡ map (λ (p : Fraction). p.num) (take (item_count b) n.places.items)
  pub rest : List ℤ
  pub rest_is : rest ≡ drop (rule_count b) n.flow.items
  pub mult : s.mult.items ≡ take (rule_count b) n.flow.items
  pub low : s.low.items ≡ take (item_count b) rest
  pub high : s.high.items ≡ drop (item_count b) rest

pub read_accepted : (b : Bundle) (gap : ℤ) (n : Network) (s : Solution) → IsBundle b → IsGap b gap → IsSound n → All (λ z. z ≡ pos 0) n.excess.items → n.mirrored ≡ false → IsNetworkOf b gap n →
    s.gap ≡ gap → IsRead b n s → IsAccepted b s
read_accepted b gap n s bundle is_gap sound balanced upright of same read =
    let long = flow_long b gap n sound upright of in
    let rest_long : length read.rest ≡ item_count b + item_count b = omega (arith, ap length read.rest_is, length-drop (rule_count b) n.flow.items, long) in
    ending_accepted b gap n s (record {
      bundle = bundle;
      is_gap = is_gap;
      sound = sound;
      balanced = balanced;
      links = upright_is b gap n upright of;
      wants = wants_are b gap n upright of;
      weights = of.weights;
      same_gap = same;
      dens = read.dens;
      nums = read.nums;
      flow = three_parts n.flow.items s.mult.items read.rest s.low.items s.high.items (rule_count b) (item_count b) read.mult read.rest_is read.low read.high;
      mults = ap length read.mult ∙ length-take-le (rule_count b) n.flow.items (omega (arith, long));
      lows = ap length read.low ∙ length-take-le (item_count b) read.rest (omega (arith, rest_long));
      highs = omega (arith, ap length read.high, length-drop (item_count b) read.rest, rest_long);
    })

-- what is balanced is balanced on either side
pub balanced-negated : (old new : List ℤ) → new ≡ map neg_ℤ old → All (λ z. z ≡ pos 0) old → All (λ z. z ≡ pos 0) new
balanced-negated old new e none = subst (All (λ z. z ≡ pos 0)) (sym e) (All-map (λ z. z ≡ pos 0) neg_ℤ old (All-weaker (λ z. z ≡ pos 0) (λ z. neg_ℤ z ≡ pos 0) (λ z q. ap neg_ℤ q) old none))
