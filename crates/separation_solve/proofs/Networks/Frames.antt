-- The links of a bundle as a network's.
use Rattle.std.proofs.Common.{◌≡◌, ℕ, ◌+◌, ◌-◌, ◌<◌, ◌≤◌, ℤ, pos, ◌≤ℤ◌, List, ◌++◌, length, get_or, map, All, ⊎_elim, arith, ap, sym, subst, ◌∙◌, length-append}
use Rattle.std.proofs.lemmas.Bool.{cases_lt}
use Rattle.std.proofs.lemmas.Int.{ints}
use Rattle.std.proofs.lemmas.List.{get_or-append_right, get_or_append_left, get_or-map, length-map}
use Rattle.std.proofs.lemmas.List.Elements.{All-from_get_or, All-get_or, All-map, All-weaker}
use Rattle.separation_model.specs.declared.bundle.Item.{Item}
use Rattle.separation_model.specs.declared.bundle.Bundle.{Bundle}
use Rattle.separation_solve.specs.declared.network.Link.{Link}
use Rattle.separation_solve.specs.declared.network.Network.{Network}
use Rattle.plane_geom.specs.Point.{IsCoordinate}
use Rattle.separation_model.specs.Bundle.{IsBundle, IsItem, item_at, rule_at, no_item, no_rule}
use Rattle.separation_model.specs.Gap.{IsGap}
use Rattle.separation_solve.specs.Network.{AreKept, IsFrame, IsKept, IsLimited, IsLink, items_of, link_at, links_of, lower_links, place_at, rule_link, upper_links, no_link}
use Rattle.separation_solve.specs.Start.{AreStartPlaces}
use Rattle.separation_model.proofs.Gaps.Bounds.{asked_within}
use Rattle.separation_model.proofs.Verifying.Conditions.{want_on_sheet}
use Rattle.separation_solve.proofs.Networks.Mirrored.{coordinate_turned}
use Rattle.separation_solve.proofs.Networks.LinkLists.{get_or-numbered, length-numbered, lower_is, lower_link, numbered, upper_is, upper_link}

-- the number of items, and of rules
abbrev pub item_count : Bundle → ℕ
item_count b = length b.items.items

abbrev pub rule_count : Bundle → ℕ
rule_count b = length b.rules.items

-- the first, the second and the third part of the links
abbrev pub rule_part : Bundle → ℤ → List Link
rule_part b gap = map (rule_link gap) b.rules.items

abbrev pub lower_part : Bundle → List Link
lower_part b = lower_links (item_count b) 0 b.items.items

abbrev pub upper_part : Bundle → List Link
upper_part b = upper_links (item_count b) 0 b.items.items

pub length-rule_part : (b : Bundle) (gap : ℤ) → length (rule_part b gap) ≡ rule_count b
length-rule_part b gap = length-map b.rules.items (rule_link gap)

pub length-lower_part : (b : Bundle) → length (lower_part b) ≡ item_count b
length-lower_part b = ap length (lower_is (item_count b) 0 b.items.items) ∙ length-numbered (lower_link (item_count b)) 0 b.items.items

pub length-upper_part : (b : Bundle) → length (upper_part b) ≡ item_count b
length-upper_part b = ap length (upper_is (item_count b) 0 b.items.items) ∙ length-numbered (upper_link (item_count b)) 0 b.items.items

pub length-lower_end : (b : Bundle) (gap : ℤ) → length (rule_part b gap ++ lower_part b) ≡ rule_count b + item_count b
length-lower_end b gap = omega (arith, length-append (rule_part b gap) (lower_part b), length-rule_part b gap, length-lower_part b)

pub length-links_of : (b : Bundle) (gap : ℤ) → length (links_of b gap) ≡ rule_count b + item_count b + item_count b
length-links_of b gap = omega (arith, length-append (rule_part b gap ++ lower_part b) (upper_part b), length-lower_end b gap, length-upper_part b)

pub rule_at_link : (b : Bundle) (gap : ℤ) (j : ℕ) → j < rule_count b → link_at (links_of b gap) j ≡ rule_link gap (rule_at b.rules.items j)
rule_at_link b gap j h =
    get_or_append_left (rule_part b gap ++ lower_part b) (upper_part b) no_link j (omega (arith, length-lower_end b gap))
    ∙ get_or_append_left (rule_part b gap) (lower_part b) no_link j (omega (arith, length-rule_part b gap))
    ∙ get_or-map (rule_link gap) b.rules.items j no_rule no_link h

pub lower_at_link : (b : Bundle) (gap : ℤ) (i : ℕ) → i < item_count b → link_at (links_of b gap) (rule_count b + i) ≡ lower_link (item_count b) i (item_at b.items.items i)
lower_at_link b gap i h =
    let e : (rule_count b + i) - rule_count b ≡ 0 + i = omega arith in
    get_or_append_left (rule_part b gap ++ lower_part b) (upper_part b) no_link (rule_count b + i) (omega (arith, length-lower_end b gap))
    ∙ get_or-append_right (rule_part b gap) (lower_part b) (rule_count b) (rule_count b + i) no_link (length-rule_part b gap) (omega arith)
    ∙ ap (λ l. get_or l ((rule_count b + i) - rule_count b) no_link) (lower_is (item_count b) 0 b.items.items)
    ∙ ap (λ k. get_or (numbered (lower_link (item_count b)) 0 b.items.items) k no_link) (omega arith)
    ∙ get_or-numbered (lower_link (item_count b)) 0 b.items.items i no_item no_link h
    ∙ ap (λ k. lower_link (item_count b) k (item_at b.items.items i)) (omega arith)

pub upper_at_link : (b : Bundle) (gap : ℤ) (i : ℕ) → i < item_count b → link_at (links_of b gap) (rule_count b + item_count b + i) ≡ upper_link (item_count b) i (item_at b.items.items i)
upper_at_link b gap i h =
    let m = rule_count b + item_count b in
    get_or-append_right (rule_part b gap ++ lower_part b) (upper_part b) m (m + i) no_link (length-lower_end b gap) (omega arith)
    ∙ ap (λ l. get_or l ((m + i) - m) no_link) (upper_is (item_count b) 0 b.items.items)
    ∙ ap (λ k. get_or (numbered (upper_link (item_count b)) 0 b.items.items) k no_link) (omega arith)
    ∙ get_or-numbered (upper_link (item_count b)) 0 b.items.items i no_item no_link h
    ∙ ap (λ k. upper_link (item_count b) k (item_at b.items.items i)) (omega arith)

-- each link is a rule, a lower limit or an upper one
pub by_part : (b : Bundle) (gap : ℤ) (P : Link → Type 0) → ((j : ℕ) → j < rule_count b → P (rule_link gap (rule_at b.rules.items j))) →
    ((i : ℕ) → i < item_count b → P (lower_link (item_count b) i (item_at b.items.items i))) → ((i : ℕ) → i < item_count b → P (upper_link (item_count b) i (item_at b.items.items i))) →
    All P (links_of b gap)
by_part b gap P rules lowers uppers =
    let m = rule_count b + item_count b in
    All-from_get_or P (links_of b gap) no_link (λ k h. ⊎_elim
    (λ (rule : k < rule_count b). subst P (sym (rule_at_link b gap k rule)) (rules k rule))
    (λ (limit : rule_count b ≤ k). ⊎_elim
    (λ (low : k < m).
    let i : k - rule_count b < item_count b = omega arith in
    let e : rule_count b + (k - rule_count b) ≡ k = omega arith in
    subst (λ j. P (link_at (links_of b gap) j)) e (subst P (sym (lower_at_link b gap (k - rule_count b) i)) (lowers (k - rule_count b) i)))
    (λ (high : m ≤ k).
    let i : k - m < item_count b = omega (arith, h, length-links_of b gap) in
    let e : m + (k - m) ≡ k = omega arith in
    subst (λ j. P (link_at (links_of b gap) j)) e (subst P (sym (upper_at_link b gap (k - m) i)) (uppers (k - m) i)))
    (cases_lt k m))
    (cases_lt k (rule_count b)))

pub gap_small : (b : Bundle) (gap : ℤ) → IsBundle b → IsGap b gap → gap ≤ℤ pos 1000000
gap_small b gap bundle is = omega (arith, ints, is.not_above, is.is_widest.high, bundle.wanted_high)

pub are_links : (b : Bundle) (gap : ℤ) → IsBundle b → IsGap b gap → All (IsLink (item_count b + 1)) (links_of b gap)
are_links b gap bundle is =
    by_part b gap (IsLink (item_count b + 1))
    (λ j h. let rule = bundle.rules j no_rule h in
    let asks = asked_within gap (rule_at b.rules.items j) is.low (gap_small b gap bundle is) in
    record {
      from = omega (arith, rule.forward, rule.within);
      to = omega (arith, rule.within);
      apart = λ e. omega (arith, rule.forward, e);
      gap = record { low = omega (arith, ints, asks.0); high = omega (arith, ints, asks.1) };
    })
    (λ i h. record {
      from = omega arith;
      to = omega arith;
      apart = λ e. omega (arith, e);
      gap = (bundle.items i no_item h).lo;
    })
    (λ i h. record {
      from = omega arith;
      to = omega arith;
      apart = λ e. omega (arith, e);
      gap = coordinate_turned (item_at b.items.items i).hi (bundle.items i no_item h).hi;
    })

pub are_limited : (b : Bundle) (gap : ℤ) (i : ℕ) → i < item_count b → IsLimited (item_count b) (links_of b gap) i
are_limited b gap i h =
    let lower = lower_at_link b gap i h in
    let upper = upper_at_link b gap i h in
    record {
      upper = rule_count b + item_count b + i;
      upper_within = omega (arith, length-links_of b gap);
      upper_from = ap (λ (l : Link). l.from) upper;
      upper_to = ap (λ (l : Link). l.to) upper;
      lower = rule_count b + i;
      lower_within = omega (arith, length-links_of b gap);
      lower_from = ap (λ (l : Link). l.from) lower;
      lower_to = ap (λ (l : Link). l.to) lower;
    }

-- a network's parts as they are first made
pub record IsMade (b : Bundle) (gap : ℤ) (n : Network) : Type 0 where
  pub links : n.links.items ≡ links_of b gap
  pub wants : n.wants.items ≡ map (λ (item : Item). item.want) b.items.items
  pub weights : n.weights.items ≡ map (λ (item : Item). item.weight) b.items.items
  pub places : AreStartPlaces b gap n.places.items
  pub lists : length n.tight.items ≡ item_count b + 1
  pub flow : length n.flow.items ≡ length n.links.items
  pub excess : length n.excess.items ≡ item_count b

made_items : (b : Bundle) (gap : ℤ) (n : Network) → IsMade b gap n → items_of n ≡ item_count b
made_items b gap n made = ap length made.wants ∙ length-map b.items.items (λ (item : Item). item.want)

-- what holds of an item's part holds of all
of_items : {X : Type 0} (b : Bundle) (f : Item → X) (P : X → Type 0) (xs : List X) → IsBundle b → xs ≡ map f b.items.items → ((item : Item) → IsItem item → P (f item)) → All P xs
of_items b f P xs bundle e h = subst (All P) (sym e) (All-map P f b.items.items (All-weaker IsItem (λ item. P (f item)) h b.items.items bundle.items))

pub made_frame : (b : Bundle) (gap : ℤ) (n : Network) → IsBundle b → IsGap b gap → IsMade b gap n → IsFrame n
made_frame b gap n bundle is made =
    let items = made_items b gap n made in
    let links = are_links b gap bundle is in
    record {
      few = omega (arith, items, bundle.few);
      weights = omega (arith, items, ap length made.weights ∙ length-map b.items.items (λ (item : Item). item.weight));
      excess = omega (arith, items, made.excess);
      places = omega (arith, items, made.places.count);
      lists = omega (arith, items, made.lists);
      flow = made.flow;
      light = of_items b (λ (item : Item). item.weight) (λ w. w ≤ 4) n.weights.items bundle made.weights (λ item h. h.weight_high);
      heavy = of_items b (λ (item : Item). item.weight) (λ w. 1 ≤ w) n.weights.items bundle made.weights (λ item h. h.weight_low);
      wants = of_items b (λ (item : Item). item.want) IsCoordinate n.wants.items bundle made.wants want_on_sheet;
      links = λ j h. subst (λ k. IsLink (k + 1) (link_at n.links.items j)) (sym items)
          (subst (λ l. IsLink (item_count b + 1) (link_at l j)) (sym made.links)
          (All-get_or (IsLink (item_count b + 1)) (links_of b gap) j no_link (omega (arith, ap length made.links, h)) links));
      limited = λ i h. subst (λ k. IsLimited k n.links.items i) (sym items)
          (subst (λ l. IsLimited (item_count b) l i) (sym made.links) (are_limited b gap i (omega (arith, items, h))));
    }

pub made_kept : (b : Bundle) (gap : ℤ) (n : Network) → IsMade b gap n → AreKept n
made_kept b gap n made =
    let items = made_items b gap n made in
    record {
      spots = made.places.spots;
      wall_num = ap (λ k. (place_at n.places.items k).num) items ∙ made.places.wall_num;
      wall_den = ap (λ k. (place_at n.places.items k).den) items ∙ made.places.wall_den;
      kept = λ j h. subst (λ l. IsKept n.places.items (link_at l j)) (sym made.links) (made.places.kept j (omega (arith, ap length made.links, h)));
    }
