-- Each bundle that is built is accepted by a solver.
use Rattle.std.proofs.Common.{◌≡◌, ℕ, suc, zero, ◌+◌, ◌<◌, ◌≤◌, ℤ, ◌≤ℤ◌, Bool, Option, Some, None, List, [], ◌∷◌, ◌++◌, map, length, get_or, take, sym, ap, subst, ◌∙◌, arith}
use Rattle.std.specs.Prelude.{All}
use Rattle.std.proofs.lemmas.Int.{ints}
use Rattle.std.proofs.lemmas.List.{get_or-map, get_or_append_left, get_or_push, length-map, length_push, map-append, map_more}
use Rattle.std.proofs.lemmas.List.Elements.{All-append, All-cons, All-get_or, All-map, All-nil, All-same, All-weaker}
use Rattle.separation_model.specs.declared.bundle.Bundle.{Bundle}
use Rattle.separation_model.specs.declared.bundle.Item.{Item}
use Rattle.separation_model.specs.declared.bundle.Rule.{Rule}
use Rattle.separation_model.specs.Bundle.{IsBundle, IsItem, IsRule, item_at, most_items, no_item}
use Rattle.channel_bundles.specs.declared.member.Member.{Member}
use Rattle.channel_bundles.specs.declared.channel.RunBundle.{RunBundle}
use Rattle.channel_bundles.specs.Classes.{AreClasses, Connected, Rise}
use Rattle.channel_bundles.specs.Links.{IsLink, IsMember, IsNudge, item_of, link, member_at, no_member, rule_if, rules_after, rules_from}
use Rattle.channel_bundles.specs.Bundles.{members_at}
use Rattle.channel_bundles.specs.Kept.{IsLinkRule}
use Rattle.channel_bundles.specs.Listed.{AreListed, AreListedOf, IsListed}
use Rattle.channel_bundles.specs.declared.channel.Listing.{Listing}
use Rattle.channel_bundles.specs.Placed.{AreRising}
use Rattle.channel_bundles.proofs.Trees.{cases_below, cases_same}

-- the rule leads on to an item below n
abbrev LeadsOn : ℕ → Rule → Type 0
LeadsOn n rule = (rule.left < rule.right) × (rule.right < n)

one_rule : (n i j : ℕ) (o : Option Bool) → i < j → j < n → All (LeadsOn n) (rule_if i j o)
one_rule n i j None before h = All-nil (LeadsOn n)
one_rule n i j (Some spaced) before h = All-cons (LeadsOn n) (record { left = i; right = j; spaced = spaced }) [] (before, h) (All-nil (LeadsOn n))

from_one : (nudge : ℤ) (n i j : ℕ) (m : Member) (rest : List Member) → i < j → j + length rest ≡ n → All (LeadsOn n) (rules_from nudge i m j rest)
from_one nudge n i j m [] before count = All-nil (LeadsOn n)
from_one nudge n i j m (s ∷ rest) before count =
    All-append (LeadsOn n) (rule_if i j (link nudge m s)) (rules_from nudge i m (suc j) rest)
    (one_rule n i j (link nudge m s) before (omega arith)) (from_one nudge n i (suc j) m rest (omega arith) (omega arith))

all_lead_on : (nudge : ℤ) (n i : ℕ) (ms : List Member) → i + length ms ≡ n → All (LeadsOn n) (rules_after nudge i ms)
all_lead_on nudge n i [] count = All-nil (LeadsOn n)
all_lead_on nudge n i (m ∷ rest) count =
    All-append (LeadsOn n) (rules_from nudge i m (suc i) rest) (rules_after nudge (suc i) rest)
    (from_one nudge n i (suc i) m rest (omega arith) (omega arith)) (all_lead_on nudge n (suc i) rest (omega arith))

good_rule : (ms : List Member) → AreRising ms → (rule : Rule) → LeadsOn (length ms) rule → IsRule (map item_of ms) rule
good_rule ms rising rule leads =
    let items = map item_of ms in
    let count : length items ≡ length ms = length-map {B = Item} ms item_of in
    let want : (k : ℕ) → k < length ms → (item_at items k).want ≡ (member_at ms k).run.at = λ k h. ap (λ (item : Item). item.want) (get_or-map item_of ms k no_member no_item h) in
    record {
      forward = leads.0;
      within = omega (arith, leads.1, count);
      ordered = omega (arith, ints, want rule.left (omega (arith, leads.0, leads.1)), want rule.right leads.1, rising.rise rule.left rule.right (omega (arith, leads.0)) leads.1);
    }

-- rules that are listed lead on
listed_lead : (listing : Listing) (nudge : ℤ) (ms : List Member) (rules : List Rule) → AreListed listing nudge ms rules → All (LeadsOn (length ms)) rules
listed_lead Listing.All nudge ms rules is = All-same (LeadsOn (length ms)) rules (rules_after nudge 0 ms) is (all_lead_on nudge (length ms) 0 ms (omega arith))
listed_lead Listing.Few nudge ms rules is = All-weaker (IsLinkRule nudge ms) (LeadsOn (length ms)) (λ r of. (of.forward, of.within)) rules is.each

pub good_listed : (listing : Listing) (nudge : ℤ) (ms : List Member) (b : Bundle) → All IsMember ms → length ms ≤ most_items → AreRising ms → IsNudge nudge → b.items.items ≡ map item_of ms →
    AreListed listing nudge ms b.rules.items → b.wanted ≡ nudge → IsBundle b
good_listed listing nudge ms b members few rising wanted items rules is_nudge =
    let count : length (map item_of ms) ≡ length ms = length-map {B = Item} ms item_of in
    record {
      few = omega (arith, few, count, ap length items);
      items = All-same IsItem b.items.items (map item_of ms) items (All-map IsItem item_of ms members);
      rules = subst (λ xs. All (IsRule xs) b.rules.items) (sym items)
          (All-weaker (LeadsOn (length ms)) (IsRule (map item_of ms)) (good_rule ms rising) b.rules.items (listed_lead listing nudge ms b.rules.items rules));
      wanted_low = omega (arith, ints, wanted.low, is_nudge);
      wanted_high = omega (arith, ints, wanted.high, is_nudge);
    }

pub good_bundle : (nudge : ℤ) (ms : List Member) (b : Bundle) → All IsMember ms → length ms ≤ most_items → AreRising ms → IsNudge nudge → b.items.items ≡ map item_of ms → b.rules.items ≡ rules_after nudge 0 ms → b.wanted ≡ nudge → IsBundle b
good_bundle = good_listed Listing.All

-- the members at rising places below their number are rising themselves, and no more of them
rise_above : (places : List ℕ) (k : ℕ) → Rise places → k < length places → k ≤ get_or places k 0
rise_above places zero rise h = omega arith
rise_above places (suc k) rise h = omega (arith, rise_above places k rise (omega arith), rise k (suc k) (omega arith) h)

-- numbers that rise do not fall
pub rise_to : (places : List ℕ) (i j : ℕ) → Rise places → i ≤ j → j < length places → get_or places i 0 ≤ get_or places j 0
rise_to places i j rise before h = cases_below i j (λ less. omega (arith, rise i j less h)) (λ more. let same : i ≡ j = omega arith in omega (arith, ap (λ k. get_or places k 0) same))

pub few_places : (places : List ℕ) (n : ℕ) → Rise places → All (λ i. i < n) places → length places ≤ n
few_places [] n rise within = omega arith
few_places (p ∷ ps) n rise within =
    let last : ℕ = length ps in
    omega (arith, rise_above (p ∷ ps) last rise (omega arith), All-get_or (λ i. i < n) (p ∷ ps) last 0 (omega arith) within)

pub chosen_members : (members : List Member) (places : List ℕ) → All (λ i. i < length members) places → All IsMember members → All IsMember (members_at members places)
chosen_members members places within all =
    All-map IsMember (member_at members) places (All-weaker (λ i. i < length members) (λ i. IsMember (member_at members i)) (λ i h. All-get_or IsMember members i no_member h all) places within)

pub chosen_rising : (members : List Member) (places : List ℕ) → Rise places → All (λ i. i < length members) places → AreRising members → AreRising (members_at members places)
chosen_rising members places rise within rising =
    let count : length (members_at members places) ≡ length places = length-map {B = Member} places (member_at members) in
    let at : (k : ℕ) → k < length places → member_at (members_at members places) k ≡ member_at members (get_or places k 0) = λ k h. get_or-map (member_at members) places k 0 no_member h in
    record {
      rise = λ i j before h.
          let in_j : j < length places = omega (arith, h, count) in
          subst (λ (m : Member). m.run.at ≤ℤ (member_at (members_at members places) j).run.at) (sym (at i (omega arith)))
          (subst (λ (m : Member). (member_at members (get_or places i 0)).run.at ≤ℤ m.run.at) (sym (at j in_j))
          (rising.rise (get_or places i 0) (get_or places j 0) (rise_to places i j rise before in_j) (All-get_or (λ k. k < length members) places j 0 in_j within)));
    }

-- what is made of one run more of those at the places
pub made_more : {X : Type 0} (f : Member → X) (members : List Member) (places : List ℕ) (i : ℕ) (found made : List X) (x : X) → i < length places → found ≡ map f (members_at members (take i places)) →
    x ≡ f (member_at members (get_or places i 0)) → made ≡ found ++ x ∷ [] → made ≡ map f (members_at members (take (i + 1) places))
made_more f members places i found made x h is is_x e =
    let m = member_at members (get_or places i 0) in
    let front = members_at members (take i places) in
    let all : map f (members_at members (take (i + 1) places)) ≡ map f front ++ f m ∷ [] = ap (map f) (map_more (member_at members) places i 0 h) ∙ map-append f front (m ∷ []) in
    e ∙ ap (λ xs. xs ++ x ∷ []) is ∙ ap (λ y. map f front ++ y ∷ []) is_x ∙ sym all

-- the bundles of the first i classes
pub record IsBundling (is_of : List Member → RunBundle → Type 0) (members : List Member) (classes : List (List ℕ)) (found : List RunBundle) (i : ℕ) : Type 0 where
  pub count : length found ≡ i
  pub each : (k : ℕ) (d : RunBundle) → k < i → is_of (members_at members (get_or classes k [])) (get_or found k d)

pub bundling_begins : (is_of : List Member → RunBundle → Type 0) (members : List Member) (classes : List (List ℕ)) (found : List RunBundle) → found ≡ [] → IsBundling is_of members classes found 0
bundling_begins is_of members classes found none = record {
  count = ap length none;
  each = λ k d h. absurd (omega arith);
}

pub bundling_more : (is_of : List Member → RunBundle → Type 0) (members : List Member) (classes : List (List ℕ)) (found made : List RunBundle) (i : ℕ) (b : RunBundle) (places : List ℕ) → IsBundling is_of members classes found i →
    places ≡ get_or classes i [] → is_of (members_at members places) b → made ≡ found ++ b ∷ [] → IsBundling is_of members classes made (i + 1)
bundling_more is_of members classes found made i b places is are of e =
    let more = found ++ b ∷ [] in
    let count = is.count in
    subst (λ xs. IsBundling is_of members classes xs (i + 1)) (sym e) (record {
      count = length_push found b ∙ ap (λ n. n + 1) is.count;
      each = λ k d h. cases_same k i
          (λ now. subst (λ n. is_of (members_at members (get_or classes n [])) (get_or more n d)) (sym now)
          (subst (λ x. is_of (members_at members (get_or classes i [])) x) (sym (get_or_push found b d i is.count)) (subst (λ xs. is_of (members_at members xs) b) are of)))
          (λ ne. subst (λ x. is_of (members_at members (get_or classes k [])) x) (sym (get_or_append_left found (b ∷ []) d k (omega arith))) (is.each k d (omega arith)));
    })

pub bundling_ends : (listing : Listing) (nudge : ℤ) (members : List Member) (classes : List (List ℕ)) (found : List RunBundle) (i : ℕ) → IsBundling (IsListed listing nudge) members classes found i → i ≡ length classes →
    AreClasses (Connected (IsLink nudge members)) (length members) classes → AreListedOf listing nudge members found
bundling_ends listing nudge members classes found i is all are = record {
  classes = classes;
  are_classes = are;
  count = is.count ∙ all;
  each = λ k d h. is.each k d (omega (arith, h, is.count));
}

-- a solver accepts the bundles of the classes
pub good_bundles : (listing : Listing) (nudge : ℤ) (members : List Member) (found : List RunBundle) → All IsMember members → length members ≤ most_items → AreRising members → IsNudge nudge → AreListedOf listing nudge members found →
    All (λ (b : RunBundle). IsBundle b.bundle) found
good_bundles listing nudge members found all few rising is_nudge are k d h =
    let places = get_or are.classes k [] in
    let is = are.each k d h in
    let in_k : k < length are.classes = omega (arith, h, are.count) in
    let within = are.are_classes.within k [] in_k in
    let rise = are.are_classes.rising k [] in_k in
    let count : length (members_at members places) ≡ length places = length-map {B = Member} places (member_at members) in
    good_listed listing nudge (members_at members places) (get_or found k d).bundle (chosen_members members places within all) (omega (arith, count, few_places places (length members) rise within, few))
    (chosen_rising members places rise within rising) is_nudge is.items is.rules is.wanted
