-- The least lower limit from each run on, and that no link goes past where it is too great.
use Rattle.std.proofs.Common.{◌≡◌, ◌≢◌, ℕ, ◌+◌, ◌<◌, ◌≤◌, ℤ, pos, ◌+ℤ◌, ◌≤ℤ◌, Bool, true, false, Option, Some, None, List, length, map, get_or, set, if◌then◌else◌, refl, sym, ap, subst, ◌∙◌, arith}
use Rattle.std.specs.Prelude.{int_lt}
use Rattle.std.proofs.lemmas.Int.{ints}
use Rattle.std.proofs.lemmas.List.{get_or-set_same, get_or-set_other, length-set, get_or-map, length-map}
use Rattle.channel_bundles.specs.declared.member.Member.{Member}
use Rattle.channel_bundles.specs.Links.{AreClear, IsNudge, asks, link, linked, member_at, no_member}
use Rattle.channel_bundles.proofs.Trees.{cases_same}

-- from `next - 1` on stand the least limits, before it the limits themselves
pub record IsLowering (lows clear : List ℤ) (next : ℕ) : Type 0 where
  pub count : length clear ≡ length lows
  pub within : next ≤ length lows
  pub untouched : (a : ℕ) → a + 1 < next → get_or clear a (pos 0) ≡ get_or lows a (pos 0)
  pub done : (a k : ℕ) → next ≤ a + 1 → a ≤ k → k < length lows → get_or clear a (pos 0) ≤ℤ get_or lows k (pos 0)

pub lowering_begins : (lows : List ℤ) (next : ℕ) → next ≡ length lows → IsLowering lows lows next
lowering_begins lows next all = record {
  count = refl;
  within = omega arith;
  untouched = λ a h. refl;
  done = λ a k from before h. let same : a ≡ k = omega arith in subst (λ n. get_or lows a (pos 0) ≤ℤ get_or lows n (pos 0)) same (omega (arith, ints));
}

pub lowering_more : (lows clear : List ℤ) (i j next : ℕ) (least : ℤ) → IsLowering lows clear next → next ≡ j + 1 → j ≡ i + 1 → j < length lows → least ≤ℤ get_or clear i (pos 0) → least ≤ℤ get_or clear j (pos 0) →
    IsLowering lows (set clear i least) j
lowering_more lows clear i j next least is e f in_j own behind =
    let made = set clear i least in
    let count = is.count in
    let here : get_or made i (pos 0) ≡ least = get_or-set_same clear i least (pos 0) (omega arith) in
    let other : (a : ℕ) → a ≢ i → get_or made a (pos 0) ≡ get_or clear a (pos 0) = λ a ne. get_or-set_other clear i a least (pos 0) ne in
    record {
      count = length-set clear i least ∙ is.count;
      within = omega arith;
      untouched = λ a h. other a (λ same. absurd (omega arith)) ∙ is.untouched a (omega arith);
      done = λ a k from before h. cases_same a i
          (λ same. subst (λ n. get_or made n (pos 0) ≤ℤ get_or lows k (pos 0)) (sym same)
          (cases_same k i
          (λ first. subst (λ n. get_or made i (pos 0) ≤ℤ get_or lows n (pos 0)) (sym first) (omega (arith, ints, here, own, is.untouched i (omega arith))))
          (λ after. omega (arith, ints, here, behind, is.done j k (omega arith) (omega arith) h))))
          (λ differ. omega (arith, ints, other a differ, is.done a k (omega arith) before h));
    }

pub lowering_ends : (members : List Member) (clear : List ℤ) (next : ℕ) → IsLowering (map (λ m. m.low) members) clear next → next ≤ 1 → AreClear members clear
lowering_ends members clear next is few =
    let count = length-map {B = ℤ} members (λ m. m.low) in
    record {
      count = is.count ∙ count;
      least = λ j k in_j before h. subst (λ z. get_or clear j (pos 0) ≤ℤ z) (get_or-map (λ (m : Member). m.low) members k no_member (pos 0) h) (is.done j k (omega arith) before (omega (arith, count, h)));
    }

not_below : (x y : ℤ) → y ≤ℤ x → int_lt x y ≡ false
not_below x y h = grind (arith, ints)

-- two runs whose limits are the nudge apart are not linked
pub unasked : (nudge : ℤ) (a b : Member) (o : Option Bool) → pos 0 ≤ℤ nudge → (a.high +ℤ nudge) ≤ℤ b.low → linked nudge a b o ≡ None
unasked nudge a b None low apart = refl
unasked nudge a b (Some true) low apart = ap (λ t. if t then Some true else None) (not_below b.low (a.high +ℤ nudge) apart)
unasked nudge a b (Some false) low apart = ap (λ t. if t then Some false else None) (not_below b.low a.high (omega (arith, ints, low, apart)))

-- past a place where no lower limit is near enough, no run is linked
pub not_linked : (nudge : ℤ) (members : List Member) (clear : List ℤ) (m : Member) (stop j : ℕ) → AreClear members clear → IsNudge nudge → stop ≤ j → j < length members →
    (m.high +ℤ nudge) ≤ℤ get_or clear stop (pos 0) → link nudge m (member_at members j) ≡ None
not_linked nudge members clear m stop j are wanted from h apart =
    let b = member_at members j in
    unasked nudge m b (asks m b) wanted.low (omega (arith, ints, apart, are.least stop j (omega arith) from h))
