-- The rules of one run after another.
use Rattle.std.proofs.Common.{◌≡◌, ℕ, ◌+◌, ◌-◌, ◌<◌, ◌≤◌, ℤ, List, [], ◌++◌, length, get_or, inl, inr, refl, sym, subst, ◌∙◌, arith, ⊎_elim, length-append}
use Rattle.std.specs.Prelude.{All, AllPairs}
use Rattle.std.proofs.lemmas.List.{get_or_append_left, get_or-append_right}
use Rattle.std.proofs.lemmas.List.Elements.{All-append, All-get_or, All-nil, All-weaker, Contains-append_left, Contains-append_right}
use Rattle.separation_model.specs.declared.bundle.Rule.{Rule}
use Rattle.channel_bundles.specs.declared.member.Member.{Member}
use Rattle.channel_bundles.specs.Kept.{AreKept, AreKeptFrom, IsBefore, IsKeptOr, IsLinkRule}
use Rattle.channel_bundles.proofs.Trees.{cases_below}

-- the rules of the runs before `at` are kept
pub record IsKeeping (nudge : ℤ) (members : List Member) (rules : List Rule) (at : ℕ) : Type 0 where
  pub each : All (IsLinkRule nudge members) rules
  pub rise : AllPairs IsBefore rules
  pub left : All (λ r. r.left < at) rules
  pub whole : (r : Rule) → IsLinkRule nudge members r → r.left < at → IsKeptOr nudge members rules r

pub keeping_begins : (nudge : ℤ) (members : List Member) (rules : List Rule) → rules ≡ [] → IsKeeping nudge members rules 0
keeping_begins nudge members rules none = subst (λ rs. IsKeeping nudge members rs 0) (sym none) (record {
  each = All-nil (IsLinkRule nudge members);
  rise = λ i j d less h. absurd (omega (arith, h));
  left = All-nil (λ (r : Rule). r.left < 0);
  whole = λ r of less. absurd (omega (arith, less));
})

rise_append : (rules own : List Rule) (at : ℕ) → AllPairs IsBefore rules → All (λ r. r.left < at) rules → All (λ r. r.left ≡ at) own → AllPairs (λ r s. r.right < s.right) own → AllPairs IsBefore (rules ++ own)
rise_append rules own at rise left here up i j d less h =
    let n = length rules in
    let one : (k : ℕ) → k < n → get_or (rules ++ own) k d ≡ get_or rules k d = λ k g. get_or_append_left rules own d k g in
    let other : (k : ℕ) → n ≤ k → get_or (rules ++ own) k d ≡ get_or own (k - n) d = λ k g. get_or-append_right rules own n k d refl g in
    let in_own : (k : ℕ) → n ≤ k → k < length (rules ++ own) → k - n < length own = λ k g in_k. omega (arith, g, in_k, length-append rules own) in
    cases_below j n
    (λ before. subst (λ s. IsBefore (get_or (rules ++ own) i d) s) (sym (one j before)) (subst (λ r. IsBefore r (get_or rules j d)) (sym (one i (omega (arith, less, before)))) (rise i j d less before)))
    (λ from.
    let q = j - n in
    let in_q = in_own j from h in
    let at_j : (get_or own q d).left ≡ at = All-get_or (λ (r : Rule). r.left ≡ at) own q d in_q here in
    subst (λ s. IsBefore (get_or (rules ++ own) i d) s) (sym (other j from)) (cases_below i n
    (λ before. subst (λ r. IsBefore r (get_or own q d)) (sym (one i before)) (inl (omega (arith, at_j, All-get_or (λ (r : Rule). r.left < at) rules i d before left))))
    (λ behind.
    let p = i - n in
    let p_q : p < q = omega (arith, less, behind) in
    let at_i : (get_or own p d).left ≡ at = All-get_or (λ (r : Rule). r.left ≡ at) own p d (omega (arith, p_q, in_q)) here in
    subst (λ r. IsBefore r (get_or own q d)) (sym (other i behind)) (inr (at_i ∙ sym at_j, up p q d p_q in_q)))))

pub keeping_more : (nudge : ℤ) (members : List Member) (rules made : List Rule) (at : ℕ) → IsKeeping nudge members rules at → AreKeptFrom nudge members rules at made → IsKeeping nudge members made (at + 1)
keeping_more nudge members rules made at is from =
    let own = from.own in
    subst (λ rs. IsKeeping nudge members rs (at + 1)) (sym from.is) (record {
      each = All-append (IsLinkRule nudge members) rules own is.each from.each;
      rise = rise_append rules own at is.rise is.left from.left from.rise;
      left = All-append (λ (r : Rule). r.left < at + 1) rules own
          (All-weaker (λ (r : Rule). r.left < at) (λ r. r.left < at + 1) (λ r l. omega (arith, l)) rules is.left)
          (All-weaker (λ (r : Rule). r.left ≡ at) (λ r. r.left < at + 1) (λ r l. omega (arith, l)) own from.left);
      whole = λ r of less. cases_below r.left at
          (λ before. ⊎_elim (λ has. inl (Contains-append_left rules own r has)) (λ mid. inr mid) (is.whole r of before))
          (λ here. ⊎_elim (λ has. inl (Contains-append_right rules own r has)) (λ mid. inr mid) (from.whole r of (omega (arith, less, here))));
    })

pub keeping_ends : (nudge : ℤ) (members : List Member) (rules : List Rule) (at : ℕ) → IsKeeping nudge members rules at → at ≡ length members → AreKept nudge members rules
keeping_ends nudge members rules at is all = record { each = is.each; rise = is.rise; whole = λ r of. is.whole r of (omega (arith, of.forward, of.within, all)) }
