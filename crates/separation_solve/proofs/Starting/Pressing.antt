-- Places near the wants that keep all rules.
use Rattle.std.proofs.Common.{◌≡◌, ℕ, ◌+◌, ◌*◌, ◌<◌, ◌≤◌, ℤ, pos, ◌+ℤ◌, ◌≤ℤ◌, ◌<ℤ◌, negsuc, List, length, get_or, set, All, ⊎_elim, arith, refl, ap, sym, subst, ◌∙◌, length-set, get_or-set_same, get_or-set_other}
use Rattle.std.specs.Int.{int_min}
use Rattle.std.specs.List.Sorted.{IsNonDecreasingBy}
use Rattle.std.proofs.lemmas.Int.{ints}
use Rattle.std.proofs.lemmas.Bool.{cases_eq}
use Rattle.std.proofs.lemmas.List.{get_or_default}
use Rattle.separation_model.specs.declared.bundle.Rule.{Rule}
use Rattle.plane_geom.specs.Point.{IsCoordinate}
use Rattle.separation_model.specs.Bundle.{asked, int_at, rule_at, no_rule, most_items}
use Rattle.separation_model.specs.Latest.{IsRuleKept}
use Rattle.separation_solve.specs.Start.{IsForward}
use Rattle.separation_model.proofs.Gaps.Bounds.{asked_within}

-- the first items are drawn back
pub record DrawnBack (latest old : List ℤ) (i : ℕ) (places : List ℤ) : Type 0 where
  pub count : length places ≡ length old
  pub drawn : (k : ℕ) → k < i → k < length old → int_at places k ≡ int_min (int_at latest k) (int_at old k)
  pub rest : (k : ℕ) → i ≤ k → int_at places k ≡ int_at old k

-- the first rules are kept, and each item stands at its old place or to the right of it, but not too far
pub record IsPressed (gap : ℤ) (old : List ℤ) (rules : List Rule) (k : ℕ) (places : List ℤ) : Type 0 where
  pub count : length places ≡ length old
  pub on : (i : ℕ) → i < length old → int_at old i ≤ℤ int_at places i
  pub near : (i : ℕ) → i < length old → int_at places i ≤ℤ pos (2000000000 + 1000000 * i)
  pub keeps : (j : ℕ) → j < k → IsRuleKept gap places (rule_at rules j)

-- a rule that is kept already
pub pressed_kept : (gap : ℤ) (old : List ℤ) (rules : List Rule) (k : ℕ) (places : List ℤ) → IsPressed gap old rules k places → IsRuleKept gap places (rule_at rules k) → IsPressed gap old rules (k + 1) places
pressed_kept gap old rules k places so h = record {
  count = so.count;
  on = so.on;
  near = so.near;
  keeps = λ j m. ⊎_elim
      (λ (e : j ≡ k). subst (λ i. IsRuleKept gap places (rule_at rules i)) (sym e) h)
      (λ (o : j ≡ k → ⊥). so.keeps j (omega arith))
      (cases_eq j k);
}

-- a rule of which the right item has to stand so far on at least
pub record IsLeastPlace (old places : List ℤ) (rule : Rule) (gap least : ℤ) : Type 0 where
  pub left : rule.left < length places
  pub right : rule.right < length places
  pub is : least ≡ int_at places rule.left +ℤ asked gap rule
  pub low : negsuc 1999999999 ≤ℤ int_at places rule.left
  pub high : int_at places rule.left ≤ℤ pos 850002000000000
  pub near : least ≤ℤ pos (2000000000 + 1000000 * rule.right)
  pub right_low : negsuc 1999999999 ≤ℤ int_at places rule.right
  pub right_high : int_at places rule.right ≤ℤ pos 850002000000000

pub least_of : (gap : ℤ) (old : List ℤ) (rules : List Rule) (k : ℕ) (places : List ℤ) → IsPressed gap old rules k places →
    k < length rules → All (IsForward (length old)) rules → pos 0 ≤ℤ gap → gap ≤ℤ pos 1000000 → length old ≤ most_items → ((i : ℕ) → i < length old → IsCoordinate (int_at old i)) →
    IsLeastPlace old places (rule_at rules k) gap (int_at places (rule_at rules k).left +ℤ asked gap (rule_at rules k))
least_of gap old rules k places so within ok low high few on_sheet =
    let rule = rule_at rules k in
    let rule_ok = ok k no_rule within in
    let left : rule.left < length old = omega (arith, rule_ok.forward, rule_ok.within) in
    let bound = asked_within gap rule low high in
    record {
      left = omega (arith, left, so.count);
      right = omega (arith, rule_ok.within, so.count);
      is = refl;
      low = omega (arith, ints, so.on rule.left left, (on_sheet rule.left left).low);
      high = omega (arith, ints, so.near rule.left left, left, few);
      near = omega (arith, ints, so.near rule.left left, bound.1, rule_ok.forward);
      right_low = omega (arith, ints, so.on rule.right rule_ok.within, (on_sheet rule.right rule_ok.within).low);
      right_high = omega (arith, ints, so.near rule.right rule_ok.within, rule_ok.within, few);
    }

-- a rule that presses its right item on
pub pressed_on : (gap : ℤ) (old : List ℤ) (rules : List Rule) (k : ℕ) (places : List ℤ) (least : ℤ) → IsPressed gap old rules k places →
    k < length rules → All (IsForward (length old)) rules → IsNonDecreasingBy (λ (r : Rule). r.left) rules →
    IsLeastPlace old places (rule_at rules k) gap least → int_at places (rule_at rules k).right <ℤ least →
    IsPressed gap old rules (k + 1) (set places (rule_at rules k).right least)
pressed_on gap old rules k places least so within ok sorted at less =
    let rule = rule_at rules k in
    let right = rule.right in
    let rule_ok = ok k no_rule within in
    let next = set places right least in
    let here : int_at next right ≡ least = get_or-set_same places right least (pos 0) at.right in
    let there : (i : ℕ) → (i ≡ right → ⊥) → int_at next i ≡ int_at places i = λ i o. get_or-set_other places right i least (pos 0) o in
    let not_left : (j : ℕ) → j ≤ k → (rule_at rules j).left ≡ right → ⊥ = λ j h e. absurd (omega (arith, sorted j k no_rule h within, rule_ok.forward, e)) in
    record {
      count = length-set places right least ∙ so.count;
      on = λ i h. ⊎_elim
          (λ (e : i ≡ right). subst (λ j. int_at old j ≤ℤ int_at next j) (sym e) (omega (arith, ints, here, less, so.on right (omega (arith, e, h)))))
          (λ (o : i ≡ right → ⊥). omega (arith, ints, there i o, so.on i h))
          (cases_eq i right);
      near = λ i h. ⊎_elim
          (λ (e : i ≡ right). subst (λ j. int_at next j ≤ℤ pos (2000000000 + 1000000 * j)) (sym e) (omega (arith, ints, here, at.near)))
          (λ (o : i ≡ right → ⊥). omega (arith, ints, there i o, so.near i h))
          (cases_eq i right);
      keeps = λ j h. ⊎_elim
          (λ (e : j ≡ k). subst (λ i. IsRuleKept gap next (rule_at rules i)) (sym e) (omega (arith, ints, here, at.is, there rule.left (not_left k (omega arith)))))
          (λ (o : j ≡ k → ⊥).
          let kept = so.keeps j (omega arith) in
          let left = there (rule_at rules j).left (not_left j (omega arith)) in
          ⊎_elim
          (λ (e : (rule_at rules j).right ≡ right). omega (arith, ints, kept, left, less, here, ap (int_at next) e, ap (int_at places) e))
          (λ (n : (rule_at rules j).right ≡ right → ⊥). omega (arith, ints, kept, left, there (rule_at rules j).right n))
          (cases_eq (rule_at rules j).right right))
          (cases_eq j k);
    }

-- a kept rule, by another default
pub rule_keeps : (gap : ℤ) (places : List ℤ) (rules : List Rule) (k : ℕ) (d : Rule) → k < length rules → IsRuleKept gap places (rule_at rules k) → IsRuleKept gap places (get_or rules k d)
rule_keeps gap places rules k d h keeps =
    subst (IsRuleKept gap places) (get_or_default rules k no_rule d h) keeps
