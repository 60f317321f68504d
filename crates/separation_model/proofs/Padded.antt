-- Multipliers of the few are multipliers of all, with 0 at the rules that were left out.
use Rattle.std.proofs.Common.{◌≡◌, ℕ, zero, suc, ◌<◌, ℤ, pos, ◌+ℤ◌, ◌-ℤ◌, ◌*ℤ◌, ◌≤ℤ◌, true, false, cond, List, length, ap, subst, refl, ◌∙◌, arith}
use Rattle.std.specs.Prelude.{◌==◌, EachIndex, slice_index}
use Rattle.std.proofs.lemmas.Int.{ints}
use Rattle.std.proofs.lemmas.List.Elements.{All-get_or, All-from_get_or}
use Rattle.separation_model.specs.declared.bundle.Rule.{Rule}
use Rattle.separation_model.specs.declared.bundle.Bundle.{Bundle}
use Rattle.separation_model.specs.declared.bundle.Solution.{Solution}
use Rattle.separation_model.specs.Bundle.{IsBundle, item_at, int_at, rule_at}
use Rattle.separation_model.specs.Certified.{IsCertified, IsRuleTight, IsLimitTight, from_left, from_right}
use Rattle.separation_model.specs.Sum.{sum_at, here}
use Rattle.separation_model.specs.Chains.{IsReducedBundle}
use Rattle.separation_model.specs.Padded.{ArePadded}
use Rattle.separation_model.proofs.Chains.{few_meet}

here_zero : (k i : ℕ) → here k i (pos 0) ≡ pos 0
here_zero k i = elim (k == i) as (λ t. cond t (pos 0) (pos 0) ≡ pos 0) [ true ↦ refl | false ↦ refl ]

-- so the pushes on each item are the same
pub padded_sum : (end : Rule → ℕ) (i : ℕ) (all few : List Rule) (mults own : List ℤ) → ArePadded all mults few own → sum_at end i all mults ≡ sum_at end i few own
padded_sum end i all few mults own ArePadded.none = refl
padded_sum end i all few mults own (ArePadded.kept r m rs ms fs os p) = ap (λ z. here (end r) i m +ℤ z) (padded_sum end i rs fs ms os p)
padded_sum end i all few mults own (ArePadded.left_out r rs ms fs os p) =
    omega (arith, ints, here_zero (end r) i, padded_sum end i rs fs ms os p)

pub padded_length : (all few : List Rule) (mults own : List ℤ) → ArePadded all mults few own → length mults ≡ length all
padded_length all few mults own ArePadded.none = refl
padded_length all few mults own (ArePadded.kept r m rs ms fs os p) = ap suc (padded_length rs fs ms os p)
padded_length all few mults own (ArePadded.left_out r rs ms fs os p) = ap suc (padded_length rs fs ms os p)

-- what holds of the few with their multipliers, and of any rule with 0, holds of all
pub padded_each : (P : Rule → ℤ → Type 0) → ((r : Rule) → P r (pos 0)) → (all few : List Rule) (mults own : List ℤ) → ArePadded all mults few own →
    ((j : ℕ) → j < length few → P (rule_at few j) (int_at own j)) → (j : ℕ) → j < length all → P (rule_at all j) (int_at mults j)
padded_each P z all few mults own ArePadded.none h j l = absurd (omega (arith, l))
padded_each P z all few mults own (ArePadded.kept r m rs ms fs os p) h zero l = h zero (omega arith)
padded_each P z all few mults own (ArePadded.kept r m rs ms fs os p) h (suc j) l = padded_each P z rs fs ms os p (λ k less. h (suc k) (omega (arith, less))) j (omega (arith, l))
padded_each P z all few mults own (ArePadded.left_out r rs ms fs os p) h zero l = z r
padded_each P z all few mults own (ArePadded.left_out r rs ms fs os p) h (suc j) l = padded_each P z rs fs ms os p h j (omega (arith, l))

-- the solution of the few is certified for all
pub padded_certified : (b few : Bundle) (own s : Solution) → IsBundle b → IsReducedBundle b few → pos 0 ≤ℤ own.gap → IsCertified few own →
    ArePadded b.rules.items s.mult.items few.rules.items own.mult.items → IsCertified b (record own { mult = s.mult })
padded_certified b few own s ok red low c p = record {
  meets = few_meet b few own.gap own.den.items own.pos.items ok red low c.meets;
  mults = padded_length b.rules.items few.rules.items s.mult.items own.mult.items p;
  lows = c.lows ∙ ap length red.items;
  highs = c.highs ∙ ap length red.items;
  mult_sign = All-from_get_or (λ m. pos 0 ≤ℤ m) s.mult.items (pos 0) (λ j l.
      padded_each (λ r m. pos 0 ≤ℤ m) (λ r. omega (arith, ints)) b.rules.items few.rules.items s.mult.items own.mult.items p
      (λ k less. All-get_or (λ m. pos 0 ≤ℤ m) own.mult.items k (pos 0) (omega (arith, less, c.mults)) c.mult_sign) j
      (omega (arith, l, padded_length b.rules.items few.rules.items s.mult.items own.mult.items p)));
  low_sign = c.low_sign;
  high_sign = c.high_sign;
  tight_rules = λ j l. padded_each (λ r m. IsRuleTight own.gap own.den.items own.pos.items r m) (λ r some. absurd (some refl))
      b.rules.items few.rules.items s.mult.items own.mult.items p (λ k less. c.tight_rules k less) j l;
  tight_limits = subst (λ xs. EachIndex xs (λ i. IsLimitTight (item_at xs i) (slice_index own.den.items i) (int_at own.pos.items i) (int_at own.low.items i) (int_at own.high.items i))) red.items c.tight_limits;
  balanced = λ i l.
      let from = padded_sum (λ r. r.right) i b.rules.items few.rules.items s.mult.items own.mult.items p in
      let to = padded_sum (λ r. r.left) i b.rules.items few.rules.items s.mult.items own.mult.items p in
      let is = subst (λ xs. (pos 2 *ℤ pos (item_at xs i).weight *ℤ (int_at own.pos.items i -ℤ (pos (slice_index own.den.items i) *ℤ (item_at xs i).want)))
      ≡ (from_left i few.rules.items own.mult.items -ℤ from_right i few.rules.items own.mult.items) +ℤ int_at own.low.items i -ℤ int_at own.high.items i) red.items
      (c.balanced i (omega (arith, l, ap length red.items))) in
      omega (arith, ints, is, from, to);
}
