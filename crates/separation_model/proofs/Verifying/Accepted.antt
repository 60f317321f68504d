-- An accepted solution, by the conditions that are tested one after another.
use Rattle.std.proofs.Common.{ℕ, ◌<◌, ℤ, pos, ◌≤ℤ◌, List, length, All, subst, arith}
use Rattle.std.specs.Prelude.{slice_index_or, EachIndex}
use Rattle.std.proofs.lemmas.Int.{ints}
use Rattle.std.proofs.lemmas.List.{get_or_default}
use Rattle.std.proofs.lemmas.List.Elements.{All-from_get_or}
use Rattle.separation_model.specs.declared.bundle.Rule.{Rule}
use Rattle.separation_model.specs.declared.bundle.Bundle.{Bundle}
use Rattle.separation_model.specs.declared.bundle.Solution.{Solution}
use Rattle.separation_model.specs.Bundle.{slack, no_rule}
use Rattle.separation_model.specs.Certified.{IsAccepted, IsSmall}
use Rattle.separation_model.specs.Checked.{HasLengths, HasMultipliers, IsMultiplier, IsAtRest, KeepsLimitsAt, KeepsRuleAt}

multipliers_of_list : (ms : List ℤ) → All IsSmall ms → All (λ m. pos 0 ≤ℤ m) ms → All IsMultiplier ms
multipliers_of_list ms small sign k d l = record { sign = sign k d l; small = omega (arith, ints, small k d l, sign k d l) }

pub lengths_of : (b : Bundle) (s : Solution) → IsAccepted b s → HasLengths b s
lengths_of b s a = record { dens = a.certified.meets.dens; places = a.certified.meets.places; mults = a.certified.mults; lows = a.certified.lows; highs = a.certified.highs }

pub multipliers_of : (b : Bundle) (s : Solution) → IsAccepted b s → HasMultipliers s
multipliers_of b s a = record {
  mults = multipliers_of_list s.mult.items a.small_mults a.certified.mult_sign;
  lows = multipliers_of_list s.low.items a.small_lows a.certified.low_sign;
  highs = multipliers_of_list s.high.items a.small_highs a.certified.high_sign;
}

pub limits_of : (b : Bundle) (s : Solution) → IsAccepted b s → EachIndex b.items.items (KeepsLimitsAt b s)
limits_of b s a i l = record {
  positive = a.certified.meets.positive i 0 (omega (arith, l, a.certified.meets.dens));
  within = a.certified.meets.limits i l;
  small = a.small_places i (pos 0) (omega (arith, l, a.certified.meets.places));
  tight = a.certified.tight_limits i l;
}

pub rules_of : (b : Bundle) (s : Solution) → IsAccepted b s → EachIndex b.rules.items (KeepsRuleAt b s)
rules_of b s a j l = record { met = a.certified.meets.rules j no_rule l; tight = a.certified.tight_rules j l }

pub rest_of : (b : Bundle) (s : Solution) → IsAccepted b s → EachIndex b.items.items (IsAtRest b s)
rest_of b s a i l = record { small = a.small_sums i l; balanced = a.certified.balanced i l }

small_list : (ms : List ℤ) → All IsMultiplier ms → All IsSmall ms
small_list ms ok k d l = omega (arith, ints, (ok k d l).sign, (ok k d l).small)

rule_met : (b : Bundle) (s : Solution) → EachIndex b.rules.items (KeepsRuleAt b s) → (j : ℕ) (d : Rule) → j < length b.rules.items → pos 0 ≤ℤ slack s.gap s.den.items s.pos.items (slice_index_or b.rules.items j d)
rule_met b s rules j d l =
    subst (λ r. pos 0 ≤ℤ slack s.gap s.den.items s.pos.items r) (get_or_default b.rules.items j no_rule d l) (rules j l).met

pub accepted : (b : Bundle) (s : Solution) → pos 0 ≤ℤ s.gap → s.gap ≤ℤ b.wanted → HasLengths b s → HasMultipliers s →
    EachIndex b.items.items (KeepsLimitsAt b s) → EachIndex b.rules.items (KeepsRuleAt b s) → EachIndex b.items.items (IsAtRest b s) → IsAccepted b s
accepted b s low high lengths multipliers limits rules rest =
    record {
      gap_low = low;
      gap_high = high;
      small_places = All-from_get_or IsSmall s.pos.items (pos 0) (λ i l. (limits i (omega (arith, l, lengths.places))).small);
      small_mults = small_list s.mult.items multipliers.mults;
      small_lows = small_list s.low.items multipliers.lows;
      small_highs = small_list s.high.items multipliers.highs;
      small_sums = λ i l. (rest i l).small;
      certified = record {
        meets = record {
          dens = lengths.dens;
          places = lengths.places;
          positive = All-from_get_or (λ d. 0 < d) s.den.items 0 (λ i l. (limits i (omega (arith, l, lengths.dens))).positive);
          limits = λ i l. (limits i l).within;
          rules = λ j d l. rule_met b s rules j d l;
        };
        mults = lengths.mults;
        lows = lengths.lows;
        highs = lengths.highs;
        mult_sign = λ k d l. (multipliers.mults k d l).sign;
        low_sign = λ k d l. (multipliers.lows k d l).sign;
        high_sign = λ k d l. (multipliers.highs k d l).sign;
        tight_rules = λ j l. (rules j l).tight;
        tight_limits = λ i l. (limits i l).tight;
        balanced = λ i l. (rest i l).balanced;
      };
    }
