-- Each test is a condition of an accepted solution, and all together are all conditions.
use Rattle.std.proofs.Common.{◌≡◌, true, false, ℤ, pos, ◌≤ℤ◌, arith, rules, IsTrue, refl, FitsSigned, to_z, of_z}
use Rattle.std.specs.Int.{w64}
use Rattle.std.proofs.lemmas.Int.{ints}
use Rattle.std.proofs.lemmas.Bool.{false≢true}
use lib.Signed.{lt_z}
use Rattle.separation_model.proofs.Verifying.Accepted.{lengths_of, multipliers_of, limits_of, rules_of, rest_of, accepted}
use Rattle.separation_model.proofs.Optimum.Certificates.{certified_least}
use Rattle.separation_model.proofs.certificate.verify.Goals as goal

-- the tests of the gap
negative : (gap wanted : ℤ) → lt_z (to_z w64 (of_z w64 gap)) (pos 0) ≡ true → pos 0 ≤ℤ gap → gap ≤ℤ wanted → wanted ≤ℤ pos 1000000 → ⊥
negative gap wanted h low high most = omega (arith, ints)

too_wide : (gap wanted : ℤ) → lt_z (to_z w64 (of_z w64 wanted)) (to_z w64 (of_z w64 gap)) ≡ true → pos 0 ≤ℤ gap → gap ≤ℤ wanted → wanted ≤ℤ pos 1000000 → ⊥
too_wide gap wanted h low high most = omega (arith, ints)

not_negative : (gap : ℤ) → FitsSigned w64 gap → lt_z (to_z w64 (of_z w64 gap)) (pos 0) ≡ false → pos 0 ≤ℤ gap
not_negative gap fits h = omega (arith, ints)

not_too_wide : (gap wanted : ℤ) → FitsSigned w64 gap → pos 0 ≤ℤ wanted → wanted ≤ℤ pos 1000000 → lt_z (to_z w64 (of_z w64 wanted)) (to_z w64 (of_z w64 gap)) ≡ false → gap ≤ℤ wanted
not_too_wide gap wanted fits low most h = omega (arith, ints)

pub returns-then-solution-lt0-clause-accepted : goal.returns-then-solution-lt0-clause-accepted
returns-then-solution-lt0-clause-accepted c =
    (λ t. absurd (false≢true t), λ a. absurd (negative c.args.solution.now.gap c.args.bundle.now.wanted c.if-solution-lt0.true a.gap_low a.gap_high c.requires.wanted_high))

pub returns-then-solution-lt0-clause-least : goal.returns-then-solution-lt0-clause-least
returns-then-solution-lt0-clause-least c = λ t. absurd (false≢true t)

pub returns-then-solution-bundle-clause-accepted : goal.returns-then-solution-bundle-clause-accepted
returns-then-solution-bundle-clause-accepted c =
    (λ t. absurd (false≢true t), λ a. absurd (too_wide c.args.solution.now.gap c.args.bundle.now.wanted c.if-solution-bundle.true a.gap_low a.gap_high c.requires.wanted_high))

pub returns-then-solution-bundle-clause-least : goal.returns-then-solution-bundle-clause-least
returns-then-solution-bundle-clause-least c = λ t. absurd (false≢true t)

pub returns-then-not-has_lengths-clause-accepted : goal.returns-then-not-has_lengths-clause-accepted
returns-then-not-has_lengths-clause-accepted c =
    (λ t. absurd (false≢true t), λ a. c.if-not-has_lengths.ensures.1 (lengths_of c.args.bundle.now c.args.solution.now a))

pub returns-then-not-has_lengths-clause-least : goal.returns-then-not-has_lengths-clause-least
returns-then-not-has_lengths-clause-least c = λ t. absurd (false≢true t)

pub returns-then-not-has_multipliers-clause-accepted : goal.returns-then-not-has_multipliers-clause-accepted
returns-then-not-has_multipliers-clause-accepted c =
    (λ t. absurd (false≢true t), λ a. c.if-not-has_multipliers.ensures.1 (multipliers_of c.args.bundle.now c.args.solution.now a))

pub returns-then-not-has_multipliers-clause-least : goal.returns-then-not-has_multipliers-clause-least
returns-then-not-has_multipliers-clause-least c = λ t. absurd (false≢true t)

pub returns-then-not-keeps_limits-clause-accepted : goal.returns-then-not-keeps_limits-clause-accepted
returns-then-not-keeps_limits-clause-accepted c =
    (λ t. absurd (false≢true t), λ a. c.if-not-keeps_limits.ensures.1 (limits_of c.args.bundle.now c.args.solution.now a))

pub returns-then-not-keeps_limits-clause-least : goal.returns-then-not-keeps_limits-clause-least
returns-then-not-keeps_limits-clause-least c = λ t. absurd (false≢true t)

pub returns-then-not-keeps_rules-clause-accepted : goal.returns-then-not-keeps_rules-clause-accepted
returns-then-not-keeps_rules-clause-accepted c =
    (λ t. absurd (false≢true t), λ a. c.if-not-keeps_rules.ensures.1 (rules_of c.args.bundle.now c.args.solution.now a))

pub returns-then-not-keeps_rules-clause-least : goal.returns-then-not-keeps_rules-clause-least
returns-then-not-keeps_rules-clause-least c = λ t. absurd (false≢true t)

pub keeps_limits-requires-clause-bundle : goal.keeps_limits-requires-clause-bundle
keeps_limits-requires-clause-bundle c = c.requires

pub keeps_limits-requires-clause-lengths : goal.keeps_limits-requires-clause-lengths
keeps_limits-requires-clause-lengths c = c.if-not-has_lengths.ensures.0 refl

pub keeps_limits-requires-clause-multipliers : goal.keeps_limits-requires-clause-multipliers
keeps_limits-requires-clause-multipliers c = c.if-not-has_multipliers.ensures.0 refl

pub keeps_rules-requires-clause-bundle : goal.keeps_rules-requires-clause-bundle
keeps_rules-requires-clause-bundle c = c.requires

pub keeps_rules-requires-clause-limits : goal.keeps_rules-requires-clause-limits
keeps_rules-requires-clause-limits c = record { lengths = c.if-not-has_lengths.ensures.0 refl; multipliers = c.if-not-has_multipliers.ensures.0 refl; limits = c.if-not-keeps_limits.ensures.0 refl }

pub keeps_rules-requires-clause-gap : goal.keeps_rules-requires-clause-gap
keeps_rules-requires-clause-gap c =
    let fits : FitsSigned w64 c.args.solution.now.gap = search rules in
    record {
      low = not_negative c.args.solution.now.gap fits c.if-solution-lt0.false;
      high = not_too_wide c.args.solution.now.gap c.args.bundle.now.wanted fits c.requires.wanted_low c.requires.wanted_high c.if-solution-bundle.false;
    }

pub are_at_rest-requires-clause-bundle : goal.are_at_rest-requires-clause-bundle
are_at_rest-requires-clause-bundle c = c.requires

pub are_at_rest-requires-clause-limits : goal.are_at_rest-requires-clause-limits
are_at_rest-requires-clause-limits c = record { lengths = c.if-not-has_lengths.ensures.0 refl; multipliers = c.if-not-has_multipliers.ensures.0 refl; limits = c.if-not-keeps_limits.ensures.0 refl }

pub returns : goal.returns
returns c =
    let b = c.args.bundle.now in
    let s = c.args.solution.now in
    let fits : FitsSigned w64 s.gap = search rules in
    let low = not_negative s.gap fits c.if-solution-lt0.false in
    let high = not_too_wide s.gap b.wanted fits c.requires.wanted_low c.requires.wanted_high c.if-solution-bundle.false in
    let yes = λ (t : IsTrue c.are_at_rest.result). accepted b s low high
    (c.if-not-has_lengths.ensures.0 refl) (c.if-not-has_multipliers.ensures.0 refl) (c.if-not-keeps_limits.ensures.0 refl) (c.if-not-keeps_rules.ensures.0 refl) (c.are_at_rest.ensures.0 t) in
    record {
      accepted = (yes, λ a. c.are_at_rest.ensures.1 (rest_of b s a));
      least = λ t. certified_least b s c.requires (yes t).certified;
    }
