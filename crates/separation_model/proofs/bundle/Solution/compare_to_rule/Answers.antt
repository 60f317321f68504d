-- The goals of `Solution::compare_to_rule` that the check leaves.
use Rattle.std.proofs.Common.{◌≡◌, pos, ℤ, arith, rules, sym, ◌∙◌, ap, subst, ◌<ℤ◌}
use Rattle.std.specs.Ordering.{MatchOrdering}
use Rattle.std.proofs.lemmas.Int.{ints, to_z-of_z}
use Rattle.std.specs.Prelude.{FitsSigned}
use Rattle.std.specs.Int.{w64}
use Rattle.separation_model.specs.Bundle.{asked}
use Rattle.separation_model.proofs.Verifying.Conditions.{slack_is}
use Rattle.separation_model.proofs.bundle.Solution.compare_to_rule.Goals as goal

pub returns : goal.returns
returns c =
    let s = c.args.self.now in
    let rule = c.args.rule.now in
    let gap_fits : FitsSigned w64 s.gap = omega (arith, ints) in
    let asked_fits : FitsSigned w64 c.asked.result = search rules in
    let e = slack_is s.gap s.den.items s.pos.items rule c.position-left.result.pos c.position-right.result.pos _ c.position-left.result.den c.position-right.result.den
    c.position-left.ensures.pos c.position-left.ensures.den c.position-right.ensures.pos c.position-right.ensures.den
    (to_z-of_z w64 c.asked.result asked_fits ∙ c.asked.ensures ∙ ap (λ g. asked g rule) (to_z-of_z w64 s.gap gap_fits)) in
    subst (λ (z : ℤ). MatchOrdering c.compare_gap.result (z <ℤ pos 0) (z ≡ pos 0) (pos 0 <ℤ z)) (sym e) c.compare_gap.ensures
