-- The rules of one run after another.
use Rattle.std.proofs.Common.{◌≡◌, ℕ, ◌≤◌, ℤ, ◌++◌, List, drop, length, arith, rules, w64, FitsSigned, ap, sym, ◌∙◌}
use Rattle.std.proofs.lemmas.Int.{to_z-of_z}
use Rattle.std.proofs.lemmas.List.{append-nil, drop_all}
use Rattle.separation_model.specs.declared.bundle.Rule.{Rule}
use Rattle.channel_bundles.specs.declared.member.Member.{Member}
use Rattle.channel_bundles.specs.Links.{rules_after}
use Rattle.channel_bundles.proofs.Linking.{rules_more}
use Rattle.channel_bundles.proofs.links.rules_of.Goals as goal

pub loop-at-preserved : goal.loop-at-preserved
loop-at-preserved c =
    let fits : FitsSigned w64 c.args.nudge = search rules in
    let is = simp to_z-of_z at c.loop-at.invariant in
    let value = simp to_z-of_z at c.in_ok-push_rules_of.ensures in
    simp to_z-of_z (rules_more c.args.nudge c.loop-at.at c.args.members.now c.loop-at.rules.items _ (rules_after c.args.nudge 0 c.args.members.now) c.loop-at-test.true is value)

-- at the end no run is left
rules_end : (nudge : ℤ) (at : ℕ) (members : List Member) (rules all : List Rule) → length members ≤ at → rules ++ rules_after nudge at (drop at members) ≡ all → rules ≡ all
rules_end nudge at members rules all whole so = sym (append-nil rules) ∙ ap (λ ms. rules ++ rules_after nudge at ms) (sym (drop_all at members whole)) ∙ so

pub returns : goal.returns
returns c =
    let fits : FitsSigned w64 c.args.nudge = c.ranges.nudge in
    rules_end c.args.nudge c.loop-at.at c.args.members.now c.loop-at.rules.items _ (omega (arith, c.loop-at-test.false)) (simp to_z-of_z at c.loop-at.invariant)
