-- The rules of one run after another are appended.
use Rattle.std.proofs.Common.{arith, rules, w64, FitsSigned}
use Rattle.std.proofs.lemmas.Int.{to_z-of_z}
use Rattle.channel_bundles.proofs.Keeping.{keeping_ends, keeping_more}
use Rattle.channel_bundles.proofs.few.few_rules.Goals as goal

pub loop-at-preserved : goal.loop-at-preserved
loop-at-preserved c =
    let fits : FitsSigned w64 c.args.nudge = search rules in
    let is = simp to_z-of_z at c.loop-at.invariant in
    let from = simp to_z-of_z at c.in_ok-push_few_of.ensures in
    simp to_z-of_z (keeping_more c.args.nudge c.args.members.now c.loop-at.rules.items c.push_few_of.new.rules.items c.loop-at.at is from)

pub returns : goal.returns
returns c =
    let fits : FitsSigned w64 c.args.nudge = search rules in
    let is = simp to_z-of_z at c.loop-at.invariant in
    keeping_ends c.args.nudge c.args.members.now c.loop-at.rules.items c.loop-at.at is (omega (arith, c.loop-at-test.false, c.loop-at.auto.at-end))
