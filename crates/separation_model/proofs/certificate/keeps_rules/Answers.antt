-- The goals of `keeps_rules` that the check leaves.
use Rattle.std.proofs.Common.{◌<◌, arith, sym, ap, length, refl, below_more, subst, pos}
use Rattle.std.proofs.lemmas.List.{get_or_read}
use Rattle.separation_model.specs.Checked.{IsMultiplier}
use Rattle.separation_model.proofs.Verifying.Conditions.{rule_placed, kept_here, bits_back}
use Rattle.separation_model.proofs.certificate.keeps_rules.Goals as goal

pub keeps_rule-requires : goal.keeps_rule-requires
keeps_rule-requires c =
    rule_placed c.args.bundle.now c.args.solution.now c.requires.bundle c.requires.limits c.requires.gap c.deref-rule-items.result.now c.deref-rule-items.ensures.value c.loop-j.j c.loop-j-test.true

pub loop-j-preserved : goal.loop-j-preserved
loop-j-preserved c =
    let s = c.args.solution.now in
    let l : c.loop-j.j < length s.mult.items = omega (arith, ap length c.deref-rule-items.ensures.value) in
    let m = c.index.result.now in
    let back = bits_back m (subst IsMultiplier (sym (get_or_read s.mult.items c.loop-j.j m l c.index.ensures (pos 0))) (c.requires.limits.multipliers.mults c.loop-j.j (pos 0) l)) in
    below_more _ _ c.loop-j.invariant
    ((kept_here c.args.bundle.now s c.deref-rule-items.result.now c.deref-rule-items.ensures.value c.loop-j.j m l c.index.ensures).0
    (let h = c.if-not-keeps_rule.ensures.0 refl in rw back at h))

pub returns : goal.returns
returns c = (λ _ i l. c.loop-j.invariant i (omega (arith, ap length c.deref-rule-items.ensures.value)), λ _. refl)
