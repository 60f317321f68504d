-- One rule after another is given.
use Rattle.std.proofs.Common.{◌<◌, length, get_or, refl, arith}
use Rattle.std.proofs.lemmas.List.{get_or_default}
use Rattle.separation_model.specs.Bundle.{no_rule}
use Rattle.channel_bundles.specs.Shares.{seat_at}
use Rattle.channel_bundles.proofs.Sharing.{given_more, given_none}
use Rattle.channel_bundles.proofs.shares.share_out.Goals as goal

pub loop-rule-init : goal.loop-rule-init
loop-rule-init c = given_none c.args.seats.now c.args.rules.now c.args.found.now

pub loop-rule-preserved : goal.loop-rule-preserved
loop-rule-preserved c =
    let rules = c.args.rules.now in
    let seats = c.args.seats.now in
    let found = c.loop-rule.found in
    let i = c.loop-rule.rule-index in
    let h = c.loop-rule-test.true in
    let r = get_or rules i no_rule in
    let class = (seat_at seats r.left).class in
    let in_left : r.left < length seats = (c.requires.rules i no_rule h).left in
    let in_class : class < length found = omega (arith, (c.requires.seats r.left (record { class = 0; place = 0 }) in_left).0, c.loop-rule.invariant.count) in
    let was = get_or found class c.index-found-left.result in
    given_more seats rules i class r c.args.found.now found was _ c.loop-rule.invariant h (get_or_default rules i no_rule r h) refl in_class (get_or_default found class c.index-found-left.result was in_class)
    (record { items = refl; rules = c.in_ok-push.ensures.items; wanted = refl; runs = refl })
