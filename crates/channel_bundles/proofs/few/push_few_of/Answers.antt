-- Each turn tries the nearest run ahead; where the look stops, no link is left.
use Rattle.std.proofs.Common.{◌≡◌, ◌<◌, pos, ◌+ℤ◌, ◌≤ℤ◌, get_or, length, refl, arith, rules, w64, FitsSigned}
use Rattle.std.proofs.lemmas.Int.{to_z-of_z}
use Rattle.channel_bundles.specs.Links.{member_at}
use Rattle.channel_bundles.specs.Kept.{nearest}
use Rattle.channel_bundles.proofs.Clear.{not_linked}
use Rattle.channel_bundles.proofs.Looking.{looking_begins, looking_behind, looking_ends, looking_within, onward, turn_closed, turn_open}
use Rattle.channel_bundles.proofs.few.push_few_of.Goals as goal

pub loop-hider-init : goal.loop-hider-init
loop-hider-init c =
    let fits : FitsSigned w64 c.args.nudge = search rules in
    let n = c.args.nexts.now in
    let a = c.after-ahead in
    simp to_z-of_z (λ lead. looking_begins c.args.nudge c.args.members.now n.channel.items n.early.items n.late.items lead c.args.rules.now.items c.args.at a.result.channel a.result.early a.result.late
    c.requires.at a.ensures.channel a.ensures.early a.ensures.late)

pub push_if_needed-requires-clause-at : goal.push_if_needed-requires-clause-at
push_if_needed-requires-clause-at c =
    let fits : FitsSigned w64 c.args.nudge = search rules in
    let is = simp to_z-of_z at c.loop-hider.invariant in
    let a = c.loop-hider.ahead in
    omega (arith, c.nearest-later.ensures, looking_behind _ _ _ _ _ _ _ _ a.channel a.early a.late _ (is c.requires.nexts))

pub push_if_needed-requires-clause-within : goal.push_if_needed-requires-clause-within
push_if_needed-requires-clause-within c =
    let fits : FitsSigned w64 c.args.nudge = search rules in
    let is = simp to_z-of_z at c.loop-hider.invariant in
    looking_within _ _ _ _ _ _ _ _ _ _ _ _ (is c.requires.nexts) c.requires.within

pub loop-hider-preserved-then-is_closed : goal.loop-hider-preserved-then-is_closed
loop-hider-preserved-then-is_closed c =
    let fits : FitsSigned w64 c.args.nudge = search rules in
    let is = simp to_z-of_z at c.loop-hider.invariant in
    let tried = simp to_z-of_z at c.in_ok-push_if_needed.ensures in
    let closing = simp to_z-of_z at c.if-is_closed.ensures in
    let h : c.nearest-later.result < length c.args.members.now = omega (arith, c.loop-hider-test.true, c.nearest.ensures, c.nearest-later.ensures) in
    let count : c.len-first.result ≡ length c.args.rules.now.items = omega (arith, c.len-first.ensures, c.args.rules.now.ok.0) in
    simp to_z-of_z (λ lead. turn_closed c.args.nudge c.args.members.now _ _ _ lead c.args.rules.now.items c.loop-hider.rules.items c.push_if_needed.new.rules.items c.len-first.result c.args.at
    c.loop-hider.ahead.channel c.loop-hider.ahead.early c.loop-hider.ahead.late c.nearest-later.result c.past-ahead.result.channel c.past-ahead.result.early c.past-ahead.result.late c.loop-hider.hider c.is_closed.new.hider _
    (is lead) count c.nearest-later.ensures h tried c.past-ahead.ensures.channel c.past-ahead.ensures.early c.past-ahead.ensures.late closing refl)

pub loop-hider-preserved : goal.loop-hider-preserved
loop-hider-preserved c =
    let fits : FitsSigned w64 c.args.nudge = search rules in
    let is = simp to_z-of_z at c.loop-hider.invariant in
    let tried = simp to_z-of_z at c.in_ok-push_if_needed.ensures in
    let closing = simp to_z-of_z at c.if-is_closed.ensures in
    let h : c.nearest-later.result < length c.args.members.now = omega (arith, c.loop-hider-test.true, c.nearest.ensures, c.nearest-later.ensures) in
    let count : c.len-first.result ≡ length c.args.rules.now.items = omega (arith, c.len-first.ensures, c.args.rules.now.ok.0) in
    simp to_z-of_z (λ lead. turn_open c.args.nudge c.args.members.now _ _ _ lead c.args.rules.now.items c.loop-hider.rules.items c.push_if_needed.new.rules.items c.len-first.result c.args.at
    c.loop-hider.ahead.channel c.loop-hider.ahead.early c.loop-hider.ahead.late c.nearest-later.result c.past-ahead.result.channel c.past-ahead.result.early c.past-ahead.result.late c.loop-hider.hider c.is_closed.new.hider _
    (is lead) count c.nearest-later.ensures h tried c.past-ahead.ensures.channel c.past-ahead.ensures.early c.past-ahead.ensures.late closing)

pub loop-hider-smaller : goal.loop-hider-smaller
loop-hider-smaller c =
    let a = c.loop-hider.ahead in
    let b = c.past-ahead.result in
    let h : c.nearest-later.result < length c.args.members.now = omega (arith, c.loop-hider-test.true, c.nearest.ensures, c.nearest-later.ensures) in
    let up : c.nearest-later.result < nearest b.channel b.early b.late =
    onward c.args.nudge c.args.members.now _ _ _ c.requires.nexts a.channel a.early a.late c.nearest-later.result b.channel b.early b.late c.nearest-later.ensures h c.past-ahead.ensures.channel c.past-ahead.ensures.early c.past-ahead.ensures.late in
    omega (arith, up, h, c.nearest-later.ensures)

pub loop-hider-smaller-then-is_closed : goal.loop-hider-smaller-then-is_closed
loop-hider-smaller-then-is_closed c =
    let a = c.loop-hider.ahead in
    let b = c.past-ahead.result in
    let h : c.nearest-later.result < length c.args.members.now = omega (arith, c.loop-hider-test.true, c.nearest.ensures, c.nearest-later.ensures) in
    let up : c.nearest-later.result < nearest b.channel b.early b.late =
    onward c.args.nudge c.args.members.now _ _ _ c.requires.nexts a.channel a.early a.late c.nearest-later.result b.channel b.early b.late c.nearest-later.ensures h c.past-ahead.ensures.channel c.past-ahead.ensures.early c.past-ahead.ensures.late in
    omega (arith, up, h, c.nearest-later.ensures)

pub returns-then-is_clear_of : goal.returns-then-is_clear_of
returns-then-is_clear_of c =
    let fits : FitsSigned w64 c.args.nudge = search rules in
    let is = simp to_z-of_z at c.loop-hider.invariant in
    let members = c.args.members.now in
    let m = member_at members c.args.at in
    let later = c.nearest-later.result in
    let near : FitsSigned w64 (get_or c.args.clear.now later (pos 0)) = search rules in
    let apart = c.if-is_clear_of.ensures.0 refl in
    let far : (m.high +ℤ c.args.nudge) ≤ℤ get_or c.args.clear.now later (pos 0) = simp to_z-of_z at apart in
    looking_ends c.args.nudge members _ _ _ c.requires.nexts c.args.rules.now.items c.loop-hider.rules.items c.args.at c.loop-hider.ahead.channel c.loop-hider.ahead.early c.loop-hider.ahead.late c.loop-hider.hider (is c.requires.nexts)
    (λ j from h. not_linked c.args.nudge members c.args.clear.now m later j c.requires.clear c.requires.nudge (omega (arith, from, c.nearest-later.ensures)) h far)

pub returns : goal.returns
returns c =
    let fits : FitsSigned w64 c.args.nudge = search rules in
    let is = simp to_z-of_z at c.loop-hider.invariant in
    looking_ends c.args.nudge c.args.members.now _ _ _ c.requires.nexts c.args.rules.now.items c.loop-hider.rules.items c.args.at c.loop-hider.ahead.channel c.loop-hider.ahead.early c.loop-hider.ahead.late c.loop-hider.hider (is c.requires.nexts)
    (λ j from h. absurd (omega (arith, from, h, c.loop-hider-test.false, c.nearest.ensures)))
