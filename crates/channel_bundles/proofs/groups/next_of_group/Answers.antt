-- One place after another, from the last one back, gets the first of its group so far.
use Rattle.std.proofs.Common.{◌<◌, ◌-◌, get_or, length, arith, refl}
use Rattle.std.proofs.lemmas.List.{get_or_read}
use Rattle.std.proofs.lemmas.List.Elements.{All-get_or}
use Rattle.channel_bundles.proofs.Grouping.{next_begins, next_more, next_ends}
use Rattle.channel_bundles.proofs.groups.next_of_group.Goals as goal

pub loop-at-init : goal.loop-at-init
loop-at-init c = next_begins _ _ _ _ refl (c.in_ok-first.ensures.items_if_clones_equal (λ y h. h)) (c.in_ok-next.ensures.items_if_clones_equal (λ y h. h))

pub loop-at-preserved : goal.loop-at-preserved
loop-at-preserved c =
    let groups = c.args.groups.now in
    let is = c.loop-at.invariant in
    let at = c.loop-at.at - 1 in
    let some : 0 < c.loop-at.at = c.loop-at-test.true in
    let g = get_or groups at 0 in
    let in_g : g < length groups = All-get_or (λ n. n < length groups) groups at 0 (omega (arith, is.within, some)) c.requires.within in
    next_more groups c.loop-at.first.items c.loop-at.next.items at c.loop-at.at g c.index.result.now is (omega (arith, some)) c.requires refl
    (get_or_read c.loop-at.first.items g c.index.result.now (omega (arith, in_g, is.first_count)) c.index.ensures 0)

pub returns : goal.returns
returns c = next_ends _ _ _ c.loop-at.at c.loop-at.invariant (omega (arith, c.loop-at-test.false))
