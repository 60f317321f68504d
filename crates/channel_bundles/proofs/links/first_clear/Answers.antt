-- Each step takes the lesser of two limits.
use Rattle.std.proofs.Common.{◌-◌, ◌<◌, pos, map, length, ap, sym, subst, arith, rules, w64, FitsSigned}
use Rattle.std.proofs.lemmas.Int.{ints, clamps, to_z-of_z}
use Rattle.std.proofs.lemmas.List.{get_or_read}
use Rattle.channel_bundles.proofs.Clear.{IsLowering, lowering_begins, lowering_more, lowering_ends}
use Rattle.channel_bundles.proofs.links.first_clear.Goals as goal

pub loop-next-init : goal.loop-next-init
loop-next-init c =
    let lows = map (λ m. m.low) c.args.members.now in
    subst (λ xs. IsLowering lows xs c.len-next.result) (sym c.in_ok-clear.ensures)
    (lowering_begins lows c.len-next.result (omega (arith, c.len-next.ensures, c.in_ok-clear.clear.ok.0, ap length c.in_ok-clear.ensures)))

pub loop-next-preserved : goal.loop-next-preserved
loop-next-preserved c =
    let clear = c.loop-next.clear.items in
    let own : FitsSigned w64 c.index.result.now = search rules in
    let behind : FitsSigned w64 c.index-in-loop-next.result.now = search rules in
    let least : FitsSigned w64 c.min.result = search rules in
    let value = simp to_z-of_z at c.min.ensures.value in
    let is = c.loop-next.invariant in
    let next = c.loop-next.next in
    let i = next - 1 - 1 in
    let j = next - 1 in
    let some : 1 < next = c.loop-next-test.true in
    let bound = c.index_mut.ensures.value in
    let in_j : j < length clear = omega (arith, is.within, is.count) in
    let in_i : i < length clear = omega arith in
    let own_is = get_or_read clear i c.index.result.now in_i c.index.ensures (pos 0) in
    let behind_is = get_or_read clear j c.index-in-loop-next.result.now in_j c.index-in-loop-next.ensures (pos 0) in
    simp to_z-of_z (lowering_more (map (λ m. m.low) c.args.members.now) clear i j next c.min.result is (omega arith) (omega arith) (omega (arith, in_j, is.count))
    (omega (arith, ints, clamps, value, own_is)) (omega (arith, ints, clamps, value, behind_is)))

pub returns : goal.returns
returns c = lowering_ends c.args.members.now c.loop-next.clear.items c.loop-next.next c.loop-next.invariant c.loop-next-test.false
