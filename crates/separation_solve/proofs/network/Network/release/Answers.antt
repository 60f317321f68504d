-- With no flow, each item's excess is its force.
use Rattle.std.proofs.Common.{◌<◌, length, arith, refl}
use mir.Syntax.{w128}
use Rattle.separation_solve.specs.Network.{items_of}
use Rattle.separation_solve.proofs.Networks.Forces.{force_at_fits, released, releasing_frame, releasing_kept, releasing_more}
use Rattle.separation_solve.proofs.LightFractions.Spots.{cast_is}
use Rattle.separation_solve.proofs.network.Network.release.Goals as goal

pub force-requires-clause-frame : goal.force-requires-clause-frame
force-requires-clause-frame c = releasing_frame c.args.self.now c.loop-item.self c.loop-item.item c.requires.frame c.loop-item.invariant

pub force-requires-clause-kept : goal.force-requires-clause-kept
force-requires-clause-kept c = releasing_kept c.args.self.now c.loop-item.self c.loop-item.item c.requires.kept c.loop-item.invariant

pub loop-item-preserved : goal.loop-item-preserved
loop-item-preserved c =
    let n = c.args.self.now in
    let now = c.loop-item.self in
    let was = c.loop-item.invariant in
    let frame = releasing_frame n now c.loop-item.item c.requires.frame was in
    let kept = releasing_kept n now c.loop-item.item c.requires.kept was in
    let inside : c.loop-item.item < length now.excess.items = omega (arith, c.loop-item-test.true, c.len-item-end.ensures, was.excess_long) in
    let item : c.loop-item.item < items_of now = omega (arith, inside, frame.excess) in
    releasing_more n now _ c.loop-item.item _ was inside refl (cast_is w128 _ _ c.force.ensures (force_at_fits now c.loop-item.item frame kept item))

pub returns-clause-sound : goal.returns-clause-sound
returns-clause-sound c =
    let was = c.loop-item.invariant in
    released c.args.self.now c.loop-item.self c.loop-item.item c.requires.frame c.requires.kept c.requires.tight was (omega (arith, c.loop-item-test.false, c.len-item-end.ensures, was.excess_long))
