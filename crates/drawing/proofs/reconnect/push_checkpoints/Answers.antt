-- One more checkpoint.
use Rattle.std.proofs.Common.{◌++◌, arith, pos, rules}
use Rattle.drawing.specs.Reconnect.{passing}
use Rattle.drawing.proofs.Reconnecting.{one_passed}
use Rattle.drawing.proofs.reconnect.push_checkpoints.Goals as goal

pub loop-point-preserved : goal.loop-point-preserved
loop-point-preserved c =
    let i = c.loop-point.invariant in
    let via = c.args.via.now in
    record {
      counted = omega (arith, i.counted);
      made = one_passed c.args.number c.loop-point.place via c.loop-point.point-index (record { x = pos 0; y = pos 0 }) (c.args.edits.now.items ++ passing c.args.number 1 via) c.loop-point.edits.items c.push.new.self.items
          c.loop-point-test.true i.made (search rules);
    }
