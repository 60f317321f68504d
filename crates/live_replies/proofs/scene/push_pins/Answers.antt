-- One element on.
use Rattle.std.proofs.Common.{◌++◌}
use Rattle.std.specs.List.{flat_map}
use Rattle.report_text.proofs.Lists.{one_pushed}
use Rattle.live_replies.specs.Scene.{pin_line}
use Rattle.live_replies.proofs.scene.push_pins.Goals as goal

pub loop-pin-preserved : goal.loop-pin-preserved
loop-pin-preserved c =
    one_pushed pin_line (c.args.out.now.items ++ flat_map pin_line c.args.pins.now) c.loop-pin.out.items c.push_pin.new.out.items c.args.pins.now c.loop-pin.pin-index _
    c.loop-pin-test.true c.loop-pin.invariant c.in_ok-push_pin.ensures
