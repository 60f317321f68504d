-- One element on.
use Rattle.std.proofs.Common.{◌++◌}
use Rattle.live_replies.specs.Texts.{corners_text, corner_text}
use Rattle.report_text.proofs.Lists.{one_pushed}
use Rattle.live_replies.proofs.line.push_corners.Goals as goal

pub loop-corner-preserved : goal.loop-corner-preserved
loop-corner-preserved c =
    one_pushed corner_text (c.args.out.now.items ++ corners_text c.args.corners.now) c.loop-corner.out.items c.push_corner.new.out.items c.args.corners.now c.loop-corner.corner-index _
    c.loop-corner-test.true c.loop-corner.invariant c.in_ok-push_corner.ensures
