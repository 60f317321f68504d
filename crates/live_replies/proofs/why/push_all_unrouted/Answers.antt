-- One element on.
use Rattle.std.proofs.Common.{◌++◌}
use Rattle.live_replies.specs.Why.{unrouted_text, unrouted_texts}
use Rattle.report_text.proofs.Lists.{one_pushed}
use Rattle.live_replies.proofs.why.push_all_unrouted.Goals as goal

pub loop-unrouted-preserved : goal.loop-unrouted-preserved
loop-unrouted-preserved c =
    one_pushed unrouted_text (c.args.out.now.items ++ unrouted_texts c.args.list.now) c.loop-unrouted.out.items c.push_unrouted.new.out.items c.args.list.now c.loop-unrouted.unrouted-index _
    c.loop-unrouted-test.true c.loop-unrouted.invariant c.in_ok-push_unrouted.ensures
