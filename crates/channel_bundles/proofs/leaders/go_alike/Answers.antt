-- One run more is the same but for the edge, and at the end all are.
use Rattle.std.proofs.Common.{rules}
use Rattle.std.specs.Prelude.{IsTrue}
use Rattle.channel_bundles.proofs.Leading.{more_alike}
use Rattle.channel_bundles.proofs.leaders.go_alike.Goals as goal

pub loop-k-preserved : goal.loop-k-preserved
loop-k-preserved c =
    let same : IsTrue c.is_same_but_for_edge.result = search rules in
    more_alike c.args.a.now c.args.b.now c.loop-k.k _ c.if-a-b.false c.loop-k-test.true c.loop-k.invariant (c.is_same_but_for_edge.ensures.0 same)
