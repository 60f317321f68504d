-- One span after another is joined with the one of its group that ends last.
use Rattle.std.proofs.Common.{refl}
use Rattle.channel_bundles.proofs.Spans.{joined_none, joined_more, joined_all, span_in}
use Rattle.channel_bundles.proofs.groups.join_spans.Goals as goal

pub loop-span-init : goal.loop-span-init
loop-span-init c = joined_none _ _ _ _ c.requires.forest c.requires.count refl c.requires.begin

pub loop-span-preserved : goal.loop-span-preserved
loop-span-preserved c =
    let spans = c.args.spans.now in
    let at = c.loop-span.span-index in
    let farthest = c.loop-span.farthest in
    let s = span_in spans at in
    let met = c.join_where_met.ensures in
    let end = c.farther.ensures in
    joined_more spans _ at c.loop-span.forest.above.items c.join_where_met.new.forest.above.items farthest (span_in farthest s.group) s c.farther.result c.loop-span.invariant c.loop-span-test.true
    c.requires.order c.requires.each refl refl met.forest met.count met.kept met.joined end.one end.far end.span

pub returns : goal.returns
returns c =
    let is = c.loop-span.invariant in
    record { forest = is.forest; count = is.trees; joined = joined_all c.args.spans.now _ c.loop-span.span-index c.loop-span.forest.above.items c.loop-span.farthest is c.loop-span-test.false }
