-- Where the leader and the place are the same, the edges decide.
use Rattle.std.proofs.Common.{sym, ap, ◌∙◌}
use Rattle.segment_order.specs.Order.{compare_keys, key_of}
use Rattle.channel_bundles.specs.Leaders.{runs_at}
use Rattle.channel_bundles.proofs.Leading.{by_edge}
use Rattle.channel_bundles.proofs.channel.Placed.compare.Goals as goal

pub returns-then-is_same_but_for_edge : goal.returns-then-is_same_but_for_edge
returns-then-is_same_but_for_edge c =
    let a = c.args.self.now.member.run in
    let b = c.args.other.now.member.run in
    let routes = c.args.routes.now in
    c.cmp.ensures ∙ sym (by_edge (runs_at routes c.args.other.now.leader) a b (c.is_same_but_for_edge.ensures.0 c.if-is_same_but_for_edge.true))
    ∙ ap (λ n. compare_keys (key_of (runs_at routes n) a) (key_of (runs_at routes c.args.other.now.leader) b)) (sym c.if-self-other.true)
