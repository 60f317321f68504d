-- Runs of one edge take up the same, and are joined.
use Rattle.std.proofs.Common.{◌<◌, length, ◌∙◌, arith}
use Rattle.std.proofs.lemmas.Result.{IfOk-weaker}
use Rattle.channel_bundles.proofs.Grouping.{one_group, one_together, edges_meet}
use Rattle.channel_bundles.proofs.groups.edges.Goals as goal

pub parted-requires-clause-groups : goal.parted-requires-clause-groups
parted-requires-clause-groups c = one_group _ _ (c.deref.ensures.value ∙ c.in_ok-all.ensures.items_if_clones_equal (λ y h. h))

pub returns-clause-together : goal.returns-clause-together
returns-clause-together c =
    let members = c.args.members.now in
    let all = c.deref.ensures.value ∙ c.in_ok-all.ensures.items_if_clones_equal (λ y h. h) in
    IfOk-weaker c.parted.result _ _ (λ new together i j l e.
    let g : j < length members = l.within in
    let h : i < length members = omega (arith, l.forward, g) in
    together i j h g (edges_meet c.args.nudge members c.deref.result.now i j e (one_together _ _ i j all h g))) c.parted.ensures.together
