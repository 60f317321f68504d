-- All runs are in one group, and each parting keeps linked runs together.
use Rattle.std.proofs.Common.{◌≡◌, ℕ, ◌<◌, List, length, ◌∙◌, arith, subst, sym, w64, FitsSigned}
use Rattle.std.proofs.lemmas.Int.{to_z-of_z}
use Rattle.std.proofs.lemmas.Result.{IfOk-weaker}
use Rattle.channel_bundles.specs.Groups.{AreTogether}
use Rattle.channel_bundles.proofs.Grouping.{one_group, one_together, limits_meet, ranges_meet}
use Rattle.channel_bundles.proofs.groups.channels.Goals as goal

pub parted-requires-clause-groups : goal.parted-requires-clause-groups
parted-requires-clause-groups c = one_group _ _ (c.deref.ensures.value ∙ c.in_ok-all.ensures.items_if_clones_equal (λ y h. h))

same : (xs ys : List ℕ) (i j : ℕ) → xs ≡ ys → AreTogether ys i j → AreTogether xs i j
same xs ys i j e h = subst (λ zs. AreTogether zs i j) (sym e) h

pub returns-clause-together : goal.returns-clause-together
returns-clause-together c =
    let nudge = c.args.nudge in
    let fits : FitsSigned w64 c.args.nudge = c.ranges.nudge in
    let by_limits = simp to_z-of_z at c.in_ok-limits.ensures.together in
    let members = c.args.members.now in
    let all = c.deref.ensures.value ∙ c.in_ok-all.ensures.items_if_clones_equal (λ y h. h) in
    IfOk-weaker c.parted-2.result _ _ (λ new together i j l ne.
    let g : j < length members = l.within in
    let h : i < length members = omega (arith, l.forward, g) in
    let limits = by_limits i j h g (limits_meet nudge members c.deref.result.now i j c.requires.members c.requires.rising c.requires.nudge l (one_together _ _ i j all h g)) in
    together i j h g (ranges_meet nudge members c.deref-2.result.now i j l ne (same _ _ i j c.deref-2.ensures.value limits))) c.parted-2.ensures.together
