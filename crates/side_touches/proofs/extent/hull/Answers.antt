-- The hull with one more extent.
use Rattle.std.proofs.Common.{◌+◌, take, refl, sym, subst}
use Rattle.std.proofs.lemmas.List.{take_all}
use Rattle.side_touches.specs.Extents.{IsHull}
use Rattle.side_touches.proofs.Meeting.{hull_more, hull_none}
use Rattle.side_touches.proofs.extent.hull.Goals as goal

pub loop-extent-init : goal.loop-extent-init
loop-extent-init c = hull_none _ refl refl

pub loop-extent-preserved : goal.loop-extent-preserved
loop-extent-preserved c =
    subst (IsHull (take (c.loop-extent.extent-index + 1) c.args.extents.now)) (sym c.join-hull.ensures)
    (hull_more c.args.extents.now c.loop-extent.extent-index _ c.loop-extent.hull c.loop-extent-test.true c.loop-extent.invariant)

pub returns : goal.returns
returns c = subst (λ xs. IsHull xs c.loop-extent.hull) (take_all c.loop-extent.extent-index c.args.extents.now c.loop-extent-test.false) c.loop-extent.invariant
