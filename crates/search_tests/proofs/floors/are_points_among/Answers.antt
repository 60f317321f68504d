-- One point more is among the anchors, in the end each.
use Rattle.std.proofs.Common.{All, Contains, refl, subst, arith}
use Rattle.std.proofs.lemmas.List.{take_all}
use Rattle.std.proofs.lemmas.List.Elements.{All-more}
use Rattle.search_tests.proofs.floors.are_points_among.Goals as goal

pub loop-point-preserved : goal.loop-point-preserved
loop-point-preserved c =
    All-more (Contains c.args.anchors.now) c.args.points.now c.loop-point.point-index _ (omega arith) c.loop-point.invariant (c.if-not-is_among.ensures refl)

pub returns : goal.returns
returns c = λ t. subst (All (Contains c.args.anchors.now)) (take_all c.loop-point.point-index c.args.points.now (omega arith)) c.loop-point.invariant
