-- One point more lies on the sheet.
use Rattle.std.proofs.lemmas.List.Elements.{All-push}
use Rattle.plane_geom.specs.Point.{PointIsOnSheet}
use Rattle.search_tests.proofs.choices.points.Goals as goal

pub loop-x-preserved : goal.loop-x-preserved
loop-x-preserved c = rw c.in_ok-push.ensures.items (All-push PointIsOnSheet c.loop-x.points.items c.point.result c.loop-x.invariant c.point.ensures.within)
