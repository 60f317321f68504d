-- Number, direction and steps are those of the segment.
use Rattle.std.proofs.Common.{◌≡◌, sym, subst}
use Rattle.plane_geom.specs.Point.{PointIsOnSheet, forward}
use Rattle.plane_geom.proofs.Headings.{straight_end}
use Rattle.walk_model.proofs.stretch.Stretch.between.Goals as goal

pub invariant_of-result-clause-ends_within : goal.invariant_of-result-clause-ends_within
invariant_of-result-clause-ends_within c =
    let end : forward c.heading.result c.distance.result c.args.from ≡ c.args.to = rw (c.heading.ensures.heading, c.distance.ensures) (straight_end c.args.from c.args.to c.requires.straight) in
    subst PointIsOnSheet (sym end) c.requires.to_within
