-- The heading leads to the other point.
use Rattle.plane_geom.proofs.Headings.{straight_end}
use Rattle.plane_geom.proofs.point.Point.heading.Goals as goal

pub returns-then-other-self-clause-leads : goal.returns-then-other-self-clause-leads
returns-then-other-self-clause-leads c = straight_end c.args.self c.args.other

pub returns-else-self-other-2-clause-leads : goal.returns-else-self-other-2-clause-leads
returns-else-self-other-2-clause-leads c = straight_end c.args.self c.args.other
