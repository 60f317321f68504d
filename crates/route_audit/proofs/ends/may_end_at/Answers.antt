-- Heading by heading.
use Rattle.std.proofs.Common.{refl}
use Rattle.plane_geom.specs.declared.point.Dir.{Dir}
use Rattle.route_search.proofs.Moving.Directions.{each}
use Rattle.route_audit.specs.Ends.{MayEndBy}
use Rattle.route_audit.proofs.ends.may_end_at.Goals as goal

pub returns : goal.returns
returns c =
    let a = c.args in
    let fact : Dir → Type 0 = λ h. MayEndBy a.problem.now.task.now a.claim.now a.labels.now.rows.now a.ending.now h in (
      λ _. each fact c.loop-heading.heading-index c.loop-heading.invariant c.loop-heading-test.false,
      λ _. refl,
    )
