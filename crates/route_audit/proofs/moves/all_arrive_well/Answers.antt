-- Heading by heading.
use Rattle.std.proofs.Common.{refl}
use Rattle.plane_geom.specs.declared.point.Dir.{Dir}
use Rattle.route_search.proofs.Moving.Directions.{each}
use Rattle.route_audit.specs.Moves.{ArrivesWell}
use Rattle.route_audit.proofs.moves.all_arrive_well.Goals as goal

pub returns : goal.returns
returns c =
    let a = c.args in
    let fact : Dir → Type 0 = λ h. ArrivesWell a.claim.now a.row.now a.penalty a.steps a.dir a.there h in (
      λ _. each fact c.loop-heading.heading-index c.loop-heading.invariant c.loop-heading-test.false,
      λ _. refl,
    )
