-- So it is in the headings so far.
use Rattle.std.proofs.Common.{ℕ, ◌<◌, get_or}
use Rattle.plane_geom.specs.declared.point.Dir.TheVariants.{East}
use Rattle.route_audit.specs.Ends.{MayEndBy}
use Rattle.route_audit.proofs.ends.may_end_at.Given as goal

abbrev pub invariant-loop-heading : goal.invariant-loop-heading
invariant-loop-heading l =
    (k : ℕ) → k < l.heading-index → MayEndBy l.problem.task.now l.claim l.labels.rows.now l.ending (get_or l.heading-items k East)
