-- So it is in the headings so far.
use Rattle.std.proofs.Common.{ℕ, ◌<◌, get_or}
use Rattle.plane_geom.specs.declared.point.Dir.TheVariants.{East}
use Rattle.route_audit.specs.Rows.{HasRightLabel}
use Rattle.route_audit.proofs.rows.has_right_labels.Given as goal

abbrev pub invariant-loop-heading : goal.invariant-loop-heading
invariant-loop-heading l = (k : ℕ) → k < l.heading-index → HasRightLabel l.claim l.row (get_or l.heading-items k East)
