-- So it is in the headings so far.
use Rattle.std.proofs.Common.{ℕ, ◌<◌, get_or}
use Rattle.plane_geom.specs.declared.point.Dir.TheVariants.{East}
use Rattle.route_audit.specs.Moves.{ArrivesWell}
use Rattle.route_audit.proofs.moves.all_arrive_well.Given as goal

abbrev pub invariant-loop-heading : goal.invariant-loop-heading
invariant-loop-heading l = (k : ℕ) → k < l.heading-index → ArrivesWell l.claim l.row l.penalty l.steps l.dir l.there (get_or l.heading-items k East)
