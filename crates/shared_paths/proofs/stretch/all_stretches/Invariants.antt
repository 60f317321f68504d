-- The runs of the routes before this one are found.
use Rattle.shared_paths.proofs.AllPaths.Stretches.{AreFound}
use Rattle.shared_paths.proofs.stretch.all_stretches.Given as goal

abbrev pub invariant-loop-route : goal.invariant-loop-route
invariant-loop-route l = AreFound l.routes l.route l.found.items
