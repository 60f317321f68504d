-- The runs of the route before the index are added.
use Rattle.shared_paths.proofs.AllPaths.Stretches.{AreAdded}
use Rattle.shared_paths.proofs.stretch.add_stretches.Given as goal

abbrev pub invariant-loop-index : goal.invariant-loop-index
invariant-loop-index l = AreAdded l.routes l.route l.index l.initial.found.items l.found.items
