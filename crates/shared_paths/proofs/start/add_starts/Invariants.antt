-- The starts at the one stretch and those before this one are added.
use Rattle.shared_paths.proofs.AllPaths.Starting.{AreAdded}
use Rattle.shared_paths.proofs.start.add_starts.Given as goal

abbrev pub invariant-loop-other : goal.invariant-loop-other
invariant-loop-other l = AreAdded l.routes l.one l.later l.other-index l.initial.found.keys l.found.keys
