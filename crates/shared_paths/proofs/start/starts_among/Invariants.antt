-- The starts at the stretches before this one and a later one are found.
use Rattle.shared_paths.proofs.AllPaths.Starting.{AreStartsAt}
use Rattle.shared_paths.proofs.start.starts_among.Given as goal

abbrev pub invariant-loop-place : goal.invariant-loop-place
invariant-loop-place l = AreStartsAt l.routes l.stretches l.place l.found.keys
