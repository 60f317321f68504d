-- The paths from the starts so far are there.
use Rattle.std.proofs.Common.{map}
use Rattle.std.specs.List.{AllZip}
use Rattle.std.specs.Map.Iter.{deref}
use Rattle.shared_paths.specs.Starts.{IsPathFrom}
use Rattle.shared_paths.proofs.sharing.paths_from.Given as goal

abbrev pub invariant-loop-start : goal.invariant-loop-start
invariant-loop-start l = AllZip (IsPathFrom l.routes) (map deref l.yielded) l.paths.items
