-- Routes have lists of shared paths.
use Rattle.std.specs.Prelude.{List}
use Rattle.shared_paths.specs.declared.path.EdgeRuns.{EdgeRuns}
use Rattle.shared_paths.specs.declared.path.SharedPath.{SharedPath}
use Rattle.shared_paths.specs.Listed.{AreRoutes, AreSharedPaths}

-- the law: routes that calls accept have a list of shared paths
abbrev pub HaveSharedPaths : Type 0
HaveSharedPaths = (routes : List EdgeRuns) → AreRoutes routes → (paths : List SharedPath) × AreSharedPaths routes paths
