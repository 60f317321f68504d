-- Each path keeps its side.
use Rattle.std.proofs.Common.{All}
use Rattle.std.proofs.lemmas.Result.{IfOk-weaker}
use Rattle.shared_paths.specs.Listed.{AreSharedPaths, KeepsItsSide}
use Rattle.shared_paths.proofs.AllPaths.Gathered.{all_keep}
use Rattle.shared_paths.proofs.sharing.shared.Goals as goal

pub returns-clause-sides : goal.returns-clause-sides
returns-clause-sides c =
    let routes = c.args.routes.now in
    IfOk-weaker c.paths_from.result (λ paths. AreSharedPaths routes paths.items) (λ paths. (p : AreSharedPaths routes paths.items) → All (KeepsItsSide routes) p.paired)
    (λ paths is. all_keep routes c.requires paths.items) c.paths_from.ensures
