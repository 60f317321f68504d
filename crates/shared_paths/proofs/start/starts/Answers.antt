-- Each start is at two of the stretches.
use Rattle.std.proofs.Common.{ℕ, ◌<◌, length, sym, subst}
use Rattle.std.specs.Prelude.{Contains}
use Rattle.std.proofs.lemmas.Result.{IfOk-weaker}
use Rattle.shared_paths.specs.declared.start.Start.{Start}
use Rattle.shared_paths.specs.Listed.{route_at}
use Rattle.shared_paths.specs.Starts.{IsStart, stretch_of}
use Rattle.shared_paths.proofs.AllPaths.Starting.{StartAtTwo, all_found}
use Rattle.shared_paths.proofs.start.starts.Goals as goal

pub returns-clause-all : goal.returns-clause-all
returns-clause-all c =
    let routes = c.args.routes.now in
    let xs = c.deref.result.now in
    let there : (k m : ℕ) → k < length routes → m < length (route_at routes k).runs → Contains xs (stretch_of routes k m) = λ k m l h.
    subst (λ ys. Contains ys (stretch_of routes k m)) (sym c.deref.ensures.value) (c.in_ok-stretches.ensures.all k m l h) in
    IfOk-weaker c.starts_among.result (λ found. StartAtTwo routes xs found.keys) (λ found. (s : Start) → IsStart routes s → Contains found.keys s)
    (λ found all. all_found routes xs found.keys there all) c.starts_among.ensures.all
