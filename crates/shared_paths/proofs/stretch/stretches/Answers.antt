-- A sort only moves stretches, and leaves them in order.
use Rattle.std.proofs.lemmas.List.Sorted.{All-permutation, Contains-permutation}
use Rattle.shared_paths.specs.Starts.{IsStretch, stretch_of}
use Rattle.shared_paths.proofs.AllPaths.Stretches.{in_order}
use Rattle.shared_paths.proofs.stretch.stretches.Goals as goal

pub returns : goal.returns
returns c =
    let routes = c.args.routes.now in
    let found = c.in_ok-found.found.items in
    let sorted = c.sort_unstable.new.self.items in
    record {
      each = All-permutation (IsStretch routes) found sorted c.sort_unstable.ensures.permutation c.in_ok-found.ensures.each;
      all = λ k m l h. Contains-permutation found sorted (stretch_of routes k m) c.sort_unstable.ensures.permutation (c.in_ok-found.ensures.all k m l h);
      order = in_order sorted c.sort_unstable.ensures.sorted;
    }
