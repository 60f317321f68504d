-- The path has reached this pair.
use Rattle.std.proofs.Common.{◌≡◌}
use Rattle.shared_paths.specs.Pairs.{IsPair}
use Rattle.shared_paths.specs.Views.{view}
use Rattle.shared_paths.proofs.AlongPaths.Ahead.{Reaches}
use Rattle.shared_paths.proofs.pair.Routes.last.Given as goal

abbrev pub invariant-loop-run : goal.invariant-loop-run
invariant-loop-run l = record {
  pair : IsPair l.self.a.now l.self.b.now (view l.last);
  at : l.last.a ≡ l.run;
  reaches : Reaches l.self.a.now l.self.b.now (view l.fn.first) (view l.last);
}
