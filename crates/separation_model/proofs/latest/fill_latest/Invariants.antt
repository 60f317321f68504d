-- What the loop of `fill_latest` keeps.
use Rattle.std.proofs.Common.{◌≡◌, length}
use Rattle.separation_model.proofs.Gaps.Bounds.{IsBound}
use Rattle.separation_model.proofs.latest.fill_latest.Given as goal

abbrev pub invariant-loop-j : goal.invariant-loop-j
invariant-loop-j l = record {
  bound : IsBound l.bundle l.gap l.by_left l.j l.places;
  count : length l.places ≡ length l.fn.places;
}
