-- What the loop of `widest_gap` keeps.
use Rattle.std.proofs.Common.{◌≡◌, ◌-ℤ◌, length}
use Rattle.std.specs.Prelude.{unsigned_abs}
use Rattle.separation_model.proofs.Gaps.Widest.{IsBetween}
use Rattle.separation_model.proofs.gap.widest_gap.Given as goal

abbrev pub invariant-loop-met : goal.invariant-loop-met
invariant-loop-met l = record {
  between : IsBetween l.bundle l.met l.unmet;
  count : length l.places.items ≡ length l.bundle.items.items;
}

abbrev pub decreases-loop-met : goal.decreases-loop-met
decreases-loop-met l = unsigned_abs (l.unmet -ℤ l.met)
