-- What the loop of `set_upper_limits` keeps.
use Rattle.std.proofs.Common.{◌≡◌, ℕ, ◌<◌, length}
use Rattle.separation_model.specs.Bundle.{int_at, item_at}
use Rattle.separation_model.proofs.latest.set_upper_limits.Given as goal

abbrev pub invariant-loop-index : goal.invariant-loop-index
invariant-loop-index l = record {
  count : length l.places ≡ length l.fn.places;
  done : (i : ℕ) → i < l.index → int_at l.places i ≡ (item_at l.items i).hi;
}
