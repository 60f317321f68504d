-- So far each number stands above itself.
use Rattle.std.proofs.Common.{◌≡◌, ℕ, ◌<◌, length, get_or}
use Rattle.channel_bundles.proofs.forest.Forest.new.Given as goal

abbrev pub invariant-loop-number : goal.invariant-loop-number
invariant-loop-number l = (length l.above.items ≡ l.number) × ((k : ℕ) → k < l.number → get_or l.above.items k 0 ≡ k)
