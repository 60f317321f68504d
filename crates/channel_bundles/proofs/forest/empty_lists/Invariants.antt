-- For each size so far there is an empty list.
use Rattle.std.proofs.Common.{◌≡◌, length, []}
use Rattle.std.specs.Prelude.{All}
use Rattle.channel_bundles.proofs.forest.empty_lists.Given as goal

abbrev pub invariant-loop-size : goal.invariant-loop-size
invariant-loop-size l = (length l.lists.items ≡ l.size-index) × All (λ list. list.items ≡ []) l.lists.items
