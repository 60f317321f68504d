-- The numbers so far are numbered.
use Rattle.channel_bundles.specs.Classes.{AreTreeNumbers}
use Rattle.channel_bundles.proofs.forest.Forest.tree_numbers.Given as goal

abbrev pub invariant-loop-number : goal.invariant-loop-number
invariant-loop-number l = AreTreeNumbers l.self.above.items l.number l.roots.items l.numbers.items
