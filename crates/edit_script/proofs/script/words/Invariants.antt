-- The words so far.
use Rattle.std.proofs.Common.{◌≡◌}
use Rattle.edit_script.proofs.script.words.Given as goal

abbrev pub invariant-loop-word : goal.invariant-loop-word
invariant-loop-word l = l.list.items ≡ l.yielded
