-- The commands so far, and those of the lines that are left, are the commands of the script.
use Rattle.std.proofs.Common.{◌≡◌, ◌++◌, suc, length, drop}
use Rattle.edit_script.specs.Script.{commands, commands_from, lines}
use Rattle.edit_script.proofs.script.commands.Given as goal

abbrev pub invariant-loop-index : goal.invariant-loop-index
invariant-loop-index l =
    l.list.items ++ commands_from (suc (length l.yielded)) (drop (length l.yielded) (lines l.bytes)) ≡ commands l.bytes
