-- The commands so far are replied to.
use Rattle.std.proofs.Common.{take}
use Rattle.script_replay.specs.Replied.{AreReplied}
use Rattle.script_replay.proofs.script.replies_to.Given as goal

abbrev pub invariant-loop-number : goal.invariant-loop-number
invariant-loop-number g l = AreReplied (take l.number-index l.commands) l.fn.session l.session l.replies.items
