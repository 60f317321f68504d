-- Those found are of the answers so far.
use Rattle.std.proofs.Common.{take}
use Rattle.route_causes.specs.Unrouted.{AreUnrouted}
use Rattle.route_causes.proofs.list.all_unrouted.Given as goal

abbrev pub invariant-loop-answer : goal.invariant-loop-answer
invariant-loop-answer l = AreUnrouted l.scene (take l.answer-index l.answers) l.found.items
