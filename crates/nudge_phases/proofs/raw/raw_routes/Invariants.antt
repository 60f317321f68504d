-- The raw routes of the answers so far are there.
use Rattle.std.proofs.Common.{take}
use Rattle.nudge_phases.specs.Raw.{AreRawRoutes}
use Rattle.nudge_phases.proofs.raw.raw_routes.Given as goal

abbrev pub invariant-loop-answer : goal.invariant-loop-answer
invariant-loop-answer l = AreRawRoutes l.scene (take l.answer-index l.answers) l.raw.items
