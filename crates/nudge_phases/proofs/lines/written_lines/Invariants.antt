-- The lines of the routes so far are there.
use Rattle.std.proofs.Common.{take}
use Rattle.nudge_phases.specs.Lines.{IsWrittenLine}
use Rattle.nudge_phases.specs.Steps.{AreEach}
use Rattle.nudge_phases.proofs.lines.written_lines.Given as goal

abbrev pub invariant-loop-route : goal.invariant-loop-route
invariant-loop-route l = AreEach IsWrittenLine (take l.route-index l.routes) l.lines.items
