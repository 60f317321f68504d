-- The commands so far are done.
use Rattle.std.proofs.Common.{take}
use Rattle.drawing.specs.Played.{AreDone}
use Rattle.drawing.proofs.drawing.Drawing.play_commands.Given as goal

abbrev pub invariant-loop-line : goal.invariant-loop-line
invariant-loop-line l = AreDone (take l.line-index l.commands) l.fn.self l.self
