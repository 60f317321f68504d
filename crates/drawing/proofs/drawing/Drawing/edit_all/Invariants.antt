-- The edits so far are made.
use Rattle.std.proofs.Common.{Ok, take}
use Rattle.drawing.specs.Reconnect.{AreEdited}
use Rattle.drawing.proofs.drawing.Drawing.edit_all.Given as goal

abbrev pub invariant-loop-edit : goal.invariant-loop-edit
invariant-loop-edit l = AreEdited (take l.edit-index l.edits) (Ok tt) l.fn.self l.self
