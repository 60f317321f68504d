-- The edits so far, and those of the checkpoints that are left, give the whole.
use Rattle.std.proofs.Common.{◌≡◌, ◌+◌, ◌++◌, drop}
use Rattle.drawing.specs.Reconnect.{passing}
use Rattle.drawing.proofs.reconnect.push_checkpoints.Given as goal

abbrev pub invariant-loop-point : goal.invariant-loop-point
invariant-loop-point l = record {
  counted : l.place ≡ l.point-index + 1;
  made : l.edits.items ++ passing l.number l.place (drop l.point-index l.via) ≡ l.fn.edits.items ++ passing l.number 1 l.via;
}
