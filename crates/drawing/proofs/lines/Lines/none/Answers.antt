-- No lines are in order.
use Rattle.std.proofs.Common.{subst, sym}
use Rattle.drawing.specs.Changes.{AreInOrder}
use Rattle.drawing.proofs.InOrder.{none_in_order}
use Rattle.drawing.proofs.lines.Lines.none.Goals as goal

pub invariant_of-result : goal.invariant_of-result
invariant_of-result c = subst AreInOrder (sym c.new.ensures.items) none_in_order
