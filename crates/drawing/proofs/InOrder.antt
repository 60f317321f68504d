-- No lines are in order.
use Rattle.std.proofs.Common.{[], not-suc-le-zero}
use Rattle.drawing.specs.Changes.{AreInOrder}

pub none_in_order : AreInOrder []
none_in_order i j d less within = absurd (not-suc-le-zero within)
