-- The goals of `are_at_rest` that the check leaves.
use Rattle.std.proofs.Common.{below_more, refl}
use Rattle.separation_model.proofs.certificate.are_at_rest.Goals as goal

pub loop-i-preserved : goal.loop-i-preserved
loop-i-preserved c = below_more _ _ c.loop-i.invariant (c.if-not-is_item_at_rest.ensures.0 refl)
