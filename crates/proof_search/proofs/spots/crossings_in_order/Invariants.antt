-- The spots so far are those of the lines so far.
use Rattle.std.proofs.Common.{take}
use Rattle.proof_search.specs.Spots.{AreOfLines}
use Rattle.proof_search.proofs.spots.crossings_in_order.Given as goal

abbrev pub invariant-loop-line : goal.invariant-loop-line
invariant-loop-line l = AreOfLines l.arena (take l.line-index l.line-items) l.spots.items
