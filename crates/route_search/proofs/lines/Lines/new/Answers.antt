-- The lists of the arena match it.
use Rattle.std.proofs.Common.{subst}
use Rattle.side_touches.specs.Touches.{AreTouches}
use Rattle.route_search.proofs.Matching.{lists_match}
use Rattle.route_search.proofs.lines.Lines.new.Goals as goal

pub returns : goal.returns
returns c = record {
  are_lists = lists_match c.args.arena.now c.laws.ensures.arena c.in_ok-lists.lists c.in_ok-lists.ensures;
  are_touches = ∣ subst (λ ls. AreTouches ls c.args.solids.now c.in_ok-touches.touches) c.lines.ensures c.in_ok-touches.ensures.touches ∣₁;
  are_sorted = c.in_ok-sorted.ensures;
}
