-- The search ends at a step that takes flow, or the steps are a block.
use Rattle.std.proofs.Common.{◌<◌, ◌≤◌, length, arith, sym, ap, ◌∙◌, subst, true≢false}
use Rattle.separation_solve.specs.Network.{items_of}
use Rattle.separation_solve.specs.Reach.{IsReach, TakesFlow, start_of, step_at}
use Rattle.separation_solve.proofs.Searches.Extending.{block_of, closed_more, takes_more}
use Rattle.separation_solve.proofs.Searches.Reaches.{step_read}
use Rattle.separation_solve.proofs.reach.Reach.search.Goals as goal

pub takes_flow-requires-clause-node : goal.takes_flow-requires-clause-node
takes_flow-requires-clause-node c =
    let r = c.loop-next.self in
    let inside : c.loop-next.next < length r.steps.items = omega (arith, c.len.ensures, c.loop-next-test.true) in
    let node : (step_at r.steps.items c.loop-next.next).node ≤ items_of c.args.network.now = (c.loop-next.invariant.reach.steps c.loop-next.next inside).node in
    omega (arith, node, ap (λ s. s.node) (step_read r c.loop-next.next c.index.result.now inside c.index.ensures))

pub loop-next-preserved : goal.loop-next-preserved
loop-next-preserved c =
    let n = c.args.network.now in
    let r = c.loop-next.self in
    let s = c.extend.new.self in
    let was = c.loop-next.invariant in
    let i = c.loop-next.next in
    let inside : i < length r.steps.items = omega (arith, c.len.ensures, c.loop-next-test.true) in
    let after = c.in_ok-extend.ensures in
    let is = step_read r i c.index.result.now inside c.index.ensures in
    record {
      reach = subst (λ m. IsReach n m s) was.reach.first after.reach;
      within = omega (arith, inside, after.keeps.fewer);
      none_takes = takes_more n r s i after.keeps inside was.none_takes (λ takes. true≢false (sym (c.takes_flow.ensures.1 (subst (λ t. TakesFlow n t.node) (sym is) takes)) ∙ c.if-takes_flow.false));
      closed = closed_more n r s i after.keeps inside was.closed after.adds;
    }

pub returns : goal.returns
returns c =
    let n = c.args.network.now in
    let r = c.loop-next.self in
    let was = c.loop-next.invariant in
    let done : length r.steps.items ≤ c.loop-next.next = omega (arith, c.len.ensures, c.loop-next-test.false) in
    block_of n (start_of r) r (subst (λ m. IsReach n m r) (sym was.reach.first) was.reach) (λ k h. was.none_takes k (omega arith)) (λ k h. was.closed k (omega arith))
