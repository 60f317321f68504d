-- The goals of `Reach::add` that the check leaves.
use Rattle.std.proofs.Common.{◌≡◌, Some, None, length, arith, ap, set}
use Rattle.std.proofs.lemmas.List.{get_or_read}
use Rattle.separation_solve.specs.Reach.{found_at, start_of}
use Rattle.separation_solve.proofs.Searches.Reaches.{not_found_is, reach_added}
use Rattle.separation_solve.proofs.reach.Reach.add.Goals as goal

pub returns-in_ok-push-clause-reach : goal.returns-in_ok-push-clause-reach
returns-in_ok-push-clause-reach c = λ n reach following.
    let r = c.args.self.now in
    let new : found_at r.found.items c.args.step.node ≡ None = not_found_is _ _ _ c.is_none.ensures c.if-is_none.true
    (get_or_read r.found.items c.args.step.node c.index.result.now c.requires c.index.ensures None) in
    let len : c.len-index.result ≡ length r.steps.items = omega (arith, c.len-index.ensures) in
    reach_added n (start_of r) r _ c.args.step reach (record { new = new; is_step = following.is_step; come_by = following.come_by })
    c.in_ok-push.ensures.items (ap (λ k. set r.found.items c.args.step.node (Some k)) len)
