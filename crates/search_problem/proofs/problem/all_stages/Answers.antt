-- The next stage goes on from the last one.
use Rattle.std.proofs.Common.{◌≡◌, ◌-◌, List, [], ◌∷◌, ◌++◌, All, length, get_or, sym, ap, subst, ◌∙◌, arith, length-append}
use Rattle.std.specs.Prelude.{Vec}
use Rattle.std.specs.declared.alloc.Global.{Global}
use Rattle.search_problem.specs.Bounds.{AreStages, checkpoint, origins_after, origins_at}
use Rattle.search_problem.specs.Origins.{IsOrigin}
use Rattle.search_problem.specs.declared.origin.Origin.{Origin}
use Rattle.search_problem.proofs.Stages.{kept_stage, next_stage, read_stage}
use Rattle.search_problem.proofs.problem.all_stages.Goals as goal
use Rattle.search_problem.proofs.problem.all_stages.Goals.{After-deref}

-- what was read is the last stage
last : (c : After-deref) → origins_after c.loop-at.stages.items c.loop-at.at-index ≡ c.deref.result.now
last c =
    let stages = c.loop-at.stages.items in
    let v = c.index.result.now in
    let count = c.loop-at.invariant.count in
    let number : c.len.result - 1 ≡ c.loop-at.at-index = omega (arith, c.len.ensures, count, c.loop-at.stages.ok.0) in
    read_stage stages v c.loop-at.at-index (omega (arith, count)) (c.index.ensures ∙ ap (λ k. get_or stages k v) number) ∙ sym c.deref.ensures.value

pub origins_at-requires-clause-origins : goal.origins_at-requires-clause-origins
origins_at-requires-clause-origins c =
    let at = (goal.at.origins_at-requires-clause-origins c).After-deref in
    let count = c.loop-at.invariant.count in
    subst (All IsOrigin) (last at) (c.loop-at.invariant.stages.each c.loop-at.at-index (omega (arith, count)))

pub loop-at-preserved : goal.loop-at-preserved
loop-at-preserved c =
    let at = (goal.at.loop-at-preserved c).After-deref in
    let stages = c.loop-at.stages.items in
    let next = c.in_ok-next.next in
    let i = c.loop-at.at-index in
    let count = c.loop-at.invariant.count in
    let pushed : c.push.new.self.items ≡ stages ++ next ∷ [] = c.in_ok-push.ensures.items in
    let is : next.items ≡ origins_at c.args.penalty (origins_after stages i) (checkpoint c.args.via.now i) =
    c.in_ok-next.ensures.exact ∙ ap (λ (os : List Origin). origins_at c.args.penalty os (checkpoint c.args.via.now i)) (sym (last at)) in
    record {
      first = ap (λ (xs : List (Vec Origin Global)). origins_after xs 0) pushed ∙ kept_stage stages next 0 (omega (arith, count)) ∙ c.loop-at.invariant.first;
      stages = subst (AreStages c.args.penalty c.args.via.now) (sym pushed) (next_stage stages next c.args.penalty c.args.via.now i count c.loop-at.invariant.stages is c.in_ok-next.ensures.origins);
      count = omega (arith, ap length pushed, length-append stages (next ∷ []), count);
    }
