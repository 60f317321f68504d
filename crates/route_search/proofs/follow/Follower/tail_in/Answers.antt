-- One ending more, and the earlier of its stub and what was found.
use Rattle.std.proofs.Common.{◌≡◌, ◌+◌, [], ◌∷◌, ◌++◌, rules, take, sym, ap, subst, ◌∙◌}
use Rattle.std.proofs.lemmas.List.{take_more}
use Rattle.search_problem.specs.declared.ends.Ending.{Ending}
use Rattle.route_search.specs.Following.{IsEarliest, IsTailIn}
use Rattle.route_search.proofs.Tracing.Tails.{tails_begin, tails_stay, tails_take}
use Rattle.route_search.proofs.follow.Follower.tail_in.Goals as goal
use Rattle.route_search.proofs.follow.Follower.tail_in.Goals.{then-may_end, else-may_end}

pub loop-ending-init : goal.loop-ending-init
loop-ending-init c = tails_begin c.args.self.now.problem.now c.args.standing.now c.args.dir c.under_way-best.result c.under_way-best.ensures.some

pub loop-ending-preserved : goal.loop-ending-preserved
loop-ending-preserved c =
    let p = c.args.self.now.problem.now in
    let s = c.args.standing.now in
    let xs = p.endings.items in
    let i = c.loop-ending.ending-index in
    let e = c.ending-item.result in
    let before = take i xs in
    let cut : take (i + 1) xs ≡ before ++ e ∷ [] = take_more xs i e (rw c.deref-ending-items.ensures.value at c.loop-ending-test.true) ∙ ap (λ (k : Ending). before ++ k ∷ []) (sym (rw c.deref-ending-items.ensures.value at c.ending-item.is)) in
    subst (λ ys. IsEarliest (IsTailIn p s c.args.dir ys) c.if-may_end.best) (sym cut)
    (elim c.if-may_end.branch as (λ _. IsEarliest (IsTailIn p s c.args.dir (before ++ e ∷ [])) c.if-may_end.best) [
      | then-may_end w ↦ subst (IsEarliest (IsTailIn p s c.args.dir (before ++ e ∷ []))) (sym w.best-is)
          (tails_take p s c.args.dir before e c.loop-ending.best c.loop-ending.invariant w.earlier.result (c.may_end.ensures.0 w.if-may_end.true)
          (search rules) (search rules) (search rules))
      | else-may_end w ↦ subst (IsEarliest (IsTailIn p s c.args.dir (before ++ e ∷ []))) (sym w.best-is)
          (tails_stay p s c.args.dir before e c.loop-ending.best c.loop-ending.invariant (λ may. search rules))
    ])
