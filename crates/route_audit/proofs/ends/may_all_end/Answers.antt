-- One ending more; in the end all.
use Rattle.std.proofs.Common.{All, subst, refl}
use Rattle.std.proofs.lemmas.List.{take_all}
use Rattle.std.proofs.lemmas.List.Elements.{All-more}
use Rattle.search_problem.specs.declared.ends.Ending.{Ending}
use Rattle.route_audit.specs.Ends.{MayEndAt}
use Rattle.route_audit.proofs.ends.may_all_end.Goals as goal

pub loop-ending-preserved : goal.loop-ending-preserved
loop-ending-preserved c =
    let fact : Ending → Type 0 = MayEndAt c.args.problem.now.task.now c.args.claim.now c.args.labels.now.rows.now in
    All-more fact c.args.endings.now c.loop-ending.ending-index c.ending-item.result c.loop-ending-test.true c.loop-ending.invariant
    (subst fact c.ending-item.is (c.if-not-may_end_at.ensures.0 refl))

pub returns : goal.returns
returns c = (
  λ _. subst (All (MayEndAt c.args.problem.now.task.now c.args.claim.now c.args.labels.now.rows.now))
      (take_all c.loop-ending.ending-index c.args.endings.now c.loop-ending-test.false) c.loop-ending.invariant,
  λ _. refl,
)
