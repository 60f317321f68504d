-- The verdict is one.
use Rattle.std.proofs.Common.{◌≡◌, ℕ, Result, Ok, refl, sym, subst, arith}
use Rattle.route_check.specs.declared.verdict.Breach.{Breach}
use Rattle.route_check.specs.Verdict.{IsLeastCost}
use Rattle.route_audit.proofs.line.is_line_of.Goals as goal

same_cost : (m n : ℕ) → ◌≡◌ {A = Result ℕ Breach} (Ok m) (Ok n) → m ≡ n
same_cost m n e = cc

pub returns-in-Ok : goal.returns-in-Ok
returns-in-Ok c = λ floor solids.
    let task = c.args.task.now in
    let points = c.args.points.now in (
      λ yes.
          let same : c.in-Ok.least ≡ c.args.cost = grind (arith, yes) in
          record {
            polyline = c.if-not-is_polyline.ensures.0 refl;
            reached = subst (λ s. IsLeastCost s task points c.args.cost) (sym solids) (subst (IsLeastCost c.args.solids.now task points) same c.in-Ok.ensures);
            small = omega (arith, c.if-cost-ge-MOST_LABEL.false);
          },
      λ line.
          let both = c.one_verdict.ensures c.args.solids.now task points c.requires.task (Ok c.in-Ok.least) (Ok c.args.cost) c.in-Ok.ensures (subst
          (λ s. IsLeastCost s task points c.args.cost) solids line.reached) in
          let same : c.in-Ok.least ≡ c.args.cost = same_cost c.in-Ok.least c.args.cost both in
          grind (arith, same),
    )
