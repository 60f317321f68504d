-- A choice without a crossing at its port has no entry; a stub and a connection cost are small.
use Rattle.std.proofs.Common.{◌+◌, List, refl, ap, subst, arith}
use Rattle.plane_geom.specs.declared.point.Point.{Point}
use Rattle.move_model.specs.Places.{ComesTo}
use Rattle.search_problem.proofs.StubLengths.{short_stub}
use Rattle.search_problem.proofs.ends.entry_of.Goals as goal

pub returns-in_err-crossing-clause-none : goal.returns-in_err-crossing-clause-none
returns-in_err-crossing-clause-none c = λ _ x enters. c.in_err-crossing.ensures.absent.0 refl x.crossing enters.here

pub overflow_add-result : goal.overflow_add-result
overflow_add-result c =
    let short = short_stub c.args.start c.requires.choice in
    omega (arith, short, c.distance.ensures, c.requires.choice.cost)

pub returns-clause-entry : goal.returns-clause-entry
returns-clause-entry c = record {
  is_start = c.requires.number;
  port = refl;
  enters = record {
    free = c.if-not-has_free_stub.ensures.0 refl;
    here = c.in_ok-crossing.ensures.found;
    heading = refl;
    stage = subst (λ (via : List Point). ComesTo via 0 c.args.start.port c.stage_at.result) c.as_slice.ensures c.stage_at.ensures;
  };
  lead = ap (λ n. n + c.args.start.cost) c.distance.ensures;
}
