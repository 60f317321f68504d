-- A choice without a crossing at its port has no ending; a stub and a connection cost are small.
use Rattle.std.proofs.Common.{◌+◌, refl, ap, arith}
use Rattle.search_problem.proofs.StubLengths.{short_stub}
use Rattle.search_problem.proofs.ends.ending_of.Goals as goal

pub returns-in_err-crossing-clause-none : goal.returns-in_err-crossing-clause-none
returns-in_err-crossing-clause-none c = λ _ _ crossing here. c.in_err-crossing.ensures.absent.0 refl crossing here

pub overflow_add-result : goal.overflow_add-result
overflow_add-result c =
    let short = short_stub c.args.end c.requires.choice in
    omega (arith, short, c.distance-stub.ensures, c.requires.choice.cost)

pub returns-clause-ending : goal.returns-clause-ending
returns-clause-ending c = record {
  is_end = c.requires.number;
  port = refl;
  free = c.if-not-has_free_stub.ensures.0 refl;
  here = c.in_ok-crossing.ensures.found;
  dir = c.opposite.ensures;
  stub = c.distance-stub.ensures;
  rest = ap (λ n. n + c.args.end.cost) c.distance-stub.ensures;
}
