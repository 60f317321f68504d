-- The box and the lead hold the new entry and the old ones.
use Rattle.std.proofs.Common.{arith}
use Rattle.std.proofs.lemmas.Int.{ints}
use Rattle.search_problem.proofs.origin.Origin.with.Goals as goal

pub returns-clause-entry : goal.returns-clause-entry
returns-clause-entry c = λ same. record {
  dir = same;
  port = record { left = omega (arith, ints); right = omega (arith, ints); top = omega (arith, ints); bottom = omega (arith, ints) };
  lead = omega (arith, c.min.ensures);
}

pub returns-clause-others : goal.returns-clause-others
returns-clause-others c = λ e h. record {
  dir = h.dir;
  port = record { left = omega (arith, ints); right = omega (arith, ints); top = omega (arith, ints); bottom = omega (arith, ints) };
  lead = omega (arith, c.min.ensures);
}
