-- No walk from the origins so far turns into the run further back.
use Rattle.std.proofs.Common.{All, take}
use Rattle.search_problem.specs.Origins.{bound_from}
use Rattle.search_problem.specs.declared.origin.Origin.{Origin}
use Rattle.exit_spread.specs.Near.{IsNear}
use Rattle.exit_spread.proofs.near.near_from.Given as goal

abbrev pub invariant-loop-origin : goal.invariant-loop-origin
invariant-loop-origin l =
    All (λ (o : Origin). IsNear l.run (λ q. bound_from l.penalty o q l.before) l.penalty l.best l.near) (take l.origin-index l.origins)
