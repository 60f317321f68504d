-- The least is that by the origins of the place's stage.
use Rattle.std.proofs.Common.{List, ap, ◌∙◌}
use Rattle.search_problem.specs.Bounds.{least_bound_from}
use Rattle.search_problem.specs.declared.origin.Origin.{Origin}
use Rattle.search_problem.proofs.problem.Problem.bound.Goals as goal

pub returns-clause-exact : goal.returns-clause-exact
returns-clause-exact c =
    c.least_bound.ensures.exact ∙ ap (λ (os : List Origin). least_bound_from c.args.self.now.task.now.penalty os c.args.at c.args.place.now.heading) c.origins_after-origins.ensures.exact
