-- The origins of the stage are read.
use Rattle.std.proofs.Common.{◌≡◌, ◌<◌, All, length, sym, subst, ◌∙◌, arith}
use Rattle.search_problem.specs.Bounds.{origins_after}
use Rattle.search_problem.specs.Origins.{IsOrigin}
use Rattle.search_problem.proofs.Stages.{read_stage}
use Rattle.search_problem.proofs.problem.Problem.origins_after.Goals as goal
use Rattle.search_problem.proofs.problem.Problem.origins_after.Goals.{After-deref}

-- there is such a stage
within : (c : After-deref) → c.args.stage < length c.args.self.now.origins.items
within c = omega (arith, c.requires.ready.all_stages, c.requires.stage)

-- and these are its origins
read : (c : After-deref) → origins_after c.args.self.now.origins.items c.args.stage ≡ c.deref.result.now
read c = read_stage c.args.self.now.origins.items c.index.result.now c.args.stage (within c) c.index.ensures ∙ sym c.deref.ensures.value

pub returns-clause-exact : goal.returns-clause-exact
returns-clause-exact c = sym (read (goal.at.returns-clause-exact c).After-deref)

pub returns-clause-origins : goal.returns-clause-origins
returns-clause-origins c =
    let at = (goal.at.returns-clause-origins c).After-deref in
    subst (All IsOrigin) (read at) (c.requires.ready.stages.each c.args.stage (within at))
