-- An empty segment gives way to the next one.
use Rattle.walk_model.proofs.Ranking.StepLists.{same_next}
use Rattle.walk_model.proofs.steps.steps_from.Goals as goal

pub loop-stretch-preserved : goal.loop-stretch-preserved
loop-stretch-preserved c =
    rw (c.heading-dir.ensures.heading, c.distance-stretch.ensures)
    (same_next _ _ _ _ c.loop-stretch.dir c.loop-stretch.stretch c.loop-stretch.at c.loop-stretch.rest.now _ _ c.loop-stretch-test.true c.in-Some.ensures.cases.0 c.loop-stretch.invariant)
