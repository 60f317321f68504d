-- An empty stretch gives way to the next segment.
use Rattle.std.proofs.Common.{◌∙◌, sym}
use Rattle.walk_model.proofs.Ranking.StepLists.{drop-stretch}
use Rattle.walk_model.proofs.steps.RemainingSteps.after.Goals as goal

pub returns-clause-left : goal.returns-clause-left
returns-clause-left c = c.steps_from.ensures.steps ∙ sym (drop-stretch _ _ _ _ c.requires.within)
