-- The number goes up as long as the next checkpoint stands at the point.
use Rattle.move_model.proofs.Moving.Stages.{one_stage, some_stage}
use Rattle.move_model.proofs.laws.one_stage.Goals as goal

pub returns : goal.returns
returns c = record { one = one_stage; some = some_stage }
