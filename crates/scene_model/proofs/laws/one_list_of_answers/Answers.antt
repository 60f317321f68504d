-- The law `one_list_of_answers` holds.
use Rattle.scene_model.proofs.ForRouting.OneList.{one_list}
use Rattle.scene_model.proofs.laws.one_list_of_answers.Goals as goal

pub returns : goal.returns
returns c = one_list
