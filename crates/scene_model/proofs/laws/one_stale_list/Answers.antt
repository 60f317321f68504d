-- The law `one_stale_list` holds.
use Rattle.scene_model.proofs.ForRouting.Fresh.{one_stale_list}
use Rattle.scene_model.proofs.laws.one_stale_list.Goals as goal

pub returns : goal.returns
returns c = one_stale_list
