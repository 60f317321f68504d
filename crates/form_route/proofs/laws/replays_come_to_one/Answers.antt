-- The law `replays_come_to_one` holds.
use Rattle.form_route.proofs.OneOutput.{comes_to_one}
use Rattle.form_route.proofs.laws.replays_come_to_one.Goals as goal

pub returns : goal.returns
returns c = comes_to_one c.one_list_of_replies.ensures c.one_list_of_answers.ensures c.scenes_stay_valid.ensures c.one_nudged_scene.ensures
