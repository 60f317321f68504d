-- The law `shares_come_to_one` holds.
use Rattle.form_shared.proofs.OneText.{comes_to_one}
use Rattle.form_shared.proofs.laws.shares_come_to_one.Goals as goal

pub returns : goal.returns
returns c = comes_to_one c.one_list_of_answers.ensures c.one_nudged_scene.ensures c.one_list_of_paths.ensures
