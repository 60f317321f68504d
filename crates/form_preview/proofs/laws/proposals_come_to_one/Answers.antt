-- The law `proposals_come_to_one` holds.
use Rattle.form_preview.proofs.OneOutput.{one_output}
use Rattle.form_preview.proofs.laws.proposals_come_to_one.Goals as goal

pub returns : goal.returns
returns c = one_output c.one_answer.ensures c.one_list_of_answers.ensures
