-- Replies are one list.
use Rattle.form_make.proofs.OneOutput.{one_output}
use Rattle.form_make.proofs.laws.seeds_come_to_one.Goals as goal

pub returns : goal.returns
returns c = one_output c.one_list_of_replies.ensures
