-- The law is proved in `Rising`.
use Rattle.edit_script.proofs.Rising.{numbers_rise}
use Rattle.edit_script.proofs.laws.line_numbers_rise.Goals as goal

pub returns : goal.returns
returns c = numbers_rise
