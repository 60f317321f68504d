-- The law is proved in `Once`.
use Rattle.proof_text.proofs.Once.{one_list, one_line, not_both}
use Rattle.proof_text.proofs.laws.read_once.Goals as goal

pub returns : goal.returns
returns c = record { one_list = one_list; one_line = one_line; not_both = not_both }
