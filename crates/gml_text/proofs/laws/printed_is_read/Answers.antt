-- The law that what is printed is read again.
use Rattle.gml_text.proofs.Printing.{printed_is_spelling}
use Rattle.gml_text.proofs.laws.printed_is_read.Goals as goal

pub returns-clause-spelled : goal.returns-clause-spelled
returns-clause-spelled c = printed_is_spelling

pub returns-clause-read : goal.returns-clause-read
returns-clause-read c tree p = record { spelled = printed_is_spelling tree p.grammatical; within_limit = p.within_limit }
