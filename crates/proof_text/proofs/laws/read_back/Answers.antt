-- The law is proved in `Once`.
use Rattle.proof_text.proofs.Once.{read_again, no_fault}
use Rattle.proof_text.proofs.laws.read_back.Goals as goal

pub returns : goal.returns
returns c = record { same = read_again; no_fault = no_fault }
