-- The law is proved in `Once`.
use Rattle.proof_text.proofs.Once.{front_is_text, text_is_front}
use Rattle.proof_text.proofs.laws.fronts_are_texts.Goals as goal

pub returns : goal.returns
returns c = λ front count lines. (front_is_text front count lines, text_is_front front)
