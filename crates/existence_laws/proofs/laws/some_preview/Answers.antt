-- Edits that are not refused lead to a valid scene, which has right answers.
use Rattle.existence_laws.proofs.Answering.Previewed.{some_preview}
use Rattle.existence_laws.proofs.laws.some_preview.Goals as goal

pub returns : goal.returns
returns c = some_preview c.edits_keep_valid.ensures
