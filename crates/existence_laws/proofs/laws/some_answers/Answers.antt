-- Each connector of the scene has an answer.
use Rattle.existence_laws.proofs.Answering.Answered.{some_answers}
use Rattle.existence_laws.proofs.laws.some_answers.Goals as goal

pub returns : goal.returns
returns c = some_answers
