-- The walks that cost no more than a first walk may are searched.
use Rattle.existence_laws.proofs.Answering.Answered.{some_answer}
use Rattle.existence_laws.proofs.laws.some_answer.Goals as goal

pub returns : goal.returns
returns c = some_answer
