-- There is one first walk, and it has one route.
use Rattle.walk_model.proofs.Ranking.OneAnswer.{one_answer}
use Rattle.walk_model.proofs.order.one_answer.Goals as goal

pub returns : goal.returns
returns c = one_answer
