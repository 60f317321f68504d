-- The law of reuse.
use Rattle.route_book.proofs.Staying.Reuse.{answers_stay}
use Rattle.route_book.proofs.laws.current_answers_stay.Goals as goal

pub returns : goal.returns
returns c = answers_stay
