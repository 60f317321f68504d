-- What is found for all connectors are the right answers.
use Rattle.route_book.proofs.Answering.Searched.{all_right}
use Rattle.route_book.proofs.book.Book.build_alone.Goals as goal

pub returns-clause-right : goal.returns-clause-right
returns-clause-right c =
    all_right c.args.scene.now c.in_ok-numbers.numbers.items c.deref.result.now c.in_ok-answers.answers
    c.connector_numbers.ensures.valid c.deref.ensures.value c.in_ok-numbers.ensures.numbers c.in_ok-answers.ensures.answers
