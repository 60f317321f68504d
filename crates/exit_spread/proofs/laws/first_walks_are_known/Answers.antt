-- What is known is attained, and along a first walk it is exact.
use Rattle.line_lists.specs.Lists.{number_of}
use Rattle.exit_spread.proofs.Known.Numbers.{lists_number}
use Rattle.exit_spread.proofs.Known.Places.{known_attained, known_exactly}
use Rattle.exit_spread.proofs.SmallKnown.{known_small}
use Rattle.exit_spread.proofs.laws.first_walks_are_known.Goals as goal

pub returns-clause-attained : goal.returns-clause-attained
returns-clause-attained c = λ p lists s ready are spread x at v here is.
    known_attained p (number_of lists) s ready (lists_number p.arena.now lists ready.arena are) spread x at v here is

pub returns-clause-along : goal.returns-clause-along
returns-clause-along c = λ p lists s ready are spread t first along x at rest h.
    known_exactly p (number_of lists) s ready (lists_number p.arena.now lists ready.arena are) spread t first along x at rest h

pub returns-clause-small : goal.returns-clause-small
returns-clause-small c = λ p lists s ready are spread x at v here is. known_small p (number_of lists) s ready spread.settled.searching x at v here is
