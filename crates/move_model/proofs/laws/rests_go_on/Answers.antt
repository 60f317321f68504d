-- The legs in front grow by one.
use Rattle.move_model.proofs.GoingOn.Rests.{rest_begins, rest_next, rest_way}
use Rattle.move_model.proofs.laws.rests_go_on.Goals as goal

pub returns : goal.returns
returns c = record { begin = rest_begins; next = rest_next; way = rest_way }
