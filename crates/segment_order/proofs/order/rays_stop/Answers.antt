-- Each entry before the stop is a turn.
use Rattle.segment_order.proofs.Stops.{stops, no_prefix}
use Rattle.segment_order.proofs.order.rays_stop.Goals as goal

pub returns-clause-stop : goal.returns-clause-stop
returns-clause-stop c = λ route r d. stops _ d _ _

pub returns-clause-no_prefix : goal.returns-clause-no_prefix
returns-clause-no_prefix c = λ a b one other more e. no_prefix a b more one other e
