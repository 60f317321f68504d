-- The law of rounding.
use Rattle.fixed_milli.proofs.Rounding.{rounded_near, rounded_halves}
use Rattle.fixed_milli.proofs.laws.rounded_is_nearest.Goals as goal

pub returns : goal.returns
returns c = record { near = rounded_near; halves = rounded_halves }
