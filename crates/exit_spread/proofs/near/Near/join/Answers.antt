-- The lesser begin is no further on, and the greater end no further back.
use Rattle.std.proofs.Common.{inl, inr, arith}
use Rattle.std.proofs.lemmas.Int.{ints}
use Rattle.exit_spread.proofs.near.Near.join.Goals as goal

pub returns-clause-first : goal.returns-clause-first
returns-clause-first c z (inl from) = inl (omega (arith, ints, from))
returns-clause-first c z (inr (low, high)) = inr (omega (arith, ints, low), omega (arith, ints, high))

pub returns-clause-second : goal.returns-clause-second
returns-clause-second c z (inl from) = inl (omega (arith, ints, from))
returns-clause-second c z (inr (low, high)) = inr (omega (arith, ints, low), omega (arith, ints, high))
