-- The runs at the places so far are there.
use Rattle.std.proofs.Common.{◌≡◌, map, take}
use Rattle.channel_bundles.specs.Bundles.{members_at}
use Rattle.channel_bundles.proofs.bare.own_runs.Given as goal

abbrev pub invariant-loop-place : goal.invariant-loop-place
invariant-loop-place l = l.runs.items ≡ map (λ m. m.run) (members_at l.members (take l.place-index l.places))
