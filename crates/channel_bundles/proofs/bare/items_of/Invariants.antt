-- The items of the places so far are there.
use Rattle.std.proofs.Common.{◌≡◌, map, take}
use Rattle.channel_bundles.specs.Bundles.{members_at}
use Rattle.channel_bundles.specs.Links.{item_of}
use Rattle.channel_bundles.proofs.bare.items_of.Given as goal

abbrev pub invariant-loop-place : goal.invariant-loop-place
invariant-loop-place l = l.items.items ≡ map item_of (members_at l.members (take l.place-index l.places))
