-- The numbers so far are listed by their trees, and have their seats.
use Rattle.std.proofs.Common.{◌≡◌, map, length}
use Rattle.channel_bundles.specs.Shares.{AreSeats}
use Rattle.channel_bundles.proofs.Listing.{IsListing}
use Rattle.channel_bundles.proofs.forest.Forest.classes.Given as goal

abbrev pub invariant-loop-number : goal.invariant-loop-number
invariant-loop-number l = (length l.lists.items ≡ length l.initial.lists.items) × IsListing l.tree-items l.number (map (λ list. list.items) l.lists.items)
    × AreSeats l.number (map (λ list. list.items) l.lists.items) l.seats.items
