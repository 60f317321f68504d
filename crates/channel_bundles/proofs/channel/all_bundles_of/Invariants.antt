-- The bundles of the classes so far are there.
use Rattle.std.proofs.Common.{map}
use Rattle.channel_bundles.specs.declared.channel.Listing.{Listing}
use Rattle.channel_bundles.specs.Listed.{IsListed}
use Rattle.channel_bundles.proofs.Bundling.{IsBundling}
use Rattle.channel_bundles.proofs.channel.all_bundles_of.Given as goal

abbrev pub invariant-loop-class : goal.invariant-loop-class
invariant-loop-class l = IsBundling (IsListed Listing.All l.nudge) l.members (map (λ list. list.items) l.class-items) l.found.items l.class-index
