-- The bundles of the classes so far are there.
use Rattle.std.proofs.Common.{[], map}
use Rattle.channel_bundles.specs.Shares.{IsBundleWith}
use Rattle.channel_bundles.proofs.Bundling.{IsBundling}
use Rattle.channel_bundles.proofs.bare.bare_bundles.Given as goal

abbrev pub invariant-loop-class : goal.invariant-loop-class
invariant-loop-class l = IsBundling (λ ms b. IsBundleWith l.nudge ms [] b) l.members (map (λ list. list.items) l.classes) l.found.items l.class-index
