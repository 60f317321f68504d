-- A solver accepts the bundles of either listing.
use Rattle.std.proofs.Common.{◌≤◌, ℤ, List, length, Result, Ok, Err, Vec, w64, FitsSigned, rules}
use Rattle.std.specs.Prelude.{All, IfOk}
use Rattle.std.specs.declared.alloc.AllocError.{AllocError}
use Rattle.std.proofs.lemmas.Int.{to_z-of_z}
use Rattle.separation_model.specs.Bundle.{IsBundle, most_items}
use Rattle.separation_model.specs.Arena.{Arena}
use Rattle.channel_bundles.specs.declared.channel.Listing.{Listing}
use Rattle.channel_bundles.specs.declared.channel.RunBundle.{RunBundle}
use Rattle.channel_bundles.specs.declared.member.Member.{Member}
use Rattle.channel_bundles.specs.Links.{IsMember, IsNudge}
use Rattle.channel_bundles.specs.Listed.{AreListedOf}
use Rattle.channel_bundles.specs.Placed.{AreRising}
use Rattle.channel_bundles.proofs.Bundling.{good_bundles}
use Rattle.channel_bundles.proofs.channel.bundles_of.Goals as goal

good : (listing : Listing) (nudge : ℤ) (members : List Member) → All IsMember members → length members ≤ most_items → AreRising members → IsNudge nudge → (r : Result (Vec RunBundle Arena) AllocError) →
    IfOk r (λ found. AreListedOf listing nudge members found.items) → IfOk r (λ found. All (λ (b : RunBundle). IsBundle b.bundle) found.items)
good listing nudge members all few rising is_nudge (Ok found) are = good_bundles listing nudge members found.items all few rising is_nudge are
good listing nudge members all few rising is_nudge (Err e) are = tt

pub returns-in-All-clause-each : goal.returns-in-All-clause-each
returns-in-All-clause-each c =
    let fits : FitsSigned w64 c.args.nudge = search rules in
    good Listing.All c.args.nudge c.args.members.now c.requires.members c.requires.few c.requires.rising c.requires.nudge c.all_bundles_of.result (simp to_z-of_z at c.all_bundles_of.ensures)

pub returns-in-Few-clause-each : goal.returns-in-Few-clause-each
returns-in-Few-clause-each c =
    let fits : FitsSigned w64 c.args.nudge = search rules in
    good Listing.Few c.args.nudge c.args.members.now c.requires.members c.requires.few c.requires.rising c.requires.nudge c.few_bundles_of.result (simp to_z-of_z at c.few_bundles_of.ensures)
