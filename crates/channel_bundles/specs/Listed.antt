-- Bundles with all links as rules, or with few of them. No public clause cites this module.
use Rattle.std.specs.Prelude.{◌≡◌, ℕ, ◌<◌, ℤ, List, [], map, length, slice_index_or}
use Rattle.separation_model.specs.declared.bundle.Rule.{Rule}
use Rattle.channel_bundles.specs.declared.member.Member.{Member}
use Rattle.channel_bundles.specs.declared.channel.Listing.{Listing}
use Rattle.channel_bundles.specs.declared.channel.Listing.TheVariants.{All, Few}
use Rattle.channel_bundles.specs.declared.channel.RunBundle.{RunBundle}
use Rattle.channel_bundles.specs.Links.{IsLink, item_of, rules_after}
use Rattle.channel_bundles.specs.Bundles.{members_at}
use Rattle.channel_bundles.specs.Classes.{AreClasses, Connected}
use Rattle.channel_bundles.specs.Kept.{AreKept}

-- the rules are all links between the runs, or few of them, so that each other one has a middle
abbrev pub AreListed : Listing → ℤ → List Member → List Rule → Type 0
AreListed All nudge ms rules = rules ≡ rules_after nudge 0 ms
AreListed Few nudge ms rules = AreKept nudge ms rules

-- the bundle has these runs, and such rules
pub record IsListed (listing : Listing) (nudge : ℤ) (ms : List Member) (b : RunBundle) : Type 0 where
  pub items : b.bundle.items.items ≡ map item_of ms
  pub rules : AreListed listing nudge ms b.bundle.rules.items
  pub wanted : b.bundle.wanted ≡ nudge
  pub runs : b.runs.items ≡ map (λ m. m.run) ms

-- the bundles are those of the classes of the runs that links join, in the order of their first runs, with such rules
pub record AreListedOf (listing : Listing) (nudge : ℤ) (members : List Member) (found : List RunBundle) : Type 0 where
  pub classes : List (List ℕ)
  pub are_classes : AreClasses (Connected (IsLink nudge members)) (length members) classes
  pub count : length found ≡ length classes
  pub each : (k : ℕ) (d : RunBundle) → k < length found → IsListed listing nudge (members_at members (slice_index_or classes k [])) (slice_index_or found k d)
