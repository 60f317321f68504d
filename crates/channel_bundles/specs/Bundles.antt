-- The bundles of a phase.
use Rattle.std.specs.Prelude.{◌≡◌, ◌↔◌, ℕ, ◌-◌, ◌<◌, ℤ, List, [], map, length, All, slice_index_or, IsTrue}
use Rattle.std.specs.List.Sorted.{IsPermutation, IsSortedByKey}
use Rattle.plane_geom.specs.declared.point.Way.{Way}
use Rattle.plane_geom.specs.declared.rect.Solid.{Solid}
use Rattle.segment_order.specs.Order.{compare_keys, key_of}
use Rattle.channel_bundles.specs.declared.route.PhaseRoute.{PhaseRoute}
use Rattle.channel_bundles.specs.declared.member.Member.{Member}
use Rattle.channel_bundles.specs.declared.channel.RunBundle.{RunBundle}
use Rattle.channel_bundles.specs.Route.{IsFixed, runs_of_way}
use Rattle.channel_bundles.specs.Limits.{HasLimits}
use Rattle.channel_bundles.specs.Links.{IsLink, item_of, member_at, rules_after}
use Rattle.channel_bundles.specs.Classes.{AreClasses, Connected}

-- a run of a route, with its limits
pub record Standing : Type 0 where
  pub route : PhaseRoute
  pub member : Member

-- the data of the run of the route are right
pub record IsStanding (solids : List Solid) (s : Standing) : Type 0 where
  pub fixed : IsTrue s.member.fixed ↔ IsFixed s.route (s.member.run.place - 1)
  pub limits : HasLimits solids s.route (s.member.run.place - 1) s.member.low s.member.high
  pub weight : s.member.weight ≡ s.route.weight

-- all runs of the way, each once, in their order
pub record AreInOrder (solids : List Solid) (routes : List PhaseRoute) (way : Way) (all : List Standing) : Type 0 where
  pub each : All (IsStanding solids) all
  pub once : IsPermutation (runs_of_way way routes) (map (λ s. (s.route, s.member.run)) all)
  pub sorted : IsSortedByKey (λ s. key_of s.route.runs.items s.member.run) compare_keys all

-- the runs with their limits, without their routes
abbrev pub members_of : List Standing → List Member
members_of all = map (λ s. s.member) all

-- the runs at the given places
abbrev pub members_at : List Member → List ℕ → List Member
members_at members places = map (member_at members) places

-- the bundle has these runs, and their links as its rules
pub record IsBundleOf (nudge : ℤ) (ms : List Member) (b : RunBundle) : Type 0 where
  pub items : b.bundle.items.items ≡ map item_of ms
  pub rules : b.bundle.rules.items ≡ rules_after nudge 0 ms
  pub wanted : b.bundle.wanted ≡ nudge
  pub runs : b.runs.items ≡ map (λ m. m.run) ms

-- the bundles are those of the classes of the runs that links join, in the order of their first runs
pub record AreBundlesOf (nudge : ℤ) (members : List Member) (found : List RunBundle) : Type 0 where
  pub classes : List (List ℕ)
  pub are_classes : AreClasses (Connected (IsLink nudge members)) (length members) classes
  pub count : length found ≡ length classes
  pub each : (k : ℕ) (d : RunBundle) → k < length found → IsBundleOf nudge (members_at members (slice_index_or classes k [])) (slice_index_or found k d)

-- the bundles of the phase are those of its runs in their order
pub record AreBundles (solids : List Solid) (routes : List PhaseRoute) (way : Way) (nudge : ℤ) (found : List RunBundle) : Type 0 where
  pub all : List Standing
  pub in_order : AreInOrder solids routes way all
  pub bundles : AreBundlesOf nudge (members_of all) found
