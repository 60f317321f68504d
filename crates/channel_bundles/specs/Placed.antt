-- The list of runs while it is built. No public clause cites this module.
use Rattle.std.specs.Prelude.{ℕ, ◌<◌, ◌≤◌, ◌≤ℤ◌, List, map, length}
use Rattle.plane_geom.specs.declared.rect.Solid.{Solid}
use Rattle.segment_order.specs.declared.run.Run.{Run}
use Rattle.segment_order.specs.Order.{Key, key_of}
use Rattle.channel_bundles.specs.declared.route.PhaseRoute.{PhaseRoute}
use Rattle.channel_bundles.specs.declared.member.Member.{Member}
use Rattle.channel_bundles.specs.declared.channel.Placed.{Placed}
use Rattle.channel_bundles.specs.Links.{IsMember, member_at}
use Rattle.channel_bundles.specs.Leaders.{GoAlike, runs_at}
use Rattle.channel_bundles.specs.Bundles.{Standing, IsStanding}

-- the run with its route
abbrev pub standing_of : Placed → Standing
standing_of p = record { route = p.route.now; member = p.member }

-- its key along the route of its leader, by which it is ordered
abbrev pub key_of_placed : List PhaseRoute → Placed → Key
key_of_placed routes p = key_of (runs_at routes p.leader) p.member.run

abbrev pub standings_of : List Placed → List Standing
standings_of placed = map standing_of placed

abbrev pub pairs_of : List Placed → List (PhaseRoute × Run)
pairs_of placed = map (λ s. (s.route, s.member.run)) (standings_of placed)

-- the data of the run are right, it is accepted as an item, and its leader goes as its route
pub record IsPlaced (solids : List Solid) (routes : List PhaseRoute) (p : Placed) : Type 0 where
  pub standing : IsStanding solids (standing_of p)
  pub member : IsMember p.member
  pub leader : GoAlike (runs_at routes p.leader) p.route.now.runs.items

-- the coordinates of the runs do not fall
pub record AreRising (members : List Member) : Type 0 where
  pub rise : (i j : ℕ) → i ≤ j → j < length members → (member_at members i).run.at ≤ℤ (member_at members j).run.at
