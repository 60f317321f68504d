-- The separations that a phase keeps.
use Rattle.std.specs.Prelude.{◌≡◌, ℕ, ◌<◌, ℤ, ◌+ℤ◌, ◌≤ℤ◌, true, Some, None, List, slice_get}
use Rattle.plane_geom.specs.declared.point.Way.{Way}
use Rattle.plane_geom.specs.declared.rect.Solid.{Solid}
use Rattle.channel_bundles.specs.declared.route.PhaseRoute.{PhaseRoute}
use Rattle.channel_bundles.specs.Links.{asks, link}
use Rattle.channel_bundles.specs.Bundles.{Standing}
use Rattle.nudge_phases.specs.Moved.{IsPutAt}
use Rattle.nudge_phases.specs.Phase.{IsPhase}

-- every separation is met: by the gap of their bundle if it links the two, otherwise by the wanted nudge
abbrev pub KeepsApart : {solids : List Solid} {before after : List PhaseRoute} {way : Way} {nudge : ℤ} → IsPhase solids before way nudge after → Type 0
KeepsApart {solids} {before} {after} {way} {nudge} phase =
    (i j : ℕ) (a b : Standing) (y z : ℤ) → i < j → slice_get phase.bundles.all i ≡ Some a → slice_get phase.bundles.all j ≡ Some b →
    asks a.member b.member ≡ Some true → IsPutAt phase.found phase.solutions a.member.run y → (at : IsPutAt phase.found phase.solutions b.member.run z) →
    ((link nudge a.member b.member ≡ Some true → (y +ℤ at.solution.gap) ≤ℤ z) × (link nudge a.member b.member ≡ None → (y +ℤ nudge) ≤ℤ z))
