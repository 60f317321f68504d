-- The whole line meets none of the boxes so far.
use Rattle.std.proofs.Common.{◌≡◌, take, All}
use Rattle.plane_geom.specs.Along.{across}
use Rattle.plane_geom.specs.Rect.{HasWithin}
use Rattle.plane_geom.specs.declared.point.Point.{Point}
use Rattle.exit_spread.proofs.held.has_entry.Given as goal

abbrev pub invariant-loop-origin : goal.invariant-loop-origin
invariant-loop-origin l = All (λ o. (p : Point) → HasWithin o.ports p → across l.way p ≡ l.at → ⊥) (take l.origin-index l.origins)
