-- The limits are narrowed by one condition after another.
use Rattle.std.proofs.Common.{◌≡◌, ◌↔◌, ℕ, ◌+◌, ◌-◌, ◌<◌, ℤ, List, length, sym, subst}
use Rattle.std.specs.Prelude.{All}
use Rattle.plane_geom.specs.declared.point.Point.{Point}
use Rattle.plane_geom.specs.declared.rect.Solid.{Solid}
use Rattle.plane_geom.specs.Along.{across}
use Rattle.plane_geom.specs.Point.{IsCoordinate, opposite}
use Rattle.segment_order.specs.declared.run.Run.{Run}
use Rattle.segment_order.specs.Run.{run_at}
use Rattle.channel_bundles.specs.declared.route.PhaseRoute.{PhaseRoute}
use Rattle.channel_bundles.specs.Route.{HasToLeave, HasToReach}
use Rattle.channel_bundles.specs.Limits.{IsReached, MayStandAt, Sweeps}
use Rattle.channel_bundles.proofs.route.PhaseRoute.movable_limits.Goals as goal

narrowed : (solids : List Solid) (route : PhaseRoute) (k : ℕ) (z : ℤ) (r : Run) {A B C : Type 0} → r ≡ run_at route.runs.items k → 0 < k → k + 1 < length route.runs.items →
    (A ↔ (IsCoordinate z × All (λ s. Sweeps r.way s.rect r.at z r.lo r.hi → ⊥) solids)) →
    (B ↔ (A × ((p : Point) → HasToReach route (k - 1) p → IsReached (run_at route.runs.items (k - 1)).heading (across (run_at route.runs.items k).way p) z))) →
    (C ↔ (B × ((p : Point) → HasToLeave route (k + 1) p → IsReached (opposite (run_at route.runs.items (k + 1)).heading) (across (run_at route.runs.items k).way p) z))) →
    MayStandAt solids route k z ↔ C
narrowed solids route k z r own first last clear before after = (
  λ may. after.1 (before.1 (clear.1 (may.within, subst (λ (s : Run). All (λ t. Sweeps s.way t.rect s.at z s.lo s.hi → ⊥) solids) (sym own) may.free), λ p has. may.before p first has), λ p has. may.after p last has),
  λ c. let b = after.0 c in let a = before.0 b.0 in let free = clear.0 a.0 in
      record { within = free.0; free = subst (λ (s : Run). All (λ t. Sweeps s.way t.rect s.at z s.lo s.hi → ⊥) solids) own free.1; before = λ p some has. a.1 p has; after = λ p some has. b.1 p has },
)

pub returns : goal.returns
returns c = λ z. narrowed c.args.walls.now.solids.now c.args.self.now c.args.k z c.run.result c.run.ensures c.requires.first c.requires.last (c.clear_of-clear.ensures z) (c.reached_before.ensures z) (c.reached_after.ensures z)
