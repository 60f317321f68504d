-- What the neighbours of a run have to keep.
use Rattle.std.proofs.Common.{◌≡◌, ◌↔◌, ℕ, ◌+◌, ◌-◌, ◌<◌, length, sym, subst, refl}
use Rattle.std.specs.Prelude.{Contains}
use Rattle.plane_geom.specs.declared.point.Point.{Point}
use Rattle.plane_geom.specs.Floor.{Holds}
use Rattle.segment_order.specs.Run.{end_of_run, line_of_run, run_at, start_of_run}
use Rattle.channel_bundles.specs.declared.route.PhaseRoute.{PhaseRoute}
use Rattle.channel_bundles.specs.Route.{HasToLeave, HasToReach}

module _ (route : PhaseRoute) (j : ℕ) (P : Point → Type 0) where
  -- each point that the run has to reach is its port, its tip, or a checkpoint on it
  each_reached : {T U : Type 0} → (T ↔ (j ≡ 0)) → (U ↔ ((0 < j) × ((run_at route.runs.items (j - 1)).way ≡ (run_at route.runs.items j).way))) →
      (T → P route.anchors.source_port) → (U → P (start_of_run (run_at route.runs.items j))) →
      ((p : Point) → Contains route.anchors.via.items p → Holds (line_of_run (run_at route.runs.items j)) p → P p) → (p : Point) → HasToReach route j p → P p
  each_reached is_port is_tip port tip checkpoint p (HasToReach.source_port first e) = subst P (sym e) (port (is_port.1 first))
  each_reached is_port is_tip port tip checkpoint p (HasToReach.first_tip some way e) = subst P (sym e) (tip (is_tip.1 (some, way)))
  each_reached is_port is_tip port tip checkpoint p (HasToReach.checkpoint_ahead has holds) = checkpoint p has holds

  pub reached : {A B C D T U : Type 0} → (B ↔ (A × (T → P route.anchors.source_port))) → (C ↔ (B × (U → P (start_of_run (run_at route.runs.items j))))) →
      (D ↔ (C × ((p : Point) → Contains route.anchors.via.items p → Holds (line_of_run (run_at route.runs.items j)) p → P p))) →
      (T ↔ (j ≡ 0)) → (U ↔ ((0 < j) × ((run_at route.runs.items (j - 1)).way ≡ (run_at route.runs.items j).way))) → D ↔ (A × ((p : Point) → HasToReach route j p → P p))
  reached port tip checkpoints is_port is_tip = (
    λ d. let c = checkpoints.0 d in let b = tip.0 c.0 in let a = port.0 b.0 in (a.0, each_reached is_port is_tip a.1 b.1 c.1),
    λ all. checkpoints.1 (
      tip.1 (
        port.1 (all.0, λ t. all.1 route.anchors.source_port (HasToReach.source_port (is_port.0 t) refl)),
        λ u. let has = is_tip.0 u in all.1 (start_of_run (run_at route.runs.items j)) (HasToReach.first_tip has.0 has.1 refl),
      ),
      λ p has holds. all.1 p (HasToReach.checkpoint_ahead has holds),
    ),
  )

  -- each point at which the run has to begin is its port, its tip, or a checkpoint on it
  each_left : {T U : Type 0} → (T ↔ (j + 1 ≡ length route.runs.items)) → (U ↔ ((j + 1 < length route.runs.items) × ((run_at route.runs.items (j + 1)).way ≡ (run_at route.runs.items j).way))) →
      (T → P route.anchors.target_port) → (U → P (end_of_run (run_at route.runs.items j))) →
      ((p : Point) → Contains route.anchors.via.items p → Holds (line_of_run (run_at route.runs.items j)) p → P p) → (p : Point) → HasToLeave route j p → P p
  each_left is_port is_tip port tip checkpoint p (HasToLeave.target_port last e) = subst P (sym e) (port (is_port.1 last))
  each_left is_port is_tip port tip checkpoint p (HasToLeave.last_tip some way e) = subst P (sym e) (tip (is_tip.1 (some, way)))
  each_left is_port is_tip port tip checkpoint p (HasToLeave.checkpoint_behind has holds) = checkpoint p has holds

  pub left : {A B C D T U : Type 0} → (B ↔ (A × (T → P route.anchors.target_port))) → (C ↔ (B × (U → P (end_of_run (run_at route.runs.items j))))) →
      (D ↔ (C × ((p : Point) → Contains route.anchors.via.items p → Holds (line_of_run (run_at route.runs.items j)) p → P p))) →
      (T ↔ (j + 1 ≡ length route.runs.items)) → (U ↔ ((j + 1 < length route.runs.items) × ((run_at route.runs.items (j + 1)).way ≡ (run_at route.runs.items j).way))) →
      D ↔ (A × ((p : Point) → HasToLeave route j p → P p))
  left port tip checkpoints is_port is_tip = (
    λ d. let c = checkpoints.0 d in let b = tip.0 c.0 in let a = port.0 b.0 in (a.0, each_left is_port is_tip a.1 b.1 c.1),
    λ all. checkpoints.1 (
      tip.1 (
        port.1 (all.0, λ t. all.1 route.anchors.target_port (HasToLeave.target_port (is_port.0 t) refl)),
        λ u. let has = is_tip.0 u in all.1 (end_of_run (run_at route.runs.items j)) (HasToLeave.last_tip has.0 has.1 refl),
      ),
      λ p has holds. all.1 p (HasToLeave.checkpoint_behind has holds),
    ),
  )
