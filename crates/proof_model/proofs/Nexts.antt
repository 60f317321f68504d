-- The nearest crossing in a direction is where the one move leads.
use Rattle.std.proofs.Common.{◌≡◌, ℕ, ◌+◌, ◌*◌, refl, subst, ◌∙◌}
use Rattle.plane_geom.specs.declared.point.Point.{Point}
use Rattle.plane_geom.specs.declared.point.Dir.{Dir}
use Rattle.plane_geom.specs.declared.floor.Floor.{Floor}
use Rattle.plane_geom.specs.Point.{distance}
use Rattle.line_arena.specs.Arena.{Arena, IsArena, IsNearest, LiesFurther, StandsAt}
use Rattle.line_arena.specs.Stands.{StandsFor}
use Rattle.walk_model.specs.declared.task.Task.{Task}
use Rattle.walk_model.specs.Cost.{turn}
use Rattle.move_model.specs.Places.{ComesTo}
use Rattle.move_model.proofs.Moving.Moves.{apart}
use Rattle.move_model.proofs.Moving.Stages.{one_stage}
use Rattle.proof_model.specs.Crossings.{IsNextCrossing}
use Rattle.proof_model.proofs.Bridge.{next_crossing, no_next, only_next}
use Rattle.proof_model.specs.Next.{IsNext, IsNoneNext}

module _ (floor : Floor) (a : Arena) (arena : IsArena a) (stands : StandsFor floor a) (task : Task) (stage : ℕ) (at : Point) (d : Dir) (b : ℕ)
    (here : StandsAt a b at) where
  pub is_next : (c k : ℕ) (q : Point) → IsNearest a d b c → StandsAt a c q → ComesTo task.via stage q k →
      IsNext floor task stage at d (record { place = record { crossing = c; stage = k; heading = d }; at = q; steps = distance at q })
  is_next c k q near there comes =
      let next : IsNextCrossing floor d at (distance at q) q =
      next_crossing floor a arena stands d b c at q (distance at q) here there near (apart a d b c at q arena near.lies here there).1 in
      record {
        heading = refl;
        move = λ h. record { steps = distance at q; next = next; stage = comes; costs = refl };
        only = λ h cost y turned m.
            let next_in = subst (λ e. IsNextCrossing floor e at m.steps y.at) turned m.next in
            let one = only_next floor a arena stands d b c at q here there near m.steps y.at next_in in
            let same : y.stage ≡ k = one_stage task.via stage y.stage k q (subst (λ p. ComesTo task.via stage p y.stage) one.1 m.stage) comes in (
              (λ i. record { stage = same i; at = one.1 i; heading = turned i }),
              m.costs ∙ (λ i. one.0 i + task.penalty * turn h (turned i)),
            );
      }

  pub is_none_next : ((c : ℕ) → LiesFurther a d b c → ⊥) → IsNoneNext floor task stage at d
  is_none_next none h cost y turned m =
      no_next floor a arena stands d b at here none m.steps y.at (subst (λ e. IsNextCrossing floor e at m.steps y.at) turned m.next)
