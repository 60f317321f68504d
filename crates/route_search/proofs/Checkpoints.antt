-- A first walk passes its checkpoints at crossings.
use Rattle.std.proofs.Common.{ℕ, List, All, sym, subst}
use Rattle.std.proofs.lemmas.List.Elements.{All-weaker}
use Rattle.plane_geom.specs.declared.point.Point.{Point}
use Rattle.plane_geom.specs.declared.floor.Floor.{Floor}
use Rattle.plane_geom.specs.declared.rect.Solid.{Solid}
use Rattle.plane_geom.specs.Floor.{IsCrossing}
use Rattle.line_arena.specs.Arena.{Arena, IsArena, StandsAt}
use Rattle.line_arena.proofs.Arenas.ArenaLaws.{crossings_of_floor}
use Rattle.walk_model.specs.declared.task.Task.{Task}
use Rattle.walk_model.specs.Order.{HasNoWalk, IsFirst}
use Rattle.walk_model.proofs.Ranking.First.{one_first}
use Rattle.walk_laws.proofs.OnKeptLines.FirstWalks.{checkpoints}
use Rattle.move_model.specs.Problems.{IsProblem}

-- unless each checkpoint is a crossing, no walk is legal
pub no_walk_past : (floor : Floor) (a : Arena) (solids : List Solid) (task : Task) → IsArena a → IsProblem floor a solids task
    → (All (λ p. (c : ℕ) × StandsAt a c p) task.via → ⊥) → HasNoWalk solids task
no_walk_past floor a solids task arena problem other t legal =
    let some = (one_first solids task).some t legal in
    let first : IsFirst floor.solids task some.0 = subst (λ z. IsFirst z task some.0) (sym problem.same_solids) some.1 in
    other (All-weaker (IsCrossing floor) (λ (p : Point). (c : ℕ) × StandsAt a c p) (λ p h. (crossings_of_floor floor a arena problem.stands p).0 h) task.via
    (checkpoints floor task some.0 problem.is_task first problem.is_floor_of))
