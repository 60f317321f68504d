-- The data of a route are those of its walk.
use Rattle.std.proofs.Common.{◌≡◌, List, [], ◌∷◌, refl, sym, ap}
use Rattle.std.specs.declared.cmp.Ordering.{Ordering}
use Rattle.std.specs.declared.cmp.Ordering.TheVariants.{Less, Equal, Greater}
use Rattle.std.specs.Ordering.{ordering_then}
use Rattle.plane_geom.specs.declared.point.Point.{Point}
use Rattle.walk_model.specs.declared.route.Route.{Route}
use Rattle.walk_model.specs.declared.task.Task.{Task}
use Rattle.walk_model.specs.Walk.{Walk}
use Rattle.walk_model.specs.Lean.{lean, line_lean}
use Rattle.walk_model.specs.Line.{Draws, steps_of}
use Rattle.walk_model.specs.Order.{IsRouteOf, Triple, compare_by_keys, compare_triples}

-- keys may be compared in any grouping
pub then_assoc : (o p q : Ordering) → ordering_then (ordering_then o p) q ≡ ordering_then o (ordering_then p q)
then_assoc Less p q = refl
then_assoc Equal p q = refl
then_assoc Greater p q = refl

-- a line has the steps and the sum of run coordinates of the walk that it draws
drawn_steps : (points : List Point) (w : Walk) → Draws points w → steps_of points ≡ w.steps
drawn_steps [] w d = absurd d
drawn_steps (p ∷ qs) w d = ap (λ (v : Walk). v.steps) (sym d.1)

drawn_lean : (points : List Point) (w : Walk) → Draws points w → line_lean points ≡ lean w.start w.steps
drawn_lean [] w d = absurd d
drawn_lean (p ∷ qs) w d = ap (λ (v : Walk). lean v.start v.steps) (sym d.1)

-- the routes of walks stand in the order of the walks
pub keys_of_walks : (task : Task) (a b : Route) (t u : Triple) → IsRouteOf task a t → IsRouteOf task b u → compare_by_keys a b ≡ compare_triples task t u
keys_of_walks task a b t u r s =
    rw (
      r.cost,
      s.cost,
      drawn_steps a.points t.walk r.draws,
      drawn_steps b.points u.walk s.draws,
      drawn_lean a.points t.walk r.draws,
      drawn_lean b.points u.walk s.draws,
      r.start,
      s.start,
      r.end,
      s.end,
    ) refl
