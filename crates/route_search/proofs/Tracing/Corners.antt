-- The corners after equal steps, and the route that goes through them. General laws of walks.
use Rattle.std.proofs.Common.{◌≡◌, ℕ, suc, zero, ◌-◌, ◌<◌, ◌==◌, if◌then◌else◌, Bool, true, false, List, [], ◌∷◌, ◌++◌, length, replicate, refl, sym, ap, subst, ◌∙◌, arith, append_assoc}
use Rattle.std.proofs.lemmas.List.{replicate-append-replicate}
use Rattle.plane_geom.specs.declared.point.Point.{Point}
use Rattle.plane_geom.specs.declared.point.Dir.{Dir}
use Rattle.plane_geom.specs.Point.{forward}
use Rattle.walk_model.specs.declared.route.Route.{Route}
use Rattle.walk_model.specs.declared.task.Task.{Task}
use Rattle.walk_model.specs.Cost.{turn}
use Rattle.walk_model.specs.Line.{Draws}
use Rattle.walk_model.specs.Order.{IsRouteOf, Triple, triple_cost}
use Rattle.walk_model.proofs.Ranking.OneAnswer.{corners, corners_after, corners_after-stretch, points_are}
use Rattle.walk_model.proofs.CornerByCorner.Scan.{forward-forward}
use Rattle.walk_model.proofs.Ranking.SomeRoute.{some_route}

-- a stretch is a shorter one and what is left of it
pub stretch_parts : (d : Dir) (m n : ℕ) → m < n → replicate m d ++ replicate (n - m) d ≡ replicate n d
stretch_parts d m n less = replicate-append-replicate m (n - m) d ∙ ap (λ k. replicate k d) (omega (arith, less))

run_end : (d : Dir) (n : ℕ) (p : Point) (ds : List Dir) → corners_after d (forward d 1 p) (replicate n d ++ ds) ≡ corners_after d (forward d (suc n) p) ds
run_end d n p ds =
    corners_after-stretch d n (forward d 1 p) ds
    ∙ ap (λ (q : Point). corners_after d q ds) (forward-forward d n 1 p ∙ ap (λ k. forward d k p) (omega arith))

-- after equal steps that come first
pub corners_from : (d : Dir) (n : ℕ) (p : Point) (ds : List Dir) → 0 < n → corners p (replicate n d ++ ds) ≡ corners_after d (forward d n p) ds
corners_from d zero p ds some = absurd (omega (arith, some))
corners_from d (suc n) p ds some = run_end d n p ds

-- and after others: there is one more corner where they turn
pub corners_behind : (heading d : Dir) (n : ℕ) (p : Point) (ds : List Dir) → 0 < n
    → corners_after heading p (replicate n d ++ ds) ≡ (if turn heading d == 0 then corners_after d (forward d n p) ds else p ∷ corners_after d (forward d n p) ds)
corners_behind heading d zero p ds some = absurd (omega (arith, some))
corners_behind heading d (suc n) p ds some = ap (λ zs. if turn heading d == 0 then zs else p ∷ zs) (run_end d n p ds)

-- one more corner may be the last of those before or the first of those after
pub corner_between : (b : Bool) (points : List Point) (p : Point) (zs : List Point) → (if b then points else points ++ (p ∷ [])) ++ zs ≡ points ++ (if b then zs else p ∷ zs)
corner_between true points p zs = refl
corner_between false points p zs = append_assoc points (p ∷ []) zs

-- a route through the corners of a walk, with its choices and its cost, is that of the walk
pub route_through : (task : Task) (t : Triple) (r : Route) → r.points ≡ t.walk.start ∷ corners t.walk.start t.walk.steps → r.start ≡ t.start → r.end ≡ t.end → r.cost ≡ triple_cost task t → IsRouteOf task r t
route_through task t r points start end cost =
    let some = some_route task t in
    let same : some.0.points ≡ r.points = points_are some.0.points t.walk some.1.draws some.1.corners ∙ sym points in
    record {
      draws = subst (λ qs. Draws qs t.walk) same some.1.draws;
      corners = ap length (sym same) ∙ some.1.corners;
      start = start;
      end = end;
      cost = cost;
    }
