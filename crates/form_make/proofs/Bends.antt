-- The bends of routes: each has one number of them, and a right one has few.
use Rattle.std.proofs.Common.{◌≡◌, ℕ, suc, zero, ◌+◌, ◌*◌, ◌≤◌, Option, Some, None, List, [], ◌∷◌, ◌++◌, map, length, replicate, refl, sym, ap, ◌∙◌, arith}
use Rattle.std.specs.List.{AllZip}
use Rattle.plane_geom.specs.declared.point.Point.{Point}
use Rattle.plane_geom.specs.declared.point.Dir.{Dir}
use Rattle.plane_geom.specs.declared.rect.Solid.{Solid}
use Rattle.plane_geom.specs.Point.{distance, heading}
use Rattle.walk_model.specs.declared.route.Answer.{Answer}
use Rattle.walk_model.specs.declared.route.Route.{Route}
use Rattle.walk_model.specs.declared.task.Task.{Task}
use Rattle.walk_model.specs.Answers.{IsAnswer}
use Rattle.walk_model.specs.Cost.{bends}
use Rattle.walk_model.specs.Line.{Draws, steps_of, steps_through}
use Rattle.walk_model.specs.Walk.{Walk}
use Rattle.walk_model.proofs.CornerByCorner.Bends.{bends_from, bends_from-stretch, turn_from_bound}
use Rattle.scene_model.specs.declared.edge.Edge.{Edge}
use Rattle.scene_model.specs.Answers.{AreAnswers, IsAnswerOf}
use Rattle.scene_model.specs.Routing.{solids, task_of}
use Rattle.scene_model.specs.Scene.{Scene, connectors}
use Rattle.form_make.specs.Sums.{HasBends}

-- the bends of a route along its points; none where there is no route
abbrev pub bends_in : Option Route → ℕ
bends_in None = 0
bends_in (Some route) = bends (steps_of route.points)

drawn_steps : (points : List Point) (w : Walk) → Draws points w → w.steps ≡ steps_of points
drawn_steps [] w draws = absurd draws
drawn_steps (p ∷ qs) w draws = ap (λ v. v.steps) draws.1

one_count : (o : Option Route) (count : ℕ) → HasBends o count → count ≡ bends_in o
one_count None count has = has
one_count (Some route) count (w, draws, is) = is ∙ ap bends (drawn_steps route.points w draws)

-- so the bends of a list of answers are one list
pub bends_are : (answers : List Answer) (counts : List ℕ) → AllZip (λ a count. HasBends a.route count) answers counts → counts ≡ map (λ a. bends_in a.route) answers
bends_are [] [] zip = refl
bends_are [] (n ∷ counts) zip = absurd zip
bends_are (a ∷ answers) [] zip = absurd zip
bends_are (a ∷ answers) (n ∷ counts) zip = λ i. one_count a.route n zip.0 i ∷ bends_are answers counts zip.1 i

some_count : (fs : List Solid) (task : Task) (o : Option Route) → IsAnswer fs task o → HasBends o (bends_in o)
some_count fs task None none = refl
some_count fs task (Some route) (t, first, route_of) = (t.walk, route_of.draws, ap bends (sym (drawn_steps route.points t.walk route_of.draws)))

have : (s : Scene) (es : List Edge) (answers : List Answer) → AllZip (IsAnswerOf s) es answers → AllZip (λ a count. HasBends a.route count) answers (map (λ a. bends_in a.route) answers)
have s [] [] zip = tt
have s [] (a ∷ answers) zip = absurd zip
have s (e ∷ es) [] zip = absurd zip
have s (e ∷ es) (a ∷ answers) zip = (some_count (solids s) (task_of s e) a.route zip.0.route, have s es answers zip.1)

-- right answers have bends
pub have_bends : (s : Scene) (answers : List Answer) → AreAnswers s answers → AllZip (λ a count. HasBends a.route count) answers (map (λ a. bends_in a.route) answers)
have_bends s answers are = have s (connectors s) answers are

stretch_few : (last : Option Dir) (e : Dir) (n : ℕ) (ds : List Dir) (most : ℕ) → ((o : Option Dir) → bends_from o ds ≤ most) → bends_from last (replicate n e ++ ds) ≤ most + 2
stretch_few last e zero ds most few = omega (arith, few last)
stretch_few last e (suc n) ds most few = omega (arith, bends_from-stretch last e (suc n) ds (omega arith), turn_from_bound last e, few (Some e))

few_from : (p : Point) (qs : List Point) (last : Option Dir) → bends_from last (steps_through p qs) ≤ 2 * length qs
few_from p [] None = omega arith
few_from p [] (Some d) = omega arith
few_from p (q ∷ qs) last = omega (arith, stretch_few last (heading p q) (distance p q) (steps_through q qs) (2 * length qs) (few_from q qs))

-- at most two for each point
pub few_bends : (points : List Point) → bends (steps_of points) ≤ 2 * length points
few_bends [] = omega arith
few_bends (p ∷ qs) = omega (arith, few_from p qs None)
