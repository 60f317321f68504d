-- Legs followed by a way, and the cost of a whole way.
use Rattle.std.proofs.Common.{◌≡◌, List, [], ◌∷◌, ◌++◌, replicate, refl, sym, ap, subst, ◌∙◌, append_assoc}
use Rattle.std.specs.Option.{option_map}
use Rattle.std.specs.Prelude.{unwrap_or}
use Rattle.plane_geom.specs.declared.point.Point.{Point}
use Rattle.plane_geom.specs.declared.rect.Solid.{Solid}
use Rattle.line_arena.specs.Arena.{Arena}
use Rattle.walk_model.specs.declared.task.Choice.{Choice}
use Rattle.walk_model.specs.declared.task.Task.{Task}
use Rattle.walk_model.specs.Choice.{IsChoice}
use Rattle.walk_model.specs.Legal.{IsTask}
use Rattle.walk_model.specs.Order.{Triple}
use Rattle.walk_model.specs.Walk.{Walk}
use Rattle.walk_laws.proofs.OnKeptLines.Lines.{chosen}
use Rattle.move_model.specs.declared.place.Place.{Place}
use Rattle.move_model.specs.Ahead.{ahead, whole, with_start}
use Rattle.move_model.specs.Ways.{GoesAlongWay, IsWay, Leads, Leg, steps_along, steps_of_way}
use Rattle.move_model.proofs.GoingOn.Stretching.{start_ahead}

pub way_behind : (solids : List Solid) (a : Arena) (via : List Point) (x y : Place) (ls ms : List Leg) (e : Choice) → Leads a via x ls y → IsWay solids a via y ms e → IsWay solids a via x (ls ++ ms) e
way_behind solids a via x y [] ms e h w = subst (λ z. IsWay solids a via z ms e) (sym h) w
way_behind solids a via x y (l ∷ ls) ms e h w = (h.0, way_behind solids a via l.to y ls ms e h.1 w)

pub legs_behind : (a : Arena) (via : List Point) (x y z : Place) (ls ms : List Leg) → Leads a via x ls y → Leads a via y ms z → Leads a via x (ls ++ ms) z
legs_behind a via x y z [] ms h w = subst (λ k. Leads a via k ms z) (sym h) w
legs_behind a via x y z (l ∷ ls) ms h w = (h.0, legs_behind a via l.to y z ls ms h.1 w)

-- what follows the first legs of a way is a way
pub way_cut : (solids : List Solid) (a : Arena) (via : List Point) (x y : Place) (ls ms : List Leg) (e : Choice) → IsWay solids a via x (ls ++ ms) e → Leads a via x ls y → IsWay solids a via y ms e
way_cut solids a via x y [] ms e w h = subst (λ z. IsWay solids a via z ms e) h w
way_cut solids a via x y (l ∷ ls) ms e w h = way_cut solids a via l.to y ls ms e w.1 h.1

pub steps_behind : (ls ms : List Leg) (e : Choice) → steps_of_way (ls ++ ms) e ≡ steps_along ls ++ steps_of_way ms e
steps_behind [] ms e = refl
steps_behind (l ∷ ls) ms e =
    let run = replicate l.steps l.to.heading in
    ap (λ ds. run ++ ds) (steps_behind ls ms e) ∙ sym (append_assoc run (steps_along ls) (steps_of_way ms e))

pub way_ahead : (solids : List Solid) (a : Arena) (task : Task) (t : Triple) → IsTask task → (w : GoesAlongWay solids a task t) →
    whole task t ≡ with_start w.start (ahead task.penalty w.start.dir w.start.port (steps_of_way w.legs w.end) w.end.cost)
way_ahead solids a task t is_task w =
    start_ahead task t w.start (steps_of_way w.legs w.end) (chosen IsChoice task.starts t.start w.start w.is_start is_task.starts.each) (ap (λ (v : Walk). v.start) w.walk)
    (ap (λ o. unwrap_or (option_map (λ (c : Choice). c.cost) o) 0) w.is_start) (ap (λ (v : Walk). v.steps) w.walk)
    ∙ ap (λ k. with_start w.start (ahead task.penalty w.start.dir w.start.port (steps_of_way w.legs w.end) k)) (ap (λ o. unwrap_or (option_map (λ (c : Choice). c.cost) o) 0) w.is_end)
