-- Ways are legal walks.
use Rattle.std.proofs.Common.{◌≡◌, ℕ, None, List, [], ◌∷◌, ◌++◌, drop, length, replicate, refl, sym, ap, subst, ◌∙◌, arith, append_assoc}
use Rattle.std.proofs.lemmas.List.{drop_all}
use Rattle.plane_geom.specs.declared.point.Point.{Point}
use Rattle.plane_geom.specs.declared.floor.Floor.{Floor}
use Rattle.plane_geom.specs.Point.{forward}
use Rattle.line_arena.specs.Arena.{Arena, IsArena, StandsAt}
use Rattle.line_arena.specs.Stands.{StandsFor}
use Rattle.line_arena.proofs.Arenas.ArenaLaws.{one_point}
use Rattle.walk_model.specs.declared.task.Choice.{Choice}
use Rattle.walk_model.specs.declared.task.Task.{Task}
use Rattle.walk_model.specs.Choice.{IsChoice}
use Rattle.walk_model.specs.Legal.{IsTask}
use Rattle.walk_model.specs.Order.{IsLegalTriple, Triple}
use Rattle.walk_model.specs.Walk.{Walk, after}
use Rattle.walk_model.proofs.CornerByCorner.Scan.{after-append, after-replicate}
use Rattle.walk_laws.proofs.Steps.Clear.{ComesBy, IsClear, clear-append}
use Rattle.walk_laws.proofs.Replacing.Legs.{comes-append}
use Rattle.walk_laws.proofs.OnKeptLines.Lines.{chosen}
use Rattle.walk_laws.proofs.Replacing.Tours.{IsTour, legal_from_tour, stub, stub_back}
use Rattle.move_model.specs.declared.place.Place.{Place}
use Rattle.move_model.specs.Places.{HasFreeStub}
use Rattle.move_model.specs.Ways.{GoesAlongWay, IsWay, Leg, steps_along, steps_of_way}
use Rattle.move_model.proofs.Moving.Moves.{move_clear}
use Rattle.move_model.proofs.Moving.Stages.{comes_with}
use Rattle.move_model.proofs.Moving.Stubs.{clear_stub, clear_stub_back}

module _ (floor : Floor) (a : Arena) (arena : IsArena a) (stands : StandsFor floor a) (via : List Point) (e : Choice) where
  -- the legs lead by clear steps from the point to the port of the end choice, by the checkpoints that are left
  record Arrives (p : Point) (stage : ℕ) (ls : List Leg) : Type 0 where
    free : HasFreeStub floor.solids e
    clear : IsClear floor.solids None p (steps_along ls)
    reaches : after p (steps_along ls) ≡ e.port
    comes : ComesBy p (steps_along ls) (drop stage via)
    steps : steps_of_way ls e ≡ steps_along ls ++ stub_back e

  arrives : (ls : List Leg) (x : Place) (p : Point) → StandsAt a x.crossing p → IsWay floor.solids a via x ls e → Arrives p x.stage ls
  arrives [] x p at w = record {
    free = w.free;
    clear = tt;
    reaches = one_point a x.crossing p e.port arena at w.here;
    comes = subst (ComesBy p []) (sym (ap (λ k. drop k via) w.stage ∙ drop_all (length via) via (omega arith))) tt;
    steps = refl;
  }
  arrives (l ∷ ls) x p at w =
      let m = w.0 in
      let run = replicate l.steps l.to.heading in
      let on = steps_along ls in
      let rest = arrives ls l.to m.end m.there w.1 in
      let begin : m.begin ≡ p = one_point a x.crossing m.begin p arena m.here at in
      let there : after p run ≡ m.end = after-replicate p l.steps l.to.heading ∙ ap (forward l.to.heading l.steps) (sym begin) ∙ sym m.straight in
      record {
        free = rest.free;
        clear = clear-append floor.solids None p run on (subst (λ q. IsClear floor.solids None q run) begin (move_clear floor a arena stands via x l.steps l.to m))
            (subst (λ q. IsClear floor.solids None q on) (sym there) rest.clear);
        reaches = after-append p run on ∙ ap (λ q. after q on) there ∙ rest.reaches;
        comes = comes-append p run on [] (drop x.stage via) tt (subst (λ q. ComesBy q on (drop x.stage via)) (sym there) (comes_with via m.end on x.stage l.to.stage m.stage rest.comes));
        steps = ap (λ ds. run ++ ds) rest.steps ∙ sym (append_assoc run on (stub_back e));
      }

-- a walk that goes along a way is legal
pub way_is_legal : (floor : Floor) (a : Arena) (task : Task) (t : Triple) → IsArena a → StandsFor floor a → IsTask task → GoesAlongWay floor.solids a task t → IsLegalTriple floor.solids task t
way_is_legal floor a task t arena stands is_task w =
    let hs = chosen IsChoice task.starts t.start w.start w.is_start is_task.starts.each in
    let he = chosen IsChoice task.ends t.end w.end w.is_end is_task.ends.each in
    let on = arrives floor a arena stands task.via w.end w.legs w.entry w.start.port w.enters.here w.way in
    let tour : IsTour floor.solids task.via w.start t.walk w.end (steps_along w.legs) = record {
      start = ap (λ (v : Walk). v.start) w.walk;
      steps = ap (λ (v : Walk). v.steps) w.walk ∙ ap (λ ds. stub w.start ++ ds) on.steps;
      start_stub = clear_stub floor.solids w.start hs w.enters.free;
      clear = on.clear;
      reaches = on.reaches;
      end_stub = clear_stub_back floor.solids w.end he on.free;
      comes = comes_with task.via w.start.port (steps_along w.legs) 0 w.entry.stage w.enters.stage on.comes;
    } in
    record {
      start = w.start;
      end = w.end;
      is_start = w.is_start;
      is_end = w.is_end;
      legal = legal_from_tour floor.solids task.via w.start t.walk w.end hs he (steps_along w.legs) tour;
    }
