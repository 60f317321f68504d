-- An entry of the list is one on each floor of the problem.
use Rattle.std.proofs.Common.{ℕ, ◌<◌, Contains, List, [], length, refl, subst, sym}
use Rattle.std.proofs.lemmas.List.Elements.{All-contains}
use Rattle.plane_geom.specs.declared.rect.Solid.{Solid}
use Rattle.plane_geom.specs.declared.floor.Floor.{Floor}
use Rattle.walk_model.specs.declared.task.Choice.{Choice}
use Rattle.move_model.specs.Places.{HasFreeStub}
use Rattle.move_model.specs.Problems.{IsProblem}
use Rattle.route_check.proofs.Collisions.Places.{contains_at}
use Rattle.search_problem.specs.Ends.{IsEntryOf}
use Rattle.search_problem.specs.Problems.{IsReady}
use Rattle.search_problem.specs.declared.ends.Entry.{Entry}
use Rattle.search_problem.specs.declared.problem.Problem.{Problem}
use Rattle.proof_model.specs.Places as floors
use Rattle.proof_model.proofs.Bridge.{crossing_of}
use Rattle.proof_search.specs.declared.scope.Scope.{Scope}
use Rattle.proof_search.specs.declared.scope.Scope.TheVariants.{Below, Every}
use Rattle.proof_search.specs.Scopes.{ComesBy}
use Rattle.proof_search.specs.Search.{IsComing, place_at}

module _ (p : Problem) (ready : IsReady p) where
  entry_on_floor : (t : Choice) (e : Entry) → IsEntryOf p.solids.now p.arena.now p.task.now t e → (floor : Floor)
      → IsProblem floor p.arena.now p.solids.now p.task.now
      → floors.IsEntry floor p.task.now (place_at e.place t.port) e.lead
  entry_on_floor t e is floor on = record {
    start = t;
    is_start = contains_at p.task.now.starts e.choice t is.is_start;
    crossing = crossing_of floor p.arena.now ready.arena on.stands e.place.crossing t.port is.enters.here;
    free = subst (λ (solids : List Solid). HasFreeStub solids t) (sym on.same_solids) is.enters.free;
    stage = is.enters.stage;
    at = refl;
    heading = is.enters.heading;
    costs = is.lead;
  }

  comes_by : (s : Scope) (floor : Floor) (x : floors.Place) (cost : ℕ) → floors.IsEntry floor p.task.now x cost → ComesBy s floor p.task.now x cost
  comes_by (Below most) floor x cost h = ([], h)
  comes_by Every floor x cost h = ([], cost, h)

  pub entering : (s : Scope) (e : Entry) → Contains p.entries.items e → IsComing p s e.place e.lead
  entering s e listed =
      let sound = All-contains (λ k. (k.choice < length p.task.now.starts) × (t : Choice) × IsEntryOf p.solids.now p.arena.now p.task.now t k)
      p.entries.items e ready.entries.sound listed in
      let t = sound.1 in
      let is = sound.2 in
      record {
        at = t.port;
        here = is.enters.here;
        stage = is.enters.stage.within;
        comes = λ floor on. comes_by s floor (place_at e.place t.port) e.lead (entry_on_floor t e is floor on);
      }
