-- What a walk that reached a place was offered on to, direction by direction.
use Rattle.std.proofs.Common.{◌≡◌, ℕ, ◌+◌, ◌*◌, ◌<◌, ◌≤◌, Option, None, List, ◌∷◌, get_or, length, refl, subst, inl, inr, arith}
use Rattle.std.proofs.lemmas.Bool.{cases_lt}
use Rattle.plane_geom.specs.declared.point.Point.{Point}
use Rattle.plane_geom.specs.declared.point.Dir.{Dir}
use Rattle.plane_geom.specs.declared.point.Dir.TheVariants.{East}
use Rattle.plane_geom.specs.declared.floor.Floor.{Floor}
use Rattle.line_arena.specs.Arena.{StandsAt}
use Rattle.line_arena.proofs.Arenas.ArenaLaws.{one_point}
use Rattle.walk_model.specs.declared.task.Task.{Task}
use Rattle.walk_model.specs.Cost.{turn}
use Rattle.move_model.specs.declared.place.Place.{Place}
use Rattle.search_problem.specs.Problems.{IsReady}
use Rattle.search_problem.specs.declared.problem.Problem.{Problem}
use Rattle.proof_model.specs.declared.next.Next.{Next}
use Rattle.proof_model.specs.Next.{IsNext, place_of}
use Rattle.route_search.proofs.Moving.Directions.{directions, each}
use Rattle.proof_search.specs.declared.labels.Labels.{Labels}
use Rattle.proof_search.specs.declared.scope.Scope.{Scope}
use Rattle.proof_search.specs.declared.scope.Scope.TheVariants.{Below, Every}
use Rattle.proof_search.specs.Scopes.{ComesBy}
use Rattle.proof_search.specs.Search.{IsComing, IsPropagatedIn, IsPropagated, IsSearching, OnFloors, Spreads, place_at, weight}
use Rattle.proof_search.proofs.Offers.Offering.{in_still, spreads_both, spreads_none}

-- a walk that reached the place goes on by the move
moved_by : (s : Scope) (floor : Floor) (task : Task) (stage : ℕ) (at : Point) (h d : Dir) (cost : ℕ) (n : Next) → IsNext floor task stage at d n
    → ComesBy s floor task (record { stage = stage; at = at; heading = h }) cost
    → ComesBy s floor task (place_of n) (cost + (n.steps + task.penalty * turn h d))
moved_by (Below most) floor task stage at h d cost n next comes =
    (record { from = record { stage = stage; at = at; heading = h }; cost = n.steps + task.penalty * turn h d } ∷ comes.0, (cost, comes.1, next.move h, refl))
moved_by Every floor task stage at h d cost n next comes = (
  record { from = record { stage = stage; at = at; heading = h }; cost = n.steps + task.penalty * turn h d } ∷ comes.0,
  comes.1 +
      (n.steps + task.penalty * turn h d),
  (comes.1, comes.2, next.move h, refl),
)

-- and reaches the next place
pub moved : (p : Problem) (s : Scope) (x : Place) (at : Point) (cost : ℕ) (d : Dir) (n : Next)
    → OnFloors p (λ floor. ComesBy s floor p.task.now (place_at x at) cost)
    → OnFloors p (λ floor. IsNext floor p.task.now x.stage at d n) → StandsAt p.arena.now n.place.crossing n.at → n.place.stage ≤ length p.task.now.via
    → IsComing p s n.place (cost + (n.steps + p.task.now.penalty * turn x.heading d))
moved p s x at cost d n comes next there stage = record {
  at = n.at;
  here = there;
  stage = stage;
  comes = λ floor on. moved_by s floor p.task.now x.stage at x.heading d cost n (next floor on) (comes floor on);
}

-- the moves in the first of the directions were offered
pub record Propagating (p : Problem) (s : Scope) (old now : Labels) (x : Place) (at : Point) (cost : ℕ) (dirs : List Dir) (count : ℕ) : Type 0 where
  pub searching : (but : Option Place) → IsSearching p s old None but → IsSearching p s now None but
  pub spreads : Spreads s old now
  pub lighter : weight s now ≤ weight s old
  pub propagated : (k : ℕ) → k < count → IsPropagatedIn p s now x at cost (get_or dirs k East)

pub propagating_begins : (p : Problem) (s : Scope) (l : Labels) (x : Place) (at : Point) (cost : ℕ) (dirs : List Dir) → Propagating p s l l x at cost dirs 0
propagating_begins p s l x at cost dirs = record {
  searching = λ but h. h;
  spreads = spreads_none s l;
  lighter = omega arith;
  propagated = λ k less. absurd (omega (arith, less));
}

pub propagating_more : (p : Problem) (s : Scope) (old mid new : Labels) (x : Place) (at : Point) (cost : ℕ) (dirs : List Dir) (k : ℕ)
    → Propagating p s old mid x at cost dirs k
    → ((but : Option Place) → IsSearching p s mid None but → IsSearching p s new None but) → Spreads s mid new → weight s new ≤ weight s mid
    → IsPropagatedIn p s new x at cost (get_or dirs k East) → Propagating p s old new x at cost dirs (k + 1)
propagating_more p s old mid new x at cost dirs k h searching spreads lighter propagated = record {
  searching = λ but was. searching but (h.searching but was);
  spreads = spreads_both s old mid new h.spreads spreads;
  lighter = omega (arith, lighter, h.lighter);
  propagated = λ j less. elim (cases_lt j k) as (λ _. IsPropagatedIn p s new x at cost (get_or dirs j East)) [
    | inl before ↦ in_still p s mid new spreads.falls x at cost (get_or dirs j East) (h.propagated j before)
    | inr upto ↦ (
        let same : k ≡ j = omega (arith, upto, less) in
        subst (λ (i : ℕ). IsPropagatedIn p s new x at cost (get_or dirs i East)) same propagated)
  ];
}

-- in all directions, from wherever the place stands
pub all_propagated : (p : Problem) → IsReady p → (s : Scope) (old now : Labels) (x : Place) (at : Point) (cost count : ℕ) → StandsAt p.arena.now x.crossing at
    → Propagating p s old now x at cost directions count → 4 ≤ count → IsPropagated p s now x cost
all_propagated p ready s old now x at cost count here h all q there d =
    let same : at ≡ q = one_point p.arena.now x.crossing at q ready.arena here there in
    subst (λ (z : Point). IsPropagatedIn p s now x z cost d) same (each (λ e. IsPropagatedIn p s now x at cost e) count h.propagated all d)
