-- What is ahead along the way of a first walk matters: no walk through it is left out.
use Rattle.std.proofs.Common.{◌≡◌, ℕ, ◌+◌, ◌*◌, ◌<◌, ◌≤◌, ◌==◌, if◌then◌else◌, Some, List, [], ◌∷◌, ◌++◌, length, sym, ap, subst, ◌∙◌, inl, inr, arith}
use Rattle.std.specs.Prelude.{Any, Contains, slice_get}
use Rattle.std.proofs.lemmas.List.Elements.{All-contains}
use Rattle.std.proofs.lemmas.Option.{slice_get_within}
use Rattle.plane_geom.specs.declared.point.Point.{Point}
use Rattle.plane_geom.specs.Point.{forward}
use Rattle.plane_geom.proofs.Headings.{forward_distance}
use Rattle.line_arena.specs.Arena.{StandsAt}
use Rattle.line_arena.proofs.Arenas.ArenaLaws.{one_crossing, one_point}
use Rattle.walk_model.specs.declared.task.Choice.{Choice}
use Rattle.walk_model.specs.Choice.{stub_length}
use Rattle.walk_model.specs.Cost.{runs, turn}
use Rattle.walk_model.specs.Order.{IsFirst, Triple, triple_cost}
use Rattle.walk_laws.proofs.FewAndSmall.SmallWalks.{few_in_all, small_cost}
use Rattle.move_model.specs.declared.ahead.Ahead.{Ahead}
use Rattle.move_model.specs.declared.place.Place.{Place}
use Rattle.move_model.specs.Ahead.{ahead, whole, with_start, with_stretch}
use Rattle.move_model.specs.Places.{ComesTo, IsEntry, IsMove}
use Rattle.move_model.specs.Ways.{GoesAlongWay, HasRest, Leads, Leg, steps_of_way}
use Rattle.move_model.proofs.GoingOn.Joined.{way_ahead}
use Rattle.move_model.proofs.GoingOn.Rivals.{least}
use Rattle.move_model.proofs.GoingOn.Stretching.{stretch_ahead}
use Rattle.move_model.proofs.Moving.Stages.{one_stage}
use Rattle.search_problem.specs.Bounds.{most_cost, origins_after}
use Rattle.search_problem.specs.Ends.{IsEntryOf}
use Rattle.search_problem.specs.Origins.{Covers}
use Rattle.search_problem.specs.Problems.{IsReady}
use Rattle.search_problem.specs.declared.ends.Entry.{Entry}
use Rattle.search_problem.specs.declared.origin.Origin.{Origin}
use Rattle.search_problem.specs.declared.problem.Problem.{Problem}
use Rattle.search_problem.proofs.BoundsGrow.{bound_enters, bound_moves}
use Rattle.exit_spread.specs.Ways.{IsBest, bound_at, most_runs}
use Rattle.exit_spread.proofs.Known.AheadOrder.{costs_no_more}

-- a walk with this ahead of the place, which is at the point, is not left out
pub record Matters (p : Problem) (best : ℕ) (x : Place) (at : Point) (v : Ahead) : Type 0 where
  pub cheap : v.cost + bound_at p x at ≤ best
  pub few : v.runs ≤ most_runs

module _ (p : Problem) (ready : IsReady p) where
  -- a move adds at most its cost to the bound
  move_adds : (x y : Place) (n : ℕ) → (m : IsMove p.arena.now p.task.now.via x n y) → bound_at p y m.end ≤ bound_at p x m.begin + n + p.task.now.penalty * turn x.heading y.heading
  move_adds x y n m =
      subst (λ q. bound_at p y q ≤ bound_at p x m.begin + n + p.task.now.penalty * turn x.heading y.heading) (sym m.straight)
      (bound_moves p.origins.items p.task.now ready.stages ready.all_stages x.stage y.stage x.heading y.heading n m.begin (forward_distance y.heading n m.begin)
      (subst (λ q. ComesTo p.task.now.via x.stage q y.stage) m.straight m.stage))

  -- an entry costs at least the bound
  entry_costs : (e : Entry) → Contains p.entries.items e → bound_at p e.place e.port ≤ e.lead
  entry_costs e has =
      let of_some =
      All-contains (λ (f : Entry). (f.choice < length p.task.now.starts) × (c : Choice) × IsEntryOf p.solids.now p.arena.now p.task.now c f) p.entries.items e ready.entries.sound has in
      let of_s : IsEntryOf p.solids.now p.arena.now p.task.now of_some.1 e = of_some.2 in
      bound_enters p.origins.items p.task.now ready.stages ready.all_stages e e.place.stage
      (All-contains (λ (f : Entry). Any (λ (o : Origin). Covers o f) (origins_after p.origins.items 0)) p.entries.items e ready.covered has)
      (subst (λ q. ComesTo p.task.now.via 0 q e.place.stage) (sym of_s.port) of_s.enters.stage)

  -- a start choice enters the lines at one place
  one_entry : (s : Choice) (x y : Place) → IsEntry p.solids.now p.arena.now p.task.now.via s x → IsEntry p.solids.now p.arena.now p.task.now.via s y → x ≡ y
  one_entry s x y h g =
      let crossing = one_crossing p.arena.now x.crossing y.crossing s.port ready.arena h.here g.here in
      let stage = one_stage p.task.now.via 0 x.stage y.stage s.port h.stage g.stage in
      let heading = h.heading ∙ sym g.heading in
      λ i. record { crossing = crossing i; stage = stage i; heading = heading i }

  -- each start choice that enters the lines has an entry
  pub some_entry : (number : ℕ) (s : Choice) (x : Place) → slice_get p.task.now.starts number ≡ Some s → IsEntry p.solids.now p.arena.now p.task.now.via s x →
      (e : Entry) × Contains p.entries.items e × (e.place ≡ x) × (e.port ≡ s.port) × (e.lead ≡ stub_length s + s.cost)
  some_entry number s x is_start enters =
      let found = ready.entries.complete number s x (slice_get_within p.task.now.starts number s is_start) is_start enters in
      let of_some =
      All-contains (λ (e : Entry). (e.choice < length p.task.now.starts) × (c : Choice) × IsEntryOf p.solids.now p.arena.now p.task.now c e) p.entries.items found.0 ready.entries.sound found.1 in
      let same : of_some.1 ≡ s = let both : Some of_some.1 ≡ Some s = sym of_some.2.is_start ∙ ap (slice_get p.task.now.starts) found.2 ∙ is_start in cc in
      let of_s : IsEntryOf p.solids.now p.arena.now p.task.now s found.0 = subst (λ c. IsEntryOf p.solids.now p.arena.now p.task.now c found.0) same of_some.2 in
      (found.0, found.1, one_entry s found.0.place x of_s.enters enters, of_s.port, of_s.lead)

  -- what is ahead of a move is what is ahead after it, with the move put in front
  pub move_ahead : (x : Place) (at : Point) (g : Leg) (gs : List Leg) (e : Choice) → (m : IsMove p.arena.now p.task.now.via x g.steps g.to) → StandsAt p.arena.now x.crossing at →
      ahead p.task.now.penalty x.heading at (steps_of_way (g ∷ gs) e) e.cost
      ≡ with_stretch p.task.now.penalty x.heading (record { from = at; dir = g.to.heading; steps = g.steps }) (ahead p.task.now.penalty g.to.heading m.end (steps_of_way gs e) e.cost)
  move_ahead x at g gs e m here =
      let penalty = p.task.now.penalty in
      let begin : m.begin ≡ at = one_point p.arena.now x.crossing m.begin at ready.arena m.here here in
      let there : forward g.to.heading g.steps at ≡ m.end = ap (forward g.to.heading g.steps) (sym begin) ∙ sym m.straight in
      stretch_ahead penalty x.heading (record { from = at; dir = g.to.heading; steps = g.steps }) (steps_of_way gs e) e.cost m.some
      ∙ ap (λ q. with_stretch penalty x.heading (record { from = at; dir = g.to.heading; steps = g.steps }) (ahead penalty g.to.heading q (steps_of_way gs e) e.cost)) there

  -- what matters still matters after a move
  matters_next : (best : ℕ) (x : Place) (at : Point) (g : Leg) (gs : List Leg) (e : Choice) → (m : IsMove p.arena.now p.task.now.via x g.steps g.to) → StandsAt p.arena.now x.crossing at →
      Matters p best x at (ahead p.task.now.penalty x.heading at (steps_of_way (g ∷ gs) e) e.cost) →
      Matters p best g.to m.end (ahead p.task.now.penalty g.to.heading m.end (steps_of_way gs e) e.cost)
  matters_next best x at g gs e m here matters =
      let penalty = p.task.now.penalty in
      let begin : m.begin ≡ at = one_point p.arena.now x.crossing m.begin at ready.arena m.here here in
      let v : Ahead = ahead penalty x.heading at (steps_of_way (g ∷ gs) e) e.cost in
      let on : Ahead = ahead penalty g.to.heading m.end (steps_of_way gs e) e.cost in
      let front : v ≡ with_stretch penalty x.heading (record { from = at; dir = g.to.heading; steps = g.steps }) on = move_ahead x at g gs e m here in
      let cost : v.cost ≡ on.cost + g.steps + penalty * turn x.heading g.to.heading = ap (λ (z : Ahead). z.cost) front in
      let number : v.runs ≡ (if turn x.heading g.to.heading == 0 then 0 else 1) + on.runs = ap (λ (z : Ahead). z.runs) front in
      let bound : bound_at p g.to m.end ≤ bound_at p x at + g.steps + penalty * turn x.heading g.to.heading =
      subst (λ q. bound_at p g.to m.end ≤ bound_at p x q + g.steps + penalty * turn x.heading g.to.heading) begin (move_adds x g.to g.steps m) in
      record { cheap = omega (arith, matters.cheap, cost, bound); few = omega (arith, matters.few, number) }

  -- so it does all along a way
  matters_behind : (best : ℕ) (passed legs : List Leg) (x y : Place) (at to : Point) (e : Choice) → Leads p.arena.now p.task.now.via x passed y → StandsAt p.arena.now x.crossing at → StandsAt p.arena.now y.crossing to →
      Matters p best x at (ahead p.task.now.penalty x.heading at (steps_of_way (passed ++ legs) e) e.cost) →
      Matters p best y to (ahead p.task.now.penalty y.heading to (steps_of_way legs e) e.cost)
  matters_behind best [] legs x y at to e leads here there matters =
      let same : at ≡ to = one_point p.arena.now x.crossing at to ready.arena here (subst (λ (z : Place). StandsAt p.arena.now z.crossing to) (sym leads) there) in
      subst (λ (z : Place). Matters p best z to (ahead p.task.now.penalty z.heading to (steps_of_way legs e) e.cost)) leads
      (subst (λ q. Matters p best x q (ahead p.task.now.penalty x.heading q (steps_of_way legs e) e.cost)) same matters)
  matters_behind best (g ∷ passed) legs x y at to e leads here there matters =
      matters_behind best passed legs g.to y leads.0.end to e leads.1 leads.0.there there (matters_next best x at g (passed ++ legs) e leads.0 here matters)

  module _ (best : ℕ) (is_best : IsBest p most_cost best) (t : Triple) (first : IsFirst p.solids.now p.task.now t) (along : GoesAlongWay p.solids.now p.arena.now p.task.now t) where
    on_floor : IsFirst ready.floor.solids p.task.now t
    on_floor = subst (λ z. IsFirst z p.task.now t) (sym ready.problem.same_solids) first

    abbrev rest : Ahead
    rest = ahead p.task.now.penalty along.entry.heading along.start.port (steps_of_way along.legs along.end) along.end.cost

    first_whole : whole p.task.now t ≡ with_start along.start rest
    first_whole =
        way_ahead p.solids.now p.arena.now p.task.now t ready.problem.is_task along
        ∙ ap (λ h. with_start along.start (ahead p.task.now.penalty h along.start.port (steps_of_way along.legs along.end) along.end.cost)) (sym along.enters.heading)

    costs_no_more_than_best : triple_cost p.task.now t ≤ best
    costs_no_more_than_best = elim is_best.of_walk as (λ _. triple_cost p.task.now t ≤ best) [
      | inl most ↦ (let small = small_cost ready.floor p.task.now t ready.problem.is_floor ready.problem.is_task ready.problem.is_floor_of on_floor in omega (arith, most, small))
      | inr (u, legal, same) ↦ (
          let less = costs_no_more (whole p.task.now t) (whole p.task.now u) (least p.solids.now p.task.now t u first legal) in omega (arith, same, less))
    ]

    -- the rest of a first walk matters at its entry
    first_matters : Matters p best along.entry along.start.port rest
    first_matters =
        let found = some_entry t.start along.start along.entry along.is_start along.enters in
        let entry = found.0 in
        let lead = found.4 in
        let bound : bound_at p along.entry along.start.port ≤ entry.lead =
        subst (λ q. bound_at p along.entry q ≤ entry.lead) found.3 (subst (λ x. bound_at p x entry.port ≤ entry.lead) found.2 (entry_costs entry found.1)) in
        let cost : triple_cost p.task.now t ≡ stub_length along.start + along.start.cost + rest.cost = ap (λ (v : Ahead). v.cost) first_whole in
        let number : runs t.walk.steps ≡ 1 + rest.runs = ap (λ (v : Ahead). v.runs) first_whole in
        let few = few_in_all ready.floor p.task.now t ready.problem.is_floor ready.problem.is_task ready.problem.is_floor_of on_floor in
        record { cheap = omega (arith, bound, lead, cost, costs_no_more_than_best); few = omega (arith, number, few) }

    -- and at each place on its way
    pub rest_matters : (y : Place) (q : Point) (legs : List Leg) → HasRest p.solids.now p.arena.now p.task.now t along y q legs →
        Matters p best y q (ahead p.task.now.penalty y.heading q (steps_of_way legs along.end) along.end.cost)
    rest_matters y q legs h =
        matters_behind best h.front legs along.entry y along.start.port q along.end h.leads along.enters.here h.here
        (subst (λ ls. Matters p best along.entry along.start.port (ahead p.task.now.penalty along.entry.heading along.start.port (steps_of_way ls along.end) along.end.cost)) h.legs first_matters)
