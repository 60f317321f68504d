-- The first walk enters the lines, with nothing passed but the stub of its start choice.
use Rattle.std.proofs.Common.{◌≡◌, ◌+◌, ◌<◌, ◌≤◌, Some, None, List, [], ◌∷◌, ◌++◌, Contains, length, replicate, inl, refl, sym, ap, subst, ◌∙◌, arith}
use Rattle.std.specs.Prelude.{slice_get}
use Rattle.std.proofs.lemmas.List.Elements.{All-contains}
use Rattle.std.proofs.lemmas.Option.{same_Some}
use Rattle.plane_geom.specs.declared.point.Point.{Point}
use Rattle.plane_geom.specs.declared.point.Dir.{Dir}
use Rattle.plane_geom.specs.Point.{forward}
use Rattle.plane_geom.proofs.Signed.{distance_bound}
use Rattle.line_arena.specs.Arena.{StandsAt}
use Rattle.walk_model.specs.declared.task.Choice.{Choice}
use Rattle.walk_model.specs.Choice.{IsChoice, stub_length}
use Rattle.walk_model.specs.Order.{Triple, triple_cost}
use Rattle.walk_model.specs.Walk.{Walk, after, end_of}
use Rattle.walk_model.proofs.Ranking.OneAnswer.{corners, corners_after}
use Rattle.walk_model.proofs.CornerByCorner.Scan.{after-append, after-replicate}
use Rattle.walk_laws.proofs.OnKeptLines.Lines.{chosen}
use Rattle.move_model.specs.declared.ahead.Ahead.{Ahead}
use Rattle.move_model.specs.declared.place.Place.{Place}
use Rattle.move_model.specs.Ahead.{ahead}
use Rattle.move_model.specs.Ways.{IsWay, steps_of_way}
use Rattle.move_model.proofs.GoingOn.Joined.{way_ahead}
use Rattle.search_problem.specs.Ends.{IsEntryOf}
use Rattle.search_problem.specs.Problems.{IsReady}
use Rattle.search_problem.specs.declared.ends.Entry.{Entry}
use Rattle.search_problem.specs.declared.problem.Problem.{Problem}
use Rattle.route_search.specs.Known.{Knowledge}
use Rattle.route_search.specs.Starting.{EntersAt}
use Rattle.route_search.proofs.Tracing.Corners.{corners_from}
use Rattle.route_search.proofs.Tracing.Following.{IsFollowing}

module _ (p : Problem) (known : Knowledge) (ready : IsReady p) (entry : Entry) (v : Ahead) (t : Triple) (e : EntersAt p known entry v t) where
  abbrev start : Choice
  start = e.way.along.start

  abbrev end : Choice
  end = e.way.along.end

  abbrev rest : List Dir
  rest = steps_of_way e.way.along.legs end

  is_choice : IsChoice start
  is_choice = chosen IsChoice p.task.now.starts t.start start e.way.along.is_start ready.problem.is_task.starts.each

  ahead_is : v ≡ ahead p.task.now.penalty start.dir start.port rest end.cost
  ahead_is =
      let along = e.way.along in
      same_Some v (ahead p.task.now.penalty along.entry.heading start.port rest end.cost)
      (sym e.is_known ∙ ap known.ahead e.place ∙ e.way.exact [] along.legs along.entry start.port refl refl along.enters.here)
      ∙ ap (λ d. ahead p.task.now.penalty d start.port rest end.cost) along.enters.heading

  steps_are : t.walk.steps ≡ replicate (stub_length start) start.dir ++ rest
  steps_are = ap (λ (w : Walk). w.steps) e.way.along.walk

  start_is : t.walk.start ≡ start.pin
  start_is = ap (λ (w : Walk). w.start) e.way.along.walk

  -- the end choice of the legal walk is that of the way
  end_is : end_of t.walk ≡ end.pin
  end_is =
      let legal = e.way.first.legal in
      legal.legal.arrives.pin ∙ ap (λ (c : Choice). c.pin) (same_Some legal.end end (sym legal.is_end ∙ e.way.along.is_end))

  port_is : start.port ≡ forward start.dir (stub_length start) start.pin
  port_is = is_choice.straight

  leads_to_end : after start.port rest ≡ end.pin
  leads_to_end =
      let n = stub_length start in
      let run = replicate n start.dir in
      ap (λ q. after q rest) (port_is ∙ sym (after-replicate start.pin n start.dir)) ∙ sym (after-append start.pin run rest) ∙ (λ i. after (sym start_is i) (sym steps_are i)) ∙ end_is

  corners_are : start.pin ∷ corners_after start.dir start.port rest ≡ t.walk.start ∷ corners t.walk.start t.walk.steps
  corners_are =
      ap (λ zs. start.pin ∷ zs) (ap (λ q. corners_after start.dir q rest) port_is ∙ sym (corners_from start.dir (stub_length start) start.pin rest is_choice.apart))
      ∙ (λ i. sym start_is i ∷ corners (sym start_is i) (sym steps_are i))

  pub enters : (points : List Point) → points ≡ start.pin ∷ [] → IsFollowing p known t e.way (record { place = entry.place; ahead = v; tail = None }) points
  enters points drawn =
      let along = e.way.along in
      let back : along.entry ≡ entry.place = sym e.place in
      let heading : entry.place.heading ≡ start.dir = ap (λ (x : Place). x.heading) e.place ∙ along.enters.heading in
      record {
        passed = [];
        leads = back;
        at = start.port;
        here = subst (λ x. StandsAt p.arena.now x.crossing start.port) back along.enters.here;
        stage = subst (λ x. x.stage ≤ length p.task.now.via) back along.enters.stage.within;
        rest = rest;
        steps = refl;
        makes = ahead_is ∙ ap (λ d. ahead p.task.now.penalty d start.port rest end.cost) (sym heading);
        goes = inl (record { legs = along.legs; all = refl; way = subst (λ x. IsWay p.solids.now p.arena.now p.task.now.via x along.legs end) back along.way; left = refl });
        tail = λ b none. absurd (let wrong : Some b ≡ None = sym none in cc);
        end = leads_to_end;
        drawn = (λ i. drawn i ++ corners_after (heading i) start.port rest) ∙ corners_are;
      }

  module _ (inside : Contains p.entries.items entry) where
    -- the entry is that of the walk's start choice
    pub entry_of : IsEntryOf p.solids.now p.arena.now p.task.now start entry
    entry_of =
        let of_some : (entry.choice < length p.task.now.starts) × (c : Choice) × IsEntryOf p.solids.now p.arena.now p.task.now c entry =
        All-contains (λ (k : Entry). (k.choice < length p.task.now.starts) × (c : Choice) × IsEntryOf p.solids.now p.arena.now p.task.now c k) p.entries.items entry ready.entries.sound inside in
        let same : of_some.1 ≡ start = same_Some of_some.1 start (sym of_some.2.is_start ∙ ap (slice_get p.task.now.starts) e.start ∙ e.way.along.is_start) in
        subst (λ c. IsEntryOf p.solids.now p.arena.now p.task.now c entry) same of_some.2

    pub small_lead : entry.lead ≤ 9000000000
    small_lead = omega (arith, entry_of.lead, distance_bound start.pin start.port is_choice.pin is_choice.port, is_choice.cost)

    -- the cost of the walk is the lead of its entry and what is ahead
    pub cost_is : entry.lead + v.cost ≡ triple_cost p.task.now t
    cost_is =
        let whole = ap (λ (w : Ahead). w.cost) (way_ahead p.solids.now p.arena.now p.task.now t ready.problem.is_task e.way.along) in
        let total : triple_cost p.task.now t ≡ stub_length start + start.cost + (ahead p.task.now.penalty start.dir start.port rest end.cost).cost = whole in
        let same : v.cost ≡ (ahead p.task.now.penalty start.dir start.port rest end.cost).cost = ap (λ (w : Ahead). w.cost) ahead_is in
        omega (arith, total, same, entry_of.lead)
