-- The end choice of a way that ends at a place has its ending there.
use Rattle.std.proofs.Common.{◌≡◌, ℕ, ◌<◌, Some, [], length, sym, ap, subst, ◌∙◌}
use Rattle.std.specs.Prelude.{Contains, slice_get}
use Rattle.std.proofs.lemmas.List.Elements.{All-contains}
use Rattle.std.proofs.lemmas.Option.{slice_get_within}
use Rattle.plane_geom.specs.declared.point.Point.{Point}
use Rattle.plane_geom.specs.Point.{opposite}
use Rattle.line_arena.specs.Arena.{StandsAt}
use Rattle.line_arena.proofs.Arenas.ArenaLaws.{one_crossing, one_point}
use Rattle.walk_model.specs.declared.task.Choice.{Choice}
use Rattle.walk_model.specs.Choice.{IsChoice, stub_length}
use Rattle.walk_laws.proofs.OnKeptLines.Lines.{chosen}
use Rattle.move_model.specs.declared.ahead.Ahead.{Ahead}
use Rattle.move_model.specs.declared.place.Place.{Place}
use Rattle.move_model.specs.Ahead.{ahead, nothing, with_stretch}
use Rattle.move_model.specs.Places.{IsEnding}
use Rattle.move_model.specs.Ways.{steps_of_way}
use Rattle.move_model.proofs.GoingOn.Stretching.{stub_ahead}
use Rattle.search_problem.specs.Ends.{IsEndingOf}
use Rattle.search_problem.specs.Problems.{IsReady}
use Rattle.search_problem.specs.declared.ends.Ending.{Ending}
use Rattle.search_problem.specs.declared.problem.Problem.{Problem}

module _ (p : Problem) (ready : IsReady p) where
  -- what is ahead of a walk that arrives at the place and ends by the stub of the ending
  abbrev pub stub_of : Place → Ending → Ahead
  stub_of x e = with_stretch p.task.now.penalty x.heading (record { from = e.port; dir = e.dir; steps = e.rest }) nothing

  -- the stub, by the end choice of the ending
  pub stub_left : (x : Place) (at : Point) (c : Choice) (e : Ending) → StandsAt p.arena.now x.crossing at → e.crossing ≡ x.crossing → IsEndingOf p.solids.now p.arena.now p.task.now c e →
      (e.port ≡ at) × (stub_of x e ≡ ahead p.task.now.penalty x.heading at (steps_of_way [] c) c.cost)
  stub_left x at c e here crossing is =
      let there : StandsAt p.arena.now x.crossing c.port = subst (λ z. StandsAt p.arena.now z c.port) crossing is.here in
      let point : e.port ≡ at = is.port ∙ one_point p.arena.now x.crossing c.port at ready.arena there here in
      let choice = chosen IsChoice p.task.now.ends e.choice c is.is_end ready.problem.is_task.ends.each in (
        point,
        (λ i. with_stretch p.task.now.penalty x.heading (record { from = point i; dir = is.dir i; steps = is.rest i }) nothing)
            ∙ sym (stub_ahead p.task.now.penalty x.heading (opposite c.dir) at (stub_length c) c.cost choice.apart),
      )

  -- where a way ends, its end choice has an ending
  pub some_ending : (x : Place) (at : Point) (n : ℕ) (c : Choice) → slice_get p.task.now.ends n ≡ Some c → IsEnding p.solids.now p.arena.now p.task.now.via c x → StandsAt p.arena.now x.crossing at →
      (e : Ending) × Contains p.endings.items e × (e.crossing ≡ x.crossing) × (e.port ≡ at) × (stub_of x e ≡ ahead p.task.now.penalty x.heading at (steps_of_way [] c) c.cost)
  some_ending x at n c is_end w here =
      let found = ready.endings.complete n x.crossing c (slice_get_within p.task.now.ends n c is_end) is_end w.free w.here in
      let of_some =
      All-contains (λ (f : Ending). (f.choice < length p.task.now.ends) × (c : Choice) × IsEndingOf p.solids.now p.arena.now p.task.now c f) p.endings.items found.0 ready.endings.sound found.1 in
      let same : of_some.1 ≡ c = let both : Some of_some.1 ≡ Some c = sym of_some.2.is_end ∙ ap (slice_get p.task.now.ends) found.2 ∙ is_end in cc in
      let is : IsEndingOf p.solids.now p.arena.now p.task.now c found.0 = subst (λ d. IsEndingOf p.solids.now p.arena.now p.task.now d found.0) same of_some.2 in
      let crossing : found.0.crossing ≡ x.crossing = one_crossing p.arena.now found.0.crossing x.crossing c.port ready.arena is.here w.here in
      let left = stub_left x at c found.0 here crossing is in
      (found.0, found.1, crossing, left.0, left.1)
