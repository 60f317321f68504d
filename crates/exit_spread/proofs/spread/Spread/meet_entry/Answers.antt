-- A walk that enters there and goes along the run is legal.
use Rattle.std.proofs.Common.{◌≡◌, ◌≤◌, ◌<◌, ◌+◌, ◌*◌, ℕ, refl, sym, ap, subst, ◌∙◌, FitsSigned, w64, rules, arith}
use Rattle.std.specs.Prelude.{IsSome}
use Rattle.std.proofs.Math.Nat.{min-le_left}
use Rattle.std.proofs.lemmas.Int.{to_z-of_z}
use Rattle.plane_geom.specs.Along.{reach}
use Rattle.line_lists.specs.Lists.{number_of}
use Rattle.move_model.specs.declared.ahead.Ahead.{Ahead}
use Rattle.move_model.specs.declared.place.Place.{Place}
use Rattle.search_problem.proofs.Choices.{entries_small}
use Rattle.exit_rows.specs.Exits.{ahead_at}
use Rattle.exit_spread.specs.Propagating.{IsBehind, IsFurtherAhead}
use Rattle.exit_spread.specs.Ways.{IsBest, IsWayAhead, place_at, turned}
use Rattle.exit_spread.proofs.Sizes.{crossing_within}
use Rattle.exit_spread.proofs.Spreading.Behind.{entered, entry_here, further, run_small, turned_offerable, way_turned}
use Rattle.exit_spread.proofs.Spreading.Counted.{counted_some, lower_best}
use Rattle.exit_spread.proofs.spread.Spread.meet_entry.Goals as goal
use Rattle.exit_spread.proofs.spread.Spread.meet_entry.Goals.{In-Some}

pub index-number-requires : goal.index-number-requires
index-number-requires c =
    let is = (entry_here c.args.problem.now c.requires.ready c.args.entry.now c.requires.entry).is in
    record { live = subst IsSome (sym is) refl }

pub reach-requires : goal.reach-requires
reach-requires c =
    crossing_within c.args.problem.now c.args.entry.now.place.crossing c.args.entry.now.port c.requires.ready
    (entry_here c.args.problem.now c.requires.ready c.args.entry.now c.requires.entry)

pub counted_at-requires-clause-small : goal.counted_at-requires-clause-small
counted_at-requires-clause-small c = run_small c.args.problem.now c.args.lists.now c.requires.ready c.requires.lists c.args.run.now c.requires.run

-- the run's exit counts at the port
counts : (c : In-Some) → IsBehind c.args.problem.now (number_of c.args.lists.now) c.args.run.now c.args.entry.now.place.crossing c.args.entry.now.port × (c.in-Some.ahead ≡ ahead_at c.args.run.now.kept (reach c.args.run.now.heading c.args.entry.now.port))
counts c =
    let e = c.args.entry.now in
    let r = c.args.run.now in
    let fits : FitsSigned w64 c.reach.result = search rules in
    let there = counted_some r.kept (reach r.heading e.port) c.in-Some.ahead
    (sym (c.counted_at.ensures ∙ ap (λ z. Rattle.exit_rows.specs.Exits.counted_at r.kept z)
    (to_z-of_z w64 c.reach.result fits ∙ c.reach.ensures.value)) ∙ c.in-Some.is) in (
      record {
        here = entry_here c.args.problem.now c.requires.ready e c.requires.entry;
        on = sym (c.line_of-line.ensures ∙ (λ i. number_of c.args.lists.now (c.index-number.ensures.number i) (c.way.ensures i))) ∙ c.if-line-run.false;
        counts = there.0;
      },
      there.1,
    )

pub turned-whole-requires-clause-ahead : goal.turned-whole-requires-clause-ahead
turned-whole-requires-clause-ahead c =
    let k = counts (goal.at.turned-whole-requires-clause-ahead c).In-Some in
    subst IsFurtherAhead (sym k.1) (further c.args.problem.now c.args.lists.now c.requires.ready c.requires.lists c.args.run.now c.requires.run c.args.entry.now.place.crossing c.args.entry.now.port k.0)

pub turned-whole-requires-clause-within : goal.turned-whole-requires-clause-within
turned-whole-requires-clause-within c = crossing_within c.args.problem.now c.args.entry.now.place.crossing c.args.entry.now.port c.requires.ready (entry_here c.args.problem.now c.requires.ready c.args.entry.now c.requires.entry)

pub overflow_add-entry : goal.overflow_add-entry
overflow_add-entry c =
    let p = c.args.problem.now in
    let e = c.args.entry.now in
    let r = c.args.run.now in
    let k = counts (goal.at.overflow_add-entry c).In-Some in
    let small = turned_offerable p c.requires.ready e.place.heading e.port r.heading c.in-Some.ahead (crossing_within p e.place.crossing e.port c.requires.ready k.0.here)
    (subst IsFurtherAhead (sym k.1) (further p c.args.lists.now c.requires.ready c.requires.lists r c.requires.run e.place.crossing e.port k.0)) in
    let cost : c.turned-whole.result.cost ≡ (turned p e.place.heading e.port r.heading c.in-Some.ahead).cost = ap (λ (v : Ahead). v.cost) c.turned-whole.ensures in
    let has = c.requires.entry in
    let entry = entries_small p.solids.now p.arena.now p.task.now (Rattle.std.proofs.Common.length p.task.now.starts) p.entries.items c.requires.ready.problem.is_task c.requires.ready.entries has.0 e has.1 in
    let lead = entry.lead in
    let same = ap (λ (f : Rattle.search_problem.specs.declared.ends.Entry.Entry). f.lead) has.2 in
    let bound = small.cost in
    omega (arith, cost, bound, lead, same)

pub returns-in-Some-clause-adds : goal.returns-in-Some-clause-adds
returns-in-Some-clause-adds c =
    let p = c.args.problem.now in
    let e = c.args.entry.now in
    let r = c.args.run.now in
    let s = c.args.self.now in
    let k = counts (goal.at.returns-in-Some-clause-adds c).In-Some in
    let v = ahead_at r.kept (reach r.heading e.port) in
    let way = way_turned p c.args.lists.now c.requires.ready c.requires.lists r c.requires.run e.place.crossing e.port k.0 e.place.heading in
    let place : place_at e.place.crossing r.stage e.place.heading ≡ e.place = (let stage = sym c.if-entry-run.false in λ i. record { crossing = e.place.crossing; stage = stage i; heading = e.place.heading }) in
    let whole = c.turned-whole.ensures ∙ ap (turned p e.place.heading e.port r.heading) k.1 in
    let walk = entered p c.requires.ready e c.turned-whole.result c.requires.entry
    (subst (λ (x : Place). IsWayAhead p x e.port c.turned-whole.result) place (subst (IsWayAhead p (place_at e.place.crossing r.stage e.place.heading) e.port) (sym whole) way)) in
    let lesser = c.min-self.ensures in
    record {
      rows = refl;
      limit = refl;
      best = subst (λ n. n ≤ s.best) (sym lesser) (min-le_left s.best (e.lead + c.turned-whole.result.cost));
      kept = λ x has. has;
      count = omega arith;
      sound = record { candidates = c.requires.sound.candidates; best = subst (IsBest p s.limit) (sym lesser) (lower_best p s.limit s.best (e.lead + c.turned-whole.result.cost) c.requires.sound.best walk) };
    }
