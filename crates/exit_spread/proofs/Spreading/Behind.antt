-- What is ahead of a crossing behind the exit of a run is ahead on ways from it, and is small.
use Rattle.std.proofs.Common.{◌≡◌, ℕ, ◌+◌, ◌*◌, ◌<◌, ◌≤◌, ◌==◌, Bool, true, false, if◌then◌else◌, pos, ◌+ℤ◌, length, refl, sym, ap, subst, ◌∙◌, arith, unsigned_abs}
use Rattle.std.specs.Prelude.{Contains}
use Rattle.std.proofs.Math.Nat.{mul-le-mul_left}
use Rattle.std.proofs.lemmas.Int.{ints}
use Rattle.std.proofs.lemmas.List.Elements.{All-contains}
use Rattle.plane_geom.specs.declared.point.Point.{Point}
use Rattle.plane_geom.specs.declared.point.Dir.{Dir}
use Rattle.plane_geom.specs.declared.point.Dir.TheVariants.{East, South, West, North}
use Rattle.plane_geom.specs.Along.{across, reach, way_of}
use Rattle.plane_geom.specs.Point.{PointIsOnSheet}
use Rattle.line_arena.specs.Arena.{StandsAt}
use Rattle.line_arena.proofs.Arenas.ArenaLaws.{one_point}
use Rattle.walk_model.specs.Choice.{stub_length}
use Rattle.walk_model.specs.Cost.{turn}
use Rattle.walk_model.specs.Order.{IsLegalTriple, Triple, triple_cost}
use Rattle.walk_model.specs.declared.task.Choice.{Choice}
use Rattle.walk_model.proofs.CornerByCorner.Bends.{turn_bound}
use Rattle.move_model.specs.declared.ahead.Ahead.{Ahead}
use Rattle.move_model.specs.Ahead.{ahead, whole, with_start}
use Rattle.move_model.specs.Ways.{GoesAlongWay, steps_of_way, walk_along}
use Rattle.move_model.proofs.GoingOn.Joined.{way_ahead}
use Rattle.move_model.proofs.GoingOn.Stretching.{same_ahead}
use Rattle.move_model.proofs.Moving.LegalWays.{way_is_legal}
use Rattle.line_lists.specs.Lists.{AreListsOf, Lists, number_of}
use Rattle.search_problem.specs.Ends.{IsEntryOf}
use Rattle.search_problem.specs.Problems.{IsReady}
use Rattle.search_problem.specs.declared.ends.Entry.{Entry}
use Rattle.search_problem.specs.declared.problem.Problem.{Problem}
use Rattle.exit_rows.specs.Exits.{CountsAt, IsSmallKept, ahead_at}
use Rattle.exit_rows.specs.declared.exit.Kept.{Kept}
use Rattle.exit_spread.specs.declared.run.Run.{Run}
use Rattle.exit_spread.specs.Propagating.{IsBehind, IsFurtherAhead, IsOfferable, IsRun}
use Rattle.exit_spread.specs.Offers.{from_of}
use Rattle.exit_spread.specs.Searching.{IsKeptOf}
use Rattle.exit_spread.specs.Ways.{AreNumbered, IsWayAhead, place_at, turned}
use Rattle.exit_spread.proofs.Known.Attained.{IsWayAlong, attained, turned_way}
use Rattle.exit_spread.proofs.Known.Lines.{further_across, lies_by_reach}
use Rattle.exit_spread.proofs.Known.Numbers.{lists_number}
use Rattle.exit_spread.proofs.Sizes.{across_small, counted_small, crossing_within, kept_small, reach_within}

-- no bend without a change of direction
straight : (d : Dir) → turn d d ≡ 0
straight East = refl
straight South = refl
straight West = refl
straight North = refl

pub turned_same : (p : Problem) (at : Point) (d : Dir) (v : Ahead) → turned p d at d v ≡ v
turned_same p at d v =
    let none = straight d in
    let costs : p.task.now.penalty * turn d d ≡ p.task.now.penalty * 0 = ap (λ n. p.task.now.penalty * n) none in
    same_ahead (turned p d at d v) v (omega (arith, costs)) (ap (λ (n : ℕ). (if n == 0 then 0 else 1) + v.runs) none ∙ omega arith)
    (ap (λ (n : ℕ). (if n == 0 then pos 0 else across (way_of d) at) +ℤ v.lean) none ∙ omega (arith, ints))

-- a bend in front leaves what may be offered
pub turned_offerable : (p : Problem) → IsReady p → (h : Dir) (at : Point) (d : Dir) (v : Ahead) → PointIsOnSheet at → IsFurtherAhead v → IsOfferable (turned p h at d v)
turned_offerable p ready h at d v within small =
    let penalty = p.task.now.penalty in
    let bent = mul-le-mul_left penalty (turn_bound h d) in
    let few = ready.problem.is_task.penalty in
    let coordinate = across_small d at within in
    record {
      cost = omega (arith, bent, few, small.cost);
      runs = by_runs (turn h d == 0);
      lean = by_lean (turn h d == 0) coordinate;
    }
  where
    by_runs : (b : Bool) → (if b then 0 else 1) + v.runs ≤ 3289603
    by_runs true = (let few = small.runs in omega (arith, few))
    by_runs false = (let few = small.runs in omega (arith, few))

    by_lean : (b : Bool) → unsigned_abs (across (way_of d) at) ≤ 2000000000
        → unsigned_abs ((if b then pos 0 else across (way_of d) at) +ℤ v.lean) ≤ 2000000000 * ((if b then 0 else 1) + v.runs)
    by_lean true c = (let lean = small.lean in omega (arith, ints, lean))
    by_lean false c = (let lean = small.lean in omega (arith, ints, lean, c))

pub further_offerable : (v : Ahead) → IsFurtherAhead v → IsOfferable v
further_offerable v small = record { cost = (let c = small.cost in omega (arith, c)); runs = (let n = small.runs in omega (arith, n)); lean = small.lean }

-- the crossing of an entry is at its port
pub entry_here : (p : Problem) → IsReady p → (e : Entry) → Contains p.entries.items e → StandsAt p.arena.now e.place.crossing e.port
entry_here p ready e has =
    let of_some = All-contains (λ (f : Entry). (f.choice < length p.task.now.starts) × (c : Choice) × IsEntryOf p.solids.now p.arena.now p.task.now c f) p.entries.items e ready.entries.sound has in
    let of_s : IsEntryOf p.solids.now p.arena.now p.task.now of_some.1 e = of_some.2 in
    subst (StandsAt p.arena.now e.place.crossing) (sym of_s.port) of_s.enters.here

-- a way from the place of an entry makes a legal walk
pub entered : (p : Problem) → IsReady p → (e : Entry) (v : Ahead) → Contains p.entries.items e → IsWayAhead p e.place e.port v →
    (t : Triple) × IsLegalTriple p.solids.now p.task.now t × (triple_cost p.task.now t ≡ e.lead + v.cost)
entered p ready e v has w =
    let task = p.task.now in
    let a = p.arena.now in
    let of_some = All-contains (λ (f : Entry). (f.choice < length task.starts) × (c : Choice) × IsEntryOf p.solids.now a task c f) p.entries.items e ready.entries.sound has in
    let s : Choice = of_some.1 in
    let of_s : IsEntryOf p.solids.now a task s e = of_some.2 in
    let t : Triple = record { start = e.choice; walk = walk_along s w.legs w.end; end = w.number } in
    let along : GoesAlongWay p.solids.now a task t = record { start = s; end = w.end; is_start = of_s.is_start; is_end = w.is_end; entry = e.place; legs = w.legs; enters = of_s.enters; way = w.way; walk = refl } in
    let same = ready.problem.same_solids in
    let legal = way_is_legal ready.floor a task t ready.arena ready.problem.stands ready.problem.is_task (subst (λ z. GoesAlongWay z a task t) (sym same) along) in
    let ahead_here : ahead task.penalty s.dir s.port (steps_of_way w.legs w.end) w.end.cost ≡ v =
    ap (λ h. ahead task.penalty h s.port (steps_of_way w.legs w.end) w.end.cost) (sym of_s.enters.heading)
    ∙ ap (λ q. ahead task.penalty e.place.heading q (steps_of_way w.legs w.end) w.end.cost) (sym of_s.port) ∙ sym w.same in
    let all : whole task t ≡ with_start s v = way_ahead p.solids.now a task t ready.problem.is_task along ∙ ap (with_start s) ahead_here in
    let cost : triple_cost task t ≡ stub_length s + s.cost + v.cost = ap (λ (u : Ahead). u.cost) all in
    let lead = of_s.lead in
    (t, subst (λ z. IsLegalTriple z task t) same legal, omega (arith, cost, lead))

module _ (p : Problem) (lists : Lists) (ready : IsReady p) (of : AreListsOf p.arena.now lists) (r : Run) (run : IsRun p (number_of lists) r) where
  abbrev d : Dir
  d = r.heading

  abbrev original : Kept
  original = record r.kept { from = from_of p.task.now.via r.stage r.heading r.end }

  numbered : AreNumbered p.arena.now (number_of lists)
  numbered = lists_number p.arena.now lists ready.arena of

  pub end_within : PointIsOnSheet r.end
  end_within = crossing_within p r.kept.crossing r.end ready run.here

  pub run_small : IsSmallKept r.kept
  run_small = let small = kept_small p (number_of lists) ready r.stage r.line d original run.kept in record { from = run.within; at = small.at; ahead = small.ahead }

  pub stage_within : r.stage ≤ length p.task.now.via
  stage_within = let comes = run.kept.comes in let a = comes.from in let b = comes.within in omega (arith, a, b)

  pub ends_at : r.kept.at ≡ reach d r.end
  ends_at = run.kept.at ∙ ap (reach d) (one_point p.arena.now r.kept.crossing run.kept.point r.end ready.arena run.kept.here run.here)

  module _ (c : ℕ) (q : Point) (behind : IsBehind p (number_of lists) r c q) where
    pub within : PointIsOnSheet q
    within = crossing_within p c q ready behind.here

    counts_too : CountsAt original (reach d q)
    counts_too = let a = run.from in let b = behind.counts.from in record { from = omega (arith, ints, a, b); before = behind.counts.before }

    pub along_run : (h : Dir) → IsWayAlong p (place_at c r.stage h) q d (ahead_at r.kept (reach d q))
    along_run h =
        attained p (number_of lists) ready numbered (place_at c r.stage h) q d original behind.here
        (subst (λ l. IsKeptOf p (number_of lists) r.stage l d original) (sym behind.on) run.kept) counts_too

    pub way_turned : (h : Dir) → IsWayAhead p (place_at c r.stage h) q (turned p h q d (ahead_at r.kept (reach d q)))
    way_turned h = turned_way p (place_at c r.stage h) q d (ahead_at r.kept (reach d q)) (along_run h)

    pub way_on : IsWayAhead p (place_at c r.stage d) q (ahead_at r.kept (reach d q))
    way_on = subst (IsWayAhead p (place_at c r.stage d) q) (turned_same p q d (ahead_at r.kept (reach d q))) (way_turned d)

    pub further : IsFurtherAhead (ahead_at r.kept (reach d q))
    further = counted_small r.kept (reach d q) run_small (reach_within d q within) behind.counts

    -- it stands on the whole line of the run
    pub same_across : across (way_of d) q ≡ across (way_of d) r.end
    same_across =
        let before = behind.counts.before in
        let at = ends_at in
        let lies = lies_by_reach p.arena.now ready.arena d (number_of lists) numbered c r.kept.crossing q r.end behind.here run.here (behind.on ∙ sym run.kept.on) (omega (arith, ints, before, at)) in
        sym (further_across p.arena.now ready.arena d c r.kept.crossing q r.end lies behind.here run.here)
