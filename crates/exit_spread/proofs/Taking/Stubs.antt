-- The stub of an ending is a way from its port, and small.
use Rattle.std.proofs.Common.{◌+◌, ◌*◌, ◌≤◌, ◌==◌, Bool, true, false, if◌then◌else◌, [], length, pos, ◌+ℤ◌, unsigned_abs, refl, sym, subst, ◌∙◌, arith}
use Rattle.std.proofs.lemmas.Int.{ints}
use Rattle.std.proofs.Math.Nat.{mul-le-mul_left}
use Rattle.plane_geom.specs.declared.point.Dir.{Dir}
use Rattle.plane_geom.specs.Along.{across, way_of}
use Rattle.plane_geom.specs.Point.{opposite}
use Rattle.line_arena.specs.Arena.{StandsAt}
use Rattle.walk_model.specs.Choice.{stub_length}
use Rattle.walk_model.specs.Cost.{turn}
use Rattle.walk_model.proofs.CornerByCorner.Bends.{turn_bound}
use Rattle.move_model.specs.declared.ahead.Ahead.{Ahead}
use Rattle.move_model.specs.Ahead.{nothing, with_stretch}
use Rattle.move_model.proofs.GoingOn.Stretching.{stub_ahead}
use Rattle.search_problem.specs.Problems.{IsReady}
use Rattle.search_problem.specs.declared.ends.Ending.{Ending}
use Rattle.search_problem.specs.declared.problem.Problem.{Problem}
use Rattle.exit_spread.specs.Propagating.{IsOfferable}
use Rattle.exit_spread.specs.Ways.{IsWayAhead, place_at}
use Rattle.exit_spread.proofs.Sizes.{IsSmallEnding, across_small}

-- what is ahead of a walk that ends by the stub of the ending
abbrev pub stub_ahead_of : Problem → Ending → Dir → Ahead
stub_ahead_of p e h = with_stretch p.task.now.penalty h (record { from = e.port; dir = e.dir; steps = e.rest }) nothing

pub way_by_stub : (p : Problem) (e : Ending) → IsSmallEnding p e → (h : Dir) → IsWayAhead p (place_at e.crossing (length p.task.now.via) h) e.port (stub_ahead_of p e h)
way_by_stub p e small h =
    let penalty = p.task.now.penalty in
    let choice = small.choice in
    let of = small.of in
    record {
      here = subst (StandsAt p.arena.now e.crossing) (sym of.port) of.here;
      legs = [];
      number = e.choice;
      end = choice;
      is_end = of.is_end;
      way = record { free = of.free; here = of.here; stage = refl };
      same = (λ i. with_stretch penalty h (record { from = e.port; dir = of.dir i; steps = of.rest i }) nothing)
          ∙ sym (stub_ahead penalty h (opposite choice.dir) e.port (stub_length choice) choice.cost small.is_choice.apart);
    }

pub stub_offerable : (p : Problem) (e : Ending) → IsReady p → IsSmallEnding p e → (h : Dir) → IsOfferable (stub_ahead_of p e h)
stub_offerable p e ready small h =
    let few = ready.problem.is_task.penalty in
    let bent = mul-le-mul_left p.task.now.penalty (turn_bound h e.dir) in
    let coordinate = across_small e.dir e.port small.port in
    record {
      cost = omega (arith, bent, few, small.rest);
      runs = runs (turn h e.dir == 0);
      lean = lean (turn h e.dir == 0) coordinate;
    }
  where
    runs : (b : Bool) → (if b then 0 else 1) + 0 ≤ 3289602 + 1
    runs true = omega arith
    runs false = omega arith

    lean : (b : Bool) → unsigned_abs (across (way_of e.dir) e.port) ≤ 2000000000
        → unsigned_abs ((if b then pos 0 else across (way_of e.dir) e.port) +ℤ pos 0) ≤ 2000000000 * ((if b then 0 else 1) + 0)
    lean true c = omega (arith, ints)
    lean false c = omega (arith, ints, c)
