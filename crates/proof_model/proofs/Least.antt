-- Where the rules hold, no legal walk costs less than is claimed.
use Rattle.std.proofs.Common.{◌≡◌, ℕ, ◌+◌, ◌*◌, ◌≤◌, ◌<◌, true, false, Option, Some, None, List, [], ◌∷◌, refl, sym, ap, ◌∙◌, arith, Contains}
use Rattle.std.specs.Prelude.{slice_get, unwrap_or, IsSome}
use Rattle.std.proofs.lemmas.Option.{slice_get-get_or}
use Rattle.plane_geom.specs.declared.point.Point.{Point}
use Rattle.plane_geom.specs.declared.floor.Floor.{Floor}
use Rattle.plane_geom.specs.Point.{opposite}
use Rattle.line_arena.specs.Arena.{Arena, IsArena, StandsAt}
use Rattle.line_arena.specs.Stands.{StandsFor}
use Rattle.line_arena.proofs.Arenas.ArenaLaws.{one_point}
use Rattle.walk_model.specs.declared.task.Choice.{Choice}
use Rattle.walk_model.specs.declared.task.Task.{Task}
use Rattle.walk_model.specs.Choice.{IsChoice, stub_length}
use Rattle.walk_model.specs.Cost.{turn}
use Rattle.walk_model.specs.Floors.{IsFloorOf}
use Rattle.walk_model.specs.Legal.{IsTask}
use Rattle.walk_model.specs.Order.{HasNoWalk, IsFirst, IsLegalTriple, Triple, triple_cost}
use Rattle.walk_model.proofs.Ranking.First.{one_first}
use Rattle.walk_laws.proofs.Replacing.Least.{first_no_worse}
use Rattle.walk_laws.proofs.OnKeptLines.Lines.{chosen}
use Rattle.move_model.specs.declared.ahead.Ahead.{Ahead}
use Rattle.move_model.specs.declared.place.Place.{Place as Standing}
use Rattle.move_model.specs.Ahead.{ahead}
use Rattle.move_model.specs.Places.{IsEnding as Ends}
use Rattle.move_model.specs.Ways.{GoesAlongWay, IsWay, Leg, steps_of_way}
use Rattle.move_model.proofs.Moving.FirstWays.{first_is_way}
use Rattle.move_model.proofs.GoingOn.Joined.{way_ahead}
use Rattle.move_model.proofs.GoingOn.Stretching.{stretch_ahead, stub_ahead}
use Rattle.route_check.proofs.Collisions.Places.{contains_at}
use Rattle.route_check.specs.Verdict.{IsLegalLine}
use Rattle.proof_model.specs.declared.proof.Claim.{Claim}
use Rattle.proof_model.specs.declared.proof.Claim.TheVariants.{Cost, Cut}
use Rattle.proof_model.specs.declared.proof.LabelRow.{LabelRow}
use Rattle.proof_model.specs.Claims.{IsTrueClaim}
use Rattle.proof_model.specs.Labels.{label_of}
use Rattle.proof_model.specs.Places.{Place, IsExit, IsEntry}
use Rattle.proof_model.specs.Rules.{AreMovesFound, MayAllEnd, Proves}
use Rattle.proof_model.proofs.Bridge.{at_point, crossing_of, floor_move}

-- the label of the place, or this much where it has none
abbrev value_of : ℕ → List LabelRow → Place → ℕ
value_of most rows x = unwrap_or (label_of rows x) most

-- what is in a list stands at its place
pub at_place : {A : Type 0} → (xs : List A) (x : A) → (h : Contains xs x) → slice_get xs h.0 ≡ Some x
at_place xs x h = slice_get-get_or xs h.0 x h.1 ∙ ap Some h.2

-- what a way costs from the place
abbrev pub cost_on : Task → Standing → Point → List Leg → Choice → ℕ
cost_on task x p ls e = (ahead task.penalty x.heading p (steps_of_way ls e) e.cost).cost

-- the first leg, and what is after it
pub leg_cost : (task : Task) (x : Standing) (p q : Point) (l : Leg) (ls : List Leg) (e : Choice) → 0 < l.steps →
    cost_on task x p (l ∷ ls) e ≡ (l.steps + task.penalty * turn x.heading l.to.heading) + cost_on task l.to q ls e
leg_cost task x p q l ls e some =
    let h : cost_on task x p (l ∷ ls) e ≡ cost_on task l.to q ls e + l.steps + task.penalty * turn x.heading l.to.heading =
    ap (λ (v : Ahead). v.cost) (stretch_ahead task.penalty x.heading (record {
      from = p;
      dir = l.to.heading;
      steps =
          l.steps;
    }) (steps_of_way ls e) e.cost some) in
    omega (arith, h)

-- the stub of the end choice, and its connection cost
pub stub_cost : (task : Task) (x : Standing) (p : Point) (e : Choice) → 0 < stub_length e →
    cost_on task x p [] e ≡ task.penalty * turn x.heading (opposite e.dir) + stub_length e + e.cost
stub_cost task x p e some =
    let h : cost_on task x p [] e ≡ 0 + (stub_length e + e.cost) + task.penalty * turn x.heading (opposite e.dir) =
    ap (λ (v : Ahead). v.cost) (stub_ahead task.penalty x.heading (opposite e.dir) p (stub_length e) e.cost some) in
    omega (arith, h)

-- the value of a place is no more than this: so little is claimed, or its label is no more
by_value : {G : Type 0} → (most : ℕ) (rows : List LabelRow) (y : Place) (by_now : ℕ) → value_of most rows y ≤ by_now → (most ≤ by_now → G) → ((v : ℕ) →
    label_of rows y ≡ Some v → v ≤ by_now → G) → G
by_value {G} most rows y by_now value few some = by_label (label_of rows y) refl value
  where
    by_label : (o : Option ℕ) → o ≡ label_of rows y → unwrap_or o most ≤ by_now → G
    by_label None h small = few small
    by_label (Some v) h small = some v (sym h) small

-- a place has a label
by_some : {G : Type 0} → (rows : List LabelRow) (y : Place) → IsSome (label_of rows y) → ((v : ℕ) → label_of rows y ≡ Some v → G) → G
by_some {G} rows y is next = by_label (label_of rows y) refl is
  where
    by_label : (o : Option ℕ) → o ≡ label_of rows y → IsSome o → G
    by_label None h none = absurd (let both : false ≡ true = none in cc)
    by_label (Some v) h some = next v (sym h)

module _ (floor : Floor) (a : Arena) (arena : IsArena a) (stands : StandsFor floor a) (task : Task) (is_task : IsTask task) (on_floor : IsFloorOf floor task)
    (rows : List LabelRow) where
  -- where a way ends, it ends on the floor
  floor_ending : (x : Standing) (p : Point) (n : ℕ) (e : Choice) → StandsAt a x.crossing p → slice_get task.ends n ≡ Some e → Ends floor.solids a task.via e x →
      IsExit floor task (at_point x p) (task.penalty * turn x.heading (opposite e.dir) + stub_length e + e.cost)
  floor_ending x p n e at is ends = record {
    end = e;
    is_end = contains_at task.ends n e is;
    crossing = crossing_of floor a arena stands x.crossing p at;
    free = ends.free;
    stage = ends.stage;
    at = one_point a x.crossing p e.port arena at ends.here;
    costs = refl;
  }

  -- a walk enters the floor where it enters the arena
  floor_entry : (t : Triple) (w : GoesAlongWay floor.solids a task t) → IsEntry floor task (at_point w.entry w.start.port) (stub_length w.start + w.start.cost)
  floor_entry t w = record {
    start = w.start;
    is_start = contains_at task.starts t.start w.start w.is_start;
    crossing = crossing_of floor a arena stands w.entry.crossing w.start.port w.enters.here;
    free = w.enters.free;
    stage = w.enters.stage;
    at = refl;
    heading = w.enters.heading;
    costs = refl;
  }

  module _ (e : Choice) (n : ℕ) (is_end : slice_get task.ends n ≡ Some e) where
    long_stub : 0 < stub_length e
    long_stub = (chosen IsChoice task.ends n e is_end is_task.ends.each).apart

    -- a way from a place to which a walk comes at this cost makes it cost as much as is claimed
    no_less : (most : ℕ) (points : List Point) → AreMovesFound floor task (Cost most points) rows → MayAllEnd floor task (Cost most points) rows →
        (ls : List Leg) (x : Standing) (p : Point) (by_now : ℕ) → StandsAt a x.crossing p → IsWay floor.solids a task.via x ls e →
        value_of most rows (at_point x p) ≤ by_now → most ≤ by_now + cost_on task x p ls e
    no_less most points moves endings [] x p by_now at way value =
        let stub = stub_cost task x p e long_stub in
        by_value most rows (at_point x p) by_now value
        (λ few. omega (arith, few))
        (λ v is small.
        let end = endings (at_point x p) v (task.penalty * turn x.heading (opposite e.dir) + stub_length e + e.cost) is (floor_ending x p n e at is_end way) in
        omega (arith, small, end, stub))
    no_less most points moves endings (l ∷ ls) x p by_now at way value =
        let m = way.0 in
        let leg = leg_cost task x p m.end l ls e m.some in
        let turned = l.steps + task.penalty * turn x.heading l.to.heading in
        by_value most rows (at_point x p) by_now value
        (λ few. omega (arith, few))
        (λ v is small.
        let found = moves (at_point x p) (at_point l.to m.end) v turned is (floor_move floor a arena stands task x p l.steps l.to at m) in
        let rest = no_less most points moves endings ls l.to m.end (v + turned) m.there way.1 found in
        omega (arith, small, rest, leg))

    -- a way from a labelled place does not end where nothing may
    no_end : AreMovesFound floor task Cut rows → MayAllEnd floor task Cut rows →
        (ls : List Leg) (x : Standing) (p : Point) → StandsAt a x.crossing p → IsWay floor.solids a task.via x ls e → IsSome (label_of rows (at_point x p)) → ⊥
    no_end moves endings [] x p at way some =
        by_some rows (at_point x p) some (λ v is. endings (at_point x p) v (task.penalty * turn x.heading (opposite e.dir) + stub_length e + e.cost) is
        (floor_ending x p n e at is_end way))
    no_end moves endings (l ∷ ls) x p at way some =
        let m = way.0 in
        by_some rows (at_point x p) some (λ v is.
        no_end moves endings ls l.to m.end m.there way.1
        (moves (at_point x p) (at_point l.to m.end) v (l.steps + task.penalty * turn x.heading l.to.heading) is
        (floor_move floor a arena stands task x p l.steps l.to at m)))

  first_way : (t : Triple) → IsFirst floor.solids task t → GoesAlongWay floor.solids a task t
  first_way t first = first_is_way floor a task t arena stands is_task on_floor first

  -- a first walk costs as much as is claimed
  first_no_less : (most : ℕ) (points : List Point) → Proves floor task (Cost most points) rows → (t : Triple) → IsFirst floor.solids task t →
      most ≤ triple_cost task t
  first_no_less most points proves t first =
      let w = first_way t first in
      let entry = proves.entries (at_point w.entry w.start.port) (stub_length w.start + w.start.cost) (floor_entry t w) in
      let least = no_less w.end t.end w.is_end most points proves.moves proves.endings w.legs w.entry w.start.port
      (stub_length w.start + w.start.cost) w.enters.here w.way entry in
      let cost : triple_cost task t ≡ stub_length w.start + w.start.cost + (ahead task.penalty w.start.dir w.start.port
      (steps_of_way w.legs w.end) w.end.cost).cost =
      ap (λ (v : Ahead). v.cost) (way_ahead floor.solids a task t is_task w) in
      let heading : cost_on task w.entry w.start.port w.legs w.end ≡ (ahead task.penalty w.start.dir w.start.port (steps_of_way w.legs w.end) w.end.cost).cost =
      ap (λ d. (ahead task.penalty d w.start.port (steps_of_way w.legs w.end) w.end.cost).cost) w.enters.heading in
      omega (arith, least, cost, heading)

  -- so does any legal walk
  legal_no_less : (most : ℕ) (points : List Point) → Proves floor task (Cost most points) rows → (u : Triple) → IsLegalTriple floor.solids task u →
      most ≤ triple_cost task u
  legal_no_less most points proves u legal =
      let some = (one_first floor.solids task).some u legal in
      let least = (first_no_worse floor.solids task some.0 u some.1 legal).cost in
      let claimed = first_no_less most points proves some.0 some.1 in
      omega (arith, least, claimed)

  first_none : Proves floor task Cut rows → (t : Triple) → IsFirst floor.solids task t → ⊥
  first_none proves t first =
      let w = first_way t first in
      no_end w.end t.end w.is_end proves.moves proves.endings w.legs w.entry w.start.port w.enters.here w.way (proves.entries (at_point w.entry w.start.port)
      (stub_length w.start + w.start.cost) (floor_entry t w))

  no_walk : Proves floor task Cut rows → HasNoWalk floor.solids task
  no_walk proves u legal = let some = (one_first floor.solids task).some u legal in first_none proves some.0 some.1

  -- the legal line is that of a legal walk with choices by their places
  abbrev pub line_triple : (points : List Point) → IsLegalLine floor.solids task points → Triple
  line_triple points l = record { start = l.is_start.0; walk = l.walk; end = l.is_end.0 }

  abbrev pub line_legal : (points : List Point) → (l : IsLegalLine floor.solids task points) → IsLegalTriple floor.solids task (line_triple points l)
  line_legal points l = record {
    start = l.start;
    end = l.end;
    is_start = at_place task.starts l.start l.is_start;
    is_end =
        at_place task.ends l.end l.is_end;
    legal = l.legal;
  }

  pub claim_holds : (claim : Claim) → Proves floor task claim rows → IsTrueClaim floor.solids task claim
  claim_holds (Cost most points) proves =
      let line = proves.shown.reached.line in
      let legal = line_legal points line in
      record {
        walk = line_triple points line;
        legal = legal;
        draws = line.draws;
        reached = (one_first floor.solids task).cost (line_triple points line) legal ∙ proves.shown.reached.reached;
        least = legal_no_less most points proves;
      }
  claim_holds Cut proves = no_walk proves
