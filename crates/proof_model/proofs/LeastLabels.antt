-- Least labels with the right claim prove it.
use Rattle.std.proofs.Common.{◌≡◌, ℕ, zero, suc, ◌+◌, ◌≤◌, ◌<◌, true, false, Some, None, List, [], ◌∷◌, length, get_or, refl, sym, ap, subst, ◌∙◌}
use Rattle.std.proofs.Common.{arith, inl, inr, Option, cond, rules}
use Rattle.std.specs.Prelude.{slice_get, IsSome, IsTrue, AllPairs}
use Rattle.std.proofs.lemmas.Bool.{cases_Bool}
use Rattle.std.proofs.lemmas.Int.{ints}
use Rattle.plane_geom.specs.declared.point.Dir.{Dir}
use Rattle.plane_geom.specs.declared.floor.Floor.{Floor}
use Rattle.plane_geom.specs.Floor.{IsCrossing, IsFloor}
use Rattle.line_arena.specs.Arena.{Arena, IsArena, IsNearest, StandsAt}
use Rattle.line_arena.specs.Stands.{StandsFor}
use Rattle.line_arena.proofs.Arenas.ArenaLaws.{one_crossing}
use Rattle.walk_model.specs.declared.route.Route.{Route}
use Rattle.walk_model.specs.declared.task.Choice.{Choice}
use Rattle.walk_model.specs.declared.task.Task.{Task}
use Rattle.walk_model.specs.Choice.{IsChoice, stub_length}
use Rattle.walk_model.specs.Floors.{IsFloorOf}
use Rattle.walk_model.specs.Legal.{IsTask}
use Rattle.walk_model.specs.Order.{IsFirst, IsLegalTriple, IsRouteOf, Triple, triple_cost}
use Rattle.walk_model.proofs.Ranking.First.{one_first}
use Rattle.walk_laws.proofs.Replacing.Least.{first_no_worse}
use Rattle.walk_laws.proofs.OnKeptLines.Lines.{chosen}
use Rattle.walk_laws.proofs.FewAndSmall.SmallWalks.{orthogonal_route, small_cost}
use Rattle.move_model.specs.declared.ahead.Ahead.{Ahead}
use Rattle.move_model.specs.declared.place.Place.{Place as Standing}
use Rattle.move_model.specs.Ahead.{ahead}
use Rattle.move_model.specs.Places.{IsMove as Moves}
use Rattle.move_model.specs.Ways.{GoesAlongWay, IsWay, Leg, steps_of_way, walk_along}
use Rattle.move_model.proofs.Moving.Crossings.{further_along}
use Rattle.move_model.proofs.GoingOn.Joined.{way_ahead}
use Rattle.move_model.proofs.Moving.LegalWays.{way_is_legal}
use Rattle.move_model.proofs.Moving.Nearest.{some_nearest}
use Rattle.route_check.proofs.Collisions.Places.{contains_at}
use Rattle.route_check.specs.Verdict.{IsLegalLine}
use Rattle.proof_model.specs.declared.proof.Claim.{Claim}
use Rattle.proof_model.specs.declared.proof.Claim.TheVariants.{Cost, Cut}
use Rattle.proof_model.specs.declared.proof.LabelRow.{LabelRow}
use Rattle.proof_model.specs.Labels.{is_before, is_row_of, label_in, label_of}
use Rattle.proof_model.specs.LeastLabels.{AreLeastLabels, Comes, IsLabelReached, IsRightClaim, Step}
use Rattle.proof_model.specs.Places.{Place, IsExit, IsMove}
use Rattle.proof_model.specs.Rules.{AreMovesFound, IsLabelFor, IsLineOf, IsRow, IsShown, MayAllEnd, Proves, most_label}
use Rattle.proof_model.proofs.Bridge.{crossing_at, is_along, only_next}
use Rattle.proof_model.proofs.Least.{at_place, cost_on, leg_cost, line_legal, line_triple, stub_cost}
use Rattle.proof_model.proofs.Lex.{lex, lex_irrefl}

-- the place of the row in the heading
abbrev pub place_in : LabelRow → Dir → Place
place_in r h = record { stage = r.stage; at = r.at; heading = h }

-- ---- the label that a row says is that of the place

pub row_itself : (r : LabelRow) (h : Dir) → is_row_of r (record { stage = r.stage; at = r.at; heading = h }) ≡ true
row_itself r h = grind (arith, ints)

pub no_other_row : (a b : LabelRow) (h : Dir) → is_before a b ≡ true → is_row_of a (record { stage = b.stage; at = b.at; heading = h }) ≡ false
no_other_row a b h before = elim (cases_Bool (is_row_of a (record { stage = b.stage; at = b.at; heading = h }))) as (λ _. is_row_of a (record {
  stage =
      b.stage;
  at = b.at;
  heading = h;
}) ≡ false) [
  | inl same ↦ (
      let s : a.stage ≡ b.stage = grind (arith, ints, same) in
      let x : a.at.x ≡ b.at.x = grind (arith, ints, same) in
      let y : a.at.y ≡ b.at.y = grind (arith, ints, same) in
      let one : lex a.stage a.at.y a.at.x b.stage b.at.y b.at.x ≡ lex b.stage b.at.y b.at.x b.stage b.at.y b.at.x =
      λ i. lex (s i) (y i) (x i) b.stage b.at.y b.at.x in
      let never : true ≡ false = sym before ∙ one ∙ lex_irrefl b.stage b.at.y b.at.x in
      cc)
  | inr other ↦ other
]

pub label_found : (rows : List LabelRow) → AllPairs (λ a b. IsTrue (is_before a b)) rows → (i : ℕ) (d : LabelRow) → i < length rows → (h : Dir) →
    label_of rows (record { stage = (get_or rows i d).stage; at = (get_or rows i d).at; heading = h }) ≡ label_in (get_or rows i d) h
label_found [] rise i d within h = absurd (omega (arith, within))
label_found (r ∷ rs) rise zero d within h = ap (λ b. cond b (label_in r h) (label_of rs (record { stage = r.stage; at = r.at; heading = h }))) (row_itself r h)
label_found (r ∷ rs) rise (suc i) d within h =
    let q = get_or rs i d in
    let x : Place = record { stage = q.stage; at = q.at; heading = h } in
    ap (λ b. cond b (label_in r h) (label_of rs x)) (no_other_row r q h (rise 0 (suc i) d (omega arith) within))
    ∙ label_found rs (λ m n e l k. rise (suc m) (suc n) e (omega (arith, l)) (omega (arith, k))) i d (omega (arith, within)) h

-- ---- a walk that reaches a place and ends there is legal

module _ (floor : Floor) (a : Arena) (arena : IsArena a) (stands : StandsFor floor a) (task : Task) (is_task : IsTask task) where
  -- a place that a walk reaches is at a crossing, and the walk has passed no more checkpoints than there are
  pub comes_at : (steps : List Step) (x : Place) (cost : ℕ) → Comes floor task steps x cost → IsCrossing floor x.at × (x.stage ≤ length task.via)
  comes_at [] x cost h = (h.crossing, h.stage.within)
  comes_at (s ∷ ss) x cost h = (h.2.next.crossing, h.2.stage.within)

  -- the place on the arena
  abbrev standing : Place → ℕ → Standing
  standing x c = record { crossing = c; stage = x.stage; heading = x.heading }

  -- a move on the floor is one on the arena
  arena_move : (y x : Place) (cost : ℕ) (b c : ℕ) → StandsAt a b y.at → StandsAt a c x.at → (m : IsMove floor task y cost x) →
      Moves a task.via (standing y b) m.steps (standing x c)
  arena_move y x cost b c at_b at_c m =
      let further = further_along a arena floor stands x.heading b c y.at x.at m.steps (is_along floor y.at x.heading m.steps x.at m.next.ahead) at_b at_c in
      let near = some_nearest a arena x.heading b c further in
      let one = only_next floor a arena stands x.heading b near.0 y.at near.1.lies.stop (subst
      (λ p. StandsAt a b p) refl at_b) near.1.lies.stands_there near.1 m.steps x.at m.next in
      let same : near.0 ≡ c = one_crossing a near.0 c x.at arena (subst (StandsAt a near.0) (sym one.1) near.1.lies.stands_there) at_c in
      record {
        begin = y.at;
        end = x.at;
        here = at_b;
        there = at_c;
        next = subst (IsNearest a x.heading b) same near.1;
        straight = m.next.ahead.straight;
        some = m.next.ahead.some;
        stage = m.stage;
      }

  -- a legal walk of this cost
  pub record IsWhole (cost : ℕ) : Type 0 where
    pub walk : Triple
    pub legal : IsLegalTriple floor.solids task walk
    pub costs : triple_cost task walk ≡ cost

  module _ (e : Choice) (n : ℕ) (is_end : slice_get task.ends n ≡ Some e) where
    -- a walk that reaches the place and goes on along a way to the end is legal, and costs both
    whole_walk : (steps : List Step) (x : Place) (cost c : ℕ) → Comes floor task steps x cost → StandsAt a c x.at → (ls : List Leg) →
        IsWay floor.solids a task.via (standing x c) ls e →
        IsWhole (cost + cost_on task (standing x c) x.at ls e)
    whole_walk [] x cost c h at_c ls way =
        let t : Triple = record { start = h.is_start.0; walk = walk_along h.start ls e; end = n } in
        let w : GoesAlongWay floor.solids a task t = record {
          start = h.start;
          end = e;
          is_start = at_place task.starts h.start h.is_start;
          is_end = is_end;
          entry = standing x c;
          legs = ls;
          enters = record { free = h.free; here = subst (StandsAt a c) h.at at_c; heading = h.heading; stage = h.stage };
          way = way;
          walk = refl;
        } in
        let whole : triple_cost task t ≡ stub_length h.start + h.start.cost + (ahead task.penalty h.start.dir h.start.port (steps_of_way ls e) e.cost).cost =
        ap (λ (v : Ahead). v.cost) (way_ahead floor.solids a task t is_task w) in
        let turned : (ahead task.penalty x.heading x.at (steps_of_way ls e) e.cost).cost ≡ (ahead task.penalty h.start.dir h.start.port
        (steps_of_way ls e) e.cost).cost =
        ap (λ d. (ahead task.penalty d h.start.port (steps_of_way ls e) e.cost).cost) h.heading in
        record {
          walk = t;
          legal = way_is_legal floor a task t arena stands is_task w;
          costs = omega (arith, whole, turned, h.costs);
        }
    whole_walk (s ∷ ss) x cost c h at_c ls way =
        let y = s.from in
        let found = crossing_at floor a arena stands y.at (comes_at ss y h.0 h.1).0 in
        let m = arena_move y x s.cost found.0 c found.1 at_c h.2 in
        let leg : Leg = record { steps = h.2.steps; to = standing x c } in
        let rest = whole_walk ss y h.0 found.0 h.1 found.1 (leg ∷ ls) (m, way) in
        let cost_of = leg_cost task (standing y found.0) y.at x.at leg ls e h.2.next.ahead.some in
        record { walk = rest.walk; legal = rest.legal; costs = omega (arith, rest.costs, cost_of, h.3, h.2.costs) }

  -- a walk that reaches an ending is legal
  pub ends_well : (steps : List Step) (x : Place) (cost rest : ℕ) → Comes floor task steps x cost → IsExit floor task x rest → IsWhole (cost + rest)
  ends_well steps x cost rest h end =
      let e = end.end in
      let is_end = at_place task.ends e end.is_end in
      let found = crossing_at floor a arena stands x.at end.crossing in
      let long : 0 < stub_length e = (chosen IsChoice task.ends end.is_end.0 e is_end is_task.ends.each).apart in
      let whole = whole_walk e end.is_end.0 is_end steps x cost found.0 h found.1 [] (record {
        free = end.free;
        here =
            subst (StandsAt a found.0) end.at found.1;
        stage = end.stage;
      }) in
      let stub = stub_cost task (standing x found.0) x.at e long in
      record { walk = whole.walk; legal = whole.legal; costs = omega (arith, whole.costs, stub, end.costs) }

  module _ (is_floor : IsFloor floor) (on_floor : IsFloorOf floor task) where
    -- the route of a first walk shows its cost
    shown : (t : Triple) (r : Route) → IsFirst floor.solids task t → IsRouteOf task r t → IsShown floor task (Cost r.cost r.points)
    shown t r first route =
        let line : IsLegalLine floor.solids task r.points = record {
          walk = t.walk;
          start = first.legal.start;
          end = first.legal.end;
          draws = route.draws;
          is_start = contains_at task.starts t.start first.legal.start first.legal.is_start;
          is_end = contains_at task.ends t.end first.legal.end first.legal.is_end;
          legal = first.legal.legal;
        } in
        let costs = (one_first floor.solids task).cost t first.legal in
        record {
          polyline = (orthogonal_route floor task t is_floor is_task on_floor first r route).corners;
          reached = record {
            line = line;
            reached = sym costs ∙ sym route.cost;
            least = λ other.
                let legal = line_legal floor a arena stands task is_task on_floor [] r.points other in
                let u = line_triple floor a arena stands task is_task on_floor [] r.points other in
                let less = (first_no_worse floor.solids task t u first legal).cost in
                omega (arith, less, route.cost, (one_first floor.solids task).cost u legal);
          };
          small = omega (arith, route.cost, small_cost floor task t is_floor is_task on_floor first);
        }

    -- what a reached label says
    comes_by : (claim : Claim) (x : Place) (label : ℕ) → IsLabelReached floor task claim x label → (steps : List Step) × (cost : ℕ) × Comes floor task steps x cost
    comes_by (Cost most points) x label at = (at.1, label, at.2)
    comes_by Cut x label at = (at.1, at.2, at.3)

    label_right : (claim : Claim) (x : Place) (label : ℕ) → IsLabelReached floor task claim x label → IsLabelFor claim label
    label_right (Cost most points) x label at = at.0
    label_right Cut x label at = at.0

    label_small : (claim : Claim) → IsShown floor task claim → (x : Place) (label : ℕ) → IsLabelReached floor task claim x label → label < most_label
    label_small (Cost most points) is_shown x label at = omega (arith, at.0, is_shown.small)
    label_small Cut is_shown x label at = let big : 0 < most_label = search rules in omega (arith, at.0, big)

    module _ (rows : List LabelRow) where
      -- each row is one for the claim
      row_for : (claim : Claim) → IsShown floor task claim → (l : AreLeastLabels floor task claim rows) → (i : ℕ) (d : LabelRow) → i < length rows →
          IsRow floor task claim (get_or rows i d)
      row_for claim is_shown l i d within = record {
        crossing = on.0;
        stage = on.1;
        some = l.some i d within;
        right = λ h label is. label_right claim (place_in (get_or rows i d) h) label (reached_at h label is);
        small = λ h label is. label_small claim is_shown (place_in (get_or rows i d) h) label (reached_at h label is);
      }
        where
          reached_at : (h : Dir) (label : ℕ) → label_in (get_or rows i d) h ≡ Some label → IsLabelReached floor task claim (place_in (get_or rows i d) h) label
          reached_at h label is = l.reached (place_in (get_or rows i d) h) label (label_found rows l.rise i d within h ∙ is)

          on_by : (h : Dir) (o : Option ℕ) → o ≡ label_in (get_or rows i d) h → IsSome o →
              IsCrossing floor (get_or rows i d).at × ((get_or rows i d).stage ≤ length task.via)
          on_by h None e is = absurd (let both : false ≡ true = is in cc)
          on_by h (Some v) e is = let by = comes_by claim (place_in (get_or rows i d) h) v (reached_at h v (sym e)) in
              comes_at by.0 (place_in (get_or rows i d) h) by.1 by.2

          on : IsCrossing floor (get_or rows i d).at × ((get_or rows i d).stage ≤ length task.via)
          on = let some = l.some i d within in on_by some.0 (label_in (get_or rows i d) some.0) refl some.1

      prove_by : (claim : Claim) → IsShown floor task claim → (l : AreLeastLabels floor task claim rows) → AreMovesFound floor task claim rows →
          MayAllEnd floor task claim rows → Proves floor task claim rows
      prove_by claim is_shown l moves endings = record {
        right_rows = record { rise = l.rise; each = λ i d within. row_for claim is_shown l i d within };
        shown = is_shown;
        entries = λ x cost h. l.least x [] cost h;
        moves = moves;
        endings = endings;
      }

      pub prove_claim : (claim : Claim) → IsRightClaim floor.solids task claim → AreLeastLabels floor task claim rows → Proves floor task claim rows
      prove_claim (Cost most points) right l = prove_by (Cost most points)
          (subst (λ c. IsLineOf floor task points c) right.4 (subst (λ ps. IsLineOf floor task ps right.1.cost) right.5
          (shown right.0 right.1 right.2 right.3)))
          l
          (λ x y label cost is m. let at = l.reached x label is in l.least y (record { from = x; cost = cost } ∷ at.1) (label + cost) (label, at.2, m, refl))
          (λ x label cost is end.
          let at = l.reached x label is in
          let whole = ends_well at.1 x label cost at.2 end in
          let less = (first_no_worse floor.solids task right.0 whole.walk right.2 whole.legal).cost in
          omega (arith, less, whole.costs, right.3.cost, right.4))
      prove_claim Cut right l = prove_by Cut tt l
          (λ x y label cost is m. let at = l.reached x label is in l.least y (record { from = x; cost = cost } ∷ at.1) (at.2 + cost) (at.2, at.3, m, refl))
          (λ x label cost is end.
          let at = l.reached x label is in
          let whole = ends_well at.1 x at.2 cost at.3 end in
          right whole.walk whole.legal)
