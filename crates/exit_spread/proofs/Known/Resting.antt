-- From a place on the way of a first walk no way has less ahead, and one rest is left there.
use Rattle.std.proofs.Common.{◌≡◌, ◌≢◌, ◌⊎◌, ℕ, Some, List, [], ◌∷◌, ◌++◌, refl, sym, ap, subst, ◌∙◌, inl, inr, arith}
use Rattle.std.specs.Prelude.{slice_get}
use Rattle.std.specs.declared.cmp.Ordering.TheVariants.{Greater}
use Rattle.plane_geom.specs.declared.point.Point.{Point}
use Rattle.plane_geom.specs.declared.point.Dir.{Dir}
use Rattle.plane_geom.specs.declared.rect.Solid.{Solid}
use Rattle.plane_geom.specs.declared.floor.Floor.{Floor}
use Rattle.line_arena.specs.Arena.{Arena, IsArena}
use Rattle.line_arena.specs.Stands.{StandsFor}
use Rattle.walk_model.specs.declared.task.Choice.{Choice}
use Rattle.walk_model.specs.declared.task.Task.{Task}
use Rattle.walk_model.specs.Legal.{IsTask}
use Rattle.walk_model.specs.Order.{IsFirst, Triple}
use Rattle.move_model.specs.declared.ahead.Ahead.{Ahead}
use Rattle.move_model.specs.declared.place.Place.{Place}
use Rattle.move_model.specs.Ahead.{ahead, ahead_cmp}
use Rattle.move_model.specs.Ways.{GoesAlongWay, HasRest, IsWay, Leads, Leg, steps_of_way}
use Rattle.move_model.proofs.GoingOn.Joined.{steps_behind}
use Rattle.move_model.proofs.GoingOn.Rests.{legs_no_less, rest_least, rest_way}
use Rattle.move_model.proofs.GoingOn.Stretching.{stretch_order}
use Rattle.move_model.proofs.Stopping.WayRuns.{bend_ahead}
use Rattle.search_problem.specs.Problems.{IsReady}
use Rattle.search_problem.specs.declared.problem.Problem.{Problem}
use Rattle.exit_spread.specs.Ways.{IsWayAhead, turned}
use Rattle.exit_spread.proofs.Known.AheadOrder.{costs_no_more}
use Rattle.exit_spread.proofs.Known.Attained.{IsWayAlong, turned_way}
use Rattle.exit_spread.proofs.Known.Mattering.{move_ahead}

-- the law on rests, for solids that are those of the floor
least_on : (floor : Floor) (a : Arena) (task : Task) (t : Triple) → IsArena a → StandsFor floor a → IsTask task → (solids : List Solid) → floor.solids ≡ solids →
    IsFirst solids task t → (along : GoesAlongWay solids a task t) → (y : Place) (q : Point) (rest : List Leg) → HasRest solids a task t along y q rest →
    (ls : List Leg) (n : ℕ) (e : Choice) → slice_get task.ends n ≡ Some e → IsWay solids a task.via y ls e →
    ahead_cmp (ahead task.penalty y.heading q (steps_of_way rest along.end) along.end.cost) (ahead task.penalty y.heading q (steps_of_way ls e) e.cost) ≢ Greater
least_on floor a task t arena stands is_task solids same =
    subst
    (λ (solids : List Solid). IsFirst solids task t → (along : GoesAlongWay solids a task t) → (y : Place) (q : Point) (rest : List Leg) → HasRest solids a task t along y q rest →
    (ls : List Leg) (n : ℕ) (e : Choice) → slice_get task.ends n ≡ Some e → IsWay solids a task.via y ls e →
    ahead_cmp (ahead task.penalty y.heading q (steps_of_way rest along.end) along.end.cost) (ahead task.penalty y.heading q (steps_of_way ls e) e.cost) ≢ Greater)
    same
    (λ first along y q rest h ls n e is_end way. rest_least floor a task t arena stands is_task first along y q rest h ls n e is_end way)

-- two cuts of one list: the one front begins the other
cut_twice : (f g r s : List Leg) → f ++ r ≡ g ++ s → ((k : List Leg) × (g ≡ f ++ k) × (r ≡ k ++ s)) ⊎ ((k : List Leg) × (f ≡ g ++ k) × (s ≡ k ++ r))
cut_twice [] g r s e = inl (g, refl, e)
cut_twice (x ∷ f) [] r s e = inr (x ∷ f, refl, sym e)
cut_twice (x ∷ f) (y ∷ g) r s e =
    let heads : x ≡ y = cc in
    let tails : f ++ r ≡ g ++ s = cc in
    elim (cut_twice f g r s tails) as (λ _. ((k : List Leg) × (y ∷ g ≡ (x ∷ f) ++ k) × (r ≡ k ++ s)) ⊎ ((k : List Leg) × (x ∷ f ≡ (y ∷ g) ++ k) × (s ≡ k ++ r))) [
      | inl (k, front, rest) ↦ inl (k, (λ i. sym heads i ∷ front i), rest)
      | inr (k, front, rest) ↦ inr (k, (λ i. heads i ∷ front i), rest)
    ]

-- what follows the first legs leads on from where they lead
leads_cut : (a : Arena) (via : List Point) (x y z : Place) (ls ms : List Leg) → Leads a via x (ls ++ ms) z → Leads a via x ls y → Leads a via y ms z
leads_cut a via x y z [] ms h w = subst (λ k. Leads a via k ms z) w h
leads_cut a via x y z (l ∷ ls) ms h w = leads_cut a via l.to y z ls ms h.1 w.1

module _ (p : Problem) (ready : IsReady p) (t : Triple) (first : IsFirst p.solids.now p.task.now t) (along : GoesAlongWay p.solids.now p.arena.now p.task.now t) where
  -- what is ahead at a point of the way for one who arrives there with the heading
  abbrev pub left : Dir → Point → List Leg → Ahead
  left h q rest = ahead p.task.now.penalty h q (steps_of_way rest along.end) along.end.cost

  abbrev pub Rest : Place → Point → List Leg → Type 0
  Rest y q rest = HasRest p.solids.now p.arena.now p.task.now t along y q rest

  -- no way has less ahead
  pub least_left : (y : Place) (q : Point) (rest : List Leg) → Rest y q rest → (v : Ahead) → IsWayAhead p y q v → ahead_cmp (left y.heading q rest) v ≢ Greater
  least_left y q rest h v w =
      subst (λ u. ahead_cmp (left y.heading q rest) u ≢ Greater) (sym w.same)
      (least_on ready.floor p.arena.now p.task.now t ready.arena ready.problem.stands ready.problem.is_task p.solids.now ready.problem.same_solids first along y q rest h w.legs w.number w.end w.is_end w.way)

  -- with the bend in front of it
  pub bend_left : (y : Place) (q : Point) (m : Leg) (back : List Leg) → Rest y q (m ∷ back) → left y.heading q (m ∷ back) ≡ turned p y.heading q m.to.heading (left m.to.heading q (m ∷ back))
  bend_left y q m back h =
      let way = rest_way p.solids.now p.arena.now p.task.now t along y q (m ∷ back) h in
      bend_ahead p.task.now.penalty y.heading m.to.heading q m.steps (steps_of_way back along.end) along.end.cost way.0.some

  -- and none that begins in the same direction has less from there on
  pub least_along : (x : Place) (at : Point) (l : Leg) (rest : List Leg) → Rest x at (l ∷ rest) → (v : Ahead) → IsWayAlong p x at l.to.heading v → ahead_cmp (left l.to.heading at (l ∷ rest)) v ≢ Greater
  least_along x at l rest h v w greater =
      let d = l.to.heading in
      least_left x at (l ∷ rest) h (turned p x.heading at d v) (turned_way p x at d v w)
      (ap (λ u. ahead_cmp u (turned p x.heading at d v)) (bend_left x at l rest h)
      ∙ stretch_order p.task.now.penalty x.heading (record { from = at; dir = d; steps = 0 }) (left d at (l ∷ rest)) v
      ∙ greater)

  -- legs that lead back to their begin stand in front of no rest
  no_round : (y : Place) (q : Point) (k rest : List Leg) → Rest y q (k ++ rest) → IsWay p.solids.now p.arena.now p.task.now.via y rest along.end → Leads p.arena.now p.task.now.via y k y → k ≡ []
  no_round y q [] rest h way leads = refl
  no_round y q (m ∷ ms) rest h way leads =
      let penalty = p.task.now.penalty in
      let other : IsWayAhead p y q (left y.heading q rest) = record { here = h.here; legs = rest; number = t.end; end = along.end; is_end = along.is_end; way = way; same = refl } in
      let upto = costs_no_more (left y.heading q (m ∷ (ms ++ rest))) (left y.heading q rest) (least_left y q (m ∷ (ms ++ rest)) h (left y.heading q rest) other) in
      let front = ap (λ (v : Ahead). v.cost) (move_ahead p ready y q m (ms ++ rest) along.end leads.0 h.here) in
      let behind = (legs_no_less p.arena.now ready.arena p.task.now.via penalty m.to y leads.0.end q ms leads.1 leads.0.there h.here (steps_of_way rest along.end) along.end.cost).0 in
      let cut = ap (λ ds. (ahead penalty m.to.heading leads.0.end ds along.end.cost).cost) (steps_behind ms rest along.end) in
      let some = leads.0.some in
      absurd (omega (arith, upto, front, behind, cut, some))

  -- so one rest is left at a place
  pub one_rest : (y : Place) (q : Point) (r s : List Leg) → Rest y q r → Rest y q s → r ≡ s
  one_rest y q r s h g = elim (cut_twice h.front g.front r s (sym h.legs ∙ g.legs)) as (λ _. r ≡ s) [
    | inl (k, front, rest) ↦ rest ∙ ap (λ ls. ls ++ s) (none_between r s h g k front rest)
    | inr (k, front, rest) ↦ sym (rest ∙ ap (λ ls. ls ++ r) (none_between s r g h k front rest))
  ]
    where
      none_between : (r s : List Leg) (h : Rest y q r) (g : Rest y q s) (k : List Leg) → g.front ≡ h.front ++ k → r ≡ k ++ s → k ≡ []
      none_between r s h g k front rest = no_round y q k s (subst (Rest y q) rest h) (rest_way p.solids.now p.arena.now p.task.now t along y q s g)
          (leads_cut p.arena.now p.task.now.via along.entry y y h.front k (subst (λ ls. Leads p.arena.now p.task.now.via along.entry ls y) front g.leads) h.leads)
