-- The runs of a way: by which straight legs it reaches a place, and what is ahead of straight legs.
use Rattle.std.proofs.Common.{◌≡◌, ◌≢◌, ◌⊎◌, ℕ, ◌<◌, List, [], ◌∷◌, ◌++◌, Some, length, replicate, refl, sym, ap, subst, ◌∙◌, inl, inr, arith, append_assoc, length-append}
use Rattle.std.specs.Prelude.{slice_get}
use Rattle.std.proofs.lemmas.Int.{ints}
use Rattle.std.proofs.lemmas.List.Elements.{All-cons, All-nil}
use Rattle.plane_geom.specs.declared.point.Point.{Point}
use Rattle.plane_geom.specs.declared.point.Dir.{Dir}
use Rattle.plane_geom.specs.declared.point.Dir.TheVariants.{East, South, West, North}
use Rattle.plane_geom.specs.declared.rect.Solid.{Solid}
use Rattle.plane_geom.specs.Point.{distance, forward}
use Rattle.line_arena.specs.Arena.{Arena, IsArena, StandsAt}
use Rattle.line_arena.proofs.Arenas.ArenaLaws.{one_point}
use Rattle.walk_model.specs.declared.task.Task.{Task}
use Rattle.walk_model.specs.Cost.{turn}
use Rattle.walk_model.specs.Legal.{IsTask}
use Rattle.walk_model.specs.Order.{IsFirst, Triple}
use Rattle.walk_model.proofs.CornerByCorner.Bends.{one_direction}
use Rattle.walk_laws.specs.Lines.{run_line}
use Rattle.walk_laws.specs.Sides.{IsHeldTo, held_to}
use Rattle.move_model.specs.declared.ahead.Ahead.{Ahead}
use Rattle.move_model.specs.declared.place.Place.{Place}
use Rattle.move_model.specs.Ahead.{ahead, with_steps, with_stretch}
use Rattle.move_model.specs.Places.{IsMove}
use Rattle.move_model.specs.Ways.{GoesAlongWay, HasRest, Leads, Leg, steps_along}
use Rattle.move_model.specs.Stations.{AreStraightLegs, ComesStraight, IsNextStation, IsRunInto}
use Rattle.move_model.proofs.Stopping.HeldLegs.{held_legs}
use Rattle.move_model.proofs.Moving.Moves.{apart}
use Rattle.move_model.proofs.GoingOn.Rests.{rest_way}
use Rattle.move_model.proofs.Stopping.Stations.{rest_behind, some_station}
use Rattle.move_model.proofs.Stopping.StraightLegs.{straight_lies}
use Rattle.move_model.proofs.GoingOn.Stretching.{same_ahead, stretch_ahead}

-- ---- what is ahead

straight_on : (penalty : ℕ) (s : Dir) (p : Point) (n : ℕ) (v : Ahead) → with_stretch penalty s (record { from = p; dir = s; steps = n }) v ≡ with_steps n v
straight_on penalty East p n v = same_ahead _ _ (omega arith) (omega arith) (omega (arith, ints))
straight_on penalty South p n v = same_ahead _ _ (omega arith) (omega arith) (omega (arith, ints))
straight_on penalty West p n v = same_ahead _ _ (omega arith) (omega arith) (omega (arith, ints))
straight_on penalty North p n v = same_ahead _ _ (omega arith) (omega arith) (omega (arith, ints))

turned_on : (penalty : ℕ) (h d : Dir) (p : Point) (n : ℕ) (v : Ahead) → with_stretch penalty h (record { from = p; dir = d; steps = n }) v ≡ with_stretch penalty h (record { from = p; dir = d; steps = 0 }) (with_steps n v)
turned_on penalty h d p n v = same_ahead _ _ (omega arith) refl refl

module _ (a : Arena) (arena : IsArena a) (via : List Point) (x y : Place) (p q : Point) (d : Dir) (l : Leg) (ls : List Leg) (leads : Leads a via x (l ∷ ls) y) (straight : AreStraightLegs d (l ∷ ls))
    (at_p : StandsAt a x.crossing p) (at_q : StandsAt a y.crossing q) where
  -- with straight legs in front that much more is ahead, whatever the heading before
  pub straight_stretch : (penalty : ℕ) (h : Dir) (ds : List Dir) (more : ℕ) → ahead penalty h p (steps_along (l ∷ ls) ++ ds) more ≡ with_stretch penalty h (record { from = p; dir = d; steps = distance p q }) (ahead penalty d q ds more)
  straight_stretch penalty h ds more =
      let lies = straight_lies a arena d via x l ls y p q leads straight at_p at_q in
      let on = apart a d x.crossing y.crossing p q arena lies.0 at_p at_q in
      ap (λ es. ahead penalty h p (es ++ ds) more) lies.1
      ∙ stretch_ahead penalty h (record { from = p; dir = d; steps = distance p q }) ds more on.0
      ∙ ap (λ r. with_stretch penalty h (record { from = p; dir = d; steps = distance p q }) (ahead penalty d r ds more)) (sym on.1)

  pub straight_ahead : (penalty : ℕ) (ds : List Dir) (more : ℕ) → ahead penalty d p (steps_along (l ∷ ls) ++ ds) more ≡ with_steps (distance p q) (ahead penalty d q ds more)
  straight_ahead penalty ds more = straight_stretch penalty d ds more ∙ straight_on penalty d p (distance p q) (ahead penalty d q ds more)

  pub turned_ahead : (penalty : ℕ) (h : Dir) (ds : List Dir) (more : ℕ) →
      ahead penalty h p (steps_along (l ∷ ls) ++ ds) more ≡ with_stretch penalty h (record { from = p; dir = d; steps = 0 }) (with_steps (distance p q) (ahead penalty d q ds more))
  turned_ahead penalty h ds more = straight_stretch penalty h ds more ∙ turned_on penalty h d p (distance p q) (ahead penalty d q ds more)

-- with another heading the bend is ahead as well
pub bend_ahead : (penalty : ℕ) (h d : Dir) (q : Point) (n : ℕ) (ds : List Dir) (more : ℕ) → 0 < n →
    ahead penalty h q (replicate n d ++ ds) more ≡ with_stretch penalty h (record { from = q; dir = d; steps = 0 }) (ahead penalty d q (replicate n d ++ ds) more)
bend_ahead penalty h d q n ds more some =
    let v = ahead penalty d (forward d n q) ds more in
    stretch_ahead penalty h (record { from = q; dir = d; steps = n }) ds more some
    ∙ turned_on penalty h d q n v
    ∙ ap (with_stretch penalty h (record { from = q; dir = d; steps = 0 })) (sym (stretch_ahead penalty d (record { from = q; dir = d; steps = n }) ds more some ∙ straight_on penalty d q n v))

-- ---- by which straight legs a way reaches a place

module _ (a : Arena) (via : List Point) where
  one_in : (x : Place) (l : Leg) (y : Place) → Leads a via x (l ∷ []) y → ComesStraight a via x (l ∷ []) y
  one_in x l y h = record {
    before = [];
    first = l;
    more = [];
    from = x;
    split = refl;
    led = refl;
    leads = h;
    straight = All-cons (λ (k : Leg). k.to.heading ≡ y.heading) l [] (ap (λ (z : Place). z.heading) h.1) (All-nil (λ (k : Leg). k.to.heading ≡ y.heading));
    begins = inl refl;
  }

  -- the straight legs that end a list end a longer one, or more of it
  more_in : (x : Place) (l : Leg) (ls : List Leg) (y : Place) → IsMove a via x l.steps l.to → (c : ComesStraight a via l.to ls y) → (before : List Leg) → c.before ≡ before → ComesStraight a via x (l ∷ ls) y
  more_in x l ls y m c (k ∷ ks) is = record {
    before = l ∷ c.before;
    first = c.first;
    more = c.more;
    from = c.from;
    split = ap (λ ms. l ∷ ms) c.split;
    led = (m, c.led);
    leads = c.leads;
    straight = c.straight;
    begins = elim c.begins as (λ _. (l ∷ c.before ≡ []) ⊎ (0 < turn c.from.heading y.heading)) [
      | inl none ↦ absurd (let both : k ∷ ks ≡ [] = sym is ∙ none in cc)
      | inr turns ↦ inr turns
    ];
  }
  more_in x l ls y m c [] is =
      let here : l.to ≡ c.from = subst (λ ks. Leads a via l.to ks c.from) is c.led in
      let all : ls ≡ c.first ∷ c.more = c.split ∙ ap (λ ks. ks ++ (c.first ∷ c.more)) is in
      let leads : Leads a via l.to (c.first ∷ c.more) y = subst (λ (z : Place). Leads a via z (c.first ∷ c.more) y) (sym here) c.leads in
      elim (one_direction l.to.heading y.heading) as (λ _. ComesStraight a via x (l ∷ ls) y) [
        | inl same ↦ record {
          before = [];
          first = l;
          more = c.first ∷ c.more;
          from = x;
          split = ap (λ ms. l ∷ ms) all;
          led = refl;
          leads = (m, leads);
          straight = All-cons (λ (k : Leg). k.to.heading ≡ y.heading) l (c.first ∷ c.more) same c.straight;
          begins = inl refl;
        }
        | inr turns ↦ record {
          before = l ∷ [];
          first = c.first;
          more = c.more;
          from = l.to;
          split = ap (λ ms. l ∷ ms) all;
          led = (m, refl);
          leads = leads;
          straight = c.straight;
          begins = inr turns;
        }
      ]

  pub comes_straight : (x : Place) (l : Leg) (ls : List Leg) (y : Place) → Leads a via x (l ∷ ls) y → ComesStraight a via x (l ∷ ls) y
  comes_straight x l [] y h = one_in x l y h
  comes_straight x l (m ∷ ms) y h = let c = comes_straight l.to m ms y h.1 in more_in x l (m ∷ ms) y h.0 c c.before refl

  -- legs lead to a crossing at which the next checkpoint is not
  pub leads_to : (x : Place) (l : Leg) (ls : List Leg) (y : Place) → Leads a via x (l ∷ ls) y → (q : Point) × StandsAt a y.crossing q × (slice_get via y.stage ≢ Some q)
  leads_to x l [] y h = (h.0.end, subst (λ (z : Place). StandsAt a z.crossing h.0.end) h.1 h.0.there, subst (λ (z : Place). slice_get via z.stage ≢ Some h.0.end) h.1 h.0.stage.no_more)
  leads_to x l (m ∷ ms) y h = leads_to l.to m ms y h.1

-- ---- on the way of a walk

module _ (solids : List Solid) (a : Arena) (arena : IsArena a) (task : Task) (t : Triple) (along : GoesAlongWay solids a task t) where
  -- at no place of a way is the next checkpoint at its point
  pub rest_no_more : (y : Place) (q : Point) (rest : List Leg) → HasRest solids a task t along y q rest → slice_get task.via y.stage ≢ Some q
  rest_no_more y q rest h = by_front h.front h.leads
    where
      by_front : (front : List Leg) → Leads a task.via along.entry front y → slice_get task.via y.stage ≢ Some q
      by_front [] e =
          let port : along.start.port ≡ q = one_point a y.crossing along.start.port q arena (subst (λ (z : Place). StandsAt a z.crossing along.start.port) e along.enters.here) h.here in
          λ is. along.enters.stage.no_more (ap (λ (z : Place). slice_get task.via z.stage) e ∙ is ∙ ap Some (sym port))
      by_front (l ∷ ls) leads =
          let to = leads_to a task.via along.entry l ls y leads in
          let point : to.0 ≡ q = one_point a y.crossing to.0 q arena to.1 h.here in
          λ is. to.2 (is ∙ ap Some (sym point))

  -- the way goes on to the next station, and fewer legs are left there
  pub next_station : (x : Place) (p : Point) (l : Leg) (rest : List Leg) → HasRest solids a task t along x p (l ∷ rest) → IsNextStation solids a task t along x p l rest
  next_station x p l rest h =
      let s = some_station solids a task.via along.end x l rest (rest_way solids a task t along x p (l ∷ rest) h) in
      let g = s.straight in
      let to = by_legs s.legs g.front g.last s.to g.all g.leads in
      record {
        station = s;
        point = to.0;
        here = to.1;
        on = rest_behind solids a task t along x s.to p to.0 s.legs s.back (subst (HasRest solids a task t along x p) s.split h) g.leads to.1;
        fewer = omega (arith, ap length s.split, length-append s.legs s.back, ap length g.all, length-append g.front (g.last ∷ []));
      }
    where
      by_legs : (legs front : List Leg) (last : Leg) (to : Place) → legs ≡ front ++ (last ∷ []) → Leads a task.via x legs to → (q : Point) × StandsAt a to.crossing q
      by_legs [] [] last to e leads = absurd (let f : [] ≡ last ∷ [] = e in cc)
      by_legs [] (k ∷ ks) last to e leads = absurd (let f : [] ≡ k ∷ (ks ++ (last ∷ [])) = e in cc)
      by_legs (k ∷ ks) front last to e leads = let r = leads_to a task.via x k ks to leads in (r.0, r.1)

  -- to each place but the entry the way comes by straight legs from a bend or from the entry
  pub run_into : (y : Place) (q : Point) (rest : List Leg) → (h : HasRest solids a task t along y q rest) → h.front ≢ [] → IsRunInto solids a task t along y q rest
  run_into y q rest h some = by_front h.front refl some
    where
      by_run : (front : List Leg) → h.front ≡ front → ComesStraight a task.via along.entry front y → IsRunInto solids a task t along y q rest
      by_run front is c = record {
        first = c.first;
        more = c.more;
        from = c.from;
        point = point.0;
        on = record { front = c.before; legs = h.legs ∙ ap (λ ls. ls ++ rest) (is ∙ c.split) ∙ append_assoc c.before (c.first ∷ c.more) rest; leads = c.led; here = point.1 };
        leads = c.leads;
        straight = c.straight;
        begins = c.begins;
      }
        where
          point : (p : Point) × StandsAt a c.from.crossing p
          point = (c.leads.0.begin, c.leads.0.here)

      by_front : (front : List Leg) → h.front ≡ front → front ≢ [] → IsRunInto solids a task t along y q rest
      by_front [] is none = absurd (none refl)
      by_front (l ∷ ls) is more = by_run (l ∷ ls) is (comes_straight a task.via along.entry l ls y (subst (λ ks. Leads a task.via along.entry ks y) is h.leads))

  -- at a bend of a first walk's way the run that ends there begins at the entry, or is held
  pub run_into_turn : IsTask task → IsFirst solids task t → (y : Place) (q : Point) (m : Leg) (back : List Leg) → (h : HasRest solids a task t along y q (m ∷ back)) → h.front ≢ [] → 0 < turn y.heading m.to.heading →
      (r : IsRunInto solids a task t along y q (m ∷ back)) × ((r.on.front ≡ []) ⊎ IsHeldTo solids task.via (held_to r.from.heading m.to.heading) (run_line r.point y.heading (distance r.point q)))
  run_into_turn is_task first y q m back h some turns = with_run (run_into y q (m ∷ back) h some)
    where
      by_front : (r : IsRunInto solids a task t along y q (m ∷ back)) → 0 < turn r.from.heading y.heading → (front : List Leg) → r.on.front ≡ front →
          (r.on.front ≡ []) ⊎ IsHeldTo solids task.via (held_to r.from.heading m.to.heading) (run_line r.point y.heading (distance r.point q))
      by_front r turned [] is = inl is
      by_front r turned (l ∷ ls) is =
          inr (held_legs solids a arena task t is_task along first r.from y r.point q y.heading r.first r.more m back r.on (λ none. let both : l ∷ ls ≡ [] = sym is ∙ none in cc) r.leads r.straight h.here turned turns)

      with_run : (r : IsRunInto solids a task t along y q (m ∷ back)) →
          (r : IsRunInto solids a task t along y q (m ∷ back)) × ((r.on.front ≡ []) ⊎ IsHeldTo solids task.via (held_to r.from.heading m.to.heading) (run_line r.point y.heading (distance r.point q)))
      with_run r = (
        r,
        elim r.begins as (λ _. (r.on.front ≡ []) ⊎ IsHeldTo solids task.via (held_to r.from.heading m.to.heading) (run_line r.point y.heading (distance r.point q))) [
          | inl none ↦ inl none
          | inr turned ↦ by_front r turned r.on.front refl
        ],
      )
