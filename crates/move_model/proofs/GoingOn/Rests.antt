-- From a place on its way a first walk goes on as the first of all ways from there.
use Rattle.std.proofs.Common.{◌≡◌, ◌≢◌, ℕ, ◌≤◌, List, [], ◌∷◌, ◌++◌, Some, replicate, refl, sym, ap, subst, ◌∙◌, arith, append_assoc}
use Rattle.std.specs.Prelude.{slice_get}
use Rattle.std.specs.declared.cmp.Ordering.TheVariants.{Greater}
use Rattle.std.specs.Cmp.Lexicographic.{slice_cmp}
use Rattle.std.specs.Ordering.{nat_cmp, ordering_then}
use Rattle.plane_geom.specs.declared.point.Point.{Point}
use Rattle.plane_geom.specs.declared.point.Dir.{Dir}
use Rattle.plane_geom.specs.declared.floor.Floor.{Floor}
use Rattle.plane_geom.specs.declared.rect.Solid.{Solid}
use Rattle.plane_geom.specs.Floor.{IsKept}
use Rattle.plane_geom.specs.Point.{IsCoordinate, PointIsOnSheet, forward}
use Rattle.line_arena.specs.Arena.{Arena, IsArena, StandsAt}
use Rattle.line_arena.specs.Stands.{StandsFor}
use Rattle.line_arena.proofs.Arenas.ArenaLaws.{one_point, placed}
use Rattle.walk_model.specs.declared.task.Choice.{Choice}
use Rattle.walk_model.specs.declared.task.Task.{Task}
use Rattle.walk_model.specs.Legal.{IsTask}
use Rattle.walk_model.specs.Order.{IsFirst, Triple, dir_cmp}
use Rattle.walk_model.specs.Walk.{Walk}
use Rattle.walk_laws.proofs.Replacing.Tours.{stub}
use Rattle.move_model.specs.declared.ahead.Ahead.{Ahead}
use Rattle.move_model.specs.declared.ahead.Stretch.{Stretch}
use Rattle.move_model.specs.declared.place.Place.{Place}
use Rattle.move_model.specs.Ahead.{ahead, ahead_cmp, whole, with_start, with_stretch}
use Rattle.move_model.specs.Places.{IsMove}
use Rattle.move_model.specs.Ways.{GoesAlongWay, HasRest, IsWay, Leads, Leg, steps_along, steps_of_way, walk_along}
use Rattle.move_model.proofs.GoingOn.Joined.{legs_behind, steps_behind, way_ahead, way_behind, way_cut}
use Rattle.move_model.proofs.Moving.LegalWays.{way_is_legal}
use Rattle.move_model.proofs.GoingOn.Rivals.{common_front, least, steps_no_later}
use Rattle.move_model.proofs.GoingOn.Stretching.{start_order, stretch_ahead, stretch_order}

module _ (a : Arena) (arena : IsArena a) (via : List Point) (penalty : ℕ) where
  abbrev leg_stretch : Point → Leg → Stretch
  leg_stretch p l = record { from = p; dir = l.to.heading; steps = l.steps }

  -- what is ahead of a leg
  leg_ahead : (x : Place) (p : Point) (l : Leg) (on ds : List Dir) (more : ℕ) → (m : IsMove a via x l.steps l.to) → StandsAt a x.crossing p →
      ahead penalty x.heading p ((replicate l.steps l.to.heading ++ on) ++ ds) more ≡ with_stretch penalty x.heading (leg_stretch p l) (ahead penalty l.to.heading m.end (on ++ ds) more)
  leg_ahead x p l on ds more m at =
      let begin : m.begin ≡ p = one_point a x.crossing m.begin p arena m.here at in
      let there : forward l.to.heading l.steps p ≡ m.end = ap (forward l.to.heading l.steps) (sym begin) ∙ sym m.straight in
      ap (λ es. ahead penalty x.heading p es more) (append_assoc (replicate l.steps l.to.heading) on ds)
      ∙ stretch_ahead penalty x.heading (leg_stretch p l) (on ++ ds) more m.some
      ∙ ap (λ q. with_stretch penalty x.heading (leg_stretch p l) (ahead penalty l.to.heading q (on ++ ds) more)) there

  -- one place and one point
  here_same : (x y : Place) (p q : Point) (ds : List Dir) (more : ℕ) → x ≡ y → StandsAt a x.crossing p → StandsAt a y.crossing q → ahead penalty x.heading p ds more ≡ ahead penalty y.heading q ds more
  here_same x y p q ds more e at_p at_q =
      let points : p ≡ q = one_point a y.crossing p q arena (subst (λ (z : Place). StandsAt a z.crossing p) e at_p) at_q in
      ap (λ (z : Place). ahead penalty z.heading p ds more) e ∙ ap (λ r. ahead penalty y.heading r ds more) points

  pub legs_order : (x y : Place) (p q : Point) (ls : List Leg) → Leads a via x ls y → StandsAt a x.crossing p → StandsAt a y.crossing q → (ds es : List Dir) (m n : ℕ) →
      ahead_cmp (ahead penalty x.heading p (steps_along ls ++ ds) m) (ahead penalty x.heading p (steps_along ls ++ es) n) ≡ ahead_cmp (ahead penalty y.heading q ds m) (ahead penalty y.heading q es n)
  legs_order x y p q [] h at_p at_q ds es m n =
      ap (λ v. ahead_cmp v (ahead penalty x.heading p es n)) (here_same x y p q ds m h at_p at_q) ∙ ap (ahead_cmp (ahead penalty y.heading q ds m)) (here_same x y p q es n h at_p at_q)
  legs_order x y p q (l ∷ ls) h at_p at_q ds es m n =
      let on = steps_along ls in
      let v = ahead penalty l.to.heading h.0.end (on ++ ds) m in
      let w = ahead penalty l.to.heading h.0.end (on ++ es) n in
      ap (λ k. ahead_cmp k (ahead penalty x.heading p (steps_along (l ∷ ls) ++ es) n)) (leg_ahead x p l on ds m h.0 at_p)
      ∙ ap (ahead_cmp (with_stretch penalty x.heading (leg_stretch p l) v)) (leg_ahead x p l on es n h.0 at_p)
      ∙ stretch_order penalty x.heading (leg_stretch p l) v w
      ∙ legs_order l.to y h.0.end q ls h.1 h.0.there at_q ds es m n

  pub legs_same : (x y : Place) (p q : Point) (ls : List Leg) → Leads a via x ls y → StandsAt a x.crossing p → StandsAt a y.crossing q → (ds es : List Dir) (m n : ℕ) →
      ahead penalty y.heading q ds m ≡ ahead penalty y.heading q es n → ahead penalty x.heading p (steps_along ls ++ ds) m ≡ ahead penalty x.heading p (steps_along ls ++ es) n
  legs_same x y p q [] h at_p at_q ds es m n same = here_same x y p q ds m h at_p at_q ∙ same ∙ sym (here_same x y p q es n h at_p at_q)
  legs_same x y p q (l ∷ ls) h at_p at_q ds es m n same =
      let on = steps_along ls in
      leg_ahead x p l on ds m h.0 at_p
      ∙ ap (with_stretch penalty x.heading (leg_stretch p l)) (legs_same l.to y h.0.end q ls h.1 h.0.there at_q ds es m n same)
      ∙ sym (leg_ahead x p l on es n h.0 at_p)

  pub legs_no_less : (x y : Place) (p q : Point) (ls : List Leg) → Leads a via x ls y → StandsAt a x.crossing p → StandsAt a y.crossing q → (ds : List Dir) (m : ℕ) →
      ((ahead penalty y.heading q ds m).cost ≤ (ahead penalty x.heading p (steps_along ls ++ ds) m).cost) × ((ahead penalty y.heading q ds m).runs ≤ (ahead penalty x.heading p (steps_along ls ++ ds) m).runs)
  legs_no_less x y p q [] h at_p at_q ds m =
      let same = here_same x y p q ds m h at_p at_q in
      (omega (arith, ap (λ (v : Ahead). v.cost) same), omega (arith, ap (λ (v : Ahead). v.runs) same))
  legs_no_less x y p q (l ∷ ls) h at_p at_q ds m =
      let one = leg_ahead x p l (steps_along ls) ds m h.0 at_p in
      let rest = legs_no_less l.to y h.0.end q ls h.1 h.0.there at_q ds m in
      (omega (arith, ap (λ (v : Ahead). v.cost) one, rest.0), omega (arith, ap (λ (v : Ahead). v.runs) one, rest.1))

module _ (solids : List Solid) (a : Arena) (task : Task) (t : Triple) (along : GoesAlongWay solids a task t) where
  pub rest_begins : HasRest solids a task t along along.entry along.start.port along.legs
  rest_begins = record { front = []; legs = refl; leads = refl; here = along.enters.here }

  pub rest_way : (y : Place) (q : Point) (rest : List Leg) → HasRest solids a task t along y q rest → IsWay solids a task.via y rest along.end
  rest_way y q rest h = way_cut solids a task.via along.entry y h.front rest along.end (subst (λ ls. IsWay solids a task.via along.entry ls along.end) h.legs along.way) h.leads

  pub rest_next : IsArena a → (y : Place) (q : Point) (l : Leg) (rest : List Leg) → HasRest solids a task t along y q (l ∷ rest) →
      IsMove a task.via y l.steps l.to × HasRest solids a task t along l.to (forward l.to.heading l.steps q) rest
  rest_next arena y q l rest h =
      let m = (rest_way y q (l ∷ rest) h).0 in
      let begin : m.begin ≡ q = one_point a y.crossing m.begin q arena m.here h.here in (
        m,
        record {
          front = h.front ++ (l ∷ []);
          legs = h.legs ∙ sym (append_assoc h.front (l ∷ []) rest);
          leads = legs_behind a task.via along.entry y l.to h.front (l ∷ []) h.leads (m, refl);
          here = subst (StandsAt a l.to.crossing) (m.straight ∙ ap (forward l.to.heading l.steps) begin) m.there;
        },
      )

module _ (floor : Floor) (a : Arena) (task : Task) (t : Triple) (arena : IsArena a) (stands : StandsFor floor a) (is_task : IsTask task) (first : IsFirst floor.solids task t)
    (along : GoesAlongWay floor.solids a task t) (y : Place) (q : Point) (rest : List Leg) (h : HasRest floor.solids a task t along y q rest)
    (ls : List Leg) (n : ℕ) (e : Choice) (is_end : slice_get task.ends n ≡ Some e) (way : IsWay floor.solids a task.via y ls e) where
  abbrev s : Choice
  s = along.start

  -- the walk that goes on along the other way
  abbrev other : Triple
  other = record { start = t.start; walk = walk_along s (h.front ++ ls) e; end = n }

  along_other : GoesAlongWay floor.solids a task other
  along_other = record {
    start = s;
    end = e;
    is_start = along.is_start;
    is_end = is_end;
    entry = along.entry;
    legs = h.front ++ ls;
    enters = along.enters;
    way = way_behind floor.solids a task.via along.entry y h.front ls e h.leads way;
    walk = refl;
  }

  abbrev from_entry : List Dir → ℕ → Ahead
  from_entry ds more = ahead task.penalty along.entry.heading s.port (steps_along h.front ++ ds) more

  -- the steps of both, after those in common
  own_steps : steps_of_way along.legs along.end ≡ steps_along h.front ++ steps_of_way rest along.end
  own_steps = ap (λ ms. steps_of_way ms along.end) h.legs ∙ steps_behind h.front rest along.end

  whole_own : whole task t ≡ with_start s (from_entry (steps_of_way rest along.end) along.end.cost)
  whole_own =
      way_ahead floor.solids a task t is_task along
      ∙ ap (λ ds. with_start s (ahead task.penalty s.dir s.port ds along.end.cost)) own_steps
      ∙ ap (λ (d : Dir). with_start s (ahead task.penalty d s.port (steps_along h.front ++ steps_of_way rest along.end) along.end.cost)) (sym along.enters.heading)

  whole_other : whole task other ≡ with_start s (from_entry (steps_of_way ls e) e.cost)
  unfolding along_other
  whole_other =
      way_ahead floor.solids a task other is_task along_other
      ∙ ap (λ ds. with_start s (ahead task.penalty s.dir s.port ds e.cost)) (steps_behind h.front ls e)
      ∙ ap (λ (d : Dir). with_start s (ahead task.penalty d s.port (steps_along h.front ++ steps_of_way ls e) e.cost)) (sym along.enters.heading)

  abbrev own_ahead : Ahead
  own_ahead = ahead task.penalty y.heading q (steps_of_way rest along.end) along.end.cost

  abbrev other_ahead : Ahead
  other_ahead = ahead task.penalty y.heading q (steps_of_way ls e) e.cost

  same_order : ahead_cmp (whole task t) (whole task other) ≡ ahead_cmp own_ahead other_ahead
  same_order =
      ap (λ v. ahead_cmp v (whole task other)) whole_own
      ∙ ap (ahead_cmp (with_start s (from_entry (steps_of_way rest along.end) along.end.cost))) whole_other
      ∙ start_order s (from_entry (steps_of_way rest along.end) along.end.cost) (from_entry (steps_of_way ls e) e.cost)
      ∙ legs_order a arena task.via task.penalty along.entry y s.port q h.front h.leads along.enters.here h.here (steps_of_way rest along.end) (steps_of_way ls e) along.end.cost e.cost

  pub rest_least : ahead_cmp own_ahead other_ahead ≢ Greater
  rest_least greater = least floor.solids task t other first (way_is_legal floor a task other arena stands is_task along_other) (same_order ∙ greater)

  pub rest_first : other_ahead ≡ own_ahead → ordering_then (slice_cmp dir_cmp (steps_of_way rest along.end) (steps_of_way ls e)) (nat_cmp t.end n) ≢ Greater
  rest_first same greater =
      let tied : whole task other ≡ whole task t =
      whole_other ∙ ap (with_start s) (legs_same a arena task.via task.penalty along.entry y s.port q h.front h.leads along.enters.here h.here (steps_of_way ls e) (steps_of_way rest along.end) e.cost along.end.cost same) ∙ sym whole_own in
      let own : t.walk.steps ≡ (stub s ++ steps_along h.front) ++ steps_of_way rest along.end =
      ap (λ (v : Walk). v.steps) along.walk ∙ ap (λ ds. stub s ++ ds) own_steps ∙ sym (append_assoc (stub s) (steps_along h.front) (steps_of_way rest along.end)) in
      let others : other.walk.steps ≡ (stub s ++ steps_along h.front) ++ steps_of_way ls e =
      ap (λ ds. stub s ++ ds) (steps_behind h.front ls e) ∙ sym (append_assoc (stub s) (steps_along h.front) (steps_of_way ls e)) in
      let order : slice_cmp dir_cmp t.walk.steps other.walk.steps ≡ slice_cmp dir_cmp (steps_of_way rest along.end) (steps_of_way ls e) =
      ap (λ ds. slice_cmp dir_cmp ds other.walk.steps) own ∙ ap (slice_cmp dir_cmp ((stub s ++ steps_along h.front) ++ steps_of_way rest along.end)) others
      ∙ common_front (stub s ++ steps_along h.front) (steps_of_way rest along.end) (steps_of_way ls e) in
      steps_no_later floor.solids task t other first (way_is_legal floor a task other arena stands is_task along_other) tied refl (ap (λ o. ordering_then o (nat_cmp t.end n)) order ∙ greater)

-- a crossing is on the sheet
pub crossing_on_sheet : (floor : Floor) (a : Arena) (c : ℕ) (p : Point) → IsArena a → StandsFor floor a → StandsAt a c p → PointIsOnSheet p
crossing_on_sheet floor a c p arena stands at =
    let u = placed a c p arena at in
    let down : IsKept floor u.down = (stands.lines u.down).0 (u.pair.vertical, u.is_down) in
    let across : IsKept floor u.across = (stands.lines u.across).0 (u.pair.horizontal, u.is_across) in
    record { x = subst IsCoordinate (sym u.x) down.longest.piece.at; y = subst IsCoordinate (sym u.y) across.longest.piece.at }
