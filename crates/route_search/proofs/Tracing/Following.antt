-- The first walk is followed step by step: what is found at each step is how it goes on.
use Rattle.std.proofs.Common.{◌≡◌, ◌≢◌, ◌⊎◌, ℕ, suc, zero, ◌+◌, ◌<◌, ◌≤◌, Some, List, [], ◌∷◌, ◌++◌, length, replicate, inl, inr, refl, sym, ap, subst, ◌∙◌, arith, append_assoc, append-nil}
use Rattle.std.specs.Prelude.{slice_get}
use Rattle.std.specs.Ordering.{nat_cmp, ordering_then}
use Rattle.std.specs.declared.cmp.Ordering.TheVariants.{Greater}
use Rattle.std.specs.Cmp.Lexicographic.{slice_cmp}
use Rattle.std.proofs.lemmas.Bool.{cases_lt}
use Rattle.plane_geom.specs.declared.point.Point.{Point}
use Rattle.plane_geom.specs.declared.point.Dir.{Dir}
use Rattle.plane_geom.specs.declared.rect.Solid.{Solid}
use Rattle.plane_geom.specs.Point.{forward, opposite}
use Rattle.line_arena.specs.Arena.{Arena, IsArena, StandsAt}
use Rattle.line_arena.proofs.Arenas.ArenaLaws.{one_crossing, one_point}
use Rattle.walk_model.specs.declared.task.Choice.{Choice}
use Rattle.walk_model.specs.Choice.{IsChoice, stub_length}
use Rattle.walk_model.specs.Order.{IsLegalTriple, Triple, dir_cmp, rank}
use Rattle.walk_model.specs.Walk.{Walk, after}
use Rattle.walk_model.proofs.Ranking.OneAnswer.{corners, corners_after}
use Rattle.route_search.proofs.Tracing.Orders.{first_no_later, longer_is_later, stretch_no_later}
use Rattle.walk_laws.proofs.OnKeptLines.Lines.{chosen}
use Rattle.move_model.specs.declared.place.Place.{Place}
use Rattle.move_model.specs.declared.ahead.Ahead.{Ahead}
use Rattle.move_model.specs.declared.ahead.Stretch.{Stretch}
use Rattle.move_model.specs.Ahead.{ahead, nothing, whole, with_start, with_stretch}
use Rattle.move_model.specs.Places.{IsEnding, IsMove}
use Rattle.move_model.specs.Ways.{GoesAlongWay, IsWay, Leads, Leg, steps_along, steps_of_way}
use Rattle.move_model.proofs.GoingOn.Joined.{steps_behind, way_ahead, way_behind}
use Rattle.move_model.proofs.Moving.LegalWays.{way_is_legal}
use Rattle.move_model.proofs.GoingOn.Rivals.{common_front, steps_no_later}
use Rattle.move_model.proofs.GoingOn.Stretching.{stretch_ahead, stub_ahead}
use Rattle.search_problem.specs.Problems.{IsReady}
use Rattle.search_problem.specs.declared.problem.Problem.{Problem}
use Rattle.route_search.specs.declared.follow.Move.{Move}
use Rattle.route_search.specs.declared.follow.Next.{Next}
use Rattle.route_search.specs.declared.follow.Next.TheVariants.{Stop, Go}
use Rattle.route_search.specs.declared.follow.Standing.{Standing}
use Rattle.route_search.specs.declared.follow.Tail.{Tail}
use Rattle.route_search.specs.Following.{IsMoveIn, IsNext, IsNextIn, IsNoLater, IsTailIn}
use Rattle.route_search.specs.Starting.{IsKnownAlong}
use Rattle.route_search.specs.Known.{IsAttained, Knowledge}
use Rattle.route_search.proofs.Moving.Directions.{same_rank}
use Rattle.exit_spread.proofs.Sizes.{small_ending}
use Rattle.route_search.proofs.Tracing.Tails.{stub_tail}
use Rattle.std.proofs.lemmas.Option.{same_Some, slice_get_within}

-- if the steps that are left give equally much ahead, so do they after common legs
pub common_legs : (penalty : ℕ) (a : Arena) → IsArena a → (via : List Point) (ls : List Leg) (x y : Place) (p q : Point) (xs ys : List Dir) (b c : ℕ) → Leads a via x ls y
    → StandsAt a x.crossing p → StandsAt a y.crossing q → ahead penalty y.heading q xs b ≡ ahead penalty y.heading q ys c
    → ahead penalty x.heading p (steps_along ls ++ xs) b ≡ ahead penalty x.heading p (steps_along ls ++ ys) c
common_legs penalty a arena via [] x y p q xs ys b c leads here there same =
    let at : q ≡ p = one_point a x.crossing q p arena (subst (λ z. StandsAt a z.crossing q) (sym leads) there) here in
    subst (λ r. ahead penalty x.heading r xs b ≡ ahead penalty x.heading r ys c) at
    (subst (λ z. ahead penalty z.heading q xs b ≡ ahead penalty z.heading q ys c) (sym leads) same)
common_legs penalty a arena via (l ∷ ls) x y p q xs ys b c leads here there same =
    let m = leads.0 in
    let begin : m.begin ≡ p = one_point a x.crossing m.begin p arena m.here here in
    let on : forward l.to.heading l.steps p ≡ m.end = ap (forward l.to.heading l.steps) (sym begin) ∙ sym m.straight in
    let run = replicate l.steps l.to.heading in
    let s : Stretch = record { from = p; dir = l.to.heading; steps = l.steps } in
    let rest = common_legs penalty a arena via ls l.to y m.end q xs ys b c leads.1 m.there there same in
    let first = λ (zs : List Dir) (k : ℕ). ap (λ ds. ahead penalty x.heading p ds k) (append_assoc run (steps_along ls) zs) ∙ stretch_ahead penalty x.heading s (steps_along ls ++ zs) k m.some
    ∙ ap (λ r. with_stretch penalty x.heading s (ahead penalty l.to.heading r (steps_along ls ++ zs) k)) on in
    first xs b ∙ ap (with_stretch penalty x.heading s) rest ∙ sym (first ys c)

-- one leg more
pub leads_on : (a : Arena) (via : List Point) (x y z : Place) (n : ℕ) (ls : List Leg) → Leads a via x ls y → IsMove a via y n z → Leads a via x (ls ++ (record { steps = n; to = z }) ∷ []) z
leads_on a via x y z n [] leads m = (subst (λ w. IsMove a via w n z) (sym leads) m, refl)
leads_on a via x y z n (l ∷ ls) leads m = (leads.0, leads_on a via l.to y z n ls leads.1 m)

-- there are some steps
record HasSteps (ds : List Dir) : Type 0 where
  first : Dir
  more : List Dir
  is : ds ≡ first ∷ more

some_stretch : (n : ℕ) (d : Dir) (ds : List Dir) → 0 < n → HasSteps (replicate n d ++ ds)
some_stretch zero d ds some = absurd (omega (arith, some))
some_stretch (suc n) d ds some = record { first = d; more = replicate n d ++ ds; is = refl }

-- each way has steps
some_way : (solids : List Solid) (a : Arena) (via : List Point) (x : Place) (legs : List Leg) (e : Choice) → IsChoice e → IsWay solids a via x legs e → HasSteps (steps_of_way legs e)
some_way solids a via x [] e is way = subst HasSteps (append-nil (replicate (stub_length e) (opposite e.dir))) (some_stretch (stub_length e) (opposite e.dir) [] is.apart)
some_way solids a via x (l ∷ ls) e is way = some_stretch l.steps l.to.heading (steps_of_way ls e) way.0.some

module _ (p : Problem) (known : Knowledge) (t : Triple) (h : IsKnownAlong p known t) where
  -- the steps of the stub and of the legs
  abbrev pub steps_by : List Leg → List Dir
  steps_by legs = replicate (stub_length h.along.start) h.along.start.dir ++ steps_along legs

  -- the steps and the end choice make another walk
  abbrev pub other : List Dir → ℕ → Triple
  other steps end = record { start = t.start; walk = record { start = t.walk.start; steps = steps }; end = end }

  -- that is legal and as good as the first
  pub record IsRival (steps : List Dir) (end : ℕ) : Type 0 where
    pub legal : IsLegalTriple p.solids.now p.task.now (other steps end)
    pub same : whole p.task.now (other steps end) ≡ whole p.task.now t

  -- what is left of the first walk goes along legs, or along the tail
  pub record GoesOn (passed : List Leg) (s : Standing) (rest : List Dir) : Type 0 where
    pub legs : List Leg
    pub all : h.along.legs ≡ passed ++ legs
    pub way : IsWay p.solids.now p.arena.now p.task.now.via s.place legs h.along.end
    pub left : rest ≡ steps_of_way legs h.along.end

  pub record GoesOut (s : Standing) (rest : List Dir) : Type 0 where
    pub tail : Tail
    pub is : s.tail ≡ Some tail
    pub left : rest ≡ replicate tail.steps s.place.heading
    pub end : tail.end ≡ t.end

  -- the first walk has been followed along the legs, and by these corners, to where it stands, with these steps left
  pub record IsFollowing (s : Standing) (points : List Point) : Type 0 where
    pub passed : List Leg
    pub leads : Leads p.arena.now p.task.now.via h.along.entry passed s.place
    pub at : Point
    pub here : StandsAt p.arena.now s.place.crossing at
    pub stage : s.place.stage ≤ length p.task.now.via
    pub rest : List Dir
    pub steps : steps_of_way h.along.legs h.along.end ≡ steps_along passed ++ rest
    pub makes : s.ahead ≡ ahead p.task.now.penalty s.place.heading at rest h.along.end.cost
    pub goes : GoesOn passed s rest ⊎ GoesOut s rest
    pub tail : (b : Tail) → s.tail ≡ Some b → (0 < b.steps) × IsRival (steps_by passed ++ replicate b.steps s.place.heading) b.end
    pub end : after at rest ≡ h.along.end.pin
    pub drawn : points ++ corners_after s.place.heading at rest ≡ t.walk.start ∷ corners t.walk.start t.walk.steps

  -- a way with equally much ahead gives a rival
  module _ (ready : IsReady p) (s : Standing) (points : List Point) (f : IsFollowing s points) where
    pub rival_by : (legs : List Leg) (number : ℕ) (e : Choice) → slice_get p.task.now.ends number ≡ Some e → IsWay p.solids.now p.arena.now p.task.now.via s.place legs e
        → ahead p.task.now.penalty s.place.heading f.at (steps_of_way legs e) e.cost ≡ s.ahead → IsRival (steps_by f.passed ++ steps_of_way legs e) number
    rival_by legs number e is_end way same =
        let task = p.task.now in
        let a = p.arena.now in
        let w = h.along in
        let stub = replicate (stub_length w.start) w.start.dir in
        let u = other (steps_by f.passed ++ steps_of_way legs e) number in
        let there : steps_by f.passed ++ steps_of_way legs e ≡ stub ++ steps_of_way (f.passed ++ legs) e =
        append_assoc stub (steps_along f.passed) (steps_of_way legs e) ∙ ap (λ ds. stub ++ ds) (sym (steps_behind f.passed legs e)) in
        let start : t.walk.start ≡ w.start.pin = ap (λ (v : Walk). v.start) w.walk in
        let along : GoesAlongWay p.solids.now a task u = record {
          start = w.start;
          end = e;
          is_start = w.is_start;
          is_end = is_end;
          entry = w.entry;
          legs = f.passed ++ legs;
          enters = w.enters;
          way = way_behind p.solids.now a task.via w.entry s.place f.passed legs e f.leads way;
          walk = λ i. record { start = start i; steps = there i };
        } in
        let is_task = ready.problem.is_task in
        let penalty = task.penalty in
        let heading = w.start.dir in
        let port = w.start.port in
        let alike : ahead penalty heading port (steps_along f.passed ++ steps_of_way legs e) e.cost ≡ ahead penalty heading port (steps_along f.passed ++ f.rest) w.end.cost =
        subst (λ (d : Dir). ahead penalty d port (steps_along f.passed ++ steps_of_way legs e) e.cost ≡ ahead penalty d port (steps_along f.passed ++ f.rest) w.end.cost) w.enters.heading
        (common_legs penalty a ready.arena task.via f.passed w.entry s.place port f.at (steps_of_way legs e) f.rest e.cost w.end.cost f.leads w.enters.here f.here (same ∙ f.makes)) in
        let legal = λ (g : GoesAlongWay ready.floor.solids a task u). way_is_legal ready.floor a task u ready.arena ready.problem.stands is_task g in
        record {
          legal = subst (λ solids. IsLegalTriple solids task u) ready.problem.same_solids (legal (subst (λ solids. GoesAlongWay solids a task u) (sym ready.problem.same_solids) along));
          same =
              way_ahead p.solids.now a task u is_task along
              ∙ ap (with_start w.start) (ap (λ ds. ahead penalty heading port ds e.cost) (steps_behind f.passed legs e) ∙ alike ∙ ap (λ ds. ahead penalty heading port ds w.end.cost) (sym f.steps))
              ∙ sym (way_ahead p.solids.now a task t is_task w);
        }

    all_steps : t.walk.steps ≡ steps_by f.passed ++ f.rest
    all_steps =
        let stub = replicate (stub_length h.along.start) h.along.start.dir in
        ap (λ (v : Walk). v.steps) h.along.walk ∙ ap (λ ds. stub ++ ds) f.steps ∙ sym (append_assoc stub (steps_along f.passed) f.rest)

    -- and what is left of a rival is no earlier than what is left of the first walk
    pub no_earlier : (steps : List Dir) (end : ℕ) → IsRival (steps_by f.passed ++ steps) end → ordering_then (slice_cmp dir_cmp f.rest steps) (nat_cmp t.end end) ≢ Greater
    no_earlier steps end r later =
        let u = other (steps_by f.passed ++ steps) end in
        steps_no_later p.solids.now p.task.now t u h.first r.legal r.same refl
        (ap (λ ds. ordering_then (slice_cmp dir_cmp ds (steps_by f.passed ++ steps)) (nat_cmp t.end end)) all_steps
        ∙ ap (λ o. ordering_then o (nat_cmp t.end end)) (common_front (steps_by f.passed) f.rest steps) ∙ later)

    -- the first walk ends with the tail in the direction
    pub record EndsBy (d : Dir) (b : Tail) : Type 0 where
      pub tail : IsTailIn p s d p.endings.items b
      pub some : 0 < b.steps
      pub left : f.rest ≡ replicate b.steps d
      pub end : b.end ≡ t.end

    -- or goes on by the move
    pub record GoesBy (d : Dir) (m : Move) : Type 0 where
      pub move : IsMoveIn p known s d m
      pub legs : List Leg
      pub all : h.along.legs ≡ f.passed ++ (record { steps = m.steps; to = m.to }) ∷ legs
      pub way : IsWay p.solids.now p.arena.now p.task.now.via m.to legs h.along.end
      pub left : f.rest ≡ replicate m.steps d ++ steps_of_way legs h.along.end

    pub record HowOn : Type 0 where
      pub dir : Dir
      pub how : ((b : Tail) × EndsBy dir b) ⊎ ((m : Move) × GoesBy dir m)

    by_ending : IsEnding p.solids.now p.arena.now p.task.now.via h.along.end s.place → f.rest ≡ steps_of_way [] h.along.end → HowOn
    by_ending ending left =
        let task = p.task.now in
        let end = h.along.end in
        let found = ready.endings.complete t.end s.place.crossing end (slice_get_within task.ends t.end end h.along.is_end) h.along.is_end ending.free ending.here in
        let e = found.0 in
        let k = small_ending p e ready found.1 in
        let same : k.choice ≡ end = same_Some k.choice end (sym k.of.is_end ∙ ap (slice_get task.ends) found.2 ∙ h.along.is_end) in
        let port : e.port ≡ f.at = k.of.port ∙ ap (λ (c : Choice). c.port) same ∙ one_point p.arena.now s.place.crossing end.port f.at ready.arena ending.here f.here in
        let dir : e.dir ≡ opposite end.dir = k.of.dir ∙ ap (λ (c : Choice). opposite c.dir) same in
        let stub : e.stub ≡ stub_length end = k.of.stub ∙ ap stub_length same in
        let rest : e.rest ≡ stub_length end + end.cost = k.of.rest ∙ ap (λ (c : Choice). stub_length c + c.cost) same in
        let is_choice : IsChoice end = chosen IsChoice task.ends t.end end h.along.is_end ready.problem.is_task.ends.each in
        let crossing : e.crossing ≡ s.place.crossing = one_crossing p.arena.now e.crossing s.place.crossing end.port ready.arena (subst (λ (c : Choice). StandsAt p.arena.now e.crossing c.port) same k.of.here) ending.here in
        record {
          dir = e.dir;
          how = inl (
            stub_tail e,
            record {
              tail = inr (
                e,
                found.1,
                record {
                  stage = ending.stage;
                  crossing = crossing;
                  dir = refl;
                  fits =
                      (λ i. with_stretch task.penalty s.place.heading (record { from = port i; dir = dir i; steps = rest i }) nothing)
                      ∙ sym (stub_ahead task.penalty s.place.heading (opposite end.dir) f.at (stub_length end) end.cost is_choice.apart)
                      ∙ ap (λ ds. ahead task.penalty s.place.heading f.at ds end.cost) (sym left) ∙ sym f.makes;
                },
                refl,
              );
              some = subst (λ n. 0 < n) (sym stub) is_choice.apart;
              left = left ∙ (λ i. replicate (sym stub i) (sym dir i));
              end = found.2;
            },
          );
        }

    by_leg : (k : Leg) (legs : List Leg) → h.along.legs ≡ f.passed ++ k ∷ legs → IsMove p.arena.now p.task.now.via s.place k.steps k.to
        → IsWay p.solids.now p.arena.now p.task.now.via k.to legs h.along.end → f.rest ≡ replicate k.steps k.to.heading ++ steps_of_way legs h.along.end → HowOn
    by_leg k legs all m way left =
        let task = p.task.now in
        let d = k.to.heading in
        let end = h.along.end in
        let on : List Leg = f.passed ++ k ∷ [] in
        let v : Ahead = ahead task.penalty d m.end (steps_of_way legs end) end.cost in
        let begin : m.begin ≡ f.at = one_point p.arena.now s.place.crossing m.begin f.at ready.arena m.here f.here in
        let is_this = h.exact on legs k.to m.end (all ∙ sym (append_assoc f.passed (k ∷ []) legs)) (leads_on p.arena.now task.via h.along.entry s.place k.to k.steps f.passed f.leads m) m.there in
        let stretch : Stretch = record { from = m.begin; dir = d; steps = k.steps } in
        record {
          dir = d;
          how = inr (
            record { steps = k.steps; to = k.to; ahead = v },
            record {
              move = record {
                move = m;
                dir = refl;
                leads = h.towards f.passed k legs s.place f.at all f.leads f.here
                    ∙ ap (λ ds. Some (ahead task.penalty s.place.heading f.at ds end.cost)) (sym left) ∙ ap Some (sym f.makes);
                is_known = is_this;
                fits =
                    ap (λ (q : Point). with_stretch task.penalty s.place.heading stretch (ahead task.penalty d q (steps_of_way legs end) end.cost)) m.straight
                    ∙ sym (stretch_ahead task.penalty s.place.heading stretch (steps_of_way legs end) end.cost m.some)
                    ∙ (λ i. ahead task.penalty s.place.heading (begin i) (sym left i) end.cost) ∙ sym f.makes;
              };
              legs = legs;
              all = all;
              way = way;
              left = left;
            },
          );
        }

    by_legs : (legs : List Leg) → h.along.legs ≡ f.passed ++ legs → IsWay p.solids.now p.arena.now p.task.now.via s.place legs h.along.end → f.rest ≡ steps_of_way legs h.along.end → HowOn
    by_legs [] all way left = by_ending way left
    by_legs (k ∷ legs) all way left = by_leg k legs all way.0 way.1 left

    by_either : GoesOn f.passed s f.rest ⊎ GoesOut s f.rest → HowOn
    by_either (inl g) = by_legs g.legs g.all g.way g.left
    by_either (inr g) = record { dir = s.place.heading; how = inl (g.tail, record { tail = inl (refl, g.is); some = (f.tail g.tail g.is).0; left = g.left; end = g.end }) }

    -- the first walk goes on, and what it does is found
    pub how_on : HowOn
    how_on = by_either f.goes

    -- each tail in a direction makes a rival
    pub rival_tail : (d : Dir) (b : Tail) → IsTailIn p s d p.endings.items b → (0 < b.steps) × IsRival (steps_by f.passed ++ replicate b.steps d) b.end
    rival_tail d b (inl t) = subst (λ (e : Dir). (0 < b.steps) × IsRival (steps_by f.passed ++ replicate b.steps e) b.end) (sym t.0) (f.tail b t.1)
    rival_tail d b (inr (e, inside, may, eq)) =
        let task = p.task.now in
        let k = small_ending p e ready inside in
        let c = k.choice in
        let n = stub_length c in
        let stands : StandsAt p.arena.now s.place.crossing c.port = subst (λ x. StandsAt p.arena.now x c.port) may.crossing k.of.here in
        let here : e.port ≡ f.at = k.of.port ∙ one_point p.arena.now s.place.crossing c.port f.at ready.arena stands f.here in
        let dir : d ≡ opposite c.dir = sym may.dir ∙ k.of.dir in
        let ending : IsEnding p.solids.now p.arena.now task.via c s.place = record { free = k.of.free; here = stands; stage = may.stage } in
        let same : ahead task.penalty s.place.heading f.at (replicate n (opposite c.dir)) c.cost ≡ s.ahead =
        stub_ahead task.penalty s.place.heading (opposite c.dir) f.at n c.cost k.is_choice.apart
        ∙ (λ i. with_stretch task.penalty s.place.heading (record { from = sym here i; dir = sym dir i; steps = sym k.of.rest i }) nothing) ∙ may.fits in
        let r = rival_by [] e.choice c k.of.is_end ending same in
        let stub : b.steps ≡ n = ap (λ (x : Tail). x.steps) eq ∙ k.of.stub in
        let end : b.end ≡ e.choice = ap (λ (x : Tail). x.end) eq in (
          subst (λ m. 0 < m) (sym stub) k.is_choice.apart,
          subst (λ m. IsRival (steps_by f.passed ++ replicate m d) b.end) (sym stub)
              (subst (λ (x : Dir). IsRival (steps_by f.passed ++ replicate n x) b.end) (sym dir) (subst (IsRival (steps_by f.passed ++ replicate n (opposite c.dir))) (sym end) r)),
        )

    -- and so does each move
    pub rival_move : IsAttained p known → (d : Dir) (m : Move) → IsMoveIn p known s d m → (more : List Dir) × (end : ℕ) × IsRival (steps_by f.passed ++ (replicate m.steps d ++ more)) end
    rival_move searching d m is =
        let task = p.task.now in
        let att = searching.attained m.to m.ahead is.is_known in
        let w = att.1 in
        let mv = is.move in
        let begin : mv.begin ≡ f.at = one_point p.arena.now s.place.crossing mv.begin f.at ready.arena mv.here f.here in
        let there : att.0 ≡ mv.end = one_point p.arena.now m.to.crossing att.0 mv.end ready.arena w.here mv.there in
        let ds = steps_of_way w.legs w.end in
        let stretch : Stretch = record { from = mv.begin; dir = m.to.heading; steps = m.steps } in
        let same : ahead task.penalty s.place.heading f.at (replicate m.steps m.to.heading ++ ds) w.end.cost ≡ s.ahead =
        (λ i. ahead task.penalty s.place.heading (sym begin i) (replicate m.steps m.to.heading ++ ds) w.end.cost)
        ∙ stretch_ahead task.penalty s.place.heading stretch ds w.end.cost mv.some
        ∙ ap (λ (q : Point). with_stretch task.penalty s.place.heading stretch (ahead task.penalty m.to.heading q ds w.end.cost)) (sym mv.straight ∙ sym there)
        ∙ ap (with_stretch task.penalty s.place.heading stretch) (sym w.same)
        ∙ ap (λ (e : Dir). with_stretch task.penalty s.place.heading (record { from = mv.begin; dir = e; steps = m.steps }) m.ahead) is.dir ∙ is.fits in
        let leg : Leg = record { steps = m.steps; to = m.to } in
        let r = rival_by (leg ∷ w.legs) w.number w.end w.is_end (mv, w.way) same in
        (ds, w.number, subst (λ (e : Dir). IsRival (steps_by f.passed ++ (replicate m.steps e ++ ds)) w.number) is.dir r)

    -- what is left begins in the direction
    record Begins (d : Dir) : Type 0 where
      count : ℕ
      more : List Dir
      some : 0 < count
      is : f.rest ≡ replicate count d ++ more

    begins : (on : HowOn) → Begins on.dir
    begins on = elim on.how as (λ _. Begins on.dir) [
      | inl k ↦ record { count = k.0.steps; more = []; some = k.1.some; is = k.1.left ∙ sym (append-nil (replicate k.0.steps on.dir)) }
      | inr k ↦ record { count = k.0.steps; more = steps_of_way k.1.legs h.along.end; some = k.1.move.move.some; is = k.1.left }
    ]

    before_stretch : (b : Tail) (d : Dir) → IsTailIn p s d p.endings.items b → rank how_on.dir ≤ rank d
    before_stretch b d tail =
        let r = rival_tail d b tail in
        let g = begins how_on in
        first_no_later how_on.dir d g.count b.steps g.more [] (nat_cmp t.end b.end) g.some r.0
        (λ e. no_earlier (replicate b.steps d) b.end r.1 ((λ i. ordering_then (slice_cmp dir_cmp (g.is i) (sym (append-nil (replicate b.steps d)) i)) (nat_cmp t.end b.end)) ∙ e))

    before_move : IsAttained p known → (m : Move) (d : Dir) → IsMoveIn p known s d m → rank how_on.dir ≤ rank d
    before_move searching m d is =
        let r = rival_move searching d m is in
        let g = begins how_on in
        first_no_later how_on.dir d g.count m.steps g.more r.0 (nat_cmp t.end r.1) g.some is.move.some
        (λ e. no_earlier (replicate m.steps d ++ r.0) r.1 r.2 (ap (λ ds. ordering_then (slice_cmp dir_cmp ds (replicate m.steps d ++ r.0)) (nat_cmp t.end r.1)) g.is ∙ e))

    no_later_than : IsAttained p known → (d : Dir) (n : Next) → IsNextIn p known s d n → rank how_on.dir ≤ rank d
    no_later_than searching d (Stop b) next = before_stretch b d next.tail.is
    no_later_than searching d (Go further) next = before_move searching next.move d next.is_move

    -- the first walk goes on in the direction that is found
    pub the_direction : IsAttained p known → (d : Dir) (n : Next) → IsNext p known s d n → how_on.dir ≡ d
    the_direction searching d n next = same_rank how_on.dir d (elim (cases_lt (rank how_on.dir) (rank d)) as (λ _. rank how_on.dir ≡ rank d) [
      | inl less ↦ (let none = next.none_before how_on.dir less in elim how_on.how as (λ _. rank how_on.dir ≡ rank d) [
        | inl k ↦ absurd (none.tails k.0 k.1.tail)
        | inr k ↦ absurd (none.moves k.0 k.1.move)
      ])
      | inr upto ↦ (let le = no_later_than searching d n next.next in let e : rank how_on.dir ≡ rank d = omega (arith, upto, le) in e)
    ])

    -- where the earliest tail is no longer than a move, the first walk ends with it
    pub stops_with : IsAttained p known → (d : Dir) (b : Tail) → IsNext p known s d (Stop b) → (f.rest ≡ replicate b.steps d) × (b.end ≡ t.end)
    stops_with searching d b next = by (subst (λ e. ((x : Tail) × EndsBy e x) ⊎ ((m : Move) × GoesBy e m)) (the_direction searching d (Stop b) next) how_on.how)
      where
        rival : (0 < b.steps) × IsRival (steps_by f.passed ++ replicate b.steps d) b.end
        rival = rival_tail d b next.next.tail.is

        by : ((x : Tail) × EndsBy d x) ⊎ ((m : Move) × GoesBy d m) → (f.rest ≡ replicate b.steps d) × (b.end ≡ t.end)
        by (inl (k, ends)) =
            let first = next.next.tail.first k ends.tail in
            let here : IsNoLater b k = subst (λ x. IsNoLater x k) (sym (same_Some b first.0 first.1)) first.2 in
            let long = stretch_no_later d k.steps b.steps t.end b.end
            (λ e. no_earlier (replicate b.steps d) b.end rival.1 (ap (λ ds. ordering_then (slice_cmp dir_cmp ds (replicate b.steps d)) (nat_cmp t.end b.end)) ends.left ∙ e)) in
            let same : k.steps ≡ b.steps = omega (arith, here.steps, long.steps) in
            (ends.left ∙ ap (λ n. replicate n d) same, omega (arith, long.end same, here.end (sym same), ends.end))
        by (inr (m, goes)) =
            let end = h.along.end in
            let is : IsChoice end = chosen IsChoice p.task.now.ends t.end end h.along.is_end ready.problem.is_task.ends.each in
            let some = some_way p.solids.now p.arena.now p.task.now.via m.to goes.legs end is goes.way in
            let left : f.rest ≡ replicate m.steps d ++ some.first ∷ some.more = goes.left ∙ ap (λ ds. replicate m.steps d ++ ds) some.is in
            absurd (no_earlier (replicate b.steps d) b.end rival.1
            (ap (λ ds. ordering_then (slice_cmp dir_cmp ds (replicate b.steps d)) (nat_cmp t.end b.end)) left
            ∙ longer_is_later d m.steps b.steps some.first some.more (nat_cmp t.end b.end) (next.next.short m goes.move)))
