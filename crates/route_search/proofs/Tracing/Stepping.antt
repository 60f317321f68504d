-- A step of the first walk: what is known of it holds after the move, and its last step leads to the end.
use Rattle.std.proofs.Common.{◌≡◌, ◌⊎◌, ℕ, ◌+◌, ◌-◌, ◌*◌, ◌<◌, ◌==◌, if◌then◌else◌, ℤ, pos, ◌+ℤ◌, Option, Some, None, IfSome, List, [], ◌∷◌, ◌++◌, replicate, inl, inr, refl, sym, ap, subst, ◌∙◌, arith, append_assoc, append-nil}
use Rattle.std.specs.Cmp.Lexicographic.{slice_cmp}
use Rattle.std.specs.Ordering.{nat_cmp, ordering_then}
use Rattle.std.proofs.lemmas.Int.{ints}
use Rattle.std.proofs.lemmas.Option.{same_Some}
use Rattle.plane_geom.specs.declared.point.Point.{Point}
use Rattle.plane_geom.specs.declared.point.Dir.{Dir}
use Rattle.plane_geom.specs.Along.{across, way_of}
use Rattle.plane_geom.specs.Point.{PointIsOnSheet, forward}
use Rattle.line_arena.proofs.Arenas.ArenaLaws.{one_point}
use Rattle.walk_model.specs.Choice.{IsChoice, stub_length}
use Rattle.walk_model.specs.Cost.{turn}
use Rattle.walk_model.specs.Order.{Triple, dir_cmp}
use Rattle.walk_model.specs.Walk.{after}
use Rattle.walk_model.proofs.Ranking.OneAnswer.{corners, corners_after}
use Rattle.walk_model.proofs.CornerByCorner.Scan.{after-append, after-replicate}
use Rattle.walk_laws.proofs.OnKeptLines.Lines.{chosen}
use Rattle.move_model.specs.declared.ahead.Ahead.{Ahead}
use Rattle.move_model.specs.declared.ahead.Stretch.{Stretch}
use Rattle.move_model.specs.Ahead.{ahead, with_stretch}
use Rattle.move_model.specs.Ways.{IsWay, Leg, steps_along, steps_of_way}
use Rattle.move_model.proofs.GoingOn.Stretching.{same_ahead, stretch_ahead}
use Rattle.search_problem.specs.Problems.{IsReady}
use Rattle.search_problem.specs.declared.problem.Problem.{Problem}
use Rattle.route_search.specs.declared.follow.Move.{Move}
use Rattle.route_search.specs.declared.follow.Next.TheVariants.{Stop, Go}
use Rattle.route_search.specs.declared.follow.Standing.{Standing}
use Rattle.route_search.specs.declared.follow.Tail.{Tail}
use Rattle.route_search.specs.Following.{GoesIn, IsMoveIn, IsNext, IsTailIn, left_after}
use Rattle.route_search.specs.Known.{IsAttained, Knowledge}
use Rattle.route_search.specs.Starting.{IsKnownAlong}
use Rattle.route_search.proofs.Tracing.Corners.{corner_between, corners_behind, stretch_parts}
use Rattle.route_search.proofs.Tracing.Following.{EndsBy, GoesBy, GoesOn, GoesOut, IsFollowing, IsRival, how_on, leads_on, no_earlier, rival_tail, steps_by, stops_with, the_direction}
use Rattle.route_search.proofs.Tracing.Orders.{stretch_no_later}
use Rattle.route_search.proofs.Tracing.Tails.{the_only}

nat_off : (k a b : ℕ) → k + a ≡ k + b → a ≡ b
nat_off k a b e = omega (arith, e)

int_off : (k a b : ℤ) → k +ℤ a ≡ k +ℤ b → a ≡ b
int_off k a b e = omega (arith, ints, e)

-- a stretch in front can be taken off both sides
stretch_off : (penalty : ℕ) (heading : Dir) (s : Stretch) (v w : Ahead) → with_stretch penalty heading s v ≡ with_stretch penalty heading s w → v ≡ w
stretch_off penalty heading s v w e =
    let bent = penalty * turn heading s.dir in
    let cost : v.cost + s.steps + bent ≡ w.cost + s.steps + bent = ap (λ (x : Ahead). x.cost) e in
    same_ahead v w (omega (arith, cost))
    (nat_off (if turn heading s.dir == 0 then 0 else 1) v.runs w.runs (ap (λ (x : Ahead). x.runs) e))
    (int_off (if turn heading s.dir == 0 then pos 0 else across (way_of s.dir) s.from) v.lean w.lean (ap (λ (x : Ahead). x.lean) e))

-- the steps of the legs and one leg more
steps_on : (ls : List Leg) (l : Leg) (ds : List Dir) → steps_along (ls ++ l ∷ []) ++ ds ≡ steps_along ls ++ (replicate l.steps l.to.heading ++ ds)
steps_on [] l ds = ap (λ zs. zs ++ ds) (append-nil (replicate l.steps l.to.heading))
steps_on (k ∷ ks) l ds =
    let run = replicate k.steps k.to.heading in
    append_assoc run (steps_along (ks ++ l ∷ [])) ds ∙ ap (λ zs. run ++ zs) (steps_on ks l ds) ∙ sym (append_assoc run (steps_along ks) (replicate l.steps l.to.heading ++ ds))

module _ (p : Problem) (known : Knowledge) (t : Triple) (h : IsKnownAlong p known t) (ready : IsReady p) (s : Standing) (points : List Point) (f : IsFollowing p known t h s points) where
  -- the points up to the place, where the walk goes on in the direction
  abbrev pub points_to : Dir → List Point
  points_to d = if turn s.place.heading d == 0 then points else points ++ (f.at ∷ [])

  -- with equal steps the corners go on
  drawn_on : (d : Dir) (n : ℕ) (ds : List Dir) → 0 < n → f.rest ≡ replicate n d ++ ds → points_to d ++ corners_after d (forward d n f.at) ds ≡ t.walk.start ∷ corners t.walk.start t.walk.steps
  drawn_on d n ds some left =
      corner_between (turn s.place.heading d == 0) points f.at (corners_after d (forward d n f.at) ds)
      ∙ ap (λ qs. points ++ qs) (sym (corners_behind s.place.heading d n f.at ds some) ∙ ap (corners_after s.place.heading f.at) (sym left))
      ∙ f.drawn

  -- and what is left leads to the end
  end_on : (d : Dir) (n : ℕ) (ds : List Dir) → f.rest ≡ replicate n d ++ ds → after (forward d n f.at) ds ≡ h.along.end.pin
  end_on d n ds left = ap (λ q. after q ds) (sym (after-replicate f.at n d)) ∙ sym (after-append f.at (replicate n d) ds) ∙ ap (after f.at) (sym left) ∙ f.end

  module _ (d : Dir) (m : Move) (is : IsMoveIn p known s d m) (best : Option Tail) (tail : IfSome best (IsTailIn p s d p.endings.items)) (long : IfSome best (λ b. m.steps < b.steps)) where
    abbrev turned : Dir
    turned = m.to.heading

    abbrev leg : Leg
    leg = record { steps = m.steps; to = m.to }

    abbrev passed : List Leg
    passed = f.passed ++ leg ∷ []

    abbrev standing : Standing
    standing = record { place = m.to; ahead = m.ahead; tail = left_after m.steps best }

    begin : is.move.begin ≡ f.at
    begin = one_point p.arena.now s.place.crossing is.move.begin f.at ready.arena is.move.here f.here

    there : is.move.end ≡ forward turned m.steps f.at
    there = is.move.straight ∙ ap (forward turned m.steps) begin

    steps_by_on : (ds : List Dir) → steps_by p known t h passed ++ ds ≡ steps_by p known t h f.passed ++ (replicate m.steps turned ++ ds)
    steps_by_on ds =
        let stub = replicate (stub_length h.along.start) h.along.start.dir in
        append_assoc stub (steps_along passed) ds ∙ ap (λ zs. stub ++ zs) (steps_on f.passed leg ds) ∙ sym (append_assoc stub (steps_along f.passed) (replicate m.steps turned ++ ds))

    tail_on : (b : Tail) → IsTailIn p s d p.endings.items b → m.steps < b.steps → (0 < b.steps - m.steps) × IsRival p known t h (steps_by p known t h passed ++ replicate (b.steps - m.steps) turned) b.end
    tail_on b inside less =
        let k = b.steps - m.steps in
        let same : steps_by p known t h passed ++ replicate k turned ≡ steps_by p known t h f.passed ++ replicate b.steps d =
        steps_by_on (replicate k turned) ∙ ap (λ zs. steps_by p known t h f.passed ++ zs) (stretch_parts turned m.steps b.steps less ∙ ap (replicate b.steps) is.dir) in
        (omega (arith, less), subst (λ ds. IsRival p known t h ds b.end) (sym same) (rival_tail p known t h ready s points f d b inside).1)

    tails_on : (o : Option Tail) → IfSome o (IsTailIn p s d p.endings.items) → IfSome o (λ b. m.steps < b.steps) → (x : Tail) → left_after m.steps o ≡ Some x
        → (0 < x.steps) × IsRival p known t h (steps_by p known t h passed ++ replicate x.steps turned) x.end
    tails_on None inside less x e = absurd (let wrong : Some x ≡ None = sym e in cc)
    tails_on (Some b) inside less x e =
        subst (λ y. (0 < y.steps) × IsRival p known t h (steps_by p known t h passed ++ replicate y.steps turned) y.end) (same_Some (record { steps = b.steps - m.steps; end = b.end }) x e) (tail_on b inside less)

    module _ (rest : List Dir) (left : f.rest ≡ replicate m.steps turned ++ rest) where
      makes_on : m.ahead ≡ ahead p.task.now.penalty turned is.move.end rest h.along.end.cost
      makes_on =
          let penalty = p.task.now.penalty in
          let heading = s.place.heading in
          let cost = h.along.end.cost in
          let stretch : Stretch = record { from = is.move.begin; dir = turned; steps = m.steps } in
          stretch_off penalty heading stretch m.ahead (ahead penalty turned is.move.end rest cost)
          (ap (λ (e : Dir). with_stretch penalty heading (record { from = is.move.begin; dir = e; steps = m.steps }) m.ahead) is.dir ∙ is.fits ∙ f.makes
          ∙ (λ i. ahead penalty heading (sym begin i) (left i) cost)
          ∙ stretch_ahead penalty heading stretch rest cost is.move.some
          ∙ ap (λ (q : Point). with_stretch penalty heading stretch (ahead penalty turned q rest cost)) (sym is.move.straight))

      pub by_move : GoesOn p known t h passed standing rest ⊎ GoesOut p known t h standing rest → IsFollowing p known t h standing (points_to d)
      by_move goes =
          let arena = p.arena.now in
          record {
            passed = passed;
            leads = leads_on arena p.task.now.via h.along.entry s.place m.to m.steps f.passed f.leads is.move;
            at = is.move.end;
            here = is.move.there;
            stage = is.move.stage.within;
            rest = rest;
            steps = f.steps ∙ ap (λ zs. steps_along f.passed ++ zs) left ∙ sym (steps_on f.passed leg rest);
            makes = makes_on;
            goes = goes;
            tail = tails_on best tail long;
            end = ap (λ q. after q rest) there ∙ end_on turned m.steps rest left;
            drawn =
                (λ i. points_to (sym is.dir i) ++ corners_after turned (there i) rest)
                ∙ drawn_on turned m.steps rest is.move.some left;
          }

  -- what is found leads on along the first walk
  pub goes_with : IsAttained p known → (d : Dir) (further : Standing) → IsNext p known s d (Go further) → IsFollowing p known t h further (points_to d)
  goes_with searching d further next =
      subst (λ x. IsFollowing p known t h x (points_to d)) (sym g.further)
      (by (subst (λ e. ((x : Tail) × EndsBy p known t h ready s points f e x) ⊎ ((k : Move) × GoesBy p known t h ready s points f e k)) (the_direction p known t h ready s points f searching d (Go further) next) (how_on p known t h ready s points f).how))
    where
      g : GoesIn p known s d further
      g = next.next

      m : Move
      m = g.move

      after_it : Standing
      after_it = record { place = m.to; ahead = m.ahead; tail = left_after m.steps g.best }

      by : ((x : Tail) × EndsBy p known t h ready s points f d x) ⊎ ((k : Move) × GoesBy p known t h ready s points f d k) → IsFollowing p known t h after_it (points_to d)
      by (inl (k, ends)) =
          let first = g.tail.first k ends.tail in
          let a : Tail = first.0 in
          let inside : IsTailIn p s d p.endings.items a = subst (λ o. IfSome o (IsTailIn p s d p.endings.items)) first.1 g.tail.is in
          let less : m.steps < a.steps = subst (λ o. IfSome o (λ b. m.steps < b.steps)) first.1 g.long in
          let rival = rival_tail p known t h ready s points f d a inside in
          let upto = stretch_no_later d k.steps a.steps t.end a.end
          (λ e. no_earlier p known t h ready s points f (replicate a.steps d) a.end rival.1 (ap (λ ds. ordering_then (slice_cmp dir_cmp ds (replicate a.steps d)) (nat_cmp t.end a.end)) ends.left ∙ e)) in
          let same : k.steps ≡ a.steps = omega (arith, first.2.steps, upto.steps) in
          let end : a.end ≡ t.end = omega (arith, upto.end same, first.2.end (sym same), ends.end) in
          let rest : List Dir = replicate (a.steps - m.steps) m.to.heading in
          let left : f.rest ≡ replicate m.steps m.to.heading ++ rest = ends.left ∙ (λ i. replicate (same i) (sym g.is_move.dir i)) ∙ sym (stretch_parts m.to.heading m.steps a.steps less) in
          by_move d m g.is_move g.best g.tail.is g.long rest left
          (inr (record { tail = record { steps = a.steps - m.steps; end = a.end }; is = ap (left_after m.steps) first.1; left = refl; end = end }))
      by (inr (k, goes)) =
          let only = the_only p known s d ready.arena m k.steps k.to g.is_move goes.move.move goes.move.dir in
          let rest : List Dir = steps_of_way goes.legs h.along.end in
          let left : f.rest ≡ replicate m.steps m.to.heading ++ rest = goes.left ∙ (λ i. replicate (sym only.0 i) (sym g.is_move.dir i) ++ rest) in
          let leg : Leg = record { steps = m.steps; to = m.to } in
          by_move d m g.is_move g.best g.tail.is g.long rest left
          (inl (record {
            legs = goes.legs;
            all = goes.all ∙ (λ i. f.passed ++ (record { steps = sym only.0 i; to = sym only.1.0 i }) ∷ goes.legs) ∙ sym (append_assoc f.passed (leg ∷ []) goes.legs);
            way = subst (λ y. IsWay p.solids.now p.arena.now p.task.now.via y goes.legs h.along.end) (sym only.1.0) goes.way;
            left = refl;
          }))

  -- the first walk ends with the earliest tail: its point lies at the end's pin, and the points are the corners
  pub record IsAtEnd (d : Dir) (b : Tail) : Type 0 where
    pub end : b.end ≡ t.end
    pub at : PointIsOnSheet (forward d b.steps f.at)
    pub drawn : points_to d ++ (forward d b.steps f.at ∷ []) ≡ t.walk.start ∷ corners t.walk.start t.walk.steps

  pub ends_with : IsAttained p known → (d : Dir) (b : Tail) → IsNext p known s d (Stop b) → IsAtEnd d b
  ends_with searching d b next =
      let stop = stops_with p known t h ready s points f searching d b next in
      let left : f.rest ≡ replicate b.steps d ++ [] = stop.0 ∙ sym (append-nil (replicate b.steps d)) in
      let is_choice : IsChoice h.along.end = chosen IsChoice p.task.now.ends t.end h.along.end h.along.is_end ready.problem.is_task.ends.each in
      record {
        end = stop.1;
        at = subst PointIsOnSheet (sym (end_on d b.steps [] left)) is_choice.pin;
        drawn = drawn_on d b.steps [] (rival_tail p known t h ready s points f d b next.next.tail.is).0 left;
      }
