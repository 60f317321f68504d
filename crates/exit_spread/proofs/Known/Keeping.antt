-- An exit that was offered at the next station of a first walk's way is known at the place before it, or one that stands for it.
use Rattle.std.proofs.Common.{◌≡◌, ◌≢◌, ◌⊎◌, ℕ, ◌+◌, ◌<◌, ◌≤◌, ◌≤ℤ◌, ◌<ℤ◌, Option, None, Some, List, [], ◌∷◌, ◌++◌, sym, ap, subst, ◌∙◌, inl, inr, arith}
use Rattle.std.specs.Prelude.{Contains}
use Rattle.std.specs.BinaryHeap.{heap_items}
use Rattle.std.specs.declared.cmp.Ordering.TheVariants.{Greater}
use Rattle.std.specs.declared.cmp.Reverse.{Reverse}
use Rattle.std.proofs.lemmas.Int.{ints}
use Rattle.std.proofs.lemmas.List.Elements.{All-contains}
use Rattle.search_problem.specs.declared.queue.Candidate.{Candidate}
use Rattle.plane_geom.specs.declared.point.Point.{Point}
use Rattle.plane_geom.specs.declared.point.Dir.{Dir}
use Rattle.plane_geom.specs.declared.point.Way.{Way}
use Rattle.plane_geom.specs.Along.{reach, way_of}
use Rattle.plane_geom.specs.Point.{distance}
use Rattle.line_arena.specs.Arena.{LiesFurther, StandsAt}
use Rattle.line_arena.proofs.Arenas.ArenaLaws.{one_point}
use Rattle.walk_model.specs.Cost.{turn}
use Rattle.walk_model.specs.Order.{IsFirst, Triple}
use Rattle.walk_model.proofs.CornerByCorner.Bends.{turn_same}
use Rattle.move_model.specs.declared.ahead.Ahead.{Ahead}
use Rattle.move_model.specs.declared.place.Place.{Place}
use Rattle.move_model.specs.Ahead.{ahead, ahead_cmp, with_steps}
use Rattle.move_model.specs.Places.{ComesTo}
use Rattle.move_model.specs.Stations.{AreStraightLegs, BeginsWithTurn, IsNextStation}
use Rattle.move_model.specs.Ways.{GoesAlongWay, Leads, Leg, steps_along, steps_of_way}
use Rattle.move_model.proofs.GoingOn.Joined.{steps_behind}
use Rattle.move_model.proofs.Stopping.Stops.{goes_heading, one_at_least}
use Rattle.move_model.proofs.Stopping.WayRuns.{straight_ahead}
use Rattle.search_problem.specs.Problems.{IsReady}
use Rattle.search_problem.specs.declared.problem.Problem.{Problem}
use Rattle.exit_rows.specs.Exits.{CountsAt, IsLate, StandsFor, ahead_at}
use Rattle.exit_rows.specs.Rows.{kept_in}
use Rattle.exit_rows.specs.declared.exit.Exit.{Exit}
use Rattle.exit_rows.specs.declared.exit.Kept.{Kept}
use Rattle.exit_rows.proofs.Orders.{ahead_behind, steps_order}
use Rattle.exit_spread.specs.declared.spread.Spread.{Spread}
use Rattle.exit_spread.specs.Offers.{IsOffered, exit_of, from_of, kept_of}
use Rattle.exit_spread.specs.Searching.{IsKeptOf, IsSpread}
use Rattle.exit_spread.specs.Ways.{AreNumbered, bound_at}
use Rattle.exit_spread.proofs.Known.AheadOrder.{less_differs, neither_greater}
use Rattle.exit_spread.proofs.Known.Attained.{attained}
use Rattle.exit_spread.proofs.Known.Counting.{counts_from, station_lies, straight_comes}
use Rattle.exit_spread.proofs.Known.Lines.{further_gap, further_less, one_number}
use Rattle.exit_spread.proofs.Known.Mattering.{rest_matters}
use Rattle.exit_spread.proofs.Known.Resting.{Rest, least_along, left, one_rest}

module _ (p : Problem) (number_of : ℕ → Way → ℕ) (s : Spread) where
  -- what the line through the crossing keeps for those who go along it in the direction and have passed k checkpoints
  abbrev pub row : ℕ → ℕ → Dir → List Kept
  row k c d = kept_in s.rows k (number_of c (way_of d)) d

  -- exactly this is known to lie ahead of the place in the direction, by a kept exit that is no nearer than the second place and goes on like this
  pub record IsKnownBy (x : Place) (d : Dir) (z : Place) (next : Option Dir) (v : Ahead) : Type 0 where
    pub kept : Kept
    pub point : Point
    pub here : StandsAt p.arena.now x.crossing point
    pub has : Contains (row x.stage x.crossing d) kept
    pub counts : CountsAt kept (reach d point)
    pub lies : LiesFurther p.arena.now d x.crossing z.crossing
    pub no_nearer : (r : Point) → StandsAt p.arena.now z.crossing r → reach d r ≤ℤ kept.at
    pub goes_on : kept.next ≡ next
    pub is : ahead_at kept (reach d point) ≡ v
    pub least : (o : Kept) → Contains (row x.stage x.crossing d) o → CountsAt o (reach d point) → ahead_cmp v (ahead_at o (reach d point)) ≢ Greater

module _ (p : Problem) (number_of : ℕ → Way → ℕ) (s : Spread) (ready : IsReady p) (numbered : AreNumbered p.arena.now number_of) (spread : IsSpread p number_of s)
    (t : Triple) (first : IsFirst p.solids.now p.task.now t) (along : GoesAlongWay p.solids.now p.arena.now p.task.now t) where
  -- a kept exit may be kept
  pub may_keep : (k c : ℕ) (d : Dir) (q : Point) (e : Kept) → StandsAt p.arena.now c q → Contains (row p number_of s k c d) e → IsKeptOf p number_of k (number_of c (way_of d)) d e
  may_keep k c d q e here has = All-contains (λ (o : Kept). IsKeptOf p number_of k (number_of c (way_of d)) d o) (row p number_of s k c d) e (spread.settled.searching.kept k c d q here) has

  -- the way goes straight on at the place, and the exit was offered if more checkpoints were passed there
  pub record GoesOn (y : Place) (q : Point) (next : Option Dir) (v : Ahead) : Type 0 where
    pub leg : Leg
    pub back : List Leg
    pub rest : Rest p ready t first along y q (leg ∷ back)
    pub straight : y.heading ≡ leg.to.heading
    pub offered : (j : ℕ) → j < y.stage → ComesTo p.task.now.via j q y.stage → IsOffered p s None q (exit_of number_of y next v)

  -- the exit at the place was offered, as far as the way stops there
  abbrev pub Offered : Place → Option Dir → Ahead → Type 0
  Offered y next v = (q : Point) → StandsAt p.arena.now y.crossing q → IsOffered p s None q (exit_of number_of y next v) ⊎ GoesOn y q next v

  module _ (x : Place) (at : Point) (l : Leg) (rest : List Leg) (h : Rest p ready t first along x at (l ∷ rest)) (n : IsNextStation p.solids.now p.arena.now p.task.now t along x at l rest) where
    abbrev d : Dir
    d = l.to.heading

    abbrev y : Place
    y = n.station.to

    abbrev q : Point
    q = n.point

    abbrev before : Dir → Ahead
    before b = left p ready t first along b q n.station.back

    lies : LiesFurther p.arena.now d x.crossing y.crossing
    lies = station_lies p ready t first along x at l rest h n

    on : y.heading ≡ d
    on = goes_heading p.arena.now p.task.now.via x d n.station.legs y n.station.straight

    comes : ComesTo p.task.now.via x.stage q y.stage
    comes = straight_comes p.arena.now ready.arena p.task.now.via y q n.here x d n.station.legs n.station.straight

    -- what is ahead at the station, with the straight legs in front
    pub legs_left : with_steps (distance at q) (before d) ≡ left p ready t first along d at (l ∷ rest)
    legs_left =
        let g = n.station.straight in
        let one = one_at_least p.arena.now p.task.now.via x d n.station.legs y g in
        let e = along.end in
        let cut : steps_of_way (l ∷ rest) e ≡ steps_along (one.0 ∷ one.1) ++ steps_of_way n.station.back e =
        ap (λ ls. steps_of_way ls e) n.station.split ∙ steps_behind n.station.legs n.station.back e ∙ ap (λ ls. steps_along ls ++ steps_of_way n.station.back e) one.2 in
        sym (straight_ahead p.arena.now ready.arena p.task.now.via x y at q d one.0 one.1 (subst (λ ls. Leads p.arena.now p.task.now.via x ls y) one.2 g.leads)
        (subst (AreStraightLegs d) one.2 g.straight) h.here n.here p.task.now.penalty (steps_of_way n.station.back e) e.cost)
        ∙ ap (λ ds. ahead p.task.now.penalty d at ds e.cost) (sym cut)

    -- the exit was offered
    of_offered : (next : Option Dir) (v : Ahead) → Offered y next v → IsOffered p s None q (exit_of number_of y next v)
    of_offered next v offered = by_case (offered q n.here)
      where
        by_stop : (g : GoesOn y q next v) → (n.station.back ≡ []) ⊎ (BeginsWithTurn d n.station.back ⊎ (x.stage < y.stage)) → IsOffered p s None q (exit_of number_of y next v)
        by_stop g stops =
            let same : n.station.back ≡ g.leg ∷ g.back = one_rest p ready t first along y q n.station.back (g.leg ∷ g.back) n.on g.rest in
            elim stops as (λ _. IsOffered p s None q (exit_of number_of y next v)) [
              | inl none ↦ absurd (let both : g.leg ∷ g.back ≡ [] = sym same ∙ none in cc)
              | inr other ↦ elim other as (λ _. IsOffered p s None q (exit_of number_of y next v)) [
                | inl bends ↦ absurd (
                    let bent : 0 < turn d g.leg.to.heading = subst (BeginsWithTurn d) same bends in
                    let none : turn d d ≡ 0 = turn_same d in
                    omega (arith, bent, none, ap (turn d) (sym g.straight ∙ on)))
                | inr up ↦ g.offered x.stage up comes
              ]
            ]

        by_case : IsOffered p s None q (exit_of number_of y next v) ⊎ GoesOn y q next v → IsOffered p s None q (exit_of number_of y next v)
        by_case (inl is) = is
        by_case (inr g) = by_stop g n.station.stops

    -- so it was taken, and one that stands for it is kept
    abbrev Late : Option Dir → Type 0
    Late next = IsLate (kept_in s.rows x.stage (number_of y.crossing (way_of y.heading)) y.heading) (kept_of p x.stage q (exit_of number_of y next (before y.heading)))

    taken : (next : Option Dir) → IsOffered p s None q (exit_of number_of y next (before y.heading)) → Late next
    taken next offered = by_case offered
      where
        cheap : (before y.heading).cost + bound_at p y q ≤ s.best
        cheap = (rest_matters p ready s.best spread.best t first along y q n.station.back n.on).cheap

        by_case : IsOffered p s None q (exit_of number_of y next (before y.heading)) → Late next
        by_case (inl (inl dear)) = absurd (omega (arith, cheap, dear))
        by_case (inl (inr many)) = absurd (let few = (rest_matters p ready s.best spread.best t first along y q n.station.back n.on).few in omega (arith, few, many))
        by_case (inr (inl queued)) = absurd (
            let dear = All-contains (λ (c : Reverse (Candidate Exit)). s.best < c.0.bound) (heap_items s.queue.heap)
            (record { 0 = record { bound = (before y.heading).cost + bound_at p y q; item = exit_of number_of y next (before y.heading) } })
            spread.settled.dear queued in
            omega (arith, cheap, dear))
        by_case (inr (inr (inl late))) = late x.stage comes
        by_case (inr (inr (inr hole))) = absurd (let wrong : ◌≡◌ {A = Option Exit} None (Some (exit_of number_of y next (before y.heading))) = hole in cc)

    -- the kept exit as the line keeps it
    abbrev own : Option Dir → Dir → Kept
    own next b = record { crossing = y.crossing; from = from_of p.task.now.via x.stage b q; at = reach b q; next = next; ahead = before b }

    stands : (next : Option Dir) → Offered y next (before y.heading) → IsLate (row p number_of s x.stage x.crossing d) (own next d)
    stands next offered =
        subst (λ m. IsLate (kept_in s.rows x.stage m d) (own next d)) (sym (one_number p.arena.now ready.arena d number_of numbered x.crossing y.crossing lies))
        (subst (λ (b : Dir). IsLate (kept_in s.rows x.stage (number_of y.crossing (way_of b)) b) (own next b)) on (taken next (of_offered next (before y.heading) offered)))

    -- what stands for it is known at the place
    module _ (next : Option Dir) (o : Kept) (has : Contains (row p number_of s x.stage x.crossing d) o) (st : StandsFor o (own next d)) where
      further : reach d at <ℤ reach d q
      further = further_less p.arena.now ready.arena d x.crossing y.crossing at q lies h.here n.here

      counts : CountsAt o (reach d at)
      counts =
          let from = counts_from p ready t first along x at l rest h n in
          let sooner = st.from in
          let later = st.at in
          record { from = omega (arith, ints, from, sooner); before = omega (arith, ints, later, further) }

      none_less : (k : Kept) → Contains (row p number_of s x.stage x.crossing d) k → CountsAt k (reach d at) → ahead_cmp (left p ready t first along d at (l ∷ rest)) (ahead_at k (reach d at)) ≢ Greater
      none_less k is_kept counts_there =
          least_along p ready t first along x at l rest h (ahead_at k (reach d at))
          (attained p number_of ready numbered x at d k h.here (may_keep x.stage x.crossing d at k h.here is_kept) counts_there)

      -- what it gives at the station, with the straight legs in front
      value : ahead_at o (reach d at) ≡ with_steps (distance at q) (ahead_at o (reach d q))
      value =
          let later = st.at in
          ahead_behind o (reach d at) (reach d q) (omega (arith, ints, further)) later
          ∙ ap (λ m. with_steps m (ahead_at o (reach d q))) (further_gap p.arena.now ready.arena d x.crossing y.crossing at q lies h.here n.here)

      order : ahead_cmp (ahead_at o (reach d at)) (left p ready t first along d at (l ∷ rest)) ≡ ahead_cmp (ahead_at o (reach d q)) (before d)
      order = ap (λ v. ahead_cmp v (left p ready t first along d at (l ∷ rest))) value ∙ ap (ahead_cmp (with_steps (distance at q) (ahead_at o (reach d q)))) (sym legs_left)
          ∙ steps_order (distance at q) (ahead_at o (reach d q)) (before d)

      exact : ahead_at o (reach d at) ≡ left p ready t first along d at (l ∷ rest)
      exact = neither_greater (ahead_at o (reach d at)) (left p ready t first along d at (l ∷ rest)) (λ greater. st.no_more (sym order ∙ greater)) (none_less o has counts)

      known_by : IsKnownBy p number_of s x d y next (left p ready t first along d at (l ∷ rest))
      known_by = record {
        kept = o;
        point = at;
        here = h.here;
        has = has;
        counts = counts;
        lies = lies;
        no_nearer = λ r at_r. subst (λ u. reach d u ≤ℤ o.at) (one_point p.arena.now y.crossing q r ready.arena n.here at_r) st.at;
        goes_on = elim st.alike as (λ _. o.next ≡ next) [
          | inl less ↦ absurd (less_differs (ahead_at o (reach d at)) (left p ready t first along d at (l ∷ rest)) (order ∙ less) exact)
          | inr alike ↦ alike
        ];
        is = exact;
        least = none_less;
      }

    pub keeps : (next : Option Dir) → Offered y next (before y.heading) → IsKnownBy p number_of s x d y next (with_steps (distance at q) (before y.heading))
    keeps next offered =
        let kept = stands next offered in
        subst (IsKnownBy p number_of s x d y next) (sym legs_left ∙ ap (λ (b : Dir). with_steps (distance at q) (before b)) (sym on)) (known_by next kept.1 (kept.0, kept.2, kept.3) kept.4)
