-- What is known to lie ahead of a place is ahead on some way, and along a first walk it is exactly what is ahead.
use Rattle.std.proofs.Common.{◌≡◌, ◌≢◌, ◌⊎◌, ℕ, zero, suc, ◌<◌, ◌==◌, ◌&&◌, Bool, true, false, if◌then◌else◌, fold, get_or, Option, None, Some, List, [], ◌∷◌, length, refl, sym, ap, subst, ◌∙◌, inl, inr, arith}
use Rattle.std.specs.Prelude.{Any, Contains}
use Rattle.std.specs.Option.{option_map}
use Rattle.std.specs.declared.cmp.Ordering.TheVariants.{Greater}
use Rattle.std.proofs.lemmas.Bool.{and_from, and_parts}
use Rattle.std.proofs.lemmas.Bool.Decides.{Decides-eqb}
use Rattle.std.proofs.lemmas.List.Elements.{All-contains}
use Rattle.std.proofs.lemmas.Option.{same_Some}
use Rattle.plane_geom.specs.declared.point.Point.{Point}
use Rattle.plane_geom.specs.declared.point.Dir.{Dir}
use Rattle.plane_geom.specs.declared.point.Dir.TheVariants.{East, South, West, North}
use Rattle.plane_geom.specs.declared.point.Way.{Way}
use Rattle.plane_geom.specs.Along.{reach, way_of}
use Rattle.line_arena.specs.Arena.{StandsAt}
use Rattle.line_arena.proofs.Arenas.ArenaLaws.{one_point}
use Rattle.walk_model.specs.declared.task.Choice.{Choice}
use Rattle.walk_model.specs.Order.{IsFirst, Triple}
use Rattle.move_model.specs.declared.ahead.Ahead.{Ahead}
use Rattle.move_model.specs.declared.place.Place.{Place}
use Rattle.move_model.specs.Ahead.{ahead_cmp}
use Rattle.move_model.specs.Places.{IsEnding}
use Rattle.move_model.specs.Ways.{GoesAlongWay, Leg}
use Rattle.move_model.proofs.GoingOn.Rests.{rest_way}
use Rattle.move_model.proofs.Stopping.KnownByStations.{known_along_way}
use Rattle.search_problem.specs.Ends.{IsEndingOf}
use Rattle.search_problem.specs.Problems.{IsReady}
use Rattle.search_problem.specs.declared.ends.Ending.{Ending}
use Rattle.search_problem.specs.declared.problem.Problem.{Problem}
use Rattle.exit_rows.specs.Exits.{ahead_at, lesser}
use Rattle.exit_rows.specs.declared.exit.Kept.{Kept}
use Rattle.exit_rows.proofs.Least.{AtMost, attained as least_attained, least as least_of_row, lesser_keeps, lesser_one, lesser_takes}
use Rattle.exit_rows.proofs.Orders.{not_greater}
use Rattle.exit_spread.specs.declared.spread.Spread.{Spread}
use Rattle.exit_spread.specs.Known.{by_ending, known, known_along, known_onwards, known_towards}
use Rattle.exit_spread.specs.Searching.{IsKeptOf, IsSpread}
use Rattle.exit_spread.specs.Ways.{AreNumbered, IsWayAhead, turned}
use Rattle.exit_spread.proofs.Known.AheadOrder.{neither_greater}
use Rattle.exit_spread.proofs.Known.Attained.{attained, turned_way}
use Rattle.exit_spread.proofs.Known.Ending.{some_ending, stub_left, stub_of}
use Rattle.exit_spread.proofs.Known.Keeping.{IsKnownBy, Offered, keeps, row}
use Rattle.exit_spread.proofs.Known.Offering.{offers_end, offers_on, offers_tip, offers_turn}
use Rattle.exit_spread.proofs.Known.Resting.{Rest, bend_left, least_left, left}

-- ---- the least of what is known and of what the endings give

module _ (p : Problem) (x : Place) where
  abbrev with_endings : Option Ahead → List Ending → Option Ahead
  with_endings least es = fold (λ least e. lesser least (by_ending p x e)) least es

  -- it is what was known, or what one of the endings gives
  pub one_of : (es : List Ending) (a : Option Ahead) (v : Ahead) → with_endings a es ≡ Some v → (a ≡ Some v) ⊎ Any (λ e. by_ending p x e ≡ Some v) es
  one_of [] a v h = inl h
  one_of (e ∷ es) a v h = elim (one_of es (lesser a (by_ending p x e)) v h) as (λ _. (a ≡ Some v) ⊎ Any (λ f. by_ending p x f ≡ Some v) (e ∷ es)) [
    | inl so_far ↦ elim (lesser_one a (by_ending p x e) v so_far) as (λ _. (a ≡ Some v) ⊎ Any (λ f. by_ending p x f ≡ Some v) (e ∷ es)) [
      | inl before ↦ inl before
      | inr this ↦ inr (0, e, omega arith, refl, this)
    ]
    | inr (k, f, lt, is, of) ↦ inr (suc k, f, omega (arith, lt), is, of)
  ]

  -- and no more than either
  endings_keep : (v : Ahead) (es : List Ending) (a : Option Ahead) → AtMost a v → AtMost (with_endings a es) v
  endings_keep v [] a h = h
  endings_keep v (e ∷ es) a h = endings_keep v es (lesser a (by_ending p x e)) (lesser_keeps a (by_ending p x e) v h)

  endings_take : (v : Ahead) (es : List Ending) (a : Option Ahead) (k : ℕ) (e : Ending) → k < length es → get_or es k e ≡ e → by_ending p x e ≡ Some v → AtMost (with_endings a es) v
  endings_take v [] a k e lt is h = absurd (omega (arith, lt))
  endings_take v (f ∷ es) a zero e lt is h = endings_keep v es (lesser a (by_ending p x f)) (lesser_takes a (by_ending p x f) v (ap (by_ending p x) is ∙ h))
  endings_take v (f ∷ es) a (suc k) e lt is h = endings_take v es (lesser a (by_ending p x f)) k e (omega (arith, lt)) is h

-- what is known by a direction, of what is known along it
pub mapped_from : (f : Ahead → Ahead) (o : Option Ahead) (v : Ahead) → option_map f o ≡ Some v → (u : Ahead) × (o ≡ Some u) × (f u ≡ v)
mapped_from f None v h = absurd (let wrong : ◌≡◌ {A = Option Ahead} None (Some v) = h in cc)
mapped_from f (Some u) v h = (u, refl, same_Some (f u) v h)

module _ (p : Problem) (number_of : ℕ → Way → ℕ) (s : Spread) (ready : IsReady p) (numbered : AreNumbered p.arena.now number_of) (spread : IsSpread p number_of s) where
  -- ---- what is known is ahead on some way

  way_towards : (x : Place) (at : Point) (d : Dir) (v : Ahead) → StandsAt p.arena.now x.crossing at → known_towards p number_of s x at d ≡ Some v → IsWayAhead p x at v
  way_towards x at d v here h =
      let of = mapped_from (turned p x.heading at d) (known_along p number_of s x at d) v h in
      let kept = least_attained (row p number_of s x.stage x.crossing d) (reach d at) of.0 of.1 in
      let e : Kept = kept.1 in
      let may = All-contains (λ (o : Kept). IsKeptOf p number_of x.stage (number_of x.crossing (way_of d)) d o) (row p number_of s x.stage x.crossing d) e
      (spread.settled.searching.kept x.stage x.crossing d at here) (kept.0, kept.2, kept.3) in
      let way = attained p number_of ready numbered x at d e here may kept.4.0 in
      subst (IsWayAhead p x at) (ap (turned p x.heading at d) kept.4.1 ∙ of.2) (turned_way p x at d (ahead_at e (reach d at)) way)

  way_ending : (x : Place) (at : Point) (e : Ending) (v : Ahead) → StandsAt p.arena.now x.crossing at → Contains p.endings.items e → by_ending p x e ≡ Some v → IsWayAhead p x at v
  way_ending x at e v here has h = by_test (e.crossing == x.crossing && x.stage == length p.task.now.via) refl h
    where
      of_some : (e.choice < length p.task.now.ends) × (c : Choice) × IsEndingOf p.solids.now p.arena.now p.task.now c e
      of_some =
          All-contains (λ (f : Ending). (f.choice < length p.task.now.ends) × (c : Choice) × IsEndingOf p.solids.now p.arena.now p.task.now c f) p.endings.items e ready.endings.sound has

      c : Choice
      c = of_some.1

      is : IsEndingOf p.solids.now p.arena.now p.task.now c e
      is = of_some.2

      gives : Ahead
      gives = stub_of p ready x e

      ends : e.crossing ≡ x.crossing → x.stage ≡ length p.task.now.via → gives ≡ v → IsWayAhead p x at v
      ends crossing stage same = record {
        here = here;
        legs = [];
        number = e.choice;
        end = c;
        is_end = is.is_end;
        way = record { free = is.free; here = subst (λ z. StandsAt p.arena.now z c.port) crossing is.here; stage = stage };
        same = sym same ∙ (stub_left p ready x at c e here crossing is).1;
      }

      by_test : (t : Bool) → (e.crossing == x.crossing && x.stage == length p.task.now.via) ≡ t → (if t then Some gives else None) ≡ Some v → IsWayAhead p x at v
      by_test true t k =
          let both = and_parts (e.crossing == x.crossing) (x.stage == length p.task.now.via) t in
          ends ((Decides-eqb e.crossing x.crossing).0 both.0) ((Decides-eqb x.stage (length p.task.now.via)).0 both.1) (same_Some gives v k)
      by_test false t k = absurd (let wrong : ◌≡◌ {A = Option Ahead} None (Some v) = k in cc)

  way_onwards : (x : Place) (at : Point) (v : Ahead) → StandsAt p.arena.now x.crossing at → known_onwards p number_of s x at ≡ Some v → IsWayAhead p x at v
  way_onwards x at v here h = elim (lesser_one _ (known_towards p number_of s x at North) v h) as (λ _. IsWayAhead p x at v) [
    | inl three ↦ elim (lesser_one _ (known_towards p number_of s x at West) v three) as (λ _. IsWayAhead p x at v) [
      | inl two ↦ elim (lesser_one (known_towards p number_of s x at East) (known_towards p number_of s x at South) v two) as (λ _. IsWayAhead p x at v) [
        | inl e ↦ way_towards x at East v here e
        | inr e ↦ way_towards x at South v here e
      ]
      | inr e ↦ way_towards x at West v here e
    ]
    | inr e ↦ way_towards x at North v here e
  ]

  -- what is known to lie ahead of a place is ahead on some way
  pub known_attained : (x : Place) (at : Point) (v : Ahead) → StandsAt p.arena.now x.crossing at → known p number_of s x at ≡ Some v → IsWayAhead p x at v
  known_attained x at v here h = elim (one_of p x p.endings.items (known_onwards p number_of s x at) v h) as (λ _. IsWayAhead p x at v) [
    | inl on ↦ way_onwards x at v here on
    | inr (k, e, lt, is, of) ↦ way_ending x at e v here (k, lt, is) of
  ]

  -- ---- along a first walk it is exactly what is ahead

  -- what is known by a kept exit, and no less by any other, is the least in the direction
  by_known : (x : Place) (at : Point) (d : Dir) (z : Place) (next : Option Dir) (v : Ahead) → StandsAt p.arena.now x.crossing at → IsKnownBy p number_of s x d z next v → known_along p number_of s x at d ≡ Some v
  by_known x at d z next v here k =
      let same : k.point ≡ at = one_point p.arena.now x.crossing k.point at ready.arena k.here here in
      let least = least_of_row (row p number_of s x.stage x.crossing d) (reach d k.point) k.kept k.has k.counts in
      let of = least_attained (row p number_of s x.stage x.crossing d) (reach d k.point) least.0 least.1 in
      let upto : ahead_cmp least.0 v ≢ Greater = subst (λ u. ahead_cmp least.0 u ≢ Greater) k.is least.2 in
      let no_more : ahead_cmp v least.0 ≢ Greater = subst (λ u. ahead_cmp v u ≢ Greater) of.4.1 (k.least of.1 (of.0, of.2, of.3) of.4.0) in
      subst (λ q. known_along p number_of s x q d ≡ Some v) same (least.1 ∙ ap Some (neither_greater least.0 v upto no_more))

  module _ (t : Triple) (first : IsFirst p.solids.now p.task.now t) (along : GoesAlongWay p.solids.now p.arena.now p.task.now t) where
    -- in the direction of the way
    exactly_along : (x : Place) (at : Point) (l : Leg) (rest : List Leg) → Rest p ready t first along x at (l ∷ rest) → known_along p number_of s x at l.to.heading ≡ Some (left p ready t first along l.to.heading at (l ∷ rest))
    exactly_along x at l rest h =
        let found = known_along_way p.solids.now p.arena.now ready.arena p.task.now t ready.problem.is_task first along
        (Offered p number_of s ready numbered spread t first along) (IsKnownBy p number_of s)
        (offers_end p number_of s ready numbered spread t first along) (offers_turn p number_of s ready numbered spread t first along) (offers_tip p number_of s ready numbered spread t first along)
        (offers_on p number_of s ready numbered spread t first along) (keeps p number_of s ready numbered spread t first along) x at l rest h in
        by_known x at l.to.heading found.n.station.to found.next (left p ready t first along l.to.heading at (l ∷ rest)) h.here found.known

    -- and so for a walk that arrives at the place
    pub towards_exactly : (x : Place) (at : Point) (l : Leg) (rest : List Leg) → Rest p ready t first along x at (l ∷ rest) →
        known_towards p number_of s x at l.to.heading ≡ Some (left p ready t first along x.heading at (l ∷ rest))
    towards_exactly x at l rest h =
        ap (option_map (turned p x.heading at l.to.heading)) (exactly_along x at l rest h) ∙ ap Some (sym (bend_left p ready t first along x at l rest h))

    module _ (x : Place) (at : Point) (rest : List Leg) (h : Rest p ready t first along x at rest) where
      abbrev v : Ahead
      v = left p ready t first along x.heading at rest

      onwards : (d : Dir) → known_towards p number_of s x at d ≡ Some v → AtMost (known_onwards p number_of s x at) v
      onwards East e =
          let two = lesser_keeps (known_towards p number_of s x at East) (known_towards p number_of s x at South) v (v, e, not_greater v) in
          lesser_keeps _ (known_towards p number_of s x at North) v (lesser_keeps _ (known_towards p number_of s x at West) v two)
      onwards South e =
          let two = lesser_takes (known_towards p number_of s x at East) (known_towards p number_of s x at South) v e in
          lesser_keeps _ (known_towards p number_of s x at North) v (lesser_keeps _ (known_towards p number_of s x at West) v two)
      onwards West e = lesser_keeps _ (known_towards p number_of s x at North) v (lesser_takes _ (known_towards p number_of s x at West) v e)
      onwards North e = lesser_takes _ (known_towards p number_of s x at North) v e

      by_ending_there : IsEnding p.solids.now p.arena.now p.task.now.via along.end x → rest ≡ [] → AtMost (known p number_of s x at) v
      by_ending_there w none =
          let found = some_ending p ready x at t.end along.end along.is_end w h.here in
          let e : Ending = found.0 in
          let test : (e.crossing == x.crossing && x.stage == length p.task.now.via) ≡ true =
          and_from (e.crossing == x.crossing) (x.stage == length p.task.now.via) ((Decides-eqb e.crossing x.crossing).1 found.2) ((Decides-eqb x.stage (length p.task.now.via)).1 w.stage) in
          endings_take p x v p.endings.items (known_onwards p number_of s x at) found.1.0 e found.1.1 found.1.2
          (ap (λ (b : Bool). if b then Some (stub_of p ready x e) else None) test ∙ ap Some (found.4 ∙ ap (left p ready t first along x.heading at) (sym none)))

      -- nothing less is known, since it would be ahead on some way
      exactly : AtMost (known p number_of s x at) v → known p number_of s x at ≡ Some v
      exactly (w, is, upto) = is ∙ ap Some (neither_greater w v upto (least_left p ready t first along x at rest h w (known_attained x at w h.here is)))

    -- along a first walk it is known exactly what is ahead
    pub known_exactly : (x : Place) (at : Point) (rest : List Leg) → Rest p ready t first along x at rest → known p number_of s x at ≡ Some (left p ready t first along x.heading at rest)
    known_exactly x at [] h = exactly x at [] h (by_ending_there x at [] h (rest_way p.solids.now p.arena.now p.task.now t along x at [] h) refl)
    known_exactly x at (l ∷ rest) h =
        exactly x at (l ∷ rest) h
        (endings_keep p x (left p ready t first along x.heading at (l ∷ rest)) p.endings.items (known_onwards p number_of s x at) (onwards x at (l ∷ rest) h l.to.heading (towards_exactly x at l rest h)))
