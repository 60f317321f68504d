-- The exits at the stations of a first walk's way were offered.
use Rattle.std.proofs.Common.{◌≡◌, ◌⊎◌, ℕ, ◌<◌, ◌≤ℤ◌, Option, None, Some, List, [], ◌∷◌, length, refl, sym, ap, subst, ◌∙◌, inl, inr, arith}
use Rattle.std.specs.Prelude.{Contains}
use Rattle.std.proofs.lemmas.List.Elements.{All-contains}
use Rattle.plane_geom.specs.declared.point.Point.{Point}
use Rattle.plane_geom.specs.declared.point.Dir.{Dir}
use Rattle.plane_geom.specs.declared.point.Dir.TheVariants.{East, South, West, North}
use Rattle.plane_geom.specs.declared.point.Way.{Way}
use Rattle.plane_geom.specs.Along.{reach, way_of}
use Rattle.plane_geom.specs.Point.{distance, opposite}
use Rattle.line_arena.specs.Arena.{StandsAt}
use Rattle.line_arena.proofs.Arenas.ArenaLaws.{one_point}
use Rattle.walk_model.specs.Cost.{turn}
use Rattle.walk_model.specs.Order.{IsFirst, Triple}
use Rattle.walk_laws.specs.Lines.{run_line}
use Rattle.walk_laws.specs.Sides.{IsHeldTo, held_to}
use Rattle.move_model.specs.declared.ahead.Ahead.{Ahead}
use Rattle.move_model.specs.declared.place.Place.{Place}
use Rattle.move_model.specs.Ahead.{ahead_cmp, with_stretch}
use Rattle.move_model.specs.Places.{ComesTo, IsEnding}
use Rattle.move_model.specs.Stations.{IsTurn, line_between}
use Rattle.move_model.specs.Ways.{GoesAlongWay, Leg}
use Rattle.move_model.proofs.Stopping.RunLines.{ended_later, held_longer, run_between}
use Rattle.search_problem.specs.Problems.{IsReady}
use Rattle.search_problem.specs.declared.ends.Ending.{Ending}
use Rattle.search_problem.specs.declared.problem.Problem.{Problem}
use Rattle.exit_rows.specs.Exits.{ahead_at}
use Rattle.exit_spread.specs.declared.spread.Spread.{Spread}
use Rattle.exit_spread.specs.Offers.{IsPropagatedAt, IsHeldUpTo, IsOffered, exit_of}
use Rattle.exit_spread.specs.Searching.{IsKeptOf, IsSpread, IsStubOffered}
use Rattle.exit_spread.specs.Ways.{AreNumbered, place_at, turned}
use Rattle.exit_spread.proofs.Known.AheadOrder.{less_is_greater}
use Rattle.exit_spread.proofs.Known.Beginning.{may_begin}
use Rattle.exit_spread.proofs.Known.Ending.{some_ending, stub_of}
use Rattle.exit_spread.proofs.Known.Keeping.{IsKnownBy, Offered, may_keep}
use Rattle.exit_spread.proofs.Known.Lines.{no_nearer, one_number}
use Rattle.exit_spread.proofs.Known.Resting.{Rest, left}

-- who doubles back comes from the other direction
from_opposite : (h d : Dir) → turn h d ≡ 2 → h ≡ opposite d
from_opposite East West e = refl
from_opposite South North e = refl
from_opposite West East e = refl
from_opposite North South e = refl
from_opposite _ _ e = absurd (omega (arith, e))

module _ (p : Problem) (number_of : ℕ → Way → ℕ) (s : Spread) (ready : IsReady p) (numbered : AreNumbered p.arena.now number_of) (spread : IsSpread p number_of s)
    (t : Triple) (first : IsFirst p.solids.now p.task.now t) (along : GoesAlongWay p.solids.now p.arena.now p.task.now t) where
  abbrev Out : Place → Option Dir → Ahead → Type 0
  Out y next v = Offered p number_of s ready numbered spread t first along y next v

  -- an exit, by its place, its point and what is ahead of it
  moved : (q r : Point) (x y : Place) (next : Option Dir) (v w : Ahead) → q ≡ r → x ≡ y → v ≡ w → IsOffered p s None q (exit_of number_of x next v) → IsOffered p s None r (exit_of number_of y next w)
  moved q r x y next v w points places values h =
      subst (λ u. IsOffered p s None r (exit_of number_of y next u)) values
      (subst (λ z. IsOffered p s None r (exit_of number_of z next v)) places (subst (λ u. IsOffered p s None u (exit_of number_of x next v)) points h))

  -- the stub of an end choice was offered to the places at its port
  pub offers_end : (y : Place) (q : Point) → Rest p ready t first along y q [] → IsEnding p.solids.now p.arena.now p.task.now.via along.end y → Out y None (left p ready t first along y.heading q [])
  offers_end y q h w r at_r =
      let found = some_ending p ready y q t.end along.end along.is_end w h.here in
      let e : Ending = found.0 in
      let crossing = found.2 in
      let stage : length p.task.now.via ≡ y.stage = sym w.stage in
      inl (moved e.port r (place_at e.crossing (length p.task.now.via) y.heading) y None (stub_of p ready y e) _
      (found.3 ∙ one_point p.arena.now y.crossing q r ready.arena h.here at_r)
      (λ i. record { crossing = crossing i; stage = stage i; heading = y.heading })
      found.4
      (All-contains (IsStubOffered p number_of s None) p.endings.items e spread.settled.stubs found.1 y.heading))

  module _ (y : Place) (d : Dir) (z : Place) (next : Option Dir) (v : Ahead) (k : IsKnownBy p number_of s y d z next v) where
    kept_of_known : IsKeptOf p number_of y.stage (number_of y.crossing (way_of d)) d k.kept
    kept_of_known = may_keep p number_of s ready numbered spread t first along y.stage y.crossing d k.point k.kept k.here k.has

    -- what is known is not undercut, so it was propagated
    propagated : IsPropagatedAt p number_of s None y.stage d k.kept y.crossing k.point
    propagated = elim (spread.settled.searching.propagated y.stage y.crossing d k.point k.kept k.here k.has (λ none. cc) y.crossing k.point k.here refl k.counts) as (λ _. IsPropagatedAt p number_of s None y.stage d k.kept y.crossing k.point) [
      | inl (i, o, lt, is, both) ↦ absurd (
          k.least o (i, lt, is) both.0 (ap (λ u. ahead_cmp u (ahead_at o (reach d k.point))) (sym k.is) ∙ less_is_greater (ahead_at o (reach d k.point)) (ahead_at k.kept (reach d k.point)) both.1))
      | inr at ↦ at
    ]

    -- a run that is held up to the station is held up to the exit
    held_up : (h : Dir) (r : Point) → StandsAt p.arena.now z.crossing r → (next ≡ None) ⊎ ((b : Dir) × (next ≡ Some b) × IsHeldTo p.solids.now p.task.now.via (held_to h b) (run_line k.point d (distance k.point r))) →
        IsHeldUpTo p h d k.point k.kept
    held_up h r at_r (inl none) = inl (k.goes_on ∙ none)
    held_up h r at_r (inr (b, is, held)) = inr (b, own.point, k.goes_on ∙ is, own.here, longer)
      where
        own : IsKeptOf p number_of y.stage (number_of y.crossing (way_of d)) d k.kept
        own = kept_of_known

        drawn : IsHeldTo p.solids.now p.task.now.via (held_to h b) (line_between d k.point r)
        drawn = subst (IsHeldTo p.solids.now p.task.now.via (held_to h b)) (run_between p.arena.now ready.arena d y.crossing z.crossing k.point r k.lies k.here at_r) held

        longer : IsHeldTo p.solids.now p.task.now.via (held_to h b) (line_between d k.point own.point)
        longer =
            let upto : reach d r ≤ℤ reach d own.point = subst (λ x. reach d r ≤ℤ x) own.at (k.no_nearer r at_r) in
            let same : number_of z.crossing (way_of d) ≡ number_of k.kept.crossing (way_of d) = sym (one_number p.arena.now ready.arena d number_of numbered y.crossing z.crossing k.lies) ∙ sym own.on in
            elim (no_nearer p.arena.now ready.arena d number_of numbered z.crossing k.kept.crossing r own.point at_r own.here same upto) as (λ _. IsHeldTo p.solids.now p.task.now.via (held_to h b) (line_between d k.point own.point)) [
              | inl here ↦ (
                  let point : r ≡ own.point = one_point p.arena.now k.kept.crossing r own.point ready.arena (subst (λ c. StandsAt p.arena.now c r) here at_r) own.here in
                  subst (λ x. IsHeldTo p.solids.now p.task.now.via (held_to h b) (line_between d k.point x)) point drawn)
              | inr further ↦ held_longer p.solids.now p.task.now.via (held_to h b) (line_between d k.point r) (line_between d k.point own.point)
                  (ended_later p.arena.now ready.arena d z.crossing k.kept.crossing k.point r own.point further at_r own.here) drawn
            ]

  -- behind what is known, a turn was offered
  pub offers_turn : (y : Place) (q : Point) (m : Leg) (back : List Leg) → Rest p ready t first along y q (m ∷ back) → IsTurn p.solids.now p.arena.now p.task.now t along y q m back →
      (z : Place) (r : Point) (next : Option Dir) (v : Ahead) → StandsAt p.arena.now z.crossing r → IsKnownBy p number_of s y m.to.heading z next v →
      (next ≡ None) ⊎ ((b : Dir) × (next ≡ Some b) × IsHeldTo p.solids.now p.task.now.via (held_to y.heading b) (run_line q m.to.heading (distance q r))) →
      Out y (Some m.to.heading) (with_stretch p.task.now.penalty y.heading (record { from = q; dir = m.to.heading; steps = 0 }) v)
  offers_turn y q m back h turns z r next v at_r k held u at_u =
      let d = m.to.heading in
      let here : k.point ≡ q = one_point p.arena.now y.crossing k.point q ready.arena k.here h.here in
      let own = held_up y d z next v k y.heading r at_r
      (subst (λ x. (next ≡ None) ⊎ ((b : Dir) × (next ≡ Some b) × IsHeldTo p.solids.now p.task.now.via (held_to y.heading b) (run_line x d (distance x r)))) (sym here) held) in
      let begins = may_begin p ready t first along y k.point m back k.here (subst (λ x. IsTurn p.solids.now p.arena.now p.task.now t along y x m back) (sym here) turns) in
      let offered = (propagated y d z next v k).turns y.heading turns.once own begins in
      inl (moved k.point u y y (Some d) _ _ (one_point p.arena.now y.crossing k.point u ready.arena k.here at_u) refl (λ i. turned p y.heading (here i) d (k.is i)) offered)

  -- a tip
  pub offers_tip : (y : Place) (q : Point) (m : Leg) (back : List Leg) → Rest p ready t first along y q (m ∷ back) → turn y.heading m.to.heading ≡ 2 → Contains p.task.now.via q →
      (z : Place) (next : Option Dir) (v : Ahead) → IsKnownBy p number_of s y m.to.heading z next v →
      Out y None (with_stretch p.task.now.penalty y.heading (record { from = q; dir = m.to.heading; steps = 0 }) v)
  offers_tip y q m back h twice has z next v k u at_u =
      let d = m.to.heading in
      let here : k.point ≡ q = one_point p.arena.now y.crossing k.point q ready.arena k.here h.here in
      let from : opposite d ≡ y.heading = sym (from_opposite y.heading d twice) in
      let offered = (propagated y d z next v k).tips (subst (Contains p.task.now.via) (sym here) has) in
      inl (moved k.point u (place_at y.crossing y.stage (opposite d)) y None _ _ (one_point p.arena.now y.crossing k.point u ready.arena k.here at_u) (λ i. place_at y.crossing y.stage (from i))
      (λ i. turned p (from i) (here i) d (k.is i)) offered)

  -- and going straight on where more checkpoints are passed
  pub offers_on : (x y : Place) (q : Point) (m : Leg) (back : List Leg) → Rest p ready t first along y q (m ∷ back) → y.heading ≡ m.to.heading → x.stage < y.stage →
      (z : Place) (next : Option Dir) (v : Ahead) → IsKnownBy p number_of s y m.to.heading z next v → Out y None v
  offers_on x y q m back h straight up z next v k u at_u =
      let d = m.to.heading in
      let points : q ≡ u = one_point p.arena.now y.crossing q u ready.arena h.here at_u in
      let here : k.point ≡ u = one_point p.arena.now y.crossing k.point u ready.arena k.here at_u in
      inr (record {
        leg = m;
        back = back;
        rest = subst (λ r. Rest p ready t first along y r (m ∷ back)) points h;
        straight = straight;
        offered = λ j less comes. moved k.point u (place_at y.crossing y.stage d) y None _ _ here (λ i. place_at y.crossing y.stage (sym straight i)) k.is
            ((propagated y d z next v k).ons j less (subst (λ r. ComesTo p.task.now.via j r y.stage) (sym here) comes));
      })
