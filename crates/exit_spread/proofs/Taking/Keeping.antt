-- A line keeps one exit more, which is propagated.
use Rattle.std.proofs.Common.{◌≡◌, ◌⊎◌, ℕ, ◌+◌, ◌*◌, ◌<◌, ◌≤◌, ◌≤ℤ◌, ◌<ℤ◌, ℤ, pos, ◌-ℤ◌, zero, suc, List, [], ◌∷◌, ◌++◌, Option, None, refl, sym, ap, subst, ◌∙◌, inl, inr, arith}
use Rattle.std.specs.Prelude.{All, Contains}
use Rattle.std.proofs.Math.Nat.{mul-le-mul_left}
use Rattle.std.proofs.lemmas.Int.{by_lt_z, ints}
use Rattle.std.proofs.lemmas.List.Elements.{All-contains, All-push, All-weaker, Contains-append_cases, Contains-append_left, Contains-append_right}
use Rattle.plane_geom.specs.declared.point.Point.{Point}
use Rattle.plane_geom.specs.declared.point.Dir.{Dir}
use Rattle.plane_geom.specs.declared.point.Way.{Way}
use Rattle.plane_geom.specs.Along.{reach, way_of}
use Rattle.plane_geom.specs.Point.{IsCoordinate}
use Rattle.line_arena.specs.Arena.{StandsAt}
use Rattle.line_arena.proofs.Arenas.ArenaLaws.{one_point}
use Rattle.line_lists.specs.Lists.{Lists}
use Rattle.move_model.specs.Places.{ComesTo}
use Rattle.search_problem.specs.Problems.{IsReady}
use Rattle.search_problem.specs.declared.problem.Problem.{Problem}
use Rattle.exit_rows.specs.Exits.{IsLate, IsSmallAhead, IsSmallKept, IsUndercut}
use Rattle.exit_rows.specs.Rows.{HasRow, IsMarked, Keeps, kept_in}
use Rattle.exit_rows.specs.Weights.{CountAlike, rows_weight}
use Rattle.exit_rows.specs.declared.exit.Exit.{Exit}
use Rattle.exit_rows.specs.declared.exit.Kept.{Kept}
use Rattle.exit_rows.specs.declared.rows.Rows.{Rows}
use Rattle.exit_rows.proofs.Late.{stands_for_itself}
use Rattle.exit_rows.proofs.Lighter.{rows_lighter}
use Rattle.exit_spread.specs.declared.run.Run.{Run}
use Rattle.exit_spread.specs.declared.spread.Spread.{Spread}
use Rattle.exit_spread.specs.Propagating.{Adds, IsBehind, IsRun}
use Rattle.exit_spread.specs.Offers.{IsPropagatedAt, IsPropagated, IsOffered, from_of, kept_of}
use Rattle.exit_spread.specs.Searching.{IsKeptOf, IsSearching, most_stops}
use Rattle.exit_spread.specs.Taking.{Grows, IsExit}
use Rattle.exit_spread.specs.Ways.{AreNumbered}
use Rattle.exit_spread.proofs.Sizes.{kept_small}
use Rattle.exit_spread.proofs.Spreading.Adding.{offered_in}
use Rattle.exit_spread.proofs.Spreading.Still.{AllKept, still_offered}
use Rattle.exit_spread.proofs.Taking.Numbered.{one_heading}
use Rattle.exit_spread.proofs.Taking.Offered.{propagated_at, propagated_still, same_rooms}

module _ (p : Problem) (ready : IsReady p) (lists : Lists) (number_of : ℕ → Way → ℕ) (x : Exit) (at : Point) (is : IsExit p number_of x at) (k : ℕ) (comes : ComesTo p.task.now.via k at x.place.stage) where
  abbrev h : Dir
  h = x.place.heading

  abbrev e : Kept
  e = kept_of p k at x

  abbrev here : StandsAt p.arena.now x.place.crossing at
  here = is.way.here

  pub may_keep : IsKeptOf p number_of k x.line h e
  may_keep = record { point = at; here = here; on = sym is.line; at = refl; from = refl; stage = x.place.stage; comes = comes; way = is.way; small = is.small }

  pub small : IsSmallKept e
  small = kept_small p number_of ready k x.line h e may_keep

  module _ (old : Spread) (hole : Option Exit) (s : IsSearching p number_of old hole None) where
    abbrev row : List Kept
    row = kept_in old.rows k x.line h

    pub room : HasRow old.rows k x.line
    room = subst (HasRow old.rows k) (sym is.line) (s.rooms k x.place.crossing h at (let low = comes.from in let few = is.stage in omega (arith, low, few)) here)

    kept_row : All (IsKeptOf p number_of k x.line h) row
    kept_row = subst (λ l. All (IsKeptOf p number_of k l h) (kept_in old.rows k l h)) (sym is.line) (s.kept k x.place.crossing h at here)

    pub smalls : All IsSmallKept row
    smalls = All-weaker (IsKeptOf p number_of k x.line h) IsSmallKept (λ o of. kept_small p number_of ready k x.line h o of) row kept_row

    alike : CountAlike row e
    alike = All-weaker (IsKeptOf p number_of k x.line h) (λ o. o.crossing ≡ e.crossing → (o.at ≡ e.at) × (o.from ≡ e.from))
        (λ o of same.
        let point : of.point ≡ at = one_point p.arena.now x.place.crossing of.point at ready.arena (subst (λ z. StandsAt p.arena.now z of.point) same of.here) here in
        (of.at ∙ ap (reach h) point, of.from ∙ ap (from_of p.task.now.via k h) point)) row kept_row

    -- up to there the exit is undercut
    module _ (stop : ℤ) (from : e.from ≤ℤ stop) (undercut : (z : ℤ) → e.from ≤ℤ z → z <ℤ stop → IsUndercut row e z) where
      stop_within : IsCoordinate stop
      stop_within = by_lt_z e.from stop
          (λ less.
          let any = undercut (stop -ℤ pos 1) (omega (arith, ints, less)) (omega (arith, ints)) in
          let before = any.4.0.before in
          let first = small.from in
          let low = first.low in
          let o = All-contains IsSmallKept row any.1 smalls (any.0, any.2, any.3) in
          let last = o.at in
          let high = last.high in
          record { low = omega (arith, ints, low, from); high = omega (arith, ints, before, high) })
          (λ upto. let same : e.from ≡ stop = omega (arith, ints, upto, from) in subst IsCoordinate same small.from)

      -- the run to the exit from there on
      abbrev run : Run
      run = record { stage = k; line = x.line; heading = h; end = at; kept = record { crossing = e.crossing; from = stop; at = e.at; next = e.next; ahead = e.ahead } }

      pub is_run : IsRun p number_of run
      is_run = record { here = here; kept = may_keep; from = from; within = stop_within }

      -- the line keeps the exit, which is propagated
      module _ (numbered : AreNumbered p.arena.now number_of) (below : x.place.crossing < p.arena.now.places) (late : IsLate row e → ⊥)
          (rows : Rows) (keeps : Keeps old.rows rows k x.line h e) (marked : IsMarked rows) (new : Spread) (same : new.rows ≡ rows)
          (adds : Adds p number_of (record { rows = rows; queue = old.queue; best = old.best; limit = old.limit }) new (2 * most_stops lists + 8))
          (propagated : (c : ℕ) (q : Point) → IsBehind p number_of run c q → IsPropagatedAt p number_of new None k h run.kept c q) where
        -- each row is as it was, or is that of the exit
        record Grown (j c : ℕ) (d : Dir) : Type 0 where
          stage : j ≡ k
          line : number_of c (way_of d) ≡ x.line
          heading : d ≡ h
          more : kept_in new.rows j (number_of c (way_of d)) d ≡ kept_in old.rows j (number_of c (way_of d)) d ++ e ∷ []

        each : (j c : ℕ) (d : Dir) (q : Point) → StandsAt p.arena.now c q →
            (kept_in new.rows j (number_of c (way_of d)) d ≡ kept_in old.rows j (number_of c (way_of d)) d) ⊎ Grown j c d
        each j c d q there = elim (keeps.each j (number_of c (way_of d)) d) as (λ _. (kept_in new.rows j (number_of c (way_of d)) d ≡ kept_in old.rows j (number_of c (way_of d)) d) ⊎ Grown j c d) [
          | inl was ↦ inl (ap (λ (t : Rows). kept_in t j (number_of c (way_of d)) d) same ∙ was)
          | inr (of, more) ↦ inr (record {
            stage = of.stage;
            line = of.line;
            heading = one_heading p.arena.now ready.arena number_of numbered c x.place.crossing d h q at there here (of.line ∙ is.line) of.heading;
            more = ap (λ (t : Rows). kept_in t j (number_of c (way_of d)) d) same ∙ more;
          })
        ]

        all_kept : AllKept old new
        all_kept j l d o has = subst (λ (t : Rows). Contains (kept_in t j l d) o) (sym same)
            (elim (keeps.each j l d) as (λ _. Contains (kept_in rows j l d) o) [
              | inl was ↦ subst (λ os. Contains os o) (sym was) has
              | inr (of, more) ↦ subst (λ os. Contains os o) (sym more) (Contains-append_left (kept_in old.rows j l d) (e ∷ []) o has)
            ])

        lighter : rows_weight p.arena.now.places rows + 1 ≤ rows_weight p.arena.now.places old.rows
        lighter =
            rows_lighter p.arena.now.places old.rows rows k x.line h e room keeps below is.small
            (All-weaker IsSmallKept (λ o. IsSmallAhead o.ahead) (λ o g. g.ahead) row smalls) alike late

        keeping_grows : Grows p lists old new
        keeping_grows = record {
          rows = all_kept;
          queue = adds.kept;
          limit = adds.limit;
          best = adds.best;
          weight =
              let now : rows_weight p.arena.now.places new.rows ≡ rows_weight p.arena.now.places rows = ap (rows_weight p.arena.now.places) same in
              let less = mul-le-mul_left (2 * most_stops lists + 9) lighter in
              let count = adds.count in
              let scaled : (2 * most_stops lists + 9) * rows_weight p.arena.now.places new.rows ≡ (2 * most_stops lists + 9) * rows_weight p.arena.now.places rows = ap (λ n. (2 * most_stops lists + 9) * n) now in
              omega (arith, less, count, scaled);
        }

        still : (q : Point) (y : Exit) → StandsAt p.arena.now y.place.crossing q → IsOffered p old hole q y → IsOffered p new hole q y
        still q y there was = still_offered p old new all_kept adds.kept adds.best hole q y was

        -- the exit is propagated
        own : IsPropagated p number_of new hole k x.line h e
        own c r there on counts = by_lt_z (reach h r) stop
            (λ cut. inl (let any = undercut (reach h r) counts.from cut in let c' = all_kept k x.line h any.1 (any.0, any.2, any.3) in (c'.0, any.1, c'.1, c'.2, any.4)))
            (λ past. inr (
            let before = counts.before in
            let behind : IsBehind p number_of run c r = record { here = there; on = on; counts = record { from = past; before = before } } in
            let at_run = propagated_at p number_of new new None hole (λ q y there was. offered_in p number_of new hole q y was) k h run.kept c r there (propagated c r behind) in
            record { turns = at_run.turns; tips = at_run.tips; ons = at_run.ons }))

        kept_searching : IsSearching p number_of new hole None
        kept_searching = record {
          kept = λ j c d q there. elim (each j c d q there) as (λ _. All (IsKeptOf p number_of j (number_of c (way_of d)) d) (kept_in new.rows j (number_of c (way_of d)) d)) [
            | inl was ↦ subst (All (IsKeptOf p number_of j (number_of c (way_of d)) d)) (sym was) (s.kept j c d q there)
            | inr g ↦ subst (All (IsKeptOf p number_of j (number_of c (way_of d)) d)) (sym g.more)
                (All-push (IsKeptOf p number_of j (number_of c (way_of d)) d) (kept_in old.rows j (number_of c (way_of d)) d) e (s.kept j c d q there)
                (transport_kept j (number_of c (way_of d)) d g.stage g.line g.heading))
          ];
          propagated = λ j c d q o there has other. elim (each j c d q there) as (λ _. IsPropagated p number_of new hole j (number_of c (way_of d)) d o) [
            | inl was ↦ propagated_still p number_of old new hole hole still all_kept j (number_of c (way_of d)) d o (s.propagated j c d q o there (subst (λ os. Contains os o) was has) other)
            | inr g ↦ elim (Contains-append_cases (kept_in old.rows j (number_of c (way_of d)) d) (e ∷ []) o (subst (λ os. Contains os o) g.more has)) as (λ _. IsPropagated p number_of new hole j (number_of c (way_of d)) d o) [
              | inl before ↦ propagated_still p number_of old new hole hole still all_kept j (number_of c (way_of d)) d o (s.propagated j c d q o there before other)
              | inr one ↦ transport_propagated j (number_of c (way_of d)) d o g.stage g.line g.heading (only e o one)
            ]
          ];
          candidates = adds.sound.candidates;
          best = adds.sound.best;
          marked = subst IsMarked (sym same) marked;
          rooms = λ j c d q few there. (let was = s.rooms j c d q few there in subst (λ (t : Rows). HasRow t j (number_of c (way_of d))) (sym same) (same_rooms old.rows rows j (number_of c (way_of d)) keeps.rooms was));
        }
          where
            transport_kept : (j l : ℕ) (d : Dir) → j ≡ k → l ≡ x.line → d ≡ h → IsKeptOf p number_of j l d e
            transport_kept j l d a b c = subst (λ (i : ℕ). IsKeptOf p number_of i l d e) (sym a) (subst (λ (i : ℕ). IsKeptOf p number_of k i d e) (sym b) (subst (λ (i : Dir). IsKeptOf p number_of k x.line i e) (sym c) may_keep))

            transport_propagated : (j l : ℕ) (d : Dir) (o : Kept) → j ≡ k → l ≡ x.line → d ≡ h → o ≡ e → IsPropagated p number_of new hole j l d o
            transport_propagated j l d o a b c same_exit =
                subst (λ (i : ℕ). IsPropagated p number_of new hole i l d o) (sym a) (subst (λ (i : ℕ). IsPropagated p number_of new hole k i d o) (sym b)
                (subst (λ (i : Dir). IsPropagated p number_of new hole k x.line i o) (sym c) (subst (IsPropagated p number_of new hole k x.line h) (sym same_exit) own)))

            only : (one o : Kept) → Contains (one ∷ []) o → o ≡ one
            only one o (zero, lt, same) = sym same
            only one o (suc n, lt, same) = absurd (omega (arith, lt))

        late_then : IsLate (kept_in new.rows k x.line h) e
        late_then =
            let more : kept_in new.rows k x.line h ≡ row ++ e ∷ [] = ap (λ (t : Rows). kept_in t k x.line h) same ∙ keeps.here in
            let has : Contains (kept_in new.rows k x.line h) e = subst (λ os. Contains os e) (sym more) (Contains-append_right row (e ∷ []) e (0, omega arith, refl)) in
            (has.0, e, has.1, has.2, stands_for_itself e)

        -- the search goes on, nothing is lost, and the exit is late
        pub taken_in : IsSearching p number_of new hole None × Grows p lists old new × IsLate (kept_in new.rows k x.line h) e
        taken_in = (kept_searching, keeping_grows, late_then)
