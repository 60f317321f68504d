-- Where the corners of a route stand after a phase.
use Rattle.std.proofs.Common.{◌≡◌, ◌⊎◌, ℕ, suc, zero, ◌+◌, ◌-◌, ◌<◌, ◌≤◌, ℤ, ◌<ℤ◌, List, [], ◌∷◌, length, inl, inr, refl, sym, ap, subst, ◌∙◌, arith, add-one, if◌then◌else◌}
use Rattle.std.proofs.lemmas.Bool.{cases_lt}
use Rattle.std.proofs.lemmas.Int.{ints}
use Rattle.std.proofs.lemmas.Option.{slice_get-get_or, slice_get_past}
use Rattle.std.specs.Prelude.{Contains, Any}
use Rattle.separation_model.specs.Bundle.{int_at}
use Rattle.plane_geom.specs.declared.point.Point.{Point}
use Rattle.plane_geom.specs.declared.point.Way.{Way}
use Rattle.plane_geom.specs.declared.rect.Solid.{Solid}
use Rattle.plane_geom.specs.Along.{across, along, reach}
use Rattle.plane_geom.specs.Point.{IsCoordinate, opposite}
use Rattle.plane_geom.specs.Floor.{point_on, Holds}
use Rattle.segment_order.specs.declared.run.Run.{Run}
use Rattle.segment_order.specs.Run.{AreRunsOf, IsRun, run_at, no_run, line_of_run, start_of_run, end_of_run, end_in}
use Rattle.channel_bundles.specs.declared.route.PhaseRoute.{PhaseRoute}
use Rattle.channel_bundles.specs.Route.{IsFixed, HasToReach, HasToLeave}
use Rattle.channel_bundles.specs.Limits.{IsReached, MayStandAt, MayMove}
use Rattle.nudge_phases.specs.Moved.{corner, runs_way, stretch, moved_run}
use Rattle.walk_model.specs.declared.task.Choice.{Choice}
use Rattle.nudge_phases.specs.LegalRuns.{IsClear, IsLegalAlong, PassesOn, Station}
use Rattle.nudge_phases.specs.Ready.{HoldsPorts}
use Rattle.nudge_phases.proofs.AlongRuns.Ends.{far_end, end_far}
use Rattle.channel_bundles.proofs.Placing.{is_own}
use Rattle.nudge_phases.proofs.MovedRuns.Ends.{turned, by_way, on_turned, end_moved, here_on, stretch_way, stretch_heading, stretch_edge, stretch_place, stretch_begin, stretch_end, stretch_is_run, stretch_holds, stretch_same, other_way, across_end, along_end, across_turned, along_turned, from_begin, to_end, held_from, held_to, reached_on, reached_back, back_reached, far_coordinate, reached_same}
use Rattle.nudge_phases.proofs.MovedRuns.Cleared.{Moves, end_moves, clear_moved, run_clear, stays_free}

pub by_number : (P : ℕ → Type 0) (k : ℕ) → P 0 → ((j : ℕ) → P (j + 1)) → P k
by_number P zero first next = first
by_number P (suc j) first next = subst P (add-one j) (next j)

-- what a phase keeps for each route: fixed runs of the way stay, the others are where they may be, and no run between two of the way turns around
pub record IsSettled (solids : List Solid) (way : Way) (route : PhaseRoute) (ats : List ℤ) : Type 0 where
  pub stays : (k : ℕ) → k < length route.runs.items → (run_at route.runs.items k).way ≡ way → IsFixed route k → int_at ats k ≡ (run_at route.runs.items k).at
  pub stands : (k : ℕ) → k < length route.runs.items → (run_at route.runs.items k).way ≡ way → (int_at ats k ≡ (run_at route.runs.items k).at) ⊎ MayStandAt solids route k (int_at ats k)
  pub order : (k : ℕ) → k + 2 < length route.runs.items → (run_at route.runs.items k).way ≡ way → (run_at route.runs.items (k + 1)).way ≡ turned way → (run_at route.runs.items (k + 2)).way ≡ way →
      IsReached (run_at route.runs.items (k + 1)).heading (int_at ats k) (int_at ats (k + 2))

corner_own : (way : Way) (runs : List Run) (ats : List ℤ) (n : ℕ) (old : ℤ) → n < length runs → (run_at runs n).way ≡ way → corner way runs ats n old ≡ int_at ats n
corner_own way runs ats n old h e = ap (λ o. if runs_way way o then int_at ats n else old) (slice_get-get_or runs n no_run h) ∙ ap (λ b. if b then int_at ats n else old) (is_own _ way e)

corner_other : (way : Way) (runs : List Run) (ats : List ℤ) (n : ℕ) (old : ℤ) → n < length runs → (run_at runs n).way ≡ turned way → corner way runs ats n old ≡ old
corner_other way runs ats n old h e = ap (λ o. if runs_way way o then int_at ats n else old) (slice_get-get_or runs n no_run h) ∙ ap (λ b. if b then int_at ats n else old) (other_way _ way e)

corner_past : (way : Way) (runs : List Run) (ats : List ℤ) (n : ℕ) (old : ℤ) → length runs ≤ n → corner way runs ats n old ≡ old
corner_past way runs ats n old h = ap (λ o. if runs_way way o then int_at ats n else old) (slice_get_past runs n h)

-- the same clear segment in other words
clear_as : (solids : List Solid) (w v : Way) (at at' a a' b b' : ℤ) → w ≡ v → at ≡ at' → a ≡ a' → b ≡ b' → IsClear solids (point_on w at a) (point_on w at b) → IsClear solids (point_on v at' a') (point_on v at' b')
clear_as solids w v at at' a a' b b' e f g h c =
    subst (λ y. IsClear solids (point_on v at' a') (point_on v at' y)) h
    (subst (λ x. IsClear solids (point_on v at' x) (point_on v at' b)) g
    (subst (λ x. IsClear solids (point_on v x a) (point_on v x b)) f
    (subst (λ u. IsClear solids (point_on u at a) (point_on u at b)) e c)))

module _ (route : PhaseRoute) (edge : ℕ) (are : AreRunsOf edge route.runs.items) (ports : HoldsPorts route) where
  abbrev pub rs : List Run
  rs = route.runs.items

  abbrev pub run : ℕ → Run
  run k = run_at rs k

  abbrev pub size : ℕ
  size = length rs

  -- the coordinate along the run, of its begin and of its end
  abbrev pub old_begin : ℕ → ℤ
  old_begin k = far_end (opposite (run k).heading) (run k)

  abbrev pub old_end : ℕ → ℤ
  old_end k = far_end (run k).heading (run k)

  -- what lies on a run, in the order of its heading
  pub ordered : (k : ℕ) → k < size → IsReached (run k).heading (old_begin k) (old_end k)
  ordered k h = reached_on (run k).heading (old_begin k) (run k).lo (old_end k) (from_begin (run k).heading (run k) (run k).lo (omega (arith, ints)) (are.each k h).ordered) (to_end (run k).heading (run k) (run k).lo (omega (arith, ints)) (are.each k h).ordered)

  pub behind_begin : (k : ℕ) (c : Point) → k < size → HasToLeave route k c → IsReached (run k).heading (old_begin k) (along (run k).way c)
  behind_begin k c h (HasToLeave.target_port e f) =
      held_from (run k).heading (run k) c (subst (λ (p : Point). Holds (line_of_run (run k)) p) (sym f) (subst (λ j. Holds (line_of_run (run_at rs j)) route.anchors.target_port) (omega (arith, e)) ports.target))
  behind_begin k c h (HasToLeave.last_tip m e f) =
      subst (IsReached (run k).heading (old_begin k)) (sym (ap (along (run k).way) f ∙ along_end (run k).heading (run k))) (ordered k h)
  behind_begin k c h (HasToLeave.checkpoint_behind m e) = held_from (run k).heading (run k) c e

  pub before_end : (k : ℕ) (c : Point) → k < size → HasToReach route k c → IsReached (run k).heading (along (run k).way c) (old_end k)
  before_end k c h (HasToReach.source_port e f) =
      held_to (run k).heading (run k) c (subst (λ (p : Point). Holds (line_of_run (run k)) p) (sym f) (subst (λ j. Holds (line_of_run (run_at rs j)) route.anchors.source_port) (sym e) ports.source))
  before_end k c h (HasToReach.first_tip m e f) =
      subst (λ z. IsReached (run k).heading z (old_end k)) (sym (ap (along (run k).way) f ∙ along_end (opposite (run k).heading) (run k))) (ordered k h)
  before_end k c h (HasToReach.checkpoint_ahead m e) = held_to (run k).heading (run k) c e

  -- a run of the way and the one after it meet in one point
  pub begin_at : (way : Way) (k : ℕ) → k + 1 < size → (run k).way ≡ way → (run (k + 1)).way ≡ turned way → (old_begin (k + 1) ≡ (run k).at) × (far_end (run k).heading (run k) ≡ (run (k + 1)).at)
  begin_at way k h own other =
      let d = (run k).heading in
      let e = opposite (run (k + 1)).heading in
      let join = are.joined k h in (
        sym (along_end e (run (k + 1))) ∙ ap (λ w. along w (start_of_run (run (k + 1)))) other ∙ along_turned way (start_of_run (run (k + 1))) ∙ ap (across way) (sym join) ∙ ap (λ w. across w (end_of_run (run k))) (sym own) ∙ across_end d (run k),
        sym (along_end d (run k)) ∙ ap (λ w. along w (end_of_run (run k))) own ∙ ap (along way) join ∙ sym (across_turned way (start_of_run (run (k + 1)))) ∙ ap (λ w. across w (start_of_run (run (k + 1)))) (sym other) ∙ across_end e (run (k + 1)),
      )

  pub end_at : (way : Way) (k : ℕ) → k + 1 < size → (run (k + 1)).way ≡ way → (run k).way ≡ turned way → (old_end k ≡ (run (k + 1)).at) × (far_end (opposite (run (k + 1)).heading) (run (k + 1)) ≡ (run k).at)
  end_at way k h own other =
      let d = (run k).heading in
      let e = opposite (run (k + 1)).heading in
      let join = are.joined k h in (
        sym (along_end d (run k)) ∙ ap (λ w. along w (end_of_run (run k))) other ∙ along_turned way (end_of_run (run k)) ∙ ap (across way) join ∙ ap (λ w. across w (start_of_run (run (k + 1)))) (sym own) ∙ across_end e (run (k + 1)),
        sym (along_end e (run (k + 1))) ∙ ap (λ w. along w (start_of_run (run (k + 1)))) own ∙ ap (along way) (sym join) ∙ sym (across_turned way (end_of_run (run k))) ∙ ap (λ w. across w (end_of_run (run k))) (sym other) ∙ across_end d (run k),
      )

  -- a route that is legal along its runs may stand where it stands
  pub may_stay : (solids : List Solid) (way : Way) → ((k : ℕ) → 0 < k → k + 1 < size → IsClear solids (start_of_run (run k)) (end_of_run (run k))) → MayMove solids way route
  may_stay solids way clear k h own movable =
      let r = run k in
      let begun : 0 < k = elim (cases_lt 0 k) as (λ _. 0 < k) [ inl l ↦ l | inr none ↦ absurd (movable (IsFixed.is_first (omega arith))) ] in
      let more : k + 1 < size = elim (cases_lt (k + 1) size) as (λ _. k + 1 < size) [ inl l ↦ l | inr none ↦ absurd (movable (IsFixed.is_last (omega arith))) ] in
      let back : k - 1 + 1 ≡ k = omega arith in
      record {
        within = (are.each k h).at;
        free = stays_free solids r.heading r (clear k begun more);
        before = λ p some has.
            let d = (run (k - 1)).heading in
            by_way {P = IsReached d (across r.way p) r.at} (run (k - 1)).way r.way
            (λ same. absurd (movable (IsFixed.was_doubled_back begun same)))
            (λ other.
            let at = end_at r.way (k - 1) (omega arith) (ap (λ j. (run j).way) back) other in
            let end_there : old_end (k - 1) ≡ r.at = at.0 ∙ ap (λ j. (run j).at) back in
            subst (IsReached d (across r.way p)) end_there
            (subst (λ z. IsReached d z (old_end (k - 1))) (ap (λ w. along w p) other ∙ along_turned r.way p) (before_end (k - 1) p (omega arith) has)));
        after = λ p some has.
            let d = (run (k + 1)).heading in
            by_way {P = IsReached (opposite d) (across r.way p) r.at} (run (k + 1)).way r.way
            (λ same. absurd (movable (IsFixed.doubles_back more same)))
            (λ other.
            let at = begin_at r.way k more refl other in
            back_reached d _ _
            (subst (λ z. IsReached d z (across r.way p)) at.0
            (subst (IsReached d (old_begin (k + 1))) (ap (λ w. along w p) other ∙ along_turned r.way p) (behind_begin (k + 1) p more has))));
      }

  -- of one or two runs none is movable
  pub short_may_stay : (solids : List Solid) (way : Way) → size ≤ 2 → MayMove solids way route
  short_may_stay solids way few k h own movable =
      absurd (movable (elim (cases_lt 0 k) as (λ _. IsFixed route k) [ inl l ↦ IsFixed.is_last (omega arith) | inr g ↦ IsFixed.is_first (omega arith) ]))

  module _ (solids : List Solid) (way : Way) (ats : List ℤ) (settled : IsSettled solids way route ats) where
    -- the new coordinate along the run, of its begin and of its end
    abbrev pub new_begin : ℕ → ℤ
    new_begin k = corner way rs ats (k - 1) (along (run k).way (start_of_run (run k)))

    abbrev pub new_end : ℕ → ℤ
    new_end k = corner way rs ats (k + 1) (along (run k).way (end_of_run (run k)))

    -- the new begin of a run across the way
    pub record IsBegin (k : ℕ) : Type 0 where
      pub moves : Moves solids (run k).way (run k).at (old_begin k) (new_begin k)
      pub leaves : (c : Point) → HasToLeave route k c → IsReached (run k).heading (new_begin k) (along (run k).way c)
      pub coordinate : IsCoordinate (new_begin k)
      pub kind : ((new_begin k ≡ old_begin k) × (c : Point) × HasToReach route k c × IsReached (run k).heading (old_begin k) (along (run k).way c))
          ⊎ ((j : ℕ) × (j + 1 ≡ k) × ((run j).way ≡ way) × (new_begin k ≡ int_at ats j))

    -- and its new end
    pub record IsFinish (k : ℕ) : Type 0 where
      pub moves : Moves solids (run k).way (run k).at (old_end k) (new_end k)
      pub reaches : (c : Point) → HasToReach route k c → IsReached (run k).heading (along (run k).way c) (new_end k)
      pub coordinate : IsCoordinate (new_end k)
      pub kind : ((new_end k ≡ old_end k) × (c : Point) × HasToLeave route k c × IsReached (run k).heading (along (run k).way c) (old_end k))
          ⊎ ((k + 1 < size) × ((run (k + 1)).way ≡ way) × (new_end k ≡ int_at ats (k + 1)))

    begin_stays : (k : ℕ) (c : Point) → k < size → new_begin k ≡ old_begin k → HasToReach route k c → IsReached (run k).heading (old_begin k) (along (run k).way c) → IsBegin k
    begin_stays k c h e has on = record {
      moves = inl (sym e);
      leaves = λ p has. subst (λ z. IsReached (run k).heading z (along (run k).way p)) (sym e) (behind_begin k p h has);
      coordinate = subst IsCoordinate (sym e) (far_coordinate (opposite (run k).heading) (run k) (are.each k h));
      kind = inl (e, c, has, on);
    }

    end_stays : (k : ℕ) (c : Point) → k < size → new_end k ≡ old_end k → HasToLeave route k c → IsReached (run k).heading (along (run k).way c) (old_end k) → IsFinish k
    end_stays k c h e has on = record {
      moves = inl (sym e);
      reaches = λ p has. subst (λ z. IsReached (run k).heading (along (run k).way p) z) (sym e) (before_end k p h has);
      coordinate = subst IsCoordinate (sym e) (far_coordinate (run k).heading (run k) (are.each k h));
      kind = inl (e, c, has, on);
    }

    new_begin_own : (k : ℕ) → k + 1 < size → (run k).way ≡ way → new_begin (k + 1) ≡ int_at ats k
    new_begin_own k h own = ap (λ i. corner way rs ats i (along (run (k + 1)).way (start_of_run (run (k + 1))))) (omega arith) ∙ corner_own way rs ats k _ (omega arith) own

    new_end_own : (k : ℕ) → k + 1 < size → (run (k + 1)).way ≡ way → new_end k ≡ int_at ats (k + 1)
    new_end_own k h own = corner_own way rs ats (k + 1) _ h own

    begin_after : (k : ℕ) → k + 1 < size → (run k).way ≡ way → (run (k + 1)).way ≡ turned way → IsBegin (k + 1)
    begin_after k h own other =
        let at = begin_at way k h own other in
        let new = new_begin_own k h own in
        let d = (run (k + 1)).heading in
        let kind : (k + 1 ≡ k + 1) × ((run k).way ≡ way) × (new_begin (k + 1) ≡ int_at ats k) = (refl, own, new) in
        elim (settled.stands k (omega arith) own) as (λ _. IsBegin (k + 1)) [
          | inl same ↦ (let e : new_begin (k + 1) ≡ old_begin (k + 1) = new ∙ same ∙ sym at.0 in record {
            moves = inl (sym e);
            leaves = λ p has. subst (λ z. IsReached d z (along (run (k + 1)).way p)) (sym e) (behind_begin (k + 1) p h has);
            coordinate = subst IsCoordinate (sym e) (far_coordinate (opposite d) (run (k + 1)) (are.each (k + 1) h));
            kind = inr (k, refl, own, new);
          })
          | inr may ↦ record {
            moves = inr (clear_as solids (turned (run k).way) (run (k + 1)).way _ _ _ _ _ _ (ap turned own ∙ sym other) at.1 (sym at.0) (sym new)
                (end_moves solids (run k).heading (run k) (int_at ats k) (are.each k (omega arith)) may.free));
            leaves = λ p has. subst (λ z. IsReached d z (along (run (k + 1)).way p)) (sym new)
                (subst (IsReached d (int_at ats k)) (ap (λ w. across w p) own ∙ sym (along_turned way p) ∙ ap (λ w. along w p) (sym other))
                (reached_back d _ _ (may.after p h has)));
            coordinate = subst IsCoordinate (sym new) may.within;
            kind = inr (k, refl, own, new);
          }
        ]

    end_before : (k : ℕ) → k + 1 < size → (run (k + 1)).way ≡ way → (run k).way ≡ turned way → IsFinish k
    end_before k h own other =
        let at = end_at way k h own other in
        let new = new_end_own k h own in
        let d = (run k).heading in
        elim (settled.stands (k + 1) h own) as (λ _. IsFinish k) [
          | inl same ↦ (let e : new_end k ≡ old_end k = new ∙ same ∙ sym at.0 in record {
            moves = inl (sym e);
            reaches = λ p has. subst (λ z. IsReached d (along (run k).way p) z) (sym e) (before_end k p (omega arith) has);
            coordinate = subst IsCoordinate (sym e) (far_coordinate d (run k) (are.each k (omega arith)));
            kind = inr (h, own, new);
          })
          | inr may ↦ record {
            moves = inr (clear_as solids (turned (run (k + 1)).way) (run k).way _ _ _ _ _ _ (ap turned own ∙ sym other) at.1 (sym at.0) (sym new)
                (end_moves solids (opposite (run (k + 1)).heading) (run (k + 1)) (int_at ats (k + 1)) (are.each (k + 1) h) may.free));
            reaches = λ p has. subst (λ z. IsReached d (along (run k).way p) z) (sym new)
                (subst (λ z. IsReached d z (int_at ats (k + 1))) (ap (λ w. across w p) own ∙ sym (along_turned way p) ∙ ap (λ w. along w p) (sym other))
                (let back : k + 1 - 1 ≡ k = omega arith in
                subst (λ j. HasToReach route j p → IsReached (run j).heading (across (run (k + 1)).way p) (int_at ats (k + 1))) back (may.before p (omega arith)) has));
            coordinate = subst IsCoordinate (sym new) may.within;
            kind = inr (h, own, new);
          }
        ]

    begin_same : (k : ℕ) → k + 1 < size → (run k).way ≡ turned way → new_begin (k + 1) ≡ old_begin (k + 1)
    begin_same k h one =
        let back : k + 1 - 1 ≡ k = omega arith in
        ap (λ i. corner way rs ats i (along (run (k + 1)).way (start_of_run (run (k + 1))))) back ∙ corner_other way rs ats k _ (omega arith) one ∙ along_end (opposite (run (k + 1)).heading) (run (k + 1))

    end_same : (k : ℕ) → k + 1 < size → (run (k + 1)).way ≡ turned way → new_end k ≡ old_end k
    end_same k h one = corner_other way rs ats (k + 1) _ h one ∙ along_end (run k).heading (run k)

    end_past : (k : ℕ) → k + 1 ≡ size → new_end k ≡ old_end k
    end_past k e = corner_past way rs ats (k + 1) _ (omega (arith, e)) ∙ along_end (run k).heading (run k)

    begin_zero : 0 < size → (run 0).way ≡ turned way → new_begin 0 ≡ old_begin 0
    begin_zero h other = ap (λ i. corner way rs ats i (along (run 0).way (start_of_run (run 0)))) (omega arith) ∙ corner_other way rs ats 0 _ h other ∙ along_end (opposite (run 0).heading) (run 0)

    begin_first : 0 < size → (run 0).way ≡ turned way → IsBegin 0
    begin_first h other =
        begin_stays 0 route.anchors.source_port h (begin_zero h other)
        (HasToReach.source_port refl refl) (held_from (run 0).heading (run 0) _ ports.source)

    begin_tip : (k : ℕ) → k + 1 < size → (run k).way ≡ turned way → (run (k + 1)).way ≡ turned way → IsBegin (k + 1)
    begin_tip k h one other =
        let d = (run (k + 1)).heading in
        let back : k + 1 - 1 ≡ k = omega arith in
        let begin = along_end (opposite d) (run (k + 1)) in
        begin_stays (k + 1) (start_of_run (run (k + 1))) h (begin_same k h one)
        (HasToReach.first_tip (omega arith) (ap (λ i. (run i).way) back ∙ one ∙ sym other) refl)
        (subst (IsReached d (old_begin (k + 1))) (sym begin) (reached_same d (old_begin (k + 1))))

    end_last : (k : ℕ) → k + 1 ≡ size → IsFinish k
    end_last k e =
        end_stays k route.anchors.target_port (omega (arith, e))
        (end_past k e)
        (HasToLeave.target_port e refl) (held_to (run k).heading (run k) _ (subst (λ j. Holds (line_of_run (run_at rs j)) route.anchors.target_port) (omega (arith, e)) ports.target))

    end_tip : (k : ℕ) → k + 1 < size → (run (k + 1)).way ≡ turned way → (run k).way ≡ turned way → IsFinish k
    end_tip k h one other =
        let d = (run k).heading in
        let finish = along_end d (run k) in
        end_stays k (end_of_run (run k)) (omega arith)
        (end_same k h one)
        (HasToLeave.last_tip h (one ∙ sym other) refl)
        (subst (λ z. IsReached d z (old_end k)) (sym finish) (reached_same d (old_end k)))

    pub begun : (k : ℕ) → k < size → (run k).way ≡ turned way → IsBegin k
    begun k = by_number (λ i. i < size → (run i).way ≡ turned way → IsBegin i) k begin_first
        (λ j h other. by_way {P = IsBegin (j + 1)} (run j).way way (λ own. begin_after j h own other) (λ one. begin_tip j h one other))

    pub finished : (k : ℕ) → k < size → (run k).way ≡ turned way → IsFinish k
    finished k h other = elim (cases_lt (k + 1) size) as (λ _. IsFinish k) [
      | inl l ↦ by_way {P = IsFinish k} (run (k + 1)).way way (λ own. end_before k l own other) (λ one. end_tip k l one other)
      | inr g ↦ end_last k (omega arith)
    ]

    -- no run across the way turns around
    pub keeps_order : (k : ℕ) → k < size → (run k).way ≡ turned way → IsReached (run k).heading (new_begin k) (new_end k)
    keeps_order k h other =
        let d = (run k).heading in
        let b = begun k h other in
        let f = finished k h other in
        elim b.kind as (λ _. IsReached d (new_begin k) (new_end k)) [
          | inl stays ↦ subst (λ z. IsReached d z (new_end k)) (sym stays.0) (reached_on d _ _ _ stays.3 (f.reaches stays.1 stays.2))
          | inr moved ↦ (elim f.kind as (λ _. IsReached d (new_begin k) (new_end k)) [
            | inl stays ↦ subst (IsReached d (new_begin k)) (sym stays.0) (reached_on d _ _ _ (b.leaves stays.1 stays.2) stays.3)
            | inr other_moved ↦ (let j = moved.0 in
                let two : j + 2 ≡ k + 1 = omega (arith, moved.1) in
                subst (λ z. IsReached d z (new_end k)) (sym moved.3)
                (subst (IsReached d (int_at ats j)) (sym other_moved.2)
                (subst (λ i. IsReached d (int_at ats j) (int_at ats i)) two
                (subst (λ i. IsReached (run i).heading (int_at ats j) (int_at ats (j + 2))) moved.1
                (settled.order j (omega (arith, moved.1, other_moved.0)) moved.2 (ap (λ i. (run i).way) moved.1 ∙ other) (ap (λ i. (run i).way) two ∙ other_moved.1))))))
          ])
        ]

    -- the runs of the phase's result
    abbrev pub new : ℕ → Run
    new k = moved_run way rs ats k

    new_own : (k : ℕ) → (run k).way ≡ way → new k ≡ record (run k) { at = int_at ats k }
    new_own k own = ap (λ b. if b then record (run k) { at = int_at ats k } else stretch (run k).heading (run k) (new_begin k) (new_end k)) (is_own _ way own)

    new_other : (k : ℕ) → (run k).way ≡ turned way → new k ≡ stretch (run k).heading (run k) (new_begin k) (new_end k)
    new_other k other = ap (λ b. if b then record (run k) { at = int_at ats k } else stretch (run k).heading (run k) (new_begin k) (new_end k)) (other_way _ way other)

    new_stays : (k : ℕ) → (run k).way ≡ way → int_at ats k ≡ (run k).at → new k ≡ run k
    new_stays k own e = new_own k own ∙ ap (λ (z : ℤ). record (run k) { at = z }) e

    pub new_heading : (k : ℕ) → (new k).heading ≡ (run k).heading
    new_heading k = by_way (run k).way way (λ own. ap (λ (r : Run). r.heading) (new_own k own)) (λ other. ap (λ (r : Run). r.heading) (new_other k other) ∙ stretch_heading _ _ _ _)

    pub new_way : (k : ℕ) → (new k).way ≡ (run k).way
    new_way k = by_way (run k).way way (λ own. ap (λ (r : Run). r.way) (new_own k own)) (λ other. ap (λ (r : Run). r.way) (new_other k other) ∙ stretch_way _ _ _ _)

    pub new_edge : (k : ℕ) → (new k).edge ≡ (run k).edge
    new_edge k = by_way (run k).way way (λ own. ap (λ (r : Run). r.edge) (new_own k own)) (λ other. ap (λ (r : Run). r.edge) (new_other k other) ∙ stretch_edge _ _ _ _)

    pub new_place : (k : ℕ) → (new k).place ≡ (run k).place
    new_place k = by_way (run k).way way (λ own. ap (λ (r : Run). r.place) (new_own k own)) (λ other. ap (λ (r : Run). r.place) (new_other k other) ∙ stretch_place _ _ _ _)

    start_own : (k : ℕ) → (run k).way ≡ way → start_of_run (new k) ≡ point_on (run k).way (int_at ats k) (old_begin k)
    start_own k own = ap start_of_run (new_own k own) ∙ end_moved (opposite (run k).heading) (run k) (int_at ats k)

    end_own : (k : ℕ) → (run k).way ≡ way → end_of_run (new k) ≡ point_on (run k).way (int_at ats k) (old_end k)
    end_own k own = ap end_of_run (new_own k own) ∙ end_moved (run k).heading (run k) (int_at ats k)

    start_other : (k : ℕ) → (run k).way ≡ turned way → start_of_run (new k) ≡ point_on (run k).way (run k).at (new_begin k)
    start_other k other =
        let s = stretch (run k).heading (run k) (new_begin k) (new_end k) in
        ap start_of_run (new_other k other) ∙ ap (λ e. end_in (opposite e) s) (stretch_heading _ _ _ _) ∙ stretch_begin (run k).heading (run k) (new_begin k) (new_end k)

    end_other : (k : ℕ) → (run k).way ≡ turned way → end_of_run (new k) ≡ point_on (run k).way (run k).at (new_end k)
    end_other k other =
        let s = stretch (run k).heading (run k) (new_begin k) (new_end k) in
        ap end_of_run (new_other k other) ∙ ap (λ e. end_in e s) (stretch_heading _ _ _ _) ∙ stretch_end (run k).heading (run k) (new_begin k) (new_end k)

    new_is_run : (k : ℕ) → k < size → IsRun (new k)
    new_is_run k h =
        let is = are.each k h in
        by_way {P = IsRun (new k)} (run k).way way
        (λ own. subst IsRun (sym (new_own k own)) (record {
          way = is.way;
          at = elim (settled.stands k h own) as (λ _. IsCoordinate (int_at ats k)) [ inl same ↦ subst IsCoordinate (sym same) is.at | inr may ↦ may.within ];
          lo = is.lo;
          hi = is.hi;
          ordered = is.ordered;
        }))
        (λ other. subst IsRun (sym (new_other k other))
        (stretch_is_run (run k).heading (run k) (new_begin k) (new_end k) is refl (begun k h other).coordinate (finished k h other).coordinate (keeps_order k h other)))

    new_joined : (k : ℕ) → k + 1 < size → end_of_run (new k) ≡ start_of_run (new (k + 1))
    new_joined k h =
        by_way (run k).way way
        (λ one. by_way (run (k + 1)).way way
        (λ two.
        let back : k + 1 - 1 ≡ k = omega arith in
        let first = new_stays k one (settled.stays k (omega arith) one (IsFixed.doubles_back h (two ∙ sym one))) in
        let second = new_stays (k + 1) two (settled.stays (k + 1) h two (IsFixed.was_doubled_back (omega arith) (ap (λ i. (run i).way) back ∙ one ∙ sym two))) in
        ap end_of_run first ∙ are.joined k h ∙ sym (ap start_of_run second))
        (λ two.
        let at = begin_at way k h one two in
        end_own k one ∙ ap (λ w. point_on w (int_at ats k) (old_end k)) one ∙ on_turned way (int_at ats k) (old_end k)
        ∙ ap (λ w. point_on w (old_end k) (int_at ats k)) (sym two) ∙ ap (λ z. point_on (run (k + 1)).way z (int_at ats k)) at.1
        ∙ ap (λ z. point_on (run (k + 1)).way (run (k + 1)).at z) (sym (new_begin_own k h one)) ∙ sym (start_other (k + 1) two)))
        (λ one. by_way (run (k + 1)).way way
        (λ two.
        let at = end_at way k h two one in
        let z = int_at ats (k + 1) in
        end_other k one ∙ ap (point_on (run k).way (run k).at) (new_end_own k h two) ∙ ap (λ x. point_on (run k).way x z) (sym at.1)
        ∙ ap (λ w. point_on w (old_begin (k + 1)) z) one ∙ sym (on_turned way z (old_begin (k + 1))) ∙ ap (λ w. point_on w z (old_begin (k + 1))) (sym two) ∙ sym (start_own (k + 1) two))
        (λ two.
        end_other k one ∙ ap (point_on (run k).way (run k).at) (end_same k h two) ∙ sym (end_far (run k).heading (run k)) ∙ are.joined k h
        ∙ end_far (opposite (run (k + 1)).heading) (run (k + 1)) ∙ ap (point_on (run (k + 1)).way (run (k + 1)).at) (sym (begin_same k h one)) ∙ sym (start_other (k + 1) two)))

    -- a route again
    pub moved_runs : (after : List Run) → length after ≡ size → ((k : ℕ) → k < size → run_at after k ≡ new k) → AreRunsOf edge after
    moved_runs after count moved = record {
      some = omega (arith, count, are.some);
      each = λ k h. subst IsRun (sym (moved k (omega (arith, count)))) (new_is_run k (omega (arith, count)));
      edges = λ k h. ap (λ (r : Run). r.edge) (moved k (omega (arith, count))) ∙ new_edge k ∙ are.edges k (omega (arith, count));
      places = λ k h. ap (λ (r : Run). r.place) (moved k (omega (arith, count))) ∙ new_place k ∙ are.places k (omega (arith, count));
      joined = λ k h. ap end_of_run (moved k (omega (arith, count))) ∙ new_joined k (omega (arith, count)) ∙ sym (ap start_of_run (moved (k + 1) (omega (arith, count))));
      turns = λ k h e. are.turns k (omega (arith, count))
          (sym (new_heading k) ∙ sym (ap (λ (r : Run). r.heading) (moved k (omega (arith, count)))) ∙ e ∙ ap (λ (r : Run). r.heading) (moved (k + 1) (omega (arith, count))) ∙ new_heading (k + 1));
    }

    -- a point of a run that keeps between the new ends is on the run as it is now
    held_other : (k : ℕ) (c : Point) → k < size → (run k).way ≡ turned way → Holds (line_of_run (run k)) c → IsReached (run k).heading (new_begin k) (along (run k).way c) → IsReached (run k).heading (along (run k).way c) (new_end k) → Holds (line_of_run (new k)) c
    held_other k c h other holds from to =
        subst (λ (r : Run). Holds (line_of_run r) c) (sym (new_other k other)) (stretch_holds (run k).heading (run k) (new_begin k) (new_end k) (along (run k).way c) c from to (here_on (run k) c holds))

    held_same : (k : ℕ) (c : Point) → new k ≡ run k → Holds (line_of_run (run k)) c → Holds (line_of_run (new k)) c
    held_same k c e holds = subst (λ (r : Run). Holds (line_of_run r) c) (sym e) holds

    -- checkpoints stay on their runs
    pub keeps_checkpoint : (k : ℕ) (c : Point) → k < size → Contains route.anchors.via.items c → Holds (line_of_run (run k)) c → Holds (line_of_run (new k)) c
    keeps_checkpoint k c h has holds =
        by_way {P = Holds (line_of_run (new k)) c} (run k).way way
        (λ own.
        let some : Any (Holds (line_of_run (run k))) route.anchors.via.items = (has.0, c, has.1, has.2, holds) in
        held_same k c (new_stays k own (settled.stays k h own (IsFixed.has_checkpoint some))) holds)
        (λ other. held_other k c h other holds ((begun k h other).leaves c (HasToLeave.checkpoint_behind has holds)) ((finished k h other).reaches c (HasToReach.checkpoint_ahead has holds)))

    -- the first run and the last one
    pub keeps_start : 0 < size → start_of_run (new 0) ≡ start_of_run (run 0)
    keeps_start h =
        by_way (run 0).way way
        (λ own. ap start_of_run (new_stays 0 own (settled.stays 0 h own (IsFixed.is_first refl))))
        (λ other. start_other 0 other ∙ ap (point_on (run 0).way (run 0).at) (begin_zero h other) ∙ sym (end_far (opposite (run 0).heading) (run 0)))

    pub keeps_end : (k : ℕ) → k + 1 ≡ size → end_of_run (new k) ≡ end_of_run (run k)
    keeps_end k e =
        by_way (run k).way way
        (λ own. ap end_of_run (new_stays k own (settled.stays k (omega (arith, e)) own (IsFixed.is_last e))))
        (λ other. end_other k other ∙ ap (point_on (run k).way (run k).at) (end_past k e) ∙ sym (end_far (run k).heading (run k)))

    pub keeps_source : 0 < size → Holds (line_of_run (new 0)) route.anchors.source_port
    keeps_source h =
        by_way {P = Holds (line_of_run (new 0)) route.anchors.source_port} (run 0).way way
        (λ own. held_same 0 _ (new_stays 0 own (settled.stays 0 h own (IsFixed.is_first refl))) ports.source)
        (λ other. held_other 0 _ h other ports.source
        (subst (λ z. IsReached (run 0).heading z (along (run 0).way route.anchors.source_port)) (sym (begin_zero h other)) (held_from (run 0).heading (run 0) _ ports.source))
        ((finished 0 h other).reaches _ (HasToReach.source_port refl refl)))

    target_held : (k : ℕ) → k + 1 ≡ size → Holds (line_of_run (run k)) route.anchors.target_port
    target_held k e = subst (λ j. Holds (line_of_run (run_at rs j)) route.anchors.target_port) (omega (arith, e)) ports.target

    pub keeps_target : (k : ℕ) → k + 1 ≡ size → Holds (line_of_run (new k)) route.anchors.target_port
    keeps_target k e =
        let h : k < size = omega (arith, e) in
        by_way {P = Holds (line_of_run (new k)) route.anchors.target_port} (run k).way way
        (λ own. held_same k _ (new_stays k own (settled.stays k h own (IsFixed.is_last e))) (target_held k e))
        (λ other. held_other k _ h other (target_held k e)
        ((begun k h other).leaves _ (HasToLeave.target_port e refl))
        (subst (IsReached (run k).heading (along (run k).way route.anchors.target_port)) (sym (end_past k e)) (held_to (run k).heading (run k) _ (target_held k e))))

    -- what was clear is clear
    clear_points : (p p' q q' : Point) → p ≡ p' → q ≡ q' → IsClear solids p q → IsClear solids p' q'
    clear_points p p' q q' e f c = subst (λ a. IsClear solids a q') e (subst (λ b. IsClear solids p b) f c)

    pub keeps_clear_from : 0 < size → IsClear solids route.anchors.source_port (end_of_run (run 0)) → IsClear solids route.anchors.source_port (end_of_run (new 0))
    keeps_clear_from h clear =
        by_way {P = IsClear solids route.anchors.source_port (end_of_run (new 0))} (run 0).way way
        (λ own. clear_points _ _ _ _ refl (sym (ap end_of_run (new_stays 0 own (settled.stays 0 h own (IsFixed.is_first refl))))) clear)
        (λ other.
        let c = route.anchors.source_port in
        let on = here_on (run 0) c ports.source in
        let z = along (run 0).way c in
        clear_points _ _ _ _ (sym on) (sym (end_other 0 other))
        (clear_moved solids (run 0).way (run 0).at z (old_end 0) z (new_end 0) (clear_points _ _ _ _ on (end_far (run 0).heading (run 0)) clear) (inl refl) (finished 0 h other).moves))

    pub keeps_clear_to : (k : ℕ) → k + 1 ≡ size → IsClear solids (start_of_run (run k)) route.anchors.target_port → IsClear solids (start_of_run (new k)) route.anchors.target_port
    keeps_clear_to k e clear =
        let h : k < size = omega (arith, e) in
        by_way {P = IsClear solids (start_of_run (new k)) route.anchors.target_port} (run k).way way
        (λ own. clear_points _ _ _ _ (sym (ap start_of_run (new_stays k own (settled.stays k h own (IsFixed.is_last e))))) refl clear)
        (λ other.
        let c = route.anchors.target_port in
        let on = here_on (run k) c (target_held k e) in
        let z = along (run k).way c in
        clear_points _ _ _ _ (sym (start_other k other)) (sym on)
        (clear_moved solids (run k).way (run k).at (old_begin k) z (new_begin k) z (clear_points _ _ _ _ (end_far (opposite (run k).heading) (run k)) on clear) (begun k h other).moves (inl refl)))

    pub keeps_clear : (k : ℕ) → k < size → IsClear solids (start_of_run (run k)) (end_of_run (run k)) → IsClear solids (start_of_run (new k)) (end_of_run (new k))
    keeps_clear k h clear =
        by_way {P = IsClear solids (start_of_run (new k)) (end_of_run (new k))} (run k).way way
        (λ own. elim (settled.stands k h own) as (λ _. IsClear solids (start_of_run (new k)) (end_of_run (new k))) [
          | inl same ↦ (let e = new_stays k own same in clear_points _ _ _ _ (sym (ap start_of_run e)) (sym (ap end_of_run e)) clear)
          | inr may ↦ clear_points _ _ _ _ (sym (start_own k own)) (sym (end_own k own)) (run_clear solids (run k).heading (run k) (int_at ats k) (are.each k h) may.free)
        ])
        (λ other. clear_points _ _ _ _ (sym (start_other k other)) (sym (end_other k other))
        (clear_moved solids (run k).way (run k).at (old_begin k) (old_end k) (new_begin k) (new_end k)
        (clear_points _ _ _ _ (end_far (opposite (run k).heading) (run k)) (end_far (run k).heading (run k)) clear) (begun k h other).moves (finished k h other).moves))

    -- the runs of the phase's own way keep their range
    pub keeps_length : (k : ℕ) → k < size → (run k).way ≡ way → (run k).lo <ℤ (run k).hi → (new k).lo <ℤ (new k).hi
    keeps_length k h own long = subst (λ (r : Run). r.lo <ℤ r.hi) (sym (new_own k own)) long

    -- of a route with one or two runs nothing moves
    fixed_at : (k : ℕ) → k < size → size ≤ 2 → (run k).way ≡ way → int_at ats k ≡ (run k).at
    fixed_at k h few own = settled.stays k h own
        (elim (cases_lt 0 k) as (λ _. IsFixed route k) [ inl l ↦ IsFixed.is_last (omega arith) | inr g ↦ IsFixed.is_first (omega arith) ])

    pub short_stays : (k : ℕ) → k < size → size ≤ 2 → new k ≡ run k
    short_stays k h few =
        by_way (run k).way way
        (λ own. new_stays k own (fixed_at k h few own))
        (λ other.
        let r = run k in
        let begin : new_begin k ≡ old_begin k = elim (begun k h other).kind as (λ _. new_begin k ≡ old_begin k) [
          | inl stays ↦ stays.0
          | inr moved ↦ (let j = moved.0 in
              let at = begin_at way j (omega (arith, moved.1)) moved.2 (ap (λ i. (run i).way) moved.1 ∙ other) in
              moved.3 ∙ fixed_at j (omega (arith, moved.1)) few moved.2 ∙ sym at.0 ∙ ap old_begin moved.1)
        ] in
        let finish : new_end k ≡ old_end k = elim (finished k h other).kind as (λ _. new_end k ≡ old_end k) [
          | inl stays ↦ stays.0
          | inr moved ↦ moved.2 ∙ fixed_at (k + 1) moved.0 few moved.1 ∙ sym (end_at way k moved.0 moved.1 other).0
        ] in
        new_other k other ∙ ap (λ z. stretch r.heading r z (new_end k)) begin ∙ ap (stretch r.heading r (old_begin k)) finish ∙ stretch_same r.heading r)

    module _ (after : List Run) (count : length after ≡ size) (moved : (k : ℕ) → k < size → run_at after k ≡ new k) where
      pub keeps_passes : (cs : List Point) (from to : Station) → ((c : Point) → Contains cs c → Contains route.anchors.via.items c) → PassesOn rs from to cs → PassesOn after from to cs
      keeps_passes [] from to within p = tt
      keeps_passes (c ∷ cs) from to within p =
          let at = p.0 in
          let k = at.run in (
            at,
            omega (arith, count, p.1),
            p.2,
            p.3,
            subst (λ (r : Run). Holds (line_of_run r) c) (sym (moved k p.1)) (keeps_checkpoint k c p.1 (within c (0, omega arith, refl)) p.4),
            p.5 ∙ ap (λ d. reach d c) (sym (new_heading k) ∙ sym (ap (λ (r : Run). r.heading) (moved k p.1))),
            keeps_passes cs at to (λ b has. within b (suc has.0, omega (arith, has.1), has.2)) p.6,
          )

      -- a phase keeps a route legal along its runs
      pub keeps_legal_along : (s e : Choice) → s.port ≡ route.anchors.source_port → e.port ≡ route.anchors.target_port → IsLegalAlong solids route.anchors.via.items s rs e → IsLegalAlong solids route.anchors.via.items s after e
      keeps_legal_along s e from to legal =
          let first : 0 < size = omega (arith, legal.some) in
          let last : size - 1 + 1 ≡ size = omega (arith, legal.some) in
          let fewer : size - 1 < size = omega (arith, legal.some) in
          let at_first = moved 0 first in
          let at_last : run_at after (length after - 1) ≡ new (size - 1) = ap (λ n. run_at after (n - 1)) count ∙ moved (size - 1) fewer in
          record {
            some = omega (arith, legal.some, count);
            begins = ap start_of_run at_first ∙ keeps_start first ∙ legal.begins;
            leaves = ap (λ (r : Run). r.heading) at_first ∙ new_heading 0 ∙ legal.leaves;
            source_port = subst (λ (r : Run). Holds (line_of_run r) s.port) (sym at_first) (subst (Holds (line_of_run (new 0))) (sym from) (keeps_source first));
            ends = ap end_of_run at_last ∙ keeps_end (size - 1) last ∙ legal.ends;
            arrives = ap (λ (r : Run). r.heading) at_last ∙ new_heading (size - 1) ∙ legal.arrives;
            target_port = subst (λ (r : Run). Holds (line_of_run r) e.port) (sym at_last) (subst (Holds (line_of_run (new (size - 1)))) (sym to) (keeps_target (size - 1) last));
            from_port = clear_points _ _ _ _ (sym from) (sym (ap end_of_run at_first)) (keeps_clear_from first (clear_points _ _ _ _ from refl legal.from_port));
            between = λ k h g. clear_points _ _ _ _ (sym (ap start_of_run (moved k (omega (arith, count))))) (sym (ap end_of_run (moved k (omega (arith, count)))))
                (keeps_clear k (omega (arith, count)) (legal.between k h (omega (arith, count))));
            to_port = clear_points _ _ _ _ (sym (ap start_of_run at_last)) (sym to) (keeps_clear_to (size - 1) last (clear_points _ _ _ _ refl to legal.to_port));
            passes = subst (λ n. PassesOn after (record { run = 0; reach = reach s.dir s.port }) (record { run = n - 1; reach = reach (opposite e.dir) e.port }) route.anchors.via.items) (sym count)
                (keeps_passes route.anchors.via.items _ _ (λ c has. has) legal.passes);
          }
