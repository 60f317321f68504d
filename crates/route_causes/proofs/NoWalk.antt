-- A legal walk has free stubs, and none of its checkpoints lies inside a solid.
use Rattle.std.proofs.Common.{◌≡◌, ◌≢◌, ℕ, ℤ, Option, Some, None, List, [], ◌∷◌, ◌++◌, All, refl, sym, ap, subst, ◌∙◌, append_assoc}
use Rattle.std.specs.Prelude.{IfSome, IsSomeAnd, slice_get}
use Rattle.std.specs.List.{AllByRecursion}
use Rattle.std.proofs.lemmas.List.Elements.{All-from_recursion}
use Rattle.plane_geom.specs.declared.point.Point.{Point}
use Rattle.plane_geom.specs.declared.point.Dir.{Dir}
use Rattle.plane_geom.specs.declared.floor.Floor.{Floor}
use Rattle.plane_geom.specs.declared.rect.Solid.{Solid}
use Rattle.plane_geom.specs.Rect.{HasInside}
use Rattle.walk_model.specs.declared.task.Task.{Task}
use Rattle.walk_model.specs.Walk.{after}
use Rattle.walk_model.specs.Legal.{IsTask}
use Rattle.walk_model.specs.Floors.{IsFloorOf}
use Rattle.walk_model.specs.Order.{HasNoWalk, IsFirst, IsLegalTriple, Triple}
use Rattle.walk_model.proofs.CornerByCorner.Scan.{after-append}
use Rattle.walk_model.proofs.Ranking.First.{one_first}
use Rattle.walk_laws.proofs.OnKeptLines.Lines.{chosen, chosen_end, chosen_start, tour_outside}
use Rattle.walk_laws.proofs.Replacing.Tours.{IsTour, tour_from_legal}
use Rattle.walk_laws.proofs.Steps.Clear.{ComesBy}
use Rattle.move_model.specs.Places.{HasFreeStub}
use Rattle.move_model.proofs.Moving.Stubs.{free_stub, free_stub_back}
use Rattle.scene_model.specs.declared.edge.Edge.{Edge}
use Rattle.scene_model.specs.Scene.{Scene, edge_with}
use Rattle.scene_model.specs.Valid.{IsValid}
use Rattle.scene_model.specs.Routing.{floor_of, solids, task_of}
use Rattle.scene_model.proofs.ForRouting.Floors.{floors_hold_tasks}
use Rattle.scene_store.proofs.Tasks.{is_connector}
use Rattle.route_causes.specs.declared.cause.Cause.{Cause}
use Rattle.route_causes.specs.declared.cause.Cause.TheVariants.{ClosedEnd, CoveredCheckpoint, Apart}
use Rattle.route_causes.specs.declared.cause.End.TheVariants.{Source, Target}
use Rattle.route_causes.specs.Causes.{IsCause, IsCoveredBy, IsFirstWith, LiesFree}

module _ (solids : List Solid) (task : Task) (is_task : IsTask task) (t : Triple) (legal : IsLegalTriple solids task t) where
  -- the walk in three parts
  tour : (middle : List Dir) × IsTour solids task.via legal.start t.walk legal.end middle
  tour = tour_from_legal solids task.via legal.start t.walk legal.end (chosen_start solids task t is_task legal) (chosen_end solids task t is_task legal) legal.legal

  start_free : HasFreeStub solids legal.start
  start_free = free_stub solids legal.start (chosen_start solids task t is_task legal) tour.1.start_stub

  end_free : HasFreeStub solids legal.end
  end_free = free_stub_back solids legal.end (chosen_end solids task t is_task legal) tour.1.end_stub

module _ (floor : Floor) (task : Task) (is_task : IsTask task) (on : IsFloorOf floor task) (t : Triple) (first : IsFirst floor.solids task t) where
  abbrev whole : (middle : List Dir) × IsTour floor.solids task.via first.legal.start t.walk first.legal.end middle
  whole = tour floor.solids task is_task t first.legal

  -- the checkpoints that the rest of the tour passes
  rest_free : (front steps : List Dir) (via : List Point) → whole.0 ≡ front ++ steps → ComesBy (after first.legal.start.port front) steps via → AllByRecursion (LiesFree floor.solids) via
  rest_free front steps [] cut comes = tt
  rest_free front steps (p ∷ ps) cut (xs, ys, parts, there, rest) =
      let parted : whole.0 ≡ (front ++ xs) ++ ys = cut ∙ ap (λ ds. front ++ ds) parts ∙ sym (append_assoc front xs ys) in
      let here : after first.legal.start.port (front ++ xs) ≡ p = after-append first.legal.start.port front xs ∙ there in (
        subst (LiesFree floor.solids) here (tour_outside floor task t is_task on first whole.0 whole.1 (front ++ xs) ys parted),
        rest_free (front ++ xs) ys ps parted (subst (λ q. ComesBy q ys ps) (sym here) rest),
      )

  via_free : All (LiesFree floor.solids) task.via
  via_free = All-from_recursion (LiesFree floor.solids) task.via (rest_free [] whole.0 task.via refl whole.1.comes)

-- a solid round the point at a place of a list, all of whose points lie free
not_covered : (solids : List Solid) (via : List Point) (place : ℕ) (node : ℤ) (o : Option Point) → slice_get via place ≡ o → IsSomeAnd o (λ p. IsFirstWith (λ s. HasInside s.rect p) solids node) → All (LiesFree solids) via → ⊥
not_covered solids via place node None is covered free = covered
not_covered solids via place node (Some p) is covered free =
    chosen (λ s. HasInside s.rect p → ⊥) solids covered.place covered.solid covered.at_place (chosen (LiesFree solids) via place p is free) covered.holds

covered_bars : (floor : Floor) (task : Task) → IsTask task → IsFloorOf floor task → (place : ℕ) (node : ℤ) → IsCoveredBy floor.solids task.via place node → HasNoWalk floor.solids task
covered_bars floor task is_task on place node covered t legal =
    let some = (one_first floor.solids task).some t legal in
    not_covered floor.solids task.via covered.before node (slice_get task.via covered.before) refl covered.covered (via_free floor task is_task on some.0 some.1)

-- where an end is closed or a checkpoint is covered, no walk is legal
cause_bars : (floor : Floor) (task : Task) → IsTask task → IsFloorOf floor task → (cause : Cause) → IsCause floor.solids task cause → cause ≢ Apart → HasNoWalk floor.solids task
cause_bars floor task is_task on (ClosedEnd Source node) closed some t legal =
    chosen (λ c. HasFreeStub floor.solids c → ⊥) task.starts t.start legal.start legal.is_start closed.none_free (start_free floor.solids task is_task t legal)
cause_bars floor task is_task on (ClosedEnd Target node) closed some t legal =
    chosen (λ c. HasFreeStub floor.solids c → ⊥) task.ends t.end legal.end legal.is_end closed.1.none_free (end_free floor.solids task is_task t legal)
cause_bars floor task is_task on (CoveredCheckpoint place node) covered some t legal = covered_bars floor task is_task on place node covered.2 t legal
cause_bars floor task is_task on Apart apart some t legal = absurd (some refl)

-- nor is one of a connector's task in a valid scene
pub no_walk_at : (s : Scene) (number : ℕ) (ss : List Solid) (task : Task) (cause : Cause) → IsValid s → IsSomeAnd (edge_with s number) (λ e. e.from ≢ e.to) →
    ss ≡ solids s → IfSome (edge_with s number) (λ e. task ≡ task_of s e) → IsCause ss task cause → cause ≢ Apart → IfSome (edge_with s number) (λ e. HasNoWalk (solids s) (task_of s e))
no_walk_at s number ss task cause valid differ same made is some = by (edge_with s number) refl differ made
  where
    by : (o : Option Edge) → edge_with s number ≡ o → IsSomeAnd o (λ e. e.from ≢ e.to) → IfSome o (λ e. task ≡ task_of s e) → IfSome o (λ e. HasNoWalk (solids s) (task_of s e))
    by None known differ made = tt
    by (Some e) known differ made =
        let holds = floors_hold_tasks s e valid (is_connector s number e known differ) in
        cause_bars (floor_of s) (task_of s e) holds.task.is_task holds.floor cause (subst (λ t. IsCause (solids s) t cause) made (subst (λ l. IsCause l task cause) same is)) some
