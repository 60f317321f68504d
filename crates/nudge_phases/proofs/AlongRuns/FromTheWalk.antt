-- A legal walk along runs that all have some length is legal along them.
use Rattle.std.proofs.Common.{◌≡◌, ℕ, suc, zero, ◌+◌, ◌-◌, ◌<◌, ◌≤◌, ℤ, pos, ◌+ℤ◌, ◌-ℤ◌, ◌≤ℤ◌, ◌<ℤ◌, All, List, [], ◌∷◌, length, get_or, inl, inr, refl, sym, ap, subst, ◌∙◌, arith}
use Rattle.std.proofs.lemmas.Bool.{cases_lt}
use Rattle.std.proofs.lemmas.Int.{ints, clamps}
use Rattle.std.proofs.lemmas.List.{get_or-take, get_or-drop, get_or-replicate, take_all}
use Rattle.std.proofs.lemmas.Option.{none-some}
use Rattle.plane_geom.specs.declared.point.Point.{Point}
use Rattle.plane_geom.specs.declared.point.Dir.{Dir}
use Rattle.plane_geom.specs.declared.point.Dir.TheVariants.{East, South, West, North}
use Rattle.plane_geom.specs.declared.rect.Rect.{Rect}
use Rattle.plane_geom.specs.declared.rect.Solid.{Solid}
use Rattle.plane_geom.specs.Along.{reach}
use Rattle.plane_geom.specs.Point.{forward, opposite}
use Rattle.plane_geom.specs.Rect.{Overlaps, Meets, StepMeets}
use Rattle.plane_geom.specs.Floor.{point_on, Holds}
use Rattle.plane_geom.proofs.Places.{halfway, overlap_ends}
use Rattle.plane_geom.proofs.Steps.{some_step}
use Rattle.segment_order.specs.declared.run.Run.{Run}
use Rattle.segment_order.specs.Run.{AreRunsOf, IsRun, run_at, no_run, start_of_run, end_of_run, line_of_run}
use Rattle.walk_model.specs.declared.task.Choice.{Choice}
use Rattle.walk_model.specs.Walk.{Walk, after, point_at, step_at}
use Rattle.walk_model.specs.Choice.{IsChoice, stub_length}
use Rattle.walk_model.specs.Legal.{IsLegal, Passes}
use Rattle.walk_model.proofs.CornerByCorner.Scan.{forward-zero, forward-forward}
use Rattle.nudge_phases.specs.LegalRuns.{steps_of_run, walk_along, Station, IsNotAfter, PassesOn, IsClear, IsLegalAlong}
use Rattle.nudge_phases.proofs.AlongRuns.StepsAlong.{place_on, end_on, run_leads, Follow, follow, before, step_on, stands_on, step_of, before_grows, all_before}
use Rattle.nudge_phases.proofs.AlongRuns.ToTheWalk.{reach_forward, before_zero}
use Rattle.nudge_phases.proofs.AlongRuns.Ends.{far_end}

-- a point so far on along a run lies on it
record IsPlaceOn (d : Dir) (r : Run) (i : ℕ) : Type 0 where
  along : ℤ
  from : r.lo ≤ℤ along
  to : along ≤ℤ r.hi
  here : forward d i (place_on d r (far_end (opposite d) r)) ≡ place_on d r along

place_of : (d : Dir) (r : Run) (i : ℕ) → r.lo ≤ℤ r.hi → i ≤ steps_of_run r → IsPlaceOn d r i
place_of East r i h g = record { along = r.lo +ℤ pos i; from = omega (arith, ints); to = omega (arith, ints); here = refl }
place_of South r i h g = record { along = r.lo +ℤ pos i; from = omega (arith, ints); to = omega (arith, ints); here = refl }
place_of West r i h g = record { along = r.hi -ℤ pos i; from = omega (arith, ints); to = omega (arith, ints); here = refl }
place_of North r i h g = record { along = r.hi -ℤ pos i; from = omega (arith, ints); to = omega (arith, ints); here = refl }

pub point_held : (r : Run) (i : ℕ) → IsRun r → i ≤ steps_of_run r → Holds (line_of_run r) (forward r.heading i (start_of_run r))
point_held r i is h =
    let p = place_of r.heading r i is.ordered h in
    record {
      along = p.along;
      from = p.from;
      to = p.to;
      here = ap (forward r.heading i) (end_on r.heading (opposite r.heading) r is.way) ∙ p.here ∙ ap (λ w. point_on w r.at p.along) (sym is.way);
    }

-- some steps back from the end
back_from : (d : Dir) (b n : ℕ) (p : Point) → b ≤ n → forward d b (forward (opposite d) n p) ≡ forward (opposite d) (n - b) p
back_from East b n p h = ap (λ (x : ℤ). record { x = x; y = p.y }) (omega (arith, ints))
back_from South b n p h = ap (λ (y : ℤ). record { x = p.x; y = y }) (omega (arith, ints))
back_from West b n p h = ap (λ (x : ℤ). record { x = x; y = p.y }) (omega (arith, ints))
back_from North b n p h = ap (λ (y : ℤ). record { x = p.x; y = y }) (omega (arith, ints))

-- what meets a point meets each segment from it and to it
longer : (low high a b : ℤ) → Overlaps low high a a → Overlaps low high a b
longer low high a b o = let e = overlap_ends low high a a o in halfway low high a b e.0 (omega (arith, ints, clamps, e.1)) (omega (arith, ints, clamps, e.2))

longer_to : (low high a b : ℤ) → Overlaps low high b b → Overlaps low high a b
longer_to low high a b o = let e = overlap_ends low high b b o in halfway low high a b e.0 (omega (arith, ints, clamps, e.1)) (omega (arith, ints, clamps, e.2))

meets_from : (r : Rect) (p q : Point) → Meets r p p → Meets r p q
meets_from r p q m = record { x = longer _ _ _ _ m.x; y = longer _ _ _ _ m.y }

meets_to : (r : Rect) (p q : Point) → Meets r q q → Meets r p q
meets_to r p q m = record { x = longer_to _ _ _ _ m.x; y = longer_to _ _ _ _ m.y }

before_next : (runs : List Run) (k : ℕ) → k < length runs → before runs (k + 1) ≡ before runs k + steps_of_run (run_at runs k)
before_next [] k h = absurd (omega arith)
before_next (r ∷ rest) zero h = ap (before (r ∷ rest)) (let e : 0 + 1 ≡ suc 0 = omega arith in e) ∙ omega (arith, before_zero rest)
before_next (r ∷ rest) (suc k) h = ap (before (r ∷ rest)) (let e : suc k + 1 ≡ suc (k + 1) = omega arith in e) ∙ omega (arith, before_next rest k (omega arith))

module _ (solids : List Solid) (via : List Point) (s : Choice) (runs : List Run) (e : Choice) (edge : ℕ) (are : AreRunsOf edge runs) (hs : IsChoice s) (he : IsChoice e) (one_run : 0 < length runs)
    (long : (k : ℕ) → k < length runs → 0 < steps_of_run (run_at runs k)) (legal : IsLegal solids via s (walk_along runs) e) where
  abbrev walk : Walk
  walk = walk_along runs

  abbrev size : ℕ
  size = length walk.steps

  abbrev last : ℕ
  last = length runs - 1

  abbrev run : ℕ → Run
  run k = run_at runs k

  abbrev a : ℕ
  a = stub_length s

  abbrev b : ℕ
  b = stub_length e

  they_follow : Follow walk.start runs
  they_follow = follow walk.start runs are.each are.joined (λ h. refl)

  point_on_run : (j i k : ℕ) → j < length runs → i ≤ steps_of_run (run j) → k ≡ before runs j + i → point_at walk k ≡ forward (run j).heading i (start_of_run (run j))
  point_on_run j i k h g f = ap (point_at walk) f ∙ stands_on walk.start runs j i they_follow h g

  step_on_run : (j i k : ℕ) → j < length runs → i < steps_of_run (run j) → k ≡ before runs j + i → step_at walk k ≡ (run j).heading
  step_on_run j i k h g f = ap (step_at walk) f ∙ step_of runs j i h g

  total : size ≡ before runs last + steps_of_run (run last)
  total = all_before runs last (omega (arith, one_run))

  first_before : (k : ℕ) → 0 < k → k < length runs → steps_of_run (run 0) ≤ before runs k
  first_before k h g = omega (arith, before_grows runs 0 k h g, before_zero runs)

  -- the first run begins with the stub
  stub_step : (k : ℕ) → k < a → step_at walk k ≡ s.dir
  stub_step k h = sym (get_or-take a walk.steps k East h) ∙ ap (λ ds. get_or ds k East) legal.leaves.stub ∙ get_or-replicate a k s.dir East h

  pub leaves_first : (run 0).heading ≡ s.dir
  leaves_first = sym (step_on_run 0 0 0 (omega (arith, one_run)) (long 0 (omega (arith, one_run))) (omega (arith, before_zero runs))) ∙ stub_step 0 hs.apart

  pub stub_in_first : a ≤ steps_of_run (run 0)
  stub_in_first = elim (cases_lt (steps_of_run (run 0)) a) as (λ _. a ≤ steps_of_run (run 0)) [
    | inl short ↦ (elim (cases_lt 1 (length runs)) as (λ _. a ≤ steps_of_run (run 0)) [
      | inl more ↦ (let n = steps_of_run (run 0) in
          let one : before runs (0 + 1) ≡ n = omega (arith, before_next runs 0 one_run, before_zero runs) in
          let next : step_at walk n ≡ (run (0 + 1)).heading = step_on_run (0 + 1) 0 n (omega arith) (long (0 + 1) (omega arith)) (omega (arith, one)) in
          absurd (are.turns 0 (omega arith) (leaves_first ∙ sym (stub_step n short) ∙ next)))
      | inr alone ↦ omega (arith, legal.stubs_fit, all_before runs 0 (omega arith), before_zero runs)
    ])
    | inr g ↦ g
  ]

  pub begins_first : start_of_run (run 0) ≡ s.pin
  begins_first = legal.leaves.pin

  port_first : s.port ≡ forward (run 0).heading a (start_of_run (run 0))
  port_first = hs.straight ∙ ap (λ d. forward d a s.pin) (sym leaves_first) ∙ ap (forward (run 0).heading a) (sym begins_first)

  -- the last one ends with the other stub
  back_step : (k : ℕ) → size - b ≤ k → k < size → step_at walk k ≡ opposite e.dir
  back_step k h g =
      let i = k - (size - b) in
      let is : size - b + i ≡ k = omega arith in
      ap (step_at walk) (sym is) ∙ sym (get_or-drop (size - b) walk.steps i East) ∙ ap (λ ds. get_or ds i East) legal.arrives.stub ∙ get_or-replicate b i (opposite e.dir) East (omega (arith, legal.stubs_fit))

  last_in : last < length runs
  last_in = omega (arith, one_run)

  pub arrives_last : (run last).heading ≡ opposite e.dir
  arrives_last =
      let n = steps_of_run (run last) in
      let some = long last last_in in
      sym (step_on_run last (n - 1) (size - 1) last_in (omega arith) (omega (arith, total))) ∙ back_step (size - 1) (omega (arith, he.apart, legal.stubs_fit)) (omega (arith, total, some))

  pub stub_in_last : b ≤ steps_of_run (run last)
  stub_in_last = elim (cases_lt (steps_of_run (run last)) b) as (λ _. b ≤ steps_of_run (run last)) [
    | inl short ↦ (elim (cases_lt 1 (length runs)) as (λ _. b ≤ steps_of_run (run last)) [
      | inl more ↦ (let j = last - 1 in
          let n = steps_of_run (run j) in
          let up : j + 1 ≡ last = omega arith in
          let j_in : j < length runs = omega arith in
          let some = long j j_in in
          let next : before runs last ≡ before runs j + n = ap (before runs) (sym up) ∙ before_next runs j j_in in
          let k = before runs j + (n - 1) in
          let here : step_at walk k ≡ (run j).heading = step_on_run j (n - 1) k j_in (omega arith) refl in
          absurd (are.turns j (omega (arith, up, last_in)) (sym here ∙ back_step k (omega (arith, total, next, short, some)) (omega (arith, total, next, some)) ∙ sym arrives_last ∙ ap (λ i. (run i).heading) (sym up))))
      | inr alone ↦ (let none : last ≡ 0 = omega arith in omega (arith, legal.stubs_fit, total, ap (before runs) none, before_zero runs))
    ])
    | inr g ↦ g
  ]

  pub ends_last : end_of_run (run last) ≡ e.pin
  ends_last =
      sym (run_leads (run last) (are.each last last_in)) ∙ sym (point_on_run last (steps_of_run (run last)) size last_in (omega arith) total)
      ∙ ap (after walk.start) (take_all size walk.steps (omega arith)) ∙ legal.arrives.pin

  -- how far along the last run the port lies
  abbrev to_there : ℕ
  to_there = steps_of_run (run last) - b

  port_last : e.port ≡ forward (run last).heading to_there (start_of_run (run last))
  port_last =
      he.straight ∙ ap (forward e.dir b) (sym ends_last ∙ sym (run_leads (run last) (are.each last last_in)) ∙ ap (λ d. forward d (steps_of_run (run last)) (start_of_run (run last))) arrives_last)
      ∙ back_from e.dir b (steps_of_run (run last)) (start_of_run (run last)) stub_in_last ∙ ap (λ d. forward d to_there (start_of_run (run last))) (sym arrives_last)

  up_to_last : size - b ≡ before runs last + to_there
  up_to_last = omega (arith, total, stub_in_last)

  -- no step between the ports meets a solid
  step_clear : (n : ℕ) (x : Solid) (j i : ℕ) → n < length solids → j < length runs → i < steps_of_run (run j) → a ≤ before runs j + i → before runs j + i < size - b → StepMeets (get_or solids n x).rect (forward (run j).heading i (start_of_run (run j))) (run j).heading → ⊥
  step_clear n x j i inside h g low high m =
      let k = before runs j + i in
      let rect = (get_or solids n x).rect in
      let there : StepMeets rect (point_at walk k) (step_at walk k) =
      subst (λ (p : Point). StepMeets rect p (step_at walk k)) (sym (point_on_run j i k h (omega arith) refl)) (subst (StepMeets rect (forward (run j).heading i (start_of_run (run j)))) (sym (step_on_run j i k h g refl)) m) in
      legal.between k low high n x inside (λ same. none-some _ (sym same)) there

  pub inner_clear : (k : ℕ) → 0 < k → k + 1 < length runs → IsClear solids (start_of_run (run k)) (end_of_run (run k))
  inner_clear k h g n x inside m =
      let rect = (get_or solids n x).rect in
      let d = (run k).heading in
      let k_in : k < length runs = omega arith in
      let steps = steps_of_run (run k) in
      let some = some_step rect (start_of_run (run k)) d steps (long k k_in) (subst (Meets rect (start_of_run (run k))) (sym (run_leads (run k) (are.each k k_in))) m) in
      let first = first_before k h k_in in
      let grows = before_grows runs k last (omega arith) last_in in
      step_clear n x k some.0 inside k_in some.1 (omega (arith, first, stub_in_first)) (omega (arith, grows, some.1, up_to_last)) some.2

  pub clear_from : 3 ≤ length runs → IsClear solids s.port (end_of_run (run 0))
  clear_from many n x inside m =
      let rect = (get_or solids n x).rect in
      let d = (run 0).heading in
      let steps = steps_of_run (run 0) in
      let none : 0 < length runs = omega (arith, many) in
      let is = are.each 0 none in
      let grows = before_grows runs 0 last (omega (arith, many)) last_in in
      let far_on : (t : ℕ) → forward d t s.port ≡ forward d (a + t) (start_of_run (run 0)) = λ t. ap (forward d t) port_first ∙ forward-forward d t a (start_of_run (run 0)) in
      elim (cases_lt a steps) as (λ _. ⊥) [
        | inl more ↦ (let m2 : Meets rect s.port (forward d (steps - a) s.port) = subst (Meets rect s.port) (sym (far_on (steps - a) ∙ ap (λ t. forward d t (start_of_run (run 0))) (omega arith) ∙ run_leads (run 0) is)) m in
            let some = some_step rect s.port d (steps - a) (omega arith) m2 in
            step_clear n x 0 (a + some.0) inside none (omega (arith, some.1)) (omega arith) (omega (arith, grows, some.1, up_to_last))
            (subst (λ (p : Point). StepMeets rect p d) (far_on some.0) some.2))
        | inr all ↦ (let at_end : s.port ≡ end_of_run (run 0) = port_first ∙ ap (λ t. forward d t (start_of_run (run 0))) (omega (arith, stub_in_first)) ∙ run_leads (run 0) is in
            let next : end_of_run (run 0) ≡ start_of_run (run (0 + 1)) = are.joined 0 (omega (arith, many)) in
            let p = start_of_run (run (0 + 1)) in
            let m2 : Meets rect p p = subst (λ (q : Point). Meets rect q p) (at_end ∙ next) (subst (Meets rect s.port) next m) in
            inner_clear (0 + 1) (omega arith) (omega (arith, many)) n x inside (meets_from rect p (end_of_run (run (0 + 1))) m2))
      ]

  pub clear_to : 3 ≤ length runs → IsClear solids (start_of_run (run last)) e.port
  clear_to many n x inside m =
      let rect = (get_or solids n x).rect in
      let d = (run last).heading in
      let p = start_of_run (run last) in
      elim (cases_lt 0 to_there) as (λ _. ⊥) [
        | inl more ↦ (let some = some_step rect p d to_there more (subst (Meets rect p) port_last m) in
            step_clear n x last some.0 inside last_in (omega (arith, some.1)) (omega (arith, first_before last (omega (arith, many)) last_in, stub_in_first)) (omega (arith, some.1, up_to_last)) some.2)
        | inr none ↦ (let j = last - 1 in
            let up : j + 1 ≡ last = omega (arith, many) in
            let here : e.port ≡ p = port_last ∙ ap (λ t. forward d t p) (let z : to_there ≡ 0 = omega arith in z) ∙ forward-zero d p in
            let next : end_of_run (run j) ≡ p = are.joined j (omega (arith, up, last_in)) ∙ ap (λ i. start_of_run (run i)) up in
            let m2 : Meets rect p p = subst (Meets rect p) here m in
            inner_clear j (omega (arith, many)) (omega (arith, up, last_in)) n x inside (subst (Meets rect (start_of_run (run j))) (sym next) (meets_to rect (start_of_run (run j)) p m2)))
      ]

  -- the place on the route of a point of the walk
  record IsNumberOf (at : Station) (number : ℕ) : Type 0 where
    in_list : at.run < length runs
    steps : ℕ
    count : at.reach ≡ reach (run at.run).heading (start_of_run (run at.run)) +ℤ pos steps
    number_is : number ≡ before runs at.run + steps

  abbrev there : Station
  there = record { run = last; reach = reach (opposite e.dir) e.port }

  reach_there : reach (opposite e.dir) e.port ≡ reach (run last).heading (start_of_run (run last)) +ℤ pos to_there
  reach_there = ap (λ d. reach d e.port) (sym arrives_last) ∙ ap (reach (run last).heading) port_last ∙ reach_forward (run last).heading to_there (start_of_run (run last))

  passes_on : (cs : List Point) (from : Station) (m : ℕ) → IsNumberOf from m → Passes walk m (size - b) cs → PassesOn runs from there cs
  passes_on [] from m f p = tt
  passes_on (c ∷ cs) from m f p =
      let i = p.0 in
      let on = step_on runs i (omega (arith, p.2, he.apart, legal.stubs_fit)) in
      let j = on.run in
      let r = run j in
      let d = r.heading in
      let o = on.offset in
      let is_c : c ≡ forward d o (start_of_run r) = sym p.3 ∙ point_on_run j o i on.in_list (omega (arith, on.on_it)) on.number in
      let reached : reach d c ≡ reach d (start_of_run r) +ℤ pos o = ap (reach d) is_c ∙ reach_forward d o (start_of_run r) in
      let at : Station = record { run = j; reach = reach d c } in
      let is : IsNumberOf at i = record { in_list = on.in_list; steps = o; count = reached; number_is = on.number } in
      let after_from : IsNotAfter from at = elim (cases_lt from.run j) as (λ _. IsNotAfter from at) [
        | inl earlier ↦ inl earlier
        | inr g ↦ (elim (cases_lt j from.run) as (λ _. IsNotAfter from at) [
          | inl later ↦ (let grows = before_grows runs j from.run later f.in_list in absurd (omega (arith, grows, p.1, f.number_is, on.number, on.on_it)))
          | inr both ↦ (let same : from.run ≡ j = omega arith in
              let start_same = ap (λ t. reach (run t).heading (start_of_run (run t))) same in
              let steps : f.steps ≤ o = omega (arith, f.number_is, on.number, p.1, ap (before runs) same) in
              inr (same, omega (arith, ints, f.count, reached, start_same, steps)))
        ])
      ] in
      let before_there : IsNotAfter at there = elim (cases_lt j last) as (λ _. IsNotAfter at there) [
        | inl earlier ↦ inl earlier
        | inr g ↦ (let same : j ≡ last = omega (arith, on.in_list) in
            let start_same = ap (λ t. reach (run t).heading (start_of_run (run t))) same in
            let steps : o ≤ to_there = omega (arith, on.number, p.2, up_to_last, ap (before runs) same) in
            inr (same, omega (arith, ints, reached, reach_there, start_same, steps)))
      ] in (
        at,
        on.in_list,
        after_from,
        before_there,
        subst (Holds (line_of_run r)) (sym is_c) (point_held r o (are.each j on.in_list) (omega (arith, on.on_it))),
        refl,
        passes_on cs at i is p.4,
      )

  -- the ports lie on the first and on the last run
  pub source_held : Holds (line_of_run (run 0)) s.port
  source_held = subst (Holds (line_of_run (run 0))) (sym port_first) (point_held (run 0) a (are.each 0 one_run) stub_in_first)

  pub target_held : Holds (line_of_run (run last)) e.port
  target_held = subst (Holds (line_of_run (run last))) (sym port_last) (point_held (run last) to_there (are.each last last_in) (omega arith))

  pub legal_along : 3 ≤ length runs → IsLegalAlong solids via s runs e
  legal_along many = record {
    some = many;
    begins = begins_first;
    leaves = leaves_first;
    source_port = source_held;
    ends = ends_last;
    arrives = arrives_last;
    target_port = target_held;
    from_port = clear_from many;
    between = inner_clear;
    to_port = clear_to many;
    passes = passes_on via _ a
        (record {
          in_list = one_run;
          steps = a;
          count = ap (λ d. reach d s.port) (sym leaves_first) ∙ ap (reach (run 0).heading) port_first ∙ reach_forward (run 0).heading a (start_of_run (run 0));
          number_is = omega (arith, before_zero runs);
        })
        legal.checkpoints;
  }

-- of runs that all have some length, each has a step
each_has_steps : (runs : List Run) → All (λ (r : Run). r.lo <ℤ r.hi) runs → (k : ℕ) → k < length runs → 0 < steps_of_run (run_at runs k)
each_has_steps runs long k h = let more = long k no_run h in omega (arith, ints, more)

pub from_walk : (solids : List Solid) (via : List Point) (s : Choice) (runs : List Run) (e : Choice) (edge : ℕ) → AreRunsOf edge runs → IsChoice s → IsChoice e → 3 ≤ length runs
    → All (λ (r : Run). r.lo <ℤ r.hi) runs → IsLegal solids via s (walk_along runs) e → IsLegalAlong solids via s runs e
from_walk solids via s runs e edge are hs he many long legal = legal_along solids via s runs e edge are hs he (omega arith) (each_has_steps runs long) legal many
