-- What is legal along its runs is a legal walk.
use Rattle.std.proofs.Common.{◌≡◌, ℕ, suc, zero, ◌+◌, ◌-◌, ◌<◌, ◌≤◌, ℤ, pos, ◌+ℤ◌, ◌-ℤ◌, Option, Some, None, List, [], ◌∷◌, length, take, drop, get_or, replicate, inl, inr, refl, sym, ap, subst, ◌∙◌, arith, length-drop, unsigned_abs}
use Rattle.std.proofs.lemmas.Bool.{cases_lt}
use Rattle.std.proofs.lemmas.Int.{ints}
use Rattle.std.proofs.lemmas.List.{get_or-take, get_or-drop, take_all, length-take-le}
use Rattle.plane_geom.specs.declared.point.Point.{Point}
use Rattle.plane_geom.specs.declared.point.Dir.{Dir}
use Rattle.plane_geom.specs.declared.point.Dir.TheVariants.{East, South, West, North}
use Rattle.plane_geom.specs.declared.rect.Rect.{Rect}
use Rattle.plane_geom.specs.declared.rect.Solid.{Solid}
use Rattle.plane_geom.specs.Along.{reach}
use Rattle.plane_geom.specs.Point.{forward, opposite}
use Rattle.plane_geom.specs.Rect.{Meets, StepMeets}
use Rattle.plane_geom.proofs.Steps.{from_step}
use Rattle.segment_order.specs.declared.run.Run.{Run}
use Rattle.segment_order.specs.Run.{AreRunsOf, IsRun, run_at, start_of_run, end_of_run}
use Rattle.walk_model.specs.declared.task.Choice.{Choice}
use Rattle.walk_model.specs.Walk.{Walk, after, point_at, step_at}
use Rattle.walk_model.specs.Walk.{end_of as walk_end}
use Rattle.walk_model.specs.Choice.{IsChoice, stub_length}
use Rattle.walk_model.specs.Legal.{IsLegal, IsFree, Passes}
use Rattle.walk_model.proofs.CornerByCorner.Scan.{forward-zero, forward-forward}
use Rattle.walk_laws.proofs.Steps.Clear.{IsClearStep}
use Rattle.walk_laws.proofs.Steps.Clear.{IsClear as StepsAreClear}
use Rattle.walk_laws.proofs.Replacing.Tours.{stub, stub_back}
use Rattle.nudge_phases.specs.LegalRuns.{steps_of_run, walk_along, Station, IsNotAfter, PassesOn, IsLegalAlong}
use Rattle.nudge_phases.proofs.AlongRuns.StepsAlong.{IsAhead, on_run, steps_until, steps_whole, run_leads, Follow, follow, before, step_on, stands_on, step_of, before_grows, all_before, all_equal}
use Rattle.nudge_phases.proofs.AlongRuns.Ends.{end_held}

-- n steps on are n further
pub reach_forward : (d : Dir) (n : ℕ) (p : Point) → reach d (forward d n p) ≡ reach d p +ℤ pos n
reach_forward East n p = omega (arith, ints)
reach_forward South n p = omega (arith, ints)
reach_forward West n p = omega (arith, ints)
reach_forward North n p = omega (arith, ints)

reach_back : (d : Dir) (n : ℕ) (p : Point) → reach (opposite d) (forward d n p) ≡ reach (opposite d) p -ℤ pos n
reach_back East n p = omega (arith, ints)
reach_back South n p = omega (arith, ints)
reach_back West n p = omega (arith, ints)
reach_back North n p = omega (arith, ints)

pub before_zero : (runs : List Run) → before runs 0 ≡ 0
before_zero [] = refl
before_zero (r ∷ rest) = refl

-- each step of a clear stretch
clear_step : (solids : List Solid) (may : Option ℤ) (p : Point) (d : Dir) (n k : ℕ) → StepsAreClear solids may p (replicate n d) → k < n → IsClearStep solids may (forward d k p) d
clear_step solids may p d zero k c h = absurd (omega arith)
clear_step solids may p d (suc n) zero c h = subst (λ (q : Point). IsClearStep solids may q d) (sym (forward-zero d p)) c.0
clear_step solids may p d (suc n) (suc k) c h =
    subst (λ (q : Point). IsClearStep solids may q d) (forward-forward d k 1 p ∙ ap (λ i. forward d i p) (omega arith)) (clear_step solids may (forward d 1 p) d n k c.1 (omega arith))

module _ (solids : List Solid) (via : List Point) (s : Choice) (runs : List Run) (e : Choice) (edge : ℕ) (are : AreRunsOf edge runs) (hs : IsChoice s) (he : IsChoice e) (legal : IsLegalAlong solids via s runs e) where
  abbrev walk : Walk
  walk = walk_along runs

  abbrev size : ℕ
  size = length walk.steps

  abbrev last : ℕ
  last = length runs - 1

  abbrev first_run : Run
  first_run = run_at runs 0

  abbrev last_run : Run
  last_run = run_at runs last

  first_is : IsRun first_run
  first_is = are.each 0 (omega (arith, legal.some))

  last_in : last < length runs
  last_in = omega (arith, legal.some)

  last_is : IsRun last_run
  last_is = are.each last last_in

  they_follow : Follow walk.start runs
  they_follow = follow walk.start runs are.each are.joined (λ h. refl)

  -- the stubs are the ends of the first and of the last run
  first_ahead : IsAhead first_run.heading (start_of_run first_run) s.port (steps_of_run first_run)
  first_ahead = on_run first_run s.port first_is legal.source_port

  first_stub : steps_until first_run s.port ≡ stub_length s
  first_stub =
      ap (λ d. unsigned_abs (reach d s.port -ℤ reach d (start_of_run first_run))) legal.leaves
      ∙ ap (λ (p : Point). unsigned_abs (reach s.dir s.port -ℤ reach s.dir p)) legal.begins
      ∙ ap (λ (p : Point). unsigned_abs (reach s.dir p -ℤ reach s.dir s.pin)) hs.straight
      ∙ (let far = reach_forward s.dir (stub_length s) s.pin in omega (arith, ints, far))

  stub_in_first : stub_length s ≤ steps_of_run first_run
  stub_in_first = omega (arith, first_stub, first_ahead.within)

  last_ahead : IsAhead last_run.heading (start_of_run last_run) e.port (steps_of_run last_run)
  last_ahead = on_run last_run e.port last_is legal.target_port

  last_stub : steps_until last_run e.port + stub_length e ≡ steps_of_run last_run
  last_stub =
      let d = last_run.heading in
      let all = on_run last_run (end_of_run last_run) last_is (end_held d last_run last_is) in
      let whole = steps_whole last_run last_is in
      let port : reach d e.port ≡ reach d (end_of_run last_run) -ℤ pos (stub_length e) =
      ap (λ x. reach x e.port) legal.arrives ∙ ap (reach (opposite e.dir)) he.straight ∙ reach_back e.dir (stub_length e) e.pin
      ∙ ap (λ (p : Point). reach (opposite e.dir) p -ℤ pos (stub_length e)) (sym legal.ends) ∙ ap (λ x. reach x (end_of_run last_run) -ℤ pos (stub_length e)) (sym legal.arrives) in
      omega (arith, ints, port, all.difference, whole, last_ahead.difference)

  total : size ≡ before runs last + steps_of_run last_run
  total = all_before runs last (omega (arith, legal.some))

  up_to_last : size - stub_length e ≡ before runs last + steps_until last_run e.port
  up_to_last = omega (arith, total, last_stub)

  first_before_last : steps_of_run first_run ≤ before runs last
  first_before_last = omega (arith, before_grows runs 0 last (omega (arith, legal.some)) last_in, before_zero runs)

  -- points and steps by their runs
  point_on_run : (j i k : ℕ) → j < length runs → i ≤ steps_of_run (run_at runs j) → k ≡ before runs j + i → point_at walk k ≡ forward (run_at runs j).heading i (start_of_run (run_at runs j))
  point_on_run j i k h g e = ap (point_at walk) e ∙ stands_on walk.start runs j i they_follow h g

  step_on_run : (j i k : ℕ) → j < length runs → i < steps_of_run (run_at runs j) → k ≡ before runs j + i → step_at walk k ≡ (run_at runs j).heading
  step_on_run j i k h g e = ap (step_at walk) e ∙ step_of runs j i h g

  in_first : (k : ℕ) → k ≤ stub_length s → point_at walk k ≡ forward s.dir k s.pin
  in_first k h =
      point_on_run 0 k k (omega (arith, legal.some)) (omega (arith, stub_in_first)) (omega (arith, before_zero runs))
      ∙ ap (λ d. forward d k (start_of_run first_run)) legal.leaves ∙ ap (forward s.dir k) legal.begins

  step_in_first : (k : ℕ) → k < stub_length s → step_at walk k ≡ s.dir
  step_in_first k h = step_on_run 0 k k (omega (arith, legal.some)) (omega (arith, stub_in_first)) (omega (arith, before_zero runs)) ∙ legal.leaves

  in_last : (i k : ℕ) → i ≤ stub_length e → k ≡ size - stub_length e + i → point_at walk k ≡ forward (opposite e.dir) i e.port
  in_last i k h f =
      let until = steps_until last_run e.port in
      point_on_run last (until + i) k last_in (omega (arith, last_stub)) (omega (arith, f, up_to_last))
      ∙ sym (forward-forward last_run.heading i until (start_of_run last_run)) ∙ ap (forward last_run.heading i) last_ahead.there ∙ ap (λ d. forward d i e.port) legal.arrives

  step_in_last : (i k : ℕ) → i < stub_length e → k ≡ size - stub_length e + i → step_at walk k ≡ opposite e.dir
  step_in_last i k h f =
      let until = steps_until last_run e.port in
      step_on_run last (until + i) k last_in (omega (arith, last_stub)) (omega (arith, f, up_to_last)) ∙ legal.arrives

  fits : stub_length s + stub_length e ≤ size
  fits = omega (arith, stub_in_first, first_before_last, total, last_stub)

  first_steps : take (stub_length s) walk.steps ≡ replicate (stub_length s) s.dir
  first_steps = all_equal (take (stub_length s) walk.steps) s.dir (stub_length s) (length-take-le (stub_length s) walk.steps (omega (arith, fits)))
      (λ k h. get_or-take (stub_length s) walk.steps k East h ∙ step_in_first k h)

  last_steps : drop (size - stub_length e) walk.steps ≡ replicate (stub_length e) (opposite e.dir)
  last_steps = all_equal (drop (size - stub_length e) walk.steps) (opposite e.dir) (stub_length e) (omega (arith, length-drop (size - stub_length e) walk.steps, fits))
      (λ k h. get_or-drop (size - stub_length e) walk.steps k East ∙ step_in_last k (size - stub_length e + k) h refl)

  ends_there : walk_end walk ≡ e.pin
  ends_there =
      ap (after walk.start) (sym (take_all size walk.steps (omega arith)))
      ∙ point_on_run last (steps_of_run last_run) size last_in (omega arith) total ∙ run_leads last_run last_is ∙ legal.ends

  -- between the ports
  meets_as : (rect : Rect) (k : ℕ) (p : Point) (d : Dir) → point_at walk k ≡ p → step_at walk k ≡ d → StepMeets rect (point_at walk k) (step_at walk k) → StepMeets rect p d
  meets_as rect k p d f g m = subst (λ (q : Point). StepMeets rect q d) f (subst (StepMeets rect (point_at walk k)) g m)

  clear_between : IsFree solids None walk (stub_length s) (size - stub_length e)
  clear_between k low high n x inside differs meets =
      let rect = (get_or solids n x).rect in
      let on = step_on runs k (omega arith) in
      let j = on.run in
      let i = on.offset in
      let r = run_at runs j in
      let d = r.heading in
      let is = are.each j on.in_list in
      let m : StepMeets rect (forward d i (start_of_run r)) d = meets_as rect k (forward d i (start_of_run r)) d
      (point_on_run j i k on.in_list (omega (arith, on.on_it)) on.number) (step_on_run j i k on.in_list on.on_it on.number) meets in
      elim (cases_lt 0 j) as (λ _. ⊥) [
        | inl later ↦ (elim (cases_lt (j + 1) (length runs)) as (λ _. ⊥) [
          | inl inner ↦ legal.between j later inner n x inside
              (subst (Meets rect (start_of_run r)) (run_leads r is) (from_step rect (start_of_run r) d (steps_of_run r) (i, on.on_it, m)))
          | inr at_last ↦ (let same : j ≡ last = omega (arith, on.in_list) in
              let until = steps_until last_run e.port in
              let within : i < until = omega (arith, on.number, up_to_last, ap (before runs) same) in
              let q : StepMeets rect (forward last_run.heading i (start_of_run last_run)) last_run.heading = subst (λ t. StepMeets rect (forward (run_at runs t).heading i (start_of_run (run_at runs t))) (run_at runs t).heading) same m in
              legal.to_port n x inside
              (subst (Meets rect (start_of_run last_run)) last_ahead.there (from_step rect (start_of_run last_run) last_run.heading until (i, within, q))))
        ])
        | inr none ↦ (let same : j ≡ 0 = omega arith in
            let a = steps_until first_run s.port in
            let h = first_run.heading in
            let steps = steps_of_run first_run in
            let passed : a ≤ i = omega (arith, on.number, first_stub, ap (before runs) same, before_zero runs) in
            let short : i < steps = omega (arith, on.on_it, ap (λ t. steps_of_run (run_at runs t)) same) in
            let q : StepMeets rect (forward h i (start_of_run first_run)) h = subst (λ t. StepMeets rect (forward (run_at runs t).heading i (start_of_run (run_at runs t))) (run_at runs t).heading) same m in
            let from_there : (t : ℕ) → a ≤ t → forward h t (start_of_run first_run) ≡ forward h (t - a) s.port = λ t g.
            ap (λ u. forward h u (start_of_run first_run)) (omega arith) ∙ sym (forward-forward h (t - a) a (start_of_run first_run)) ∙ ap (forward h (t - a)) first_ahead.there in
            legal.from_port n x inside
            (subst (Meets rect s.port) (sym (from_there steps (omega arith)) ∙ run_leads first_run first_is)
            (from_step rect s.port h (steps - a) (i - a, omega arith, subst (λ (p : Point). StepMeets rect p h) (from_there i passed) q))))
      ]

  -- the number of the walk's point at a place on the route
  record IsNumberOf (at : Station) (number : ℕ) : Type 0 where
    in_list : at.run < length runs
    steps : ℕ
    count : pos steps ≡ at.reach -ℤ reach (run_at runs at.run).heading (start_of_run (run_at runs at.run))
    within : steps ≤ steps_of_run (run_at runs at.run)
    number_is : number ≡ before runs at.run + steps

  numbers_rise : (p q : Station) (m n : ℕ) → IsNumberOf p m → IsNumberOf q n → IsNotAfter p q → m ≤ n
  numbers_rise p q m n f g (inl earlier) = omega (arith, f.number_is, g.number_is, f.within, before_grows runs p.run q.run earlier g.in_list)
  numbers_rise p q m n f g (inr same) =
      let begin = ap (λ t. reach (run_at runs t).heading (start_of_run (run_at runs t))) same.0 in
      let steps : f.steps ≤ g.steps = omega (arith, ints, f.count, g.count, same.1, begin) in
      omega (arith, f.number_is, g.number_is, ap (before runs) same.0, steps)

  passes_them : (cs : List Point) (from to : Station) (m n : ℕ) → IsNumberOf from m → IsNumberOf to n → PassesOn runs from to cs → Passes walk m n cs
  passes_them [] from to m n f t p = tt
  passes_them (c ∷ cs) from to m n f t p =
      let at = p.0 in
      let r = run_at runs at.run in
      let on = on_run r c (are.each at.run p.1) p.4 in
      let number = before runs at.run + steps_until r c in
      let is : IsNumberOf at number = record { in_list = p.1; steps = steps_until r c; count = omega (arith, ints, on.difference, p.5); within = on.within; number_is = refl } in (
        number,
        numbers_rise from at m number f is p.2,
        numbers_rise at to number n is t p.3,
        point_on_run at.run (steps_until r c) number p.1 on.within refl ∙ on.there,
        passes_them cs at to number n is t p.6,
      )

  all_passed : Passes walk (stub_length s) (size - stub_length e) via
  all_passed = passes_them via _ _ (stub_length s) (size - stub_length e)
      (record {
        in_list = omega (arith, legal.some);
        steps = stub_length s;
        count = omega (arith, ints, first_stub, first_ahead.difference, ap (λ d. reach d s.port) legal.leaves);
        within = stub_in_first;
        number_is = omega (arith, before_zero runs);
      })
      (record {
        in_list = last_in;
        steps = steps_until last_run e.port;
        count = omega (arith, ints, last_ahead.difference, ap (λ d. reach d e.port) legal.arrives);
        within = last_ahead.within;
        number_is = up_to_last;
      })
      legal.passes

  -- the walk along the runs is legal, if its stubs are free of the solids of other nodes
  pub legal_by_stubs : IsFree solids (Some s.node) walk 0 (stub_length s) → IsFree solids (Some e.node) walk (size - stub_length e) size → IsLegal solids via s walk e
  legal_by_stubs start_free end_free = record {
    leaves = record { pin = legal.begins; stub = first_steps };
    arrives = record { pin = ends_there; stub = last_steps };
    stubs_fit = fits;
    start_stub = start_free;
    between = clear_between;
    end_stub = end_free;
    checkpoints = all_passed;
  }

  -- whether the stubs are free does not depend on the runs
  pub legal_walk : StepsAreClear solids (Some s.node) s.pin (stub s) → StepsAreClear solids (Some e.node) e.port (stub_back e) → IsLegal solids via s walk e
  legal_walk start_free end_free =
      legal_by_stubs
      (λ k low high.
      subst (IsClearStep solids (Some s.node) (point_at walk k)) (sym (step_in_first k high))
      (subst (λ (p : Point). IsClearStep solids (Some s.node) p s.dir) (sym (in_first k (omega arith))) (clear_step solids (Some s.node) s.pin s.dir (stub_length s) k start_free high)))
      (λ k low high.
      let i = k - (size - stub_length e) in
      let is : k ≡ size - stub_length e + i = omega arith in
      let fewer : i < stub_length e = omega (arith, fits) in
      subst (IsClearStep solids (Some e.node) (point_at walk k)) (sym (step_in_last i k fewer is))
      (subst (λ (p : Point). IsClearStep solids (Some e.node) p (opposite e.dir)) (sym (in_last i k (omega arith) is)) (clear_step solids (Some e.node) e.port (opposite e.dir) (stub_length e) i end_free fewer)))
