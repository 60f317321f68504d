-- A run of a legal walk that is beside no side and holds no checkpoint, moved by one step.
use Rattle.std.proofs.Common.{◌≡◌, ◌+◌, ◌≤◌, List, [], ◌∷◌, ◌++◌, length, take, drop, replicate, All, Any, refl, sym, ap, subst, ◌∙◌, inl, inr, arith, append_assoc, length-append}
use Rattle.std.proofs.lemmas.List.{take_at, drop_at, take-append-drop, take-append-le, length-replicate}
use Rattle.plane_geom.specs.declared.point.Point.{Point}
use Rattle.plane_geom.specs.declared.point.Dir.{Dir}
use Rattle.plane_geom.specs.declared.rect.Solid.{Solid}
use Rattle.plane_geom.specs.Floor.{Holds}
use Rattle.plane_geom.specs.Point.{forward, opposite}
use Rattle.walk_model.specs.declared.task.Task.{Task}
use Rattle.walk_model.specs.Walk.{after}
use Rattle.walk_model.specs.Choice.{IsChoice}
use Rattle.walk_model.specs.Legal.{IsTask}
use Rattle.walk_model.specs.Order.{Triple, IsLegalTriple, triple_cost}
use Rattle.walk_model.proofs.CornerByCorner.Scan.{after-append, forward-forward}
use Rattle.walk_laws.specs.Lines.{run_line}
use Rattle.walk_laws.specs.Sides.{SharesSideTo}
use Rattle.walk_laws.specs.Shifts.{InnerRun, HasInnerRun, IsFreeTo, JoinsOrLeans, cut_short, line_of_run, moved_back, moved_on, with_steps}
use Rattle.walk_laws.proofs.Steps.Clear.{clear_front}
use Rattle.walk_laws.proofs.Steps.Shift.{between, sooner, later}
use Rattle.walk_laws.proofs.Replacing.Tours.{IsTour, stub, stub_back, tour_from_legal}
use Rattle.walk_laws.proofs.Replacing.Parts.{IsPart, straight_cost, straight_legal, sooner_cost, sooner_legal, sooner_order, later_cost, later_legal, later_order}
use Rattle.walk_laws.proofs.Replacing.Legs.{part_begin}
use Rattle.walk_laws.proofs.Replacing.InnerRuns.{IsAlone, cut_clear, sooner_clear, later_clear, detour_ends}
use Rattle.walk_laws.proofs.Replacing.HeldRuns.{run_part}
use Rattle.walk_laws.proofs.OnKeptLines.Lines.{chosen_start, chosen_end}
use Rattle.walk_laws.proofs.OnKeptLines.Numbers.{cut_at, cut_walk, place_of, left_of, rest_of}

none_of_all : {X : Type 0} (P : X → Type 0) (xs : List X) → All (λ x. P x → ⊥) xs → Any P xs → ⊥
none_of_all P xs none (k, x, inside, is, holds) = none k x inside (subst P (sym is) holds)

module _ (solids : List Solid) (task : Task) (t : Triple) (r : InnerRun) (h : HasInnerRun solids task t r) where
  abbrev run : List Dir
  run = replicate r.long r.along

  abbrev part : List Dir
  part = r.before ∷ (run ++ r.behind ∷ [])

  abbrev q : Point
  q = after t.walk.start r.front

  -- where the run begins
  begins : after t.walk.start (r.front ++ r.before ∷ []) ≡ forward r.before 1 q
  begins = after-append t.walk.start r.front (r.before ∷ [])

  goes : t.walk.steps ≡ r.front ++ (part ++ r.back)
  goes = h.steps ∙ ap (λ ds. r.front ++ r.before ∷ ds) (sym (append_assoc run (r.behind ∷ []) r.back))

  long : length part ≡ r.long + 2
  long = omega (arith, length-append run (r.behind ∷ []), length-replicate r.long r.along)

  module _ (is_task : IsTask task) (middle : List Dir) (tour : IsTour solids task.via h.legal.start t.walk h.legal.end middle) where
    hs : IsChoice h.legal.start
    hs = chosen_start solids task t is_task h.legal

    he : IsChoice h.legal.end
    he = chosen_end solids task t is_task h.legal

    -- the run and the steps beside it may be replaced
    part_of_cut : (xs rest : List Dir) → middle ≡ xs ++ rest → length r.front ≡ length (stub h.legal.start ++ xs) → length part ≤ length rest → rest ++ stub_back h.legal.end ≡ part ++ r.back →
        All (λ c. Holds (line_of_run t r) c → ⊥) task.via → IsPart solids task t r.front part r.back
    part_of_cut xs rest cut place enough same free =
        let ys = drop (length part) rest in
        let whole = cut_walk solids task t is_task h.legal middle tour xs rest cut in
        let front : r.front ≡ stub h.legal.start ++ xs =
        sym (take_at r.front (part ++ r.back) (length r.front) refl) ∙ ap (take (length r.front)) (sym goes ∙ whole) ∙ take_at (stub h.legal.start ++ xs) (rest ++ stub_back h.legal.end) (length r.front) (sym place) in
        let parts : rest ≡ part ++ ys =
        sym (take-append-drop (length part) rest)
        ∙ ap (λ ds. ds ++ ys) (sym (take-append-le (length part) rest (stub_back h.legal.end) enough) ∙ ap (take (length part)) same ∙ take_at part r.back (length part) refl) in
        let back : r.back ≡ ys ++ stub_back h.legal.end =
        sym (drop_at part r.back (length part) refl)
        ∙ ap (drop (length part)) (sym same ∙ ap (λ ds. ds ++ stub_back h.legal.end) parts ∙ append_assoc part ys (stub_back h.legal.end)) ∙ drop_at part (ys ++ stub_back h.legal.end) (length part) refl in
        let is_cut : middle ≡ xs ++ r.before ∷ (run ++ r.behind ∷ ys) = cut ∙ ap (λ ds. xs ++ ds) parts ∙ ap (λ ds. xs ++ r.before ∷ ds) (append_assoc run (r.behind ∷ []) ys) in
        let here : after h.legal.start.port (xs ++ r.before ∷ []) ≡ after t.walk.start (r.front ++ r.before ∷ []) =
        after-append h.legal.start.port xs (r.before ∷ []) ∙ ap (forward r.before 1) (sym (part_begin solids task t h.legal hs he middle tour xs) ∙ ap (after t.walk.start) (sym front)) ∙ sym begins in
        elim (run_part solids task t h.legal hs he middle tour xs r.before r.along r.long r.behind ys is_cut) as (λ _. IsPart solids task t r.front part r.back) [
          | inl is_part ↦ subst (λ ds. IsPart solids task t ds part r.back) (sym front) (subst (IsPart solids task t (stub h.legal.start ++ xs) part) (sym back) is_part)
          | inr holds ↦ absurd (none_of_all (Holds (line_of_run t r)) task.via free (subst (λ p. Any (Holds (run_line p r.along r.long)) task.via) here holds))
        ]

    run_is_part : All (λ c. Holds (line_of_run t r) c → ⊥) task.via → IsPart solids task t r.front part r.back
    run_is_part free =
        let c = cut_at solids task t is_task h.legal middle tour (length r.front) h.begins (omega (arith, h.ends)) in
        part_of_cut c.front c.behind c.cut (c.number ∙ sym (place_of solids task t is_task h.legal middle tour c.front))
        (omega (arith, long, h.ends, left_of solids task t is_task h.legal middle tour c.front c.behind (length r.front) c.cut c.number))
        (sym (rest_of solids task t is_task h.legal middle tour c.front c.behind (length r.front) c.cut c.number) ∙ ap (drop (length r.front)) goes ∙ drop_at r.front (part ++ r.back) (length r.front) refl)
        free

  loose_part : IsTask task → (side : Dir) → IsFreeTo solids task.via side (line_of_run t r) → IsPart solids task t r.front part r.back
  loose_part is_task side free =
      let tour = tour_from_legal solids task.via h.legal.start t.walk h.legal.end (chosen_start solids task t is_task h.legal) (chosen_end solids task t is_task h.legal) h.legal.legal in
      run_is_part is_task tour.0 tour.1 free.checkpoints

  alone : (side : Dir) → IsFreeTo solids task.via side (line_of_run t r) → IsPart solids task t r.front part r.back → IsAlone solids side (forward r.before 1 q) r.along r.long
  alone side free is_part = record {
    clear = clear_front solids _ (forward r.before 1 q) run (r.behind ∷ []) is_part.clear.1;
    apart = subst (λ p. All (λ s. SharesSideTo side (run_line p r.along r.long) s.rect → ⊥) solids) begins free.sides;
  }

  -- a run between two equal steps
  module _ (e : r.behind ≡ r.before) where
    is_between : t.walk.steps ≡ between r.front r.back r.before r.along r.long
    is_between = h.steps ∙ ap (λ (v : Dir). r.front ++ (r.before ∷ (run ++ (v ∷ r.back)))) e

    is_sooner : sooner r.front r.back r.before r.along r.long ≡ moved_back r
    is_sooner = ap (λ (v : Dir). r.front ++ (run ++ (r.before ∷ v ∷ r.back))) (sym e)

    is_later : later r.front r.back r.before r.along r.long ≡ moved_on r
    is_later = ap (λ (v : Dir). r.front ++ (r.before ∷ v ∷ (run ++ r.back))) (sym e)

    equal_part : IsPart solids task t r.front part r.back → IsPart solids task t r.front (r.before ∷ (run ++ (r.before ∷ []))) r.back
    equal_part is_part = subst (λ (v : Dir). IsPart solids task t r.front (r.before ∷ (run ++ (v ∷ []))) r.back) e is_part

    pub back_legal : IsTask task → IsFreeTo solids task.via (opposite r.before) (line_of_run t r) → IsLegalTriple solids task (with_steps t (moved_back r))
    back_legal is_task free =
        let is_part = loose_part is_task (opposite r.before) free in
        let same = equal_part is_part in
        subst (λ ds. IsLegalTriple solids task (with_steps t ds)) is_sooner (sooner_legal solids task t r.front r.back r.before r.along r.long same
        (sooner_clear solids q r.before r.along r.long h.turns (alone (opposite r.before) free is_part) h.some same.clear.1))

    pub on_legal : IsTask task → IsFreeTo solids task.via r.before (line_of_run t r) → IsLegalTriple solids task (with_steps t (moved_on r))
    on_legal is_task free =
        let is_part = loose_part is_task r.before free in
        subst (λ ds. IsLegalTriple solids task (with_steps t ds)) is_later (later_legal solids task t r.front r.back r.before r.along r.long (equal_part is_part)
        (later_clear solids q r.before r.along r.long h.turns h.some (alone r.before free is_part) is_part.clear.0))

    pub back_cost : triple_cost task (with_steps t (moved_back r)) ≤ triple_cost task t
    back_cost = subst (λ ds. triple_cost task (with_steps t ds) ≤ triple_cost task t) is_sooner (sooner_cost task t r.front r.back r.before r.along r.long h.turns h.some is_between)

    pub on_cost : triple_cost task (with_steps t (moved_on r)) ≤ triple_cost task t
    on_cost = subst (λ ds. triple_cost task (with_steps t ds) ≤ triple_cost task t) is_later (later_cost task t r.front r.back r.before r.along r.long h.turns h.some is_between)

    pub back_order : JoinsOrLeans t r.along (moved_back r) (after t.walk.start (r.front ++ r.before ∷ [])) (after t.walk.start r.front)
    back_order = subst (λ p. JoinsOrLeans t r.along (moved_back r) p q) (sym begins) (subst (λ ds. JoinsOrLeans t r.along ds (forward r.before 1 q) q) is_sooner
        (sooner_order task t r.front r.back r.before r.along r.long h.turns h.some is_between))

    pub on_order : JoinsOrLeans t r.along (moved_on r) (after t.walk.start (r.front ++ r.before ∷ [])) (forward r.before 1 (after t.walk.start (r.front ++ r.before ∷ [])))
    on_order = subst (λ p. JoinsOrLeans t r.along (moved_on r) p (forward r.before 1 p)) (sym begins) (subst (JoinsOrLeans t r.along (moved_on r) (forward r.before 1 q)) (sym (forward-forward r.before 1 1 q))
        (subst (λ ds. JoinsOrLeans t r.along ds (forward r.before 1 q) (forward r.before 2 q)) is_later
        (later_order task t r.front r.back r.before r.along r.long h.turns h.some is_between)))

  -- a run between two opposite steps
  module _ (e : r.behind ≡ opposite r.before) where
    leads : after q part ≡ forward r.along r.long q
    leads = ap (λ (v : Dir). after q (r.before ∷ (run ++ (v ∷ [])))) e ∙ detour_ends q r.before r.along r.long

    pub cut_legal : IsTask task → IsFreeTo solids task.via (opposite r.before) (line_of_run t r) → IsLegalTriple solids task (with_steps t (cut_short r))
    cut_legal is_task free =
        let is_part = loose_part is_task (opposite r.before) free in
        straight_legal solids task t r.front part r.back r.along r.long is_part leads (cut_clear solids q r.before r.along r.long h.turns (alone (opposite r.before) free is_part))

    pub cut_cost : triple_cost task (with_steps t (cut_short r)) + 2 ≤ triple_cost task t
    cut_cost = omega (arith, long, straight_cost task t r.front part r.back r.along r.long goes leads)
