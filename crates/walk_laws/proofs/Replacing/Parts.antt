-- Parts of a walk that other clear steps may replace, and what a first walk makes of them.
use Rattle.std.proofs.Common.{◌≡◌, ℕ, ◌+◌, ◌*◌, ◌<◌, ◌≤◌, ◌<ℤ◌, None, Some, List, [], ◌∷◌, ◌++◌, length, replicate, sym, ap, subst, ◌∙◌, inl, inr, arith, append_assoc, length-append}
use Rattle.std.proofs.lemmas.Bool.{cases_lt}
use Rattle.std.proofs.lemmas.Int.{ints}
use Rattle.std.proofs.lemmas.List.{length-replicate}
use Rattle.std.proofs.lemmas.Nat.{mul-le}
use Rattle.plane_geom.specs.declared.point.Dir.{Dir}
use Rattle.plane_geom.specs.declared.point.Point.{Point}
use Rattle.plane_geom.specs.Along.{across, way_of}
use Rattle.plane_geom.specs.declared.rect.Solid.{Solid}
use Rattle.plane_geom.specs.Point.{forward}
use Rattle.walk_model.specs.declared.task.Task.{Task}
use Rattle.walk_model.specs.Walk.{after}
use Rattle.walk_model.specs.Cost.{turn, bends, runs}
use Rattle.walk_model.specs.Lean.{lean}
use Rattle.walk_model.specs.Order.{Triple, IsLegalTriple, IsFirst, triple_cost}
use Rattle.walk_model.proofs.CornerByCorner.Scan.{after-append, after-replicate, forward-forward}
use Rattle.walk_laws.specs.Shifts.{JoinsOrLeans, with_steps}
use Rattle.walk_laws.proofs.Steps.Clear.{IsClear, clear-append, clear_front, clear_back}
use Rattle.walk_laws.proofs.Replacing.Least.{first_no_worse}
use Rattle.walk_laws.proofs.Steps.Fronts.{Leave, leave}
use Rattle.walk_laws.proofs.Steps.Straight.{straight_bends, straight_only}
use Rattle.walk_laws.proofs.Steps.Shift.{between, sooner, later, runs_sooner, runs_later, lean_between, lean_sooner, lean_between_begun, lean_later, before_same, behind_same, sooner_bends, later_bends, exchange}

-- a part of the walk that any other clear steps between the same two points may replace
pub record IsPart (solids : List Solid) (task : Task) (t : Triple) (front part back : List Dir) : Type 0 where
  pub steps : t.walk.steps ≡ front ++ (part ++ back)
  pub clear : IsClear solids None (after t.walk.start front) part
  pub swap : (other : List Dir) → after (after t.walk.start front) other ≡ after (after t.walk.start front) part →
      IsClear solids None (after t.walk.start front) other → IsLegalTriple solids task (with_steps t (front ++ (other ++ back)))

three : (xs ys zs back : List Dir) → (xs ++ (ys ++ zs)) ++ back ≡ xs ++ (ys ++ (zs ++ back))
three xs ys zs back = append_assoc xs (ys ++ zs) back ∙ ap (λ ds. xs ++ ds) (append_assoc ys zs back)

-- a part of a part is one
pub part_of_part : (solids : List Solid) (task : Task) (t : Triple) (front xs ys zs back : List Dir) → IsPart solids task t front (xs ++ (ys ++ zs)) back → IsPart solids task t (front ++ xs) ys (zs ++ back)
part_of_part solids task t front xs ys zs back h =
    let p = t.walk.start in
    let q = after p front in
    let there : after p (front ++ xs) ≡ after q xs = after-append p front xs in
    let behind : IsClear solids None (after q xs) (ys ++ zs) = clear_back solids None q xs (ys ++ zs) h.clear in
    let around : (other : List Dir) → front ++ ((xs ++ (other ++ zs)) ++ back) ≡ (front ++ xs) ++ (other ++ (zs ++ back)) =
    λ other. ap (λ ds. front ++ ds) (three xs other zs back) ∙ sym (append_assoc front xs (other ++ (zs ++ back))) in
    record {
      steps = h.steps ∙ around ys;
      clear = subst (λ x. IsClear solids None x ys) (sym there) (clear_front solids None (after q xs) ys zs behind);
      swap = λ other e c.
          let e' : after (after q xs) other ≡ after (after q xs) ys = ap (λ x. after x other) (sym there) ∙ e ∙ ap (λ x. after x ys) there in
          let c' : IsClear solids None (after q xs) other = subst (λ x. IsClear solids None x other) there c in
          let tail : IsClear solids None (after (after q xs) other) zs =
          subst (λ x. IsClear solids None x zs) (sym e') (clear_back solids None (after q xs) ys zs behind) in
          let all : IsClear solids None q (xs ++ (other ++ zs)) =
          clear-append solids None q xs (other ++ zs) (clear_front solids None q xs (ys ++ zs) h.clear) (clear-append solids None (after q xs) other zs c' tail) in
          let ends : after q (xs ++ (other ++ zs)) ≡ after q (xs ++ (ys ++ zs)) =
          after-append q xs (other ++ zs) ∙ after-append (after q xs) other zs ∙ ap (λ x. after x zs) e' ∙ sym (after-append (after q xs) ys zs) ∙ sym (after-append q xs (ys ++ zs)) in
          subst (λ ds. IsLegalTriple solids task (with_steps t ds)) (around other) (h.swap (xs ++ (other ++ zs)) ends all);
    }

-- the straight way between the two ends of a part costs less by the steps that it saves
pub straight_cost : (task : Task) (t : Triple) (front part back : List Dir) (d : Dir) (m : ℕ) → t.walk.steps ≡ front ++ (part ++ back) →
    after (after t.walk.start front) part ≡ forward d m (after t.walk.start front) → triple_cost task (with_steps t (front ++ (replicate m d ++ back))) + length part ≤ triple_cost task t + m
straight_cost task t front part back d m e there =
    let fewer = mul-le task.penalty (bends (front ++ (replicate m d ++ back))) task.penalty (bends (front ++ (part ++ back))) (omega arith) (straight_bends front back part d m (after t.walk.start front) there) in
    omega (
      arith,
      fewer,
      ap length e,
      ap bends e,
      ap (λ (b : ℕ). task.penalty * b) (ap bends e),
      length-append front (part ++ back),
      length-append part back,
      length-append front (replicate m d ++ back),
      length-append (replicate m d) back,
      length-replicate m d,
    )

module _ (task : Task) (t : Triple) (front back : List Dir) (u d : Dir) (n : ℕ) (cross : turn u d ≡ 1) (some : 0 < n) (is_between : t.walk.steps ≡ between front back u d n) where
  long : length (between front back u d n) ≡ length front + (n + (2 + length back))
  long = omega (arith, length-append front (u ∷ (replicate n d ++ (u ∷ back))), length-append (replicate n d) (u ∷ back), length-replicate n d)

  same_bends : task.penalty * bends t.walk.steps ≡ task.penalty * bends (between front back u d n)
  same_bends = ap (λ ds. task.penalty * bends ds) is_between

  -- a run between two equal steps across it costs no more one step sooner, or later
  pub sooner_cost : triple_cost task (with_steps t (sooner front back u d n)) ≤ triple_cost task t
  sooner_cost =
      let long_one : length (sooner front back u d n) ≡ length front + (n + (2 + length back)) =
      omega (arith, length-append front (replicate n d ++ (u ∷ u ∷ back)), length-append (replicate n d) (u ∷ u ∷ back), length-replicate n d) in
      let bends_one = mul-le task.penalty (bends (sooner front back u d n)) task.penalty (bends (between front back u d n)) (omega arith) (sooner_bends front back u d n cross some) in
      omega (arith, long, long_one, bends_one, ap length is_between, same_bends)

  pub later_cost : triple_cost task (with_steps t (later front back u d n)) ≤ triple_cost task t
  later_cost =
      let long_two : length (later front back u d n) ≡ length front + (n + (2 + length back)) =
      omega (arith, length-append front (u ∷ u ∷ (replicate n d ++ back)), length-append (replicate n d) back, length-replicate n d) in
      let bends_two = mul-le task.penalty (bends (later front back u d n)) task.penalty (bends (between front back u d n)) (omega arith) (later_bends front back u d n cross some) in
      omega (arith, long, long_two, bends_two, ap length is_between, same_bends)

  -- it has fewer runs there, or as many, and leans by the step
  pub sooner_order : JoinsOrLeans t d (sooner front back u d n) (forward u 1 (after t.walk.start front)) (after t.walk.start front)
  sooner_order = elim (cases_lt (runs (sooner front back u d n)) (runs (between front back u d n))) as (λ _. JoinsOrLeans t d (sooner front back u d n) (forward u 1 (after t.walk.start front)) (after t.walk.start front)) [
    | inl fewer ↦ inl (omega (arith, fewer, ap runs is_between))
    | inr as_many ↦ (
        let l = leave front in
        let leaves : Leave front (Some u) = subst (Leave front) (before_same front back u d n cross some l.0 l.1 as_many) l.1 in
        inr (
          omega (arith, runs_sooner front back u d n t.walk.start cross some leaves, ap runs is_between),
          omega (arith, ints, ap (lean t.walk.start) is_between, lean_between front back u d n t.walk.start cross some leaves, lean_sooner front back u d n t.walk.start cross some leaves),
        ))
  ]

  pub later_order : JoinsOrLeans t d (later front back u d n) (forward u 1 (after t.walk.start front)) (forward u 2 (after t.walk.start front))
  later_order = elim (cases_lt (runs (later front back u d n)) (runs (between front back u d n))) as (λ _. JoinsOrLeans t d (later front back u d n) (forward u 1 (after t.walk.start front)) (forward u 2 (after t.walk.start front))) [
    | inl fewer ↦ inl (omega (arith, fewer, ap runs is_between))
    | inr as_many ↦ (
        let origin = t.walk.start in
        let on = behind_same front u d n origin cross some back as_many in
        let rest = on.0 in
        let at : after origin (front ++ u ∷ []) ≡ forward u 1 (after origin front) = after-append origin front (u ∷ []) in
        let further : forward u 1 (after origin (front ++ u ∷ [])) ≡ forward u 2 (after origin front) = ap (forward u 1) at ∙ forward-forward u 1 1 (after origin front) in
        let same_runs : runs (later front back u d n) ≡ runs (between front back u d n) =
        subst (λ (b : List Dir). runs (later front b u d n) ≡ runs (between front b u d n)) (sym on.1) (runs_later front u d n origin cross some rest) in
        inr (
          omega (arith, same_runs, ap runs is_between),
          omega (
            arith,
            ints,
            ap (lean origin) is_between,
            ap (λ (b : List Dir). lean origin (between front b u d n)) on.1,
            ap (λ (b : List Dir). lean origin (later front b u d n)) on.1,
            lean_between_begun front u d n origin cross some rest,
            lean_later front u d n origin cross some rest,
            ap (across (way_of d)) at,
            ap (across (way_of d)) further,
          ),
        ))
  ]

module _ (solids : List Solid) (task : Task) (t : Triple) where
  -- a part gives way to the straight way where that is clear
  pub straight_legal : (front part back : List Dir) (d : Dir) (m : ℕ) → IsPart solids task t front part back →
      after (after t.walk.start front) part ≡ forward d m (after t.walk.start front) → IsClear solids None (after t.walk.start front) (replicate m d) →
      IsLegalTriple solids task (with_steps t (front ++ (replicate m d ++ back)))
  straight_legal front part back d m h e c = h.swap (replicate m d) (after-replicate (after t.walk.start front) m d ∙ sym e) c

  -- a run between two equal steps across it
  module _ (front back : List Dir) (u d : Dir) (n : ℕ) (h : IsPart solids task t front (u ∷ (replicate n d ++ (u ∷ []))) back) where
    abbrev there_begun : Point
    there_begun = after t.walk.start front

    abbrev there_ended : Point
    there_ended = forward d n there_begun

    is_there : after there_begun (u ∷ (replicate n d ++ (u ∷ []))) ≡ forward u 2 there_ended
    is_there = after-append (forward u 1 there_begun) (replicate n d) (u ∷ []) ∙ ap (forward u 1) (after-replicate (forward u 1 there_begun) n d ∙ exchange d u n 1 there_begun) ∙ forward-forward u 1 1 there_ended

    pub is_between : t.walk.steps ≡ between front back u d n
    is_between = h.steps ∙ ap (λ ds. front ++ (u ∷ ds)) (append_assoc (replicate n d) (u ∷ []) back)

    -- it gives way to one a step sooner, or later, where that is clear
    pub sooner_legal : IsClear solids None there_begun (replicate n d ++ (u ∷ u ∷ [])) → IsLegalTriple solids task (with_steps t (sooner front back u d n))
    sooner_legal c =
        let there : after there_begun (replicate n d ++ (u ∷ u ∷ [])) ≡ forward u 2 there_ended =
        after-append there_begun (replicate n d) (u ∷ u ∷ []) ∙ ap (λ x. after x (u ∷ u ∷ [])) (after-replicate there_begun n d) ∙ forward-forward u 1 1 there_ended in
        let is_sooner : front ++ ((replicate n d ++ (u ∷ u ∷ [])) ++ back) ≡ sooner front back u d n = ap (λ ds. front ++ ds) (append_assoc (replicate n d) (u ∷ u ∷ []) back) in
        subst (λ ds. IsLegalTriple solids task (with_steps t ds)) is_sooner (h.swap (replicate n d ++ (u ∷ u ∷ [])) (there ∙ sym is_there) c)

    pub later_legal : IsClear solids None there_begun (u ∷ u ∷ replicate n d) → IsLegalTriple solids task (with_steps t (later front back u d n))
    later_legal c =
        let there : after there_begun (u ∷ u ∷ replicate n d) ≡ forward u 2 there_ended =
        after-replicate (forward u 1 (forward u 1 there_begun)) n d ∙ ap (forward d n) (forward-forward u 1 1 there_begun) ∙ exchange d u n 2 there_begun in
        h.swap (u ∷ u ∷ replicate n d) (there ∙ sym is_there) c

module _ (solids : List Solid) (task : Task) (t : Triple) (first : IsFirst solids task t) where
  -- a first walk goes straight between the two ends of a part where the straight way is clear
  pub straight_part : (front part back : List Dir) (d : Dir) (m : ℕ) → IsPart solids task t front part back →
      after (after t.walk.start front) part ≡ forward d m (after t.walk.start front) → IsClear solids None (after t.walk.start front) (replicate m d) → part ≡ replicate m d
  straight_part front part back d m h e c =
      let no_worse = first_no_worse solids task t (with_steps t (front ++ (replicate m d ++ back))) first (straight_legal solids task t front part back d m h e c) in
      straight_only part d m (after t.walk.start front) e (omega (arith, no_worse.cost, straight_cost task t front part back d m h.steps e))

  -- no walk that costs no more has fewer runs, or as many and leans less
  not_leaner : (d : Dir) (steps : List Dir) (here there : Point) → IsLegalTriple solids task (with_steps t steps) → triple_cost task (with_steps t steps) ≤ triple_cost task t →
      JoinsOrLeans t d steps here there → across (way_of d) there <ℤ across (way_of d) here → ⊥
  not_leaner d steps here there legal cost order less =
      let over = first_no_worse solids task t (with_steps t steps) first legal in
      elim order as (λ _. ⊥) [
        | inl fewer ↦ omega (arith, fewer, over.fewer cost)
        | inr leans ↦ omega (arith, ints, less, over.lower cost (omega (arith, leans.0)), leans.1)
      ]

  module _ (front back : List Dir) (u d : Dir) (n : ℕ) (cross : turn u d ≡ 1) (some : 0 < n) (h : IsPart solids task t front (u ∷ (replicate n d ++ (u ∷ []))) back) where
    abbrev begun : Point
    begun = after t.walk.start front

    goes : t.walk.steps ≡ between front back u d n
    goes = is_between solids task t front back u d n h

    -- no clear way lies one step sooner, or later, where that leans less
    pub not_sooner : across (way_of d) begun <ℤ across (way_of d) (forward u 1 begun) → IsClear solids None begun (replicate n d ++ (u ∷ u ∷ [])) → ⊥
    not_sooner less c =
        not_leaner d (sooner front back u d n) (forward u 1 begun) begun (sooner_legal solids task t front back u d n h c)
        (sooner_cost task t front back u d n cross some goes) (sooner_order task t front back u d n cross some goes) less

    pub not_later : across (way_of d) (forward u 2 begun) <ℤ across (way_of d) (forward u 1 begun) → IsClear solids None begun (u ∷ u ∷ replicate n d) → ⊥
    not_later less c =
        not_leaner d (later front back u d n) (forward u 1 begun) (forward u 2 begun) (later_legal solids task t front back u d n h c)
        (later_cost task t front back u d n cross some goes) (later_order task t front back u d n cross some goes) less
