-- Each line has a verdict: its rules are decided one after the other.
use Rattle.std.proofs.Common.{◌≡◌, ◌≢◌, ◌⊎◌, inl, inr, ℕ, zero, suc, ◌+◌, ◌-◌, ◌<◌, ◌≤◌, ℤ, List, [], ◌∷◌, length, take, slice_get, Option, Some, None, Result, Ok, Err, refl, sym, ap, ◌∙◌, subst, arith}
use Rattle.std.proofs.Math.Decide.{map_dec, dec_le, ℕ_discrete}
use Rattle.std.proofs.Math.IntN.{ℤ_discrete}
use Rattle.std.specs.Prelude.{Contains}
use Rattle.std.proofs.lemmas.Bool.{cases_lt}
use Rattle.std.proofs.lemmas.Option.{slice_get-get_or, same_Some}
use Rattle.std.proofs.lemmas.List.Elements.{All-contains_itself, All-from_recursion, at_from_Contains, recursion_from_All}
use Rattle.plane_geom.specs.declared.point.Point.{Point}
use Rattle.plane_geom.specs.declared.rect.Solid.{Solid}
use Rattle.plane_geom.specs.Point.{IsStraight}
use Rattle.walk_model.specs.declared.task.Choice.{Choice}
use Rattle.walk_model.specs.declared.task.Task.{Task}
use Rattle.walk_model.specs.Choice.{stub_length}
use Rattle.walk_model.specs.Walk.{Walk, MeetsAt, point_at, step_at}
use Rattle.walk_model.specs.Line.{AreStraight, steps_of, walk_through}
use Rattle.walk_model.specs.Legal.{Arrives, Leaves, IsFree, IsLegal, Passes, cost_with}
use Rattle.walk_model.proofs.Ranking.Deciding.{decided, legal_reflects}
use Rattle.scene_model.proofs.Editing.Entries.{each_weaker}
use Rattle.route_check.specs.declared.verdict.Breach.{Breach}
use Rattle.route_check.specs.declared.verdict.Breach.TheVariants.{Slanted, StartOff, EndOff, Hits as HitsAt, MissesVia}
use Rattle.route_check.specs.Verdict.{FirstSlanted, HitsNone, IsLegalLine, IsOnSegment, IsVerdict, Joins, MayMeet, StepHits, at_start, at_end}
use Rattle.existence_laws.specs.Answers.{HaveVerdicts}
use Rattle.existence_laws.proofs.Deciding.Decided.{HasLeast, both, denied, least_of, one_of, some_below, some_in}
use Rattle.existence_laws.proofs.Walking.Lines.{arrives_decided, leaves_decided, passes_decided, segment_decided, step_decided, straight_decided}

-- a line that is not straight has a first slanted segment
slanted_here : (p q : Point) (qs : List Point) → (IsStraight p q → (k : ℕ) × FirstSlanted q qs (suc k)) → Dec (IsStraight p q) → (k : ℕ) × FirstSlanted p (q ∷ qs) (suc k)
slanted_here p q qs later (no slanted) = (0, slanted)
slanted_here p q qs later (yes straight) = let rest = later straight in (suc rest.0, (straight, rest.1))

first_slanted : (p : Point) (qs : List Point) → (AreStraight p qs → ⊥) → (k : ℕ) × FirstSlanted p qs (suc k)
first_slanted p [] not = absurd (not tt)
first_slanted p (q ∷ qs) not = slanted_here p q qs (λ straight. first_slanted q qs (λ rest. not (straight, rest))) (segment_decided p q)

take_all : (ps : List Point) → take (length ps) ps ≡ ps
take_all [] = refl
take_all (p ∷ ps) = ap (λ rest. p ∷ rest) (take_all ps)

-- the step of a list of steps is on one segment
on_segment : (points : List Point) (k : ℕ) → k < length (steps_of points) → (segment : ℕ) × IsOnSegment points k segment
on_segment points k within =
    by_least (least_of (λ m. k < length (steps_of (take m points))) (λ m. dec_le (suc k) (length (steps_of (take m points)))) (length points)
    (subst (λ ps. k < length (steps_of ps)) (sym (take_all points)) within))
  where
    by_number : (m : ℕ) → k < length (steps_of (take m points)) → ((n : ℕ) → n < m → k < length (steps_of (take n points)) → ⊥) → (segment : ℕ) × IsOnSegment points k segment
    by_number zero has none = absurd (omega (arith, has))
    by_number (suc m) has none = (
      m,
      (
        elim (cases_lt k (length (steps_of (take m points)))) as (λ _. length (steps_of (take m points)) ≤ k) [ inl l ↦ absurd (none m (omega arith) l) | inr h ↦ h ],
        (let next : suc m ≡ m + 1 = omega arith in subst (λ n. k < length (steps_of (take n points))) next has),
      ),
    )

    by_least : HasLeast (λ m. k < length (steps_of (take m points))) (length points) → (segment : ℕ) × IsOnSegment points k segment
    by_least h = by_number h.least h.has h.none_below

placed : {X : Type 0} (xs : List X) (x : X) → Contains xs x → (j : ℕ) × (slice_get xs j ≡ Some x)
placed xs x has = let at = at_from_Contains xs x has in (at.0, slice_get-get_or xs at.0 x at.1 ∙ ap Some (at.2 x))

module _ (solids : List Solid) (task : Task) (p : Point) (qs : List Point) (straight : AreStraight p qs) where
  abbrev w : Walk
  w = walk_through p qs

  Verdict : Type 0
  Verdict = (verdict : Result ℕ Breach) × IsVerdict solids task (p ∷ qs) verdict

  NotLegal : Type 0
  NotLegal = IsLegalLine solids task (p ∷ qs) → ⊥

  -- the line leads from stub to stub
  module _ (s e : Choice) (joins : Joins task (p ∷ qs) s w e) (not : NotLegal) where
    hits_decided : (k : ℕ) (solid : Solid) → Dec (StepHits s w e k solid)
    hits_decided k solid =
        both (step_decided solid.rect (point_at w k) (step_at w k))
        (denied (map_dec {A = ((suc k ≤ stub_length s) × (solid.node ≡ s.node)) ⊎ ((length w.steps - stub_length e ≤ k) × (solid.node ≡ e.node))}
        (λ h. elim h as (λ _. MayMeet s w e k solid.node) [ inl g ↦ at_start g.0 g.1 | inr g ↦ at_end g.0 g.1 ])
        (λ h. elim h as (λ _. ((suc k ≤ stub_length s) × (solid.node ≡ s.node)) ⊎ ((length w.steps - stub_length e ≤ k) × (solid.node ≡ e.node)))
        [ at_start l same ↦ inl (l, same) | at_end l same ↦ inr (l, same) ])
        (one_of (both (dec_le (suc k) (stub_length s)) (ℤ_discrete solid.node s.node)) (both (dec_le (length w.steps - stub_length e) k) (ℤ_discrete solid.node e.node)))))

    Hits : ℕ → Type 0
    Hits k = (solid : Solid) × Contains solids solid × StepHits s w e k solid

    HitsPlace : ℕ → ℕ → Type 0
    HitsPlace k j = (solid : Solid) × (slice_get solids j ≡ Some solid) × StepHits s w e k solid

    place_decided : (k j : ℕ) (o : Option Solid) → slice_get solids j ≡ o → Dec (HitsPlace k j)
    unfolding HitsPlace
    place_decided k j None at = no (λ h. let wrong : None ≡ Some h.0 = sym at ∙ h.1 in cc)
    place_decided k j (Some solid) at = map_dec
        (λ h. (solid, at, h))
        (λ h. subst (StepHits s w e k) (same_Some _ _ (sym h.1 ∙ at)) h.2)
        (hits_decided k solid)

    by_hit : (last : ℕ) → last < length w.steps → HasLeast Hits last → Verdict
    unfolding Hits HitsPlace Verdict NotLegal
    by_hit last within first =
        let at = placed solids first.has.0 first.has.1 in
        let place = least_of (HitsPlace first.least) (λ j. place_decided first.least j (slice_get solids j) refl) at.0 (first.has.0, at.1, first.has.2) in
        let solid = place.has.0 in
        let below : first.least < length w.steps = let no_later : first.least ≤ last = first.within in omega (arith, within) in
        let segment = on_segment (p ∷ qs) first.least below in (
          Err (HitsAt segment.0 solid.node),
          (
            not,
            record {
              walk = w;
              start = s;
              end = e;
              joins = joins;
              first = record {
                step = first.least;
                within = below;
                place = place.least;
                solid = solid;
                at_place = place.has.1;
                hits = place.has.2;
                first_step = λ k l other has hits. first.none_below k l (other, has, hits);
                first_solid = λ j l other has hits. place.none_below j l (other, has, hits);
                on_segment = segment.1;
                of_node = refl;
              };
            },
          ),
        )

    -- nothing is hit
    module _ (free : HitsNone solids s w e) where
      clear : (may : Option ℤ) (from to : ℕ) → to ≤ length w.steps
          → ((k : ℕ) (solid : Solid) → from ≤ k → k < to → Some solid.node ≢ may → MayMeet s w e k solid.node → ⊥) → IsFree solids may w from to
      clear may from to few apart k low high =
          All-from_recursion (λ solid. Some solid.node ≢ may → MeetsAt solid.rect w k → ⊥) solids
          (each_weaker (Contains solids) (λ solid. Some solid.node ≢ may → MeetsAt solid.rect w k → ⊥)
          (λ solid has other meets. free k (omega (arith, few, high)) solid has (meets, apart k solid low high other))
          solids (recursion_from_All (Contains solids) solids (All-contains_itself solids)))

      fits : stub_length s + stub_length e ≤ length w.steps
      fits = joins.stubs_fit

      legal : Passes w (stub_length s) (length w.steps - stub_length e) task.via → IsLegal solids task.via s w e
      legal passes = record {
        leaves = joins.leaves;
        arrives = joins.arrives;
        stubs_fit = fits;
        start_stub = clear (Some s.node) 0 (stub_length s) (omega (arith, fits)) (λ k solid low high other may. elim may as (λ _. ⊥)
            [ at_start l same ↦ other (ap Some same) | at_end l same ↦ omega (arith, fits, high, l) ]);
        between = clear None (stub_length s) (length w.steps - stub_length e) (omega arith) (λ k solid low high other may. elim may as (λ _. ⊥)
            [ at_start l same ↦ omega (arith, low, l) | at_end l same ↦ omega (arith, high, l) ]);
        end_stub = clear (Some e.node) (length w.steps - stub_length e) (length w.steps) (omega arith) (λ k solid low high other may. elim may as (λ _. ⊥)
            [ at_start l same ↦ omega (arith, fits, low, l) | at_end l same ↦ other (ap Some same) ]);
        checkpoints = passes;
      }

      Misses : ℕ → Type 0
      Misses k = Passes w (stub_length s) (length w.steps - stub_length e) (take k task.via) → ⊥

      passes_first : (k : ℕ) → Dec (Passes w (stub_length s) (length w.steps - stub_length e) (take k task.via))
      passes_first k = passes_decided w (length w.steps - stub_length e) (take k task.via) (stub_length s)

      by_place : (place : ℕ) → place ≤ length task.via → Misses place → ((k : ℕ) → k < place → Misses k → ⊥) → Verdict
      unfolding Misses Verdict NotLegal
      by_place zero within misses none = absurd (misses tt)
      by_place (suc k) within misses none = (
        Err (MissesVia (suc k)),
        (
          not,
          record {
            walk = w;
            start = s;
            end = e;
            joins = joins;
            free = free;
            counted = omega arith;
            within = within;
            passed = let before : k ≡ suc k - 1 = omega arith in subst (λ n. Passes w (stub_length s) (length w.steps - stub_length e) (take n task.via)) before (by_passes (passes_first k));
            missed = misses;
          },
        ),
      )
        where
          by_passes : Dec (Passes w (stub_length s) (length w.steps - stub_length e) (take k task.via)) → Passes w (stub_length s) (length w.steps - stub_length e) (take k task.via)
          by_passes (yes passes) = passes
          by_passes (no fewer) = absurd (none k (omega arith) fewer)

      missed : Verdict
      unfolding Misses NotLegal
      missed =
          let first = least_of Misses (λ k. denied (passes_first k)) (length task.via)
          (λ passes. not (record {
            walk = w;
            start = s;
            end = e;
            draws = (straight, refl);
            is_start = joins.is_start;
            is_end = joins.is_end;
            legal = legal (subst (Passes w (stub_length s) (length w.steps - stub_length e)) (take_all task.via) passes);
          })) in by_place first.least first.within first.has first.none_below

    by_hits : Dec ((k : ℕ) × (k < length w.steps) × Hits k) → Verdict
    unfolding Hits
    by_hits (yes (k, l, hits)) = by_hit k l (least_of Hits (λ n. some_in (StepHits s w e n) (hits_decided n) solids) k hits)
    by_hits (no none) = missed (λ k l solid has hits. none (k, l, (solid, has, hits)))

    joined : Verdict
    unfolding Hits
    joined = by_hits (some_below (length w.steps) Hits (λ k. some_in (StepHits s w e k) (hits_decided k) solids))

  -- with these choices the walk is legal, and costs this
  Costs : Walk → ℕ → Type 0
  Costs v n = (s : Choice) × Contains task.starts s × ((e : Choice) × Contains task.ends e × (IsLegal solids task.via s v e × (cost_with task.penalty s v e ≡ n)))

  costs_decided : (n : ℕ) → Dec (Costs w n)
  unfolding Costs
  costs_decided n = some_in _ (λ s. some_in _ (λ e. both (decided (legal_reflects solids task.via s w e)) (ℕ_discrete (cost_with task.penalty s w e) n)) task.ends) task.starts

  by_cost : (n : ℕ) → HasLeast (Costs w) n → Verdict
  unfolding Costs Verdict
  by_cost n cheapest =
      let found = cheapest.has in (
        Ok cheapest.least,
        record {
          line = record { walk = w; start = found.0; end = found.2.0; draws = (straight, refl); is_start = found.1; is_end = found.2.1; legal = found.2.2.0 };
          reached = found.2.2.1;
          least = λ other.
              let cost = cost_with task.penalty other.start other.walk other.end in
              elim (cases_lt cost cheapest.least) as (λ _. cheapest.least ≤ cost) [
                | inl l ↦ absurd (cheapest.none_below cost l (subst (λ v. Costs v cost) other.draws.1 (other.start, other.is_start, (other.end, other.is_end, (other.legal, refl)))))
                | inr h ↦ h
              ];
        },
      )

  AreLegal : Walk → Type 0
  AreLegal v = (s : Choice) × Contains task.starts s × ((e : Choice) × Contains task.ends e × IsLegal solids task.via s v e)

  AreJoined : Walk → Type 0
  AreJoined v = (s : Choice) × Contains task.starts s × (Leaves v s × ((e : Choice) × Contains task.ends e × (Arrives v e × (stub_length s + stub_length e ≤ length v.steps))))

  AreLeft : Walk → Type 0
  AreLeft v = (s : Choice) × Contains task.starts s × Leaves v s

  legal_of : (l : IsLegalLine solids task (p ∷ qs)) → AreLegal w
  unfolding AreLegal
  legal_of l = subst AreLegal l.draws.1 (l.start, l.is_start, (l.end, l.is_end, l.legal))

  by_legal : Dec (AreLegal w) → AreJoined w → Verdict
  unfolding AreLegal AreJoined NotLegal Costs
  by_legal (yes (s, is_start, (e, is_end, legal))) pair =
      let cost = cost_with task.penalty s w e in by_cost cost (least_of (Costs w) costs_decided cost (s, is_start, (e, is_end, (legal, refl))))
  by_legal (no none) (s, is_start, (leaves, (e, is_end, (arrives, fit)))) =
      joined s e (record { draws = (straight, refl); is_start = is_start; is_end = is_end; leaves = leaves; arrives = arrives; stubs_fit = fit }) (λ l. none (legal_of l))

  by_joined : Dec (AreJoined w) → AreLeft w → Verdict
  unfolding AreLegal AreJoined AreLeft Verdict
  by_joined (yes pair) left = by_legal (some_in _ (λ s. some_in _ (λ e. decided (legal_reflects solids task.via s w e)) task.ends) task.starts) pair
  by_joined (no none) (s, is_start, leaves) = (
    Err EndOff,
    (
      λ l. none (subst AreJoined l.draws.1 (l.start, l.is_start, (l.legal.leaves, (l.end, l.is_end, (l.legal.arrives, l.legal.stubs_fit))))),
      record {
        walk = w;
        start = s;
        draws = (straight, refl);
        is_start = is_start;
        leaves = leaves;
        none = λ e is_end arrives fit. none (s, is_start, (leaves, (e, is_end, (arrives, fit))));
      },
    ),
  )

  by_left : Dec (AreLeft w) → Verdict
  unfolding AreJoined AreLeft Verdict
  by_left (yes left) =
      by_joined
      (some_in _ (λ s. both (leaves_decided w s) (some_in _ (λ e. both (arrives_decided w e) (dec_le (stub_length s + stub_length e) (length w.steps))) task.ends)) task.starts) left
  by_left (no none) = (
    Err StartOff,
    (
      λ l. none (subst AreLeft l.draws.1 (l.start, l.is_start, l.legal.leaves)),
      record { straight = straight; none = λ v draws s is_start leaves. none (subst AreLeft draws.1 (s, is_start, leaves)) },
    ),
  )

  verdict : Verdict
  unfolding AreLeft
  verdict = by_left (some_in _ (leaves_decided w) task.starts)

pub some_verdict : HaveVerdicts
unfolding Verdict
some_verdict solids task [] = (Err StartOff, (λ l. l.draws, record { straight = tt; none = λ w draws s is leaves. draws }))
some_verdict solids task (p ∷ qs) = by_straight (straight_decided p qs)
  where
    by_straight : Dec (AreStraight p qs) → (verdict : Result ℕ Breach) × IsVerdict solids task (p ∷ qs) verdict
    by_straight (yes straight) = verdict solids task p qs straight
    by_straight (no not) = let slanted = first_slanted p qs not in (Err (Slanted (suc slanted.0)), (λ l. not l.draws.0, slanted.1))
