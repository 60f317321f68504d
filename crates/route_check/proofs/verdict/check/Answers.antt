-- The rules are tried in their order: the verdict is the first that is broken, and otherwise the cost.
use Rattle.std.proofs.Common.{◌≡◌, ◌↔◌, ℕ, ◌+◌, ◌-◌, ◌≤◌, ◌∷◌, List, length, take, Option, Some, None, Err, refl, sym, ap, to_z, of_z, w64, ◌∙◌, subst, arith, All}
use Rattle.std.proofs.lemmas.Int.{ints}
use Rattle.std.proofs.lemmas.List.{take_all}
use Rattle.std.proofs.lemmas.List.Elements.{All-head, All-tail, All-contains}
use Rattle.plane_geom.specs.declared.point.Point.{Point}
use Rattle.plane_geom.specs.Point.{PointIsOnSheet}
use Rattle.walk_model.specs.declared.task.Choice.{Choice}
use Rattle.walk_model.specs.Choice.{IsChoice, stub_length}
use Rattle.walk_model.specs.Cost.{walk_cost}
use Rattle.walk_model.specs.Legal.{Leaves, Passes}
use Rattle.walk_model.specs.Line.{Draws, steps_of, steps_through, walk_through}
use Rattle.route_check.specs.declared.verdict.Breach.{Breach}
use Rattle.route_check.specs.declared.verdict.Breach.TheVariants.{Slanted, StartOff, EndOff, Hits, MissesVia}
use Rattle.route_check.specs.Line.{IsLineFrom}
use Rattle.route_check.specs.Choices.{IsCheapest, IsCheapestIfAny}
use Rattle.route_check.specs.Verdict.{IsBreach, IsLeastCost, IsVerdict}
use Rattle.route_check.proofs.Segments.Costs.{cost_small}
use Rattle.route_check.proofs.OneVerdict.Judging.{ArrivesWithin, start_off, end_off, hit_first, missed, least}
use Rattle.route_check.proofs.OneVerdict.Verdicts.{legal_without}
use Rattle.route_check.proofs.verdict.check.Goals as goal
use Rattle.route_check.proofs.verdict.check.Goals.{In-Some, After-cost_of-steps, In-Some-start_choice, After-end_choice, In-Some-end_choice, In_default-first_slanted, After-passed_between-passed, After-cost_of}

-- the points of the line are on the sheet
on_sheet : (c : In-Some) → All PointIsOnSheet (c.in-Some.field-0-0.now ∷ c.in-Some.rest.now)
on_sheet c = subst (All PointIsOnSheet) c.in-Some.ensures.cases.0 c.requires.line.within

-- a breach of the line by its first point is the verdict on the line
has_breach : (c : In-Some) (b : Breach) → IsBreach c.args.solids.now c.args.task.now (c.in-Some.field-0-0.now ∷ c.in-Some.rest.now) b → IsVerdict c.args.solids.now c.args.task.now c.args.points.now (Err b)
has_breach c b found =
    let breach = subst (λ (ps : List Point). IsBreach c.args.solids.now c.args.task.now ps b) (sym c.in-Some.ensures.cases.0) found in
    (λ legal. legal_without c.args.solids.now c.args.task.now c.args.points.now c.requires.task legal b breach, breach)

-- a least cost of the line by its first point is one of the line
has_cost : (c : In-Some) (cost : ℕ) → IsLeastCost c.args.solids.now c.args.task.now (c.in-Some.field-0-0.now ∷ c.in-Some.rest.now) cost → IsLeastCost c.args.solids.now c.args.task.now c.args.points.now cost
has_cost c cost found = subst (λ (ps : List Point). IsLeastCost c.args.solids.now c.args.task.now ps cost) (sym c.in-Some.ensures.cases.0) found

-- the choice found where the line begins
start_is : (c : In-Some-start_choice) → IsCheapest (Leaves (walk_through c.in-Some.field-0-0.now c.in-Some.rest.now)) c.args.task.now.starts c.in-Some-start_choice.start
start_is c = subst (λ (cs : List Choice). IsCheapest (Leaves (walk_through c.in-Some.field-0-0.now c.in-Some.rest.now)) cs c.in-Some-start_choice.start) c.as_slice.ensures c.in-Some-start_choice.ensures

start_choice_is : (c : In-Some-start_choice) → IsChoice c.in-Some-start_choice.start
start_choice_is c = All-contains IsChoice c.args.task.now.starts c.in-Some-start_choice.start c.requires.task.starts.each (start_is c).is_choice

-- how many steps the line has
count_is : (c : After-cost_of-steps) → c.cost_of-steps.result ≡ length (steps_through c.in-Some.field-0-0.now c.in-Some.rest.now)
count_is c = omega (arith, c.cost_of-steps.ensures, ap (λ (ps : List Point). walk_cost 0 (steps_of ps)) c.in-Some.ensures.cases.0)

-- what is found where the line ends, after the stub of that choice
end_found : (c : After-end_choice) (o : Option Choice)
    → IsCheapestIfAny (ArrivesWithin (walk_through c.in-Some.field-0-0.now c.in-Some.rest.now) (c.cost_of-steps.result - c.distance-leave.result)) c.as_slice-2.result.now o
    → IsCheapestIfAny (ArrivesWithin (walk_through c.in-Some.field-0-0.now c.in-Some.rest.now) (length (steps_through c.in-Some.field-0-0.now c.in-Some.rest.now) - stub_length c.in-Some-start_choice.start)) c.args.task.now.ends o
end_found c o found = rw (← count_is (goal.at.After-end_choice c).After-cost_of-steps, ← c.distance-leave.ensures, ← c.as_slice-2.ensures) found

pub returns-in-Some-first_slanted : goal.returns-in-Some-first_slanted
returns-in-Some-first_slanted c =
    has_breach (goal.at.returns-in-Some-first_slanted c).In-Some (Slanted c.in-Some-first_slanted.segment) c.in-Some-first_slanted.ensures

pub returns-in_default-start_choice : goal.returns-in_default-start_choice
returns-in_default-start_choice c =
    let first = c.in-Some.field-0-0.now in let rest = c.in-Some.rest.now in
    let none = subst (λ (cs : List Choice). IsCheapestIfAny (Leaves (walk_through first rest)) cs None) c.as_slice.ensures c.in_default-start_choice.ensures in
    let off = start_off c.args.solids.now c.args.task.now first rest c.in_default-first_slanted.ensures none in
    has_breach (goal.at.returns-in_default-start_choice c).In-Some StartOff off

-- the line from its first point, once its segments are known to be straight
is_line : (c : In_default-first_slanted) → IsLineFrom c.in-Some.field-0-0.now c.in-Some.rest.now
is_line c =
    let on = on_sheet (goal.at.In_default-first_slanted c).In-Some in
    record {
      straight = c.in_default-first_slanted.ensures;
      begin_within = All-head PointIsOnSheet _ _ on;
      within = All-tail PointIsOnSheet _ _ on;
      few = omega (arith, c.in-Some.ensures.cases.1, c.requires.line.few);
    }

pub start_choice-requires-clause-line : goal.start_choice-requires-clause-line
start_choice-requires-clause-line c = is_line (goal.at.start_choice-requires-clause-line c).In_default-first_slanted

pub end_choice-requires-clause-line : goal.end_choice-requires-clause-line
end_choice-requires-clause-line c = is_line (goal.at.end_choice-requires-clause-line c).In_default-first_slanted

pub returns-in_default-end_choice : goal.returns-in_default-end_choice
returns-in_default-end_choice c =
    let at = goal.at.returns-in_default-end_choice c in
    let first = c.in-Some.field-0-0.now in let rest = c.in-Some.rest.now in
    let off = end_off c.args.solids.now c.args.task.now first rest c.in_default-first_slanted.ensures c.in-Some-start_choice.start (start_is at.In-Some-start_choice)
    (end_found at.After-end_choice None c.in_default-end_choice.ensures) in
    has_breach (goal.at.returns-in_default-end_choice c).In-Some EndOff off

-- the choice found where the line ends
end_is : (c : In-Some-end_choice) → IsCheapest (ArrivesWithin (walk_through c.in-Some.field-0-0.now c.in-Some.rest.now) (length (steps_through c.in-Some.field-0-0.now c.in-Some.rest.now) - stub_length c.in-Some-start_choice.start)) c.args.task.now.ends c.in-Some-end_choice.end
end_is c = end_found (goal.at.In-Some-end_choice c).After-end_choice (Some c.in-Some-end_choice.end) c.in-Some-end_choice.ensures

end_choice_is : (c : In-Some-end_choice) → IsChoice c.in-Some-end_choice.end
end_choice_is c = All-contains IsChoice c.args.task.now.ends c.in-Some-end_choice.end c.requires.task.ends.each (end_is c).is_choice

pub distance-requires-clause-from_within : goal.distance-requires-clause-from_within
distance-requires-clause-from_within c = (end_choice_is (goal.at.distance-requires-clause-from_within c).In-Some-end_choice).pin

pub distance-requires-clause-to_within : goal.distance-requires-clause-to_within
distance-requires-clause-to_within c = (end_choice_is (goal.at.distance-requires-clause-to_within c).In-Some-end_choice).port

pub first_hit-requires-clause-start : goal.first_hit-requires-clause-start
first_hit-requires-clause-start c = start_choice_is (goal.at.first_hit-requires-clause-start c).In-Some-start_choice

pub first_hit-requires-clause-end : goal.first_hit-requires-clause-end
first_hit-requires-clause-end c = end_choice_is (goal.at.first_hit-requires-clause-end c).In-Some-end_choice

pub first_hit-requires-clause-line : goal.first_hit-requires-clause-line
first_hit-requires-clause-line c = is_line (goal.at.first_hit-requires-clause-line c).In_default-first_slanted

pub returns-in-Some-first_hit : goal.returns-in-Some-first_hit
returns-in-Some-first_hit c =
    let at = goal.at.returns-in-Some-first_hit c in
    let first = c.in-Some.field-0-0.now in let rest = c.in-Some.rest.now in
    let hit = hit_first c.args.solids.now c.args.task.now first rest c.in_default-first_slanted.ensures c.in-Some-start_choice.start (start_is at.In-Some-start_choice)
    c.in-Some-end_choice.end (end_is at.In-Some-end_choice) c.in-Some-first_hit.hit.segment c.in-Some-first_hit.hit.node c.in-Some-first_hit.ensures in
    let node : to_z w64 (of_z w64 c.in-Some-first_hit.hit.node) ≡ c.in-Some-first_hit.hit.node = omega (arith, ints) in
    rw node (has_breach (goal.at.returns-in-Some-first_hit c).In-Some (Hits c.in-Some-first_hit.hit.segment c.in-Some-first_hit.hit.node) hit)

-- the walk that the line draws, from port to port
drawn : (c : In_default-first_slanted) → Draws c.args.points.now (walk_through c.in-Some.field-0-0.now c.in-Some.rest.now)
drawn c = subst (λ (ps : List Point). Draws ps (walk_through c.in-Some.field-0-0.now c.in-Some.rest.now)) (sym c.in-Some.ensures.cases.0) (c.in_default-first_slanted.ensures, refl)

between : (c : After-passed_between-passed) (n : ℕ)
    → Passes (walk_through c.in-Some.field-0-0.now c.in-Some.rest.now) c.distance-leave.result (c.cost_of-steps.result - c.distance.result) (take n c.as_slice-via.result.now)
    ↔ Passes (walk_through c.in-Some.field-0-0.now c.in-Some.rest.now) (stub_length c.in-Some-start_choice.start) (length (steps_through c.in-Some.field-0-0.now c.in-Some.rest.now) - stub_length c.in-Some-end_choice.end) (take n c.args.task.now.via)
between c n = rw (← count_is (goal.at.After-passed_between-passed c).After-cost_of-steps, ← c.distance-leave.ensures, ← c.distance.ensures, ← c.as_slice-via.ensures) (λ p. p, λ p. p)

pub returns-then-passed-via : goal.returns-then-passed-via
returns-then-passed-via c =
    let at = goal.at.returns-then-passed-via c in
    let first = c.in-Some.field-0-0.now in let rest = c.in-Some.rest.now in
    let w = walk_through first rest in
    let n = c.passed_between-passed.result in
    let draws = drawn at.In_default-first_slanted in
    let miss = missed c.args.solids.now c.args.task.now first rest c.in_default-first_slanted.ensures c.in-Some-start_choice.start (start_is at.In-Some-start_choice)
    c.in-Some-end_choice.end (end_is at.In-Some-end_choice) c.in_default-first_hit.ensures n (omega (arith, ap length c.as_slice-via.ensures))
    ((between at.After-passed_between-passed n).0 (c.passed_between-passed.ensures.passed w draws))
    (λ p. c.passed_between-passed.ensures.no_more w draws (omega (arith, ap length c.as_slice-via.ensures)) ((between at.After-passed_between-passed (n + 1)).1 p)) in
    has_breach (goal.at.returns-then-passed-via c).In-Some (MissesVia (n + 1)) miss

-- the sum of the costs is small
cost_is : (c : After-cost_of) → c.cost_of.result ≡ walk_cost c.args.task.now.penalty (steps_through c.in-Some.field-0-0.now c.in-Some.rest.now)
cost_is c = c.cost_of.ensures ∙ ap (λ (ps : List Point). walk_cost c.args.task.now.penalty (steps_of ps)) c.in-Some.ensures.cases.0

walk_cost_small : (c : After-cost_of) → c.cost_of.result ≤ 400000000000000000
walk_cost_small c =
    let on = on_sheet (goal.at.After-cost_of c).In-Some in
    omega (
      arith,
      cost_is c,
      cost_small c.in-Some.field-0-0.now c.in-Some.rest.now c.args.task.now.penalty c.in_default-first_slanted.ensures (All-head PointIsOnSheet _ _ on) (All-tail PointIsOnSheet _ _ on)
          (omega (arith, c.in-Some.ensures.cases.1, c.requires.line.few)) c.requires.task.penalty,
    )

pub overflow_add-result-2 : goal.overflow_add-result-2
overflow_add-result-2 c = omega (arith, walk_cost_small c, (start_choice_is (goal.at.overflow_add-result-2 c).In-Some-start_choice).cost)

pub overflow_add-result-3 : goal.overflow_add-result-3
overflow_add-result-3 c = omega (arith, walk_cost_small c, (start_choice_is (goal.at.overflow_add-result-3 c).In-Some-start_choice).cost, (end_choice_is (goal.at.overflow_add-result-3 c).In-Some-end_choice).cost)

pub returns : goal.returns
returns c =
    let at = goal.at.returns c in
    let first = c.in-Some.field-0-0.now in let rest = c.in-Some.rest.now in
    let w = walk_through first rest in
    let n = c.passed_between-passed.result in
    let via = c.args.task.now.via in
    let passes = (between at.After-passed_between-passed n).0 (c.passed_between-passed.ensures.passed w (drawn at.In_default-first_slanted)) in
    let same : length c.as_slice-via.result.now ≡ length via = ap length c.as_slice-via.ensures in
    let all : take n via ≡ via = take_all n via (omega (arith, same)) in
    let cost = least c.args.solids.now c.args.task.now first rest c.in_default-first_slanted.ensures c.in-Some-start_choice.start (start_is at.In-Some-start_choice)
    c.in-Some-end_choice.end (end_is at.In-Some-end_choice) c.in_default-first_hit.ensures c.requires.task (rw all at passes) in
    rw (cost_is at.After-cost_of) (has_cost (goal.at.returns c).In-Some
    (walk_cost c.args.task.now.penalty (steps_through first rest) + c.in-Some-start_choice.start.cost + c.in-Some-end_choice.end.cost) cost)
