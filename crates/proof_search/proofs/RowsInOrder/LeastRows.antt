-- The rows of a search that has ended are the least labels.
use Rattle.std.proofs.Common.{◌≡◌, ℕ, ◌+◌, ◌^◌, ◌≤◌, Option, None, Some, Result, Ok, Err, List, length, refl, sym, subst, arith}
use Rattle.std.specs.Prelude.{IfOk}
use Rattle.plane_geom.specs.declared.point.Point.{Point}
use Rattle.plane_geom.specs.declared.rect.Solid.{Solid}
use Rattle.plane_geom.specs.declared.floor.Floor.{Floor}
use Rattle.line_arena.specs.Arena.{Arena}
use Rattle.line_arena.proofs.Arenas.ArenaLaws.{one_point}
use Rattle.walk_model.specs.declared.route.Route.{Route}
use Rattle.walk_model.specs.declared.task.Task.{Task}
use Rattle.walk_model.specs.Answers.{IsAnswer}
use Rattle.walk_model.specs.Order.{IsFirst}
use Rattle.walk_laws.proofs.FewAndSmall.SmallWalks.{small_cost}
use Rattle.move_model.specs.Problems.{IsProblem}
use Rattle.search_problem.specs.Problems.{IsReady}
use Rattle.search_problem.specs.declared.problem.Problem.{Problem}
use Rattle.proof_model.specs.declared.proof.Claim.{Claim}
use Rattle.proof_model.specs.declared.proof.LabelRow.{LabelRow}
use Rattle.proof_model.specs.declared.proof.Proof.{Proof}
use Rattle.proof_model.specs.Labels.{label_of}
use Rattle.proof_model.specs.LeastLabels.{IsLabelReached, IsRightClaim}
use Rattle.proof_model.specs.Places.{Place}
use Rattle.proof_model.specs.Rules.{Suffices}
use Rattle.proof_model.proofs.Bridge.{crossing_at}
use Rattle.proof_model.proofs.LeastLabels.{comes_at}
use Rattle.proof_search.specs.declared.labels.Labels.{Labels}
use Rattle.proof_search.specs.declared.scope.Scope.{Scope}
use Rattle.proof_search.specs.declared.spots.Spot.{Spot}
use Rattle.proof_search.specs.Provers.{AreLeastOn, IsLeastFor, claim_for, scope_for}
use Rattle.proof_search.specs.Rows.{rows_upto}
use Rattle.proof_search.specs.Scopes.{claim_of, most_of}
use Rattle.proof_search.specs.Search.{IsSpread}
use Rattle.proof_search.specs.Spots.{AreSpots}
use Rattle.proof_search.proofs.Searching.Least.{all_offered, standing}
use Rattle.proof_search.proofs.RowsInOrder.Written.{label_there, one_label, rows_labelled, rows_rise}

pub least_rows : (p : Problem) → IsReady p → (s : Scope) (l : Labels) → IsSpread p s l → (spots : List Spot) → AreSpots p.arena.now spots
    → AreLeastOn p.arena.now p.solids.now p.task.now (claim_of s) (rows_upto l (length p.task.now.via + 1) spots)
least_rows p ready s l spread spots are floor on = record {
  rise = rows_rise l stages spots are.rise;
  some = rows_labelled l stages spots;
  reached = reached;
  least = λ x steps cost comes.
      (let at = comes_at floor a ready.arena on.stands task on.is_task steps x cost comes in
      let found = crossing_at floor a ready.arena on.stands x.at at.0 in
      subst (λ (o : Option ℕ). Suffices (claim_of s) o cost) (sym (one_label a ready.arena l stages spots are x found.0 found.1 (omega (arith, at.1))))
      (all_offered p ready s l spread floor on steps x cost comes found.0 found.1));
}
  where
    a : Arena
    a = p.arena.now

    task : Task
    task = p.task.now

    stages : ℕ
    stages = length p.task.now.via + 1

    reached : (x : Place) (v : ℕ) → label_of (rows_upto l (length p.task.now.via + 1) spots) x ≡ Some v → IsLabelReached floor task (claim_of s) x v
    reached x v e =
        let there = label_there a ready.arena l stages spots are x v e in
        let r = spread.searching.reached (standing there.0 x) v there.3 in
        let point : r.at ≡ x.at = one_point a there.0 r.at x.at ready.arena r.here there.1 in
        subst (λ (q : Point). IsLabelReached floor task (claim_of s) (record { stage = x.stage; at = q; heading = x.heading }) v) point (r.reached floor on)

-- ---- the answer and its claim

pub right_claim : (solids : List Solid) (task : Task) (o : Option Route) → IsAnswer solids task o → IsRightClaim solids task (claim_for o)
right_claim solids task None h = h
right_claim solids task (Some r) h = (h.0, r, h.1, h.2, refl, refl)

-- labels for the scope are labels for the claim
pub claimed_rows : (a : Arena) (solids : List Solid) (task : Task) (o : Option Route) (rows : List LabelRow)
    → AreLeastOn a solids task (claim_of (scope_for o)) rows → AreLeastOn a solids task (claim_for o) rows
claimed_rows a solids task None rows are = are
claimed_rows a solids task (Some r) rows are = λ floor on.
    (let h = are floor on in
    record { rise = h.rise; some = h.some; reached = h.reached; least = h.least })

pub small_scope : (a : Arena) (solids : List Solid) (task : Task) (floor : Floor) → IsProblem floor a solids task → (o : Option Route)
    → IsAnswer solids task o → most_of (scope_for o) ≤ 10 ^ 18
small_scope a solids task floor on None h = omega arith
small_scope a solids task floor on (Some r) h =
    let first : IsFirst floor.solids task h.0 = subst (λ ss. IsFirst ss task h.0) (sym on.same_solids) h.1 in
    let small = small_cost floor task h.0 on.is_floor on.is_task on.is_floor_of first in
    omega (arith, small, h.2.cost)

-- what holds of a value holds of a result that is it
pub ok_is : {T E : Type 0} (P : T → Type 0) (v : T) (r : Result T E) → IfOk r (λ x. x ≡ v) → P v → IfOk r P
ok_is P v (Ok x) is h = subst P (sym is) h
ok_is P v (Err e) is h = tt

-- the proof that is made of an answer and of least labels
pub made_least : {E : Type 0} (a : Arena) (solids : List Solid) (task : Task) (o : Option Route) (rows : Result (List LabelRow) E) (r : Result Proof E)
    → IsAnswer solids task o
    → IfOk rows (AreLeastOn a solids task (claim_of (scope_for o))) → IfOk r (λ p. p.claim ≡ claim_for o) → IfOk r (λ p. rows ≡ Ok p.rows)
    → IfOk r (IsLeastFor a solids task)
made_least a solids task o rows (Err e) answer least claim of = tt
made_least {E} a solids task o rows (Ok p) answer least claim of =
    let labels = subst (λ (q : Result (List LabelRow) E). IfOk q (AreLeastOn a solids task (claim_of (scope_for o)))) of least in
    record {
      claim = subst (IsRightClaim solids task) (sym claim) (right_claim solids task o answer);
      labels = subst (λ (k : Claim). AreLeastOn a solids task k p.rows) (sym claim) (claimed_rows a solids task o p.rows labels);
    }
