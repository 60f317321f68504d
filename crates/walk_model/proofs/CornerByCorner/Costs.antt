-- The cost of a line, corner by corner.
use Rattle.std.proofs.Common.{◌≡◌, ℕ, ◌+◌, ◌*◌, ◌<◌, ◌≤◌, Option, Some, None, List, ◌∷◌, ◌++◌, length, drop, get_or, replicate, All, sym, ap, subst, ◌∙◌, arith, length-append}
use Rattle.std.proofs.lemmas.List.{drop_more, length-replicate}
use Rattle.std.proofs.lemmas.List.Elements.{All-get_or, All-head, All-tail}
use Rattle.plane_geom.specs.declared.point.Point.{Point}
use Rattle.plane_geom.specs.declared.point.Dir.{Dir}
use Rattle.plane_geom.specs.Point.{PointIsOnSheet, distance, heading}
use Rattle.walk_model.specs.Cost.{bends}
use Rattle.walk_model.specs.Line.{steps_of, steps_through}
use Rattle.walk_model.proofs.CornerByCorner.Bends.{bends_from, bends_from-stretch, turn_from, turn_from_bound}
use Rattle.plane_geom.proofs.Signed.{distance_bound}

-- at a corner, with what came before, and with what the corners ahead add, the steps and the bends are all
pub record CostSoFar (all : List Dir) (rest : List Point) (i : ℕ) (at : Point) (last : Option Dir) (walked turns : ℕ) : Type 0 where
  pub within : PointIsOnSheet at
  pub rest_within : All PointIsOnSheet rest
  pub few : length rest ≤ 40000000
  pub all_steps : walked + length (steps_through at (drop i rest)) ≡ length all
  pub all_bends : turns + bends_from last (steps_through at (drop i rest)) ≡ bends all
  pub few_bends : turns ≤ 2 * i
  pub few_steps : walked ≤ 8000000000 * i

pub cost_none : (points : List Point) (p : Point) (rest : List Point) → points ≡ p ∷ rest → All PointIsOnSheet points → length points ≤ 40000000 → CostSoFar (steps_of points) rest 0 p None 0 0
cost_none points p rest e within few =
    let all = subst (All PointIsOnSheet) e within in
    subst (λ ps. CostSoFar (steps_of ps) rest 0 p None 0 0) (sym e) (record {
      within = All-head PointIsOnSheet p rest all;
      rest_within = All-tail PointIsOnSheet p rest all;
      few = omega (arith, few, ap length e);
      all_steps = omega arith;
      all_bends = omega arith;
      few_bends = omega arith;
      few_steps = omega arith;
    })

-- the next segment adds its length
pub cost_fits : (all : List Dir) (rest : List Point) (i : ℕ) (at : Point) (last : Option Dir) (walked turns : ℕ) (d : Point) (n : ℕ) → i < length rest → n ≡ distance at (get_or rest i d) → CostSoFar all rest i at last walked turns → walked + n ≤ 8000000000 * (i + 1)
cost_fits all rest i at last walked turns d n some long so =
    omega (arith, long, so.few_steps, distance_bound at (get_or rest i d) so.within (All-get_or PointIsOnSheet rest i d some so.rest_within))

-- and its bend, if it is not empty
pub cost_on : (all : List Dir) (rest : List Point) (i : ℕ) (at : Point) (last : Option Dir) (walked turns : ℕ) (d : Point) (n : ℕ) (e : Dir) → i < length rest → n ≡ distance at (get_or rest i d) → e ≡ heading at (get_or rest i d) → 0 < n →
    CostSoFar all rest i at last walked turns → CostSoFar all rest (i + 1) (get_or rest i d) (Some e) (walked + n) (turns + turn_from last e)
cost_on all rest i at last walked turns d n e some long way more so =
    let q = get_or rest i d in
    let ahead = steps_through q (drop (i + 1) rest) in
    let next : steps_through at (drop i rest) ≡ replicate n e ++ ahead = rw (long, way) (ap (steps_through at) (drop_more rest i d some)) in
    record {
      within = All-get_or PointIsOnSheet rest i d some so.rest_within;
      rest_within = so.rest_within;
      few = so.few;
      all_steps = omega (arith, so.all_steps, ap length next, length-append (replicate n e) ahead, length-replicate n e);
      all_bends = omega (arith, so.all_bends, ap (bends_from last) next, bends_from-stretch last e n ahead more);
      few_bends = omega (arith, so.few_bends, turn_from_bound last e);
      few_steps = cost_fits all rest i at last walked turns d n some long so;
    }

-- an empty segment adds nothing
pub cost_stay : (all : List Dir) (rest : List Point) (i : ℕ) (at : Point) (last : Option Dir) (walked turns : ℕ) (d : Point) (n : ℕ) → i < length rest → n ≡ distance at (get_or rest i d) → n ≤ 0 → CostSoFar all rest i at last walked turns → CostSoFar all rest (i + 1) (get_or rest i d) last walked turns
cost_stay all rest i at last walked turns d n some long none so =
    let q = get_or rest i d in
    let empty : distance at q ≡ 0 = omega (arith, long, none) in
    let next : steps_through at (drop i rest) ≡ steps_through q (drop (i + 1) rest) =
    ap (steps_through at) (drop_more rest i d some) ∙ ap (λ k. replicate k (heading at q) ++ steps_through q (drop (i + 1) rest)) empty in
    record {
      within = All-get_or PointIsOnSheet rest i d some so.rest_within;
      rest_within = so.rest_within;
      few = so.few;
      all_steps = omega (arith, so.all_steps, ap length next);
      all_bends = omega (arith, so.all_bends, ap (bends_from last) next);
      few_bends = omega (arith, so.few_bends);
      few_steps = omega (arith, so.few_steps);
    }
