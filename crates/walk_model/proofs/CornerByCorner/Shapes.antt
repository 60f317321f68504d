-- Runs and sum of run coordinates of a line, corner by corner.
use Rattle.std.proofs.Common.{◌≡◌, ◌≢◌, ℕ, suc, zero, ◌+◌, ◌*◌, ◌<◌, ◌≤◌, ℤ, pos, ◌+ℤ◌, Option, Some, None, List, [], ◌∷◌, ◌++◌, length, drop, get_or, replicate, All, refl, sym, ap, subst, ◌∙◌, arith, false, ◌==◌, if◌then◌else◌, unsigned_abs}
use Rattle.std.proofs.lemmas.Int.{ints}
use Rattle.std.proofs.lemmas.List.{append-nil, drop_more}
use Rattle.std.proofs.lemmas.List.Elements.{All-get_or, All-head, All-tail}
use Rattle.plane_geom.specs.declared.point.Point.{Point}
use Rattle.plane_geom.specs.declared.point.Dir.{Dir}
use Rattle.plane_geom.specs.declared.point.Dir.TheVariants.{East, South, West, North}
use Rattle.plane_geom.specs.Along.{way_of, across}
use Rattle.plane_geom.specs.Point.{PointIsOnSheet, IsStraight, distance, forward, heading}
use Rattle.walk_model.specs.Cost.{turn, runs, runs_after}
use Rattle.walk_model.specs.Lean.{lean, lean_after, line_lean}
use Rattle.walk_model.specs.Line.{AreStraight, IsStraightLine, steps_of, steps_through}
use Rattle.walk_model.proofs.CornerByCorner.Bends.{turn_same, runs_after-stretch}
use Rattle.plane_geom.proofs.Headings.{straight_end}
use Rattle.walk_model.proofs.CornerByCorner.Scan.{forward-zero, forward-forward}

-- the runs and the sum of run coordinates of the steps from the point that follow the last step, if there is one
abbrev pub runs_from : Option Dir → List Dir → ℕ
runs_from None ds = runs ds
runs_from (Some d) ds = runs_after d ds

abbrev pub lean_from : Option Dir → Point → List Dir → ℤ
lean_from None p ds = lean p ds
lean_from (Some d) p ds = lean_after d p ds

-- a stretch goes on the run before it
pub lean_after-stretch : (d : Dir) (n : ℕ) (p : Point) (ds : List Dir) → lean_after d p (replicate n d ++ ds) ≡ lean_after d (forward d n p) ds
lean_after-stretch d zero p ds = ap (λ (q : Point). lean_after d q ds) (sym (forward-zero d p))
lean_after-stretch d (suc n) p ds =
    ap (λ k. (if k == 0 then pos 0 else across (way_of d) p) +ℤ lean_after d (forward d 1 p) (replicate n d ++ ds)) (turn_same d)
    ∙ (let zero_on : pos 0 +ℤ lean_after d (forward d 1 p) (replicate n d ++ ds) ≡ lean_after d (forward d 1 p) (replicate n d ++ ds) = omega (arith, ints) in zero_on)
    ∙ lean_after-stretch d n (forward d 1 p) ds
    ∙ ap (λ (q : Point). lean_after d q ds) (forward-forward d n 1 p ∙ ap (λ k. forward d k p) (omega arith))

-- only to go on in the same direction is no bend
pub turn_differs : (d e : Dir) → d ≢ e → (turn d e == 0) ≡ false
turn_differs East East h = absurd (h refl)
turn_differs East South h = refl
turn_differs East West h = refl
turn_differs East North h = refl
turn_differs South East h = refl
turn_differs South South h = absurd (h refl)
turn_differs South West h = refl
turn_differs South North h = refl
turn_differs West East h = refl
turn_differs West South h = refl
turn_differs West West h = absurd (h refl)
turn_differs West North h = refl
turn_differs North East h = refl
turn_differs North South h = refl
turn_differs North West h = refl
turn_differs North North h = absurd (h refl)

-- a stretch that is not empty begins a run, or goes on one
pub new_runs : (last : Option Dir) (e : Dir) (n : ℕ) (ds : List Dir) → 0 < n → last ≢ Some e → runs_from last (replicate n e ++ ds) ≡ 1 + runs_from (Some e) ds
new_runs last e zero ds h not = absurd (omega arith)
new_runs None e (suc n) ds h not = ap (λ k. 1 + k) (runs_after-stretch e n ds)
new_runs (Some d) e (suc n) ds h not =
    ap (λ b. (if b then 0 else 1) + runs_after e (replicate n e ++ ds)) (turn_differs d e (λ same. not (ap Some same))) ∙ ap (λ k. 1 + k) (runs_after-stretch e n ds)

pub new_lean : (last : Option Dir) (e : Dir) (n : ℕ) (p : Point) (ds : List Dir) → 0 < n → last ≢ Some e → lean_from last p (replicate n e ++ ds) ≡ across (way_of e) p +ℤ lean_after e (forward e n p) ds
new_lean last e zero p ds h not = absurd (omega arith)
new_lean None e (suc n) p ds h not = ap (λ z. across (way_of e) p +ℤ z) (lean_after-stretch e n (forward e 1 p) ds ∙ ap (λ (q : Point). lean_after e q ds) (forward-forward e n 1 p ∙ ap (λ k. forward e k p) (omega arith)))
new_lean (Some d) e (suc n) p ds h not =
    ap (λ b. (if b then pos 0 else across (way_of e) p) +ℤ lean_after e (forward e 1 p) (replicate n e ++ ds)) (turn_differs d e (λ same. not (ap Some same)))
    ∙ ap (λ z. across (way_of e) p +ℤ z) (lean_after-stretch e n (forward e 1 p) ds ∙ ap (λ (q : Point). lean_after e q ds) (forward-forward e n 1 p ∙ ap (λ k. forward e k p) (omega arith)))

-- the sum of run coordinates of equal steps is the coordinate of their line
pub lean-stretch : (p : Point) (d : Dir) (n : ℕ) → 0 < n → lean p (replicate n d) ≡ across (way_of d) p
lean-stretch p d n some =
    let whole = new_lean None d n p [] some (λ e. cc) in
    let same : lean p (replicate n d) ≡ lean p (replicate n d ++ []) = ap (lean p) (sym (append-nil (replicate n d))) in
    omega (arith, ints, same, whole)

-- the runs and the sum of run coordinates so far, with those that the corners ahead add, make the whole
pub record ShapeSoFar (points rest : List Point) (i : ℕ) (at : Point) (last : Option Dir) (count : ℕ) (sum : ℤ) : Type 0 where
  pub within : PointIsOnSheet at
  pub rest_within : All PointIsOnSheet rest
  pub few : length rest ≤ 40000000
  pub straight : AreStraight at (drop i rest)
  pub all_runs : count + runs_from last (steps_through at (drop i rest)) ≡ runs (steps_of points)
  pub all_lean : sum +ℤ lean_from last at (steps_through at (drop i rest)) ≡ line_lean points
  pub few_runs : count ≤ i
  pub small : unsigned_abs sum ≤ 2000000000 * i

pub shape_none : (points : List Point) (p : Point) (rest : List Point) → points ≡ p ∷ rest → IsStraightLine points → All PointIsOnSheet points → length points ≤ 40000000 → ShapeSoFar points rest 0 p None 0 (pos 0)
shape_none points p rest e line within few =
    let all = subst (All PointIsOnSheet) e within in
    subst (λ ps. ShapeSoFar ps rest 0 p None 0 (pos 0)) (sym e) (record {
      within = All-head PointIsOnSheet p rest all;
      rest_within = All-tail PointIsOnSheet p rest all;
      few = omega (arith, few, ap length e);
      straight = subst IsStraightLine e line;
      all_runs = omega arith;
      all_lean = omega (arith, ints);
      few_runs = omega arith;
      small = omega arith;
    })

across_small : (d : Dir) (p : Point) → PointIsOnSheet p → unsigned_abs (across (way_of d) p) ≤ 2000000000
across_small East p h = omega (arith, ints, h.y.low, h.y.high)
across_small South p h = omega (arith, ints, h.x.low, h.x.high)
across_small West p h = omega (arith, ints, h.y.low, h.y.high)
across_small North p h = omega (arith, ints, h.x.low, h.x.high)

module _ (points rest : List Point) (i : ℕ) (at : Point) (last : Option Dir) (count : ℕ) (sum : ℤ) (d : Point) (some : i < length rest) (so : ShapeSoFar points rest i at last count sum) where
  abbrev pub next : Point
  next = get_or rest i d

  abbrev pub ahead : List Dir
  ahead = steps_through next (drop (i + 1) rest)

  segment : steps_through at (drop i rest) ≡ replicate (distance at next) (heading at next) ++ ahead
  segment = ap (steps_through at) (drop_more rest i d some)

  both_straight : IsStraight at next × AreStraight next (drop (i + 1) rest)
  both_straight = subst (AreStraight at) (drop_more rest i d some) so.straight

  -- the next segment begins a run
  pub shape_on : 0 < distance at next → last ≢ Some (heading at next) → ShapeSoFar points rest (i + 1) next (Some (heading at next)) (count + 1) (sum +ℤ across (way_of (heading at next)) at)
  shape_on differ not =
      let e = heading at next in
      let n = distance at next in
      let more_runs = ap (runs_from last) segment ∙ new_runs last e n ahead differ not in
      let more_lean = ap (lean_from last at) segment ∙ new_lean last e n at ahead differ not
      ∙ ap (λ (q : Point). across (way_of e) at +ℤ lean_after e q ahead) (straight_end at next both_straight.0) in
      record {
        within = All-get_or PointIsOnSheet rest i d some so.rest_within;
        rest_within = so.rest_within;
        few = so.few;
        straight = both_straight.1;
        all_runs = omega (arith, so.all_runs, more_runs);
        all_lean = omega (arith, ints, so.all_lean, more_lean);
        few_runs = omega (arith, so.few_runs);
        small = omega (arith, ints, so.small, across_small e at so.within);
      }

  -- or continues the one before it
  pub shape_same : last ≡ Some (heading at next) → ShapeSoFar points rest (i + 1) next last count sum
  shape_same same =
      let e = heading at next in
      let n = distance at next in
      let same_runs : runs_from last (steps_through at (drop i rest)) ≡ runs_from last ahead =
      ap (runs_from last) segment ∙ ap (λ o. runs_from o (replicate n e ++ ahead)) same ∙ runs_after-stretch e n ahead ∙ ap (λ o. runs_from o ahead) (sym same) in
      let same_lean : lean_from last at (steps_through at (drop i rest)) ≡ lean_from last next ahead =
      ap (lean_from last at) segment ∙ ap (λ o. lean_from o at (replicate n e ++ ahead)) same ∙ lean_after-stretch e n at ahead
      ∙ ap (λ (q : Point). lean_after e q ahead) (straight_end at next both_straight.0) ∙ ap (λ o. lean_from o next ahead) (sym same) in
      record {
        within = All-get_or PointIsOnSheet rest i d some so.rest_within;
        rest_within = so.rest_within;
        few = so.few;
        straight = both_straight.1;
        all_runs = omega (arith, so.all_runs, same_runs);
        all_lean = omega (arith, ints, so.all_lean, same_lean);
        few_runs = omega (arith, so.few_runs);
        small = omega (arith, so.small);
      }

  -- or is empty
  pub shape_stay : distance at next ≤ 0 → ShapeSoFar points rest (i + 1) next last count sum
  shape_stay same =
      let none : distance at next ≡ 0 = omega (arith, same) in
      let there : at ≡ next = sym (forward-zero (heading at next) at) ∙ ap (λ n. forward (heading at next) n at) (sym none) ∙ straight_end at next both_straight.0 in
      let stays : steps_through at (drop i rest) ≡ ahead = segment ∙ ap (λ n. replicate n (heading at next) ++ ahead) none in
      record {
        within = All-get_or PointIsOnSheet rest i d some so.rest_within;
        rest_within = so.rest_within;
        few = so.few;
        straight = both_straight.1;
        all_runs = omega (arith, so.all_runs, ap (runs_from last) stays);
        all_lean = omega (arith, ints, so.all_lean, ap (lean_from last at) stays ∙ ap (λ (q : Point). lean_from last q ahead) there);
        few_runs = omega (arith, so.few_runs);
        small = omega (arith, so.small);
      }
