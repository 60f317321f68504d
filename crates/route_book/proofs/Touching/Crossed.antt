-- Where a line meets a rectangle, segment by segment.
use Rattle.std.proofs.Common.{◌≡◌, ◌≢◌, ℕ, ◌+◌, ◌-◌, ◌<◌, List, [], ◌∷◌, length, refl, sym, ap, ap₂, subst, ◌∙◌, inl, inr, arith}
use Rattle.std.proofs.lemmas.Bool.{cases_lt}
use Rattle.plane_geom.specs.declared.point.Point.{Point}
use Rattle.plane_geom.specs.declared.rect.Rect.{Rect}
use Rattle.plane_geom.specs.Point.{IsStraight, distance, forward, heading}
use Rattle.plane_geom.specs.Rect.{Meets, StepMeets, SomeStepMeets}
use Rattle.plane_geom.proofs.Headings.{straight_end}
use Rattle.plane_geom.proofs.Steps.{some_step, from_step}
use Rattle.walk_model.specs.Walk.{Walk, MeetsAt, point_at, step_at}
use Rattle.walk_model.specs.Line.{AreStraight, walk_through}
use Rattle.walk_model.proofs.CornerByCorner.Scan.{Stands, forward-zero, stands_first, stands_last, stands_next, stands_point, stands_step}
use Rattle.scene_model.specs.Stale.{LineMeets}
use Rattle.route_book.proofs.Staying.Along.{nowhere}

-- the line goes on from the corner, and no step before it meets the rectangle
pub record ClearTo (r : Rect) (w : Walk) (at : Point) (rest : List Point) : Type 0 where
  pub walked : ℕ
  pub stands : Stands w walked at rest
  pub clear : (k : ℕ) → k < walked → MeetsAt r w k → ⊥

-- nothing is walked yet
pub clear_first : (r : Rect) (p : Point) (rest : List Point) → ClearTo r (walk_through p rest) p rest
clear_first r p rest = record { walked = 0; stands = stands_first p rest; clear = λ k l _. absurd (omega (arith, l)) }

-- a step of the walk is one of the segment
same_step : (r : Rect) (w : Walk) (k i : ℕ) (p q : Point) (qs : List Point) → Stands w k p (q ∷ qs) → i < distance p q → StepMeets r (point_at w (k + i)) (step_at w (k + i)) ≡ StepMeets r (forward (heading p q) i p) (heading p q)
same_step r w k i p q qs s l = ap₂ (StepMeets r) (stands_point w k i p q qs s (omega (arith, l))) (stands_step w k i p q qs s l)

-- a segment of some length that meets the rectangle has a step that does
pub hit : (r : Rect) (w : Walk) (p q : Point) (qs : List Point) → ClearTo r w p (q ∷ qs) → IsStraight p q → p ≢ q → Meets r p q → (k : ℕ) × (k < length w.steps) × MeetsAt r w k
hit r w p q qs c straight apart meets =
    let d = heading p q in
    let n = distance p q in
    let long : 0 < n = some_length in
    let step : SomeStepMeets r p d n = some_step r p d n long (subst (Meets r p) (sym (straight_end p q straight)) meets) in
    let next = stands_next w c.walked p q qs straight c.stands in
    let within = next.within in
    let less = step.1 in
    (c.walked + step.0, omega (arith, within, less), subst (λ X. X) (sym (same_step r w c.walked step.0 p q qs c.stands step.1)) step.2)
  where
    some_length : 0 < distance p q
    some_length = elim (cases_lt 0 (distance p q)) as (λ _. 0 < distance p q) [
      | inl l ↦ l
      | inr none ↦ let zero_is : distance p q ≡ 0 = omega (arith, none) in absurd (apart (sym (ap (λ n. forward (heading p q) n p) zero_is ∙ forward-zero (heading p q) p) ∙ straight_end p q straight))
    ]

-- a segment that meets it not, or has no length, leaves the line clear up to its end
pub clear_next : (r : Rect) (w : Walk) (p q : Point) (qs : List Point) → ClearTo r w p (q ∷ qs) → IsStraight p q → (p ≢ q → Meets r p q → ⊥) → ClearTo r w q qs
clear_next r w p q qs c straight not = record {
  walked = c.walked + distance p q;
  stands = stands_next w c.walked p q qs straight c.stands;
  clear = λ k l meets. elim (cases_lt k c.walked) as (λ _. ⊥) [
    | inl before ↦ c.clear k before meets
    | inr after ↦
        let i : ℕ = k - c.walked in
        let at : c.walked + i ≡ k = omega (arith, after) in
        let less : i < distance p q = omega (arith, l, after) in
        let here : MeetsAt r w (c.walked + i) = subst (MeetsAt r w) (sym at) meets in
        let step : StepMeets r (forward (heading p q) i p) (heading p q) = subst (λ X. X) (same_step r w c.walked i p q qs c.stands less) here in
        let whole : Meets r p q = subst (Meets r p) (straight_end p q straight) (from_step r p (heading p q) (distance p q) (i, less, step)) in
        not (λ same. let none = no_length p q same in omega (arith, less, none)) whole
  ];
}
  where
    no_length : (a b : Point) → a ≡ b → distance a b ≡ 0
    no_length a b same = subst (λ z. distance a z ≡ 0) same (nowhere a)

-- a line that is clear up to its end meets the rectangle nowhere
pub clear_last : (r : Rect) (first at : Point) (rest : List Point) → ClearTo r (walk_through first rest) at [] → LineMeets r (first ∷ rest) → ⊥
clear_last r first at rest c m =
    let w = walk_through first rest in
    let same : m.walk ≡ w = m.draws.1 in
    let end = stands_last w c.walked at c.stands in
    let within : m.k < length w.steps = subst (λ (v : Walk). m.k < length v.steps) same m.within in
    c.clear m.k (omega (arith, end, within)) (subst (λ v. MeetsAt r v m.k) same m.meets)

-- one that has a step that meets it does
pub line_hit : (r : Rect) (first : Point) (rest : List Point) → AreStraight first rest → (k : ℕ) × (k < length (walk_through first rest).steps) × MeetsAt r (walk_through first rest) k → LineMeets r (first ∷ rest)
line_hit r first rest straight h = record { walk = walk_through first rest; draws = (straight, refl); k = h.0; within = h.1; meets = h.2 }
