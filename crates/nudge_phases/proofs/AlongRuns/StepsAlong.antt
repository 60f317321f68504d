-- The unit steps along the runs of a route: which run a step is on, and where it begins.
use Rattle.std.proofs.Common.{◌≡◌, ℕ, suc, zero, ◌+◌, ◌-◌, ◌<◌, ◌≤◌, ℤ, pos, ◌-ℤ◌, ◌≤ℤ◌, List, [], ◌∷◌, ◌++◌, length, take, get_or, replicate, inl, inr, refl, sym, ap, subst, ◌∙◌, arith, length-append, unsigned_abs}
use Rattle.std.proofs.lemmas.Bool.{cases_lt}
use Rattle.std.proofs.lemmas.Int.{ints}
use Rattle.std.proofs.lemmas.List.{length-replicate, take-append-le, take-replicate, get_or-replicate, get_or_append_left, get_or-append-add}
use Rattle.plane_geom.specs.declared.point.Point.{Point}
use Rattle.plane_geom.specs.declared.point.Dir.{Dir}
use Rattle.plane_geom.specs.declared.point.Dir.TheVariants.{East, South, West, North}
use Rattle.plane_geom.specs.Along.{reach, way_of}
use Rattle.plane_geom.specs.Point.{forward, opposite}
use Rattle.plane_geom.specs.Floor.{point_on, Holds}
use Rattle.segment_order.specs.declared.run.Run.{Run}
use Rattle.segment_order.specs.Run.{IsRun, run_at, line_of_run, start_of_run, end_of_run, end_in}
use Rattle.walk_model.specs.Walk.{after}
use Rattle.walk_model.proofs.CornerByCorner.Scan.{after-append, after-replicate}
use Rattle.nudge_phases.specs.LegalRuns.{steps_of_run, steps_along}
use Rattle.nudge_phases.proofs.AlongRuns.Ends.{far_end, end_far, end_held}

-- the point of the direction's lines
abbrev pub place_on : Dir → Run → ℤ → Point
place_on d r z = point_on (way_of d) r.at z

pub end_on : (d e : Dir) (r : Run) → r.way ≡ way_of d → end_in e r ≡ place_on d r (far_end e r)
end_on d e r w = end_far e r ∙ ap (λ v. point_on v r.at (far_end e r)) w

-- the point c lies straight on from the point p, at most n steps
pub record IsAhead (d : Dir) (p c : Point) (n : ℕ) : Type 0 where
  pub difference : pos (unsigned_abs (reach d c -ℤ reach d p)) ≡ (reach d c -ℤ reach d p)
  pub there : forward d (unsigned_abs (reach d c -ℤ reach d p)) p ≡ c
  pub within : unsigned_abs (reach d c -ℤ reach d p) ≤ n

place_ahead : (d : Dir) (r : Run) (z : ℤ) → r.lo ≤ℤ z → z ≤ℤ r.hi → IsAhead d (place_on d r (far_end (opposite d) r)) (place_on d r z) (steps_of_run r)
place_ahead East r z h k = record { difference = omega (arith, ints); there = ap (λ (x : ℤ). record { x = x; y = r.at }) (omega (arith, ints)); within = omega (arith, ints) }
place_ahead South r z h k = record { difference = omega (arith, ints); there = ap (λ (y : ℤ). record { x = r.at; y = y }) (omega (arith, ints)); within = omega (arith, ints) }
place_ahead West r z h k = record { difference = omega (arith, ints); there = ap (λ (x : ℤ). record { x = x; y = r.at }) (omega (arith, ints)); within = omega (arith, ints) }
place_ahead North r z h k = record { difference = omega (arith, ints); there = ap (λ (y : ℤ). record { x = r.at; y = y }) (omega (arith, ints)); within = omega (arith, ints) }

whole_steps : (d : Dir) (r : Run) → r.lo ≤ℤ r.hi → unsigned_abs (reach d (place_on d r (far_end d r)) -ℤ reach d (place_on d r (far_end (opposite d) r))) ≡ steps_of_run r
whole_steps East r h = refl
whole_steps South r h = refl
whole_steps West r h = omega (arith, ints)
whole_steps North r h = omega (arith, ints)

-- how many steps lead from the run's begin to the point
abbrev pub steps_until : Run → Point → ℕ
steps_until r c = unsigned_abs (reach r.heading c -ℤ reach r.heading (start_of_run r))

pub on_run : (r : Run) (c : Point) → IsRun r → Holds (line_of_run r) c → IsAhead r.heading (start_of_run r) c (steps_of_run r)
on_run r c is holds =
    let d = r.heading in
    let n = steps_of_run r in
    let here : c ≡ place_on d r holds.along = holds.here ∙ ap (λ v. point_on v r.at holds.along) is.way in
    subst (λ (p : Point). IsAhead d p c n) (sym (end_on d (opposite d) r is.way))
    (subst (λ (q : Point). IsAhead d (place_on d r (far_end (opposite d) r)) q n) (sym here) (place_ahead d r holds.along holds.from holds.to))

pub steps_whole : (r : Run) → IsRun r → steps_until r (end_of_run r) ≡ steps_of_run r
steps_whole r is =
    let d = r.heading in
    ap (λ (p : Point). unsigned_abs (reach d p -ℤ reach d (start_of_run r))) (end_on d d r is.way)
    ∙ ap (λ (p : Point). unsigned_abs (reach d (place_on d r (far_end d r)) -ℤ reach d p)) (end_on d (opposite d) r is.way)
    ∙ whole_steps d r is.ordered

pub run_leads : (r : Run) → IsRun r → forward r.heading (steps_of_run r) (start_of_run r) ≡ end_of_run r
run_leads r is = ap (λ n. forward r.heading n (start_of_run r)) (sym (steps_whole r is)) ∙ (on_run r (end_of_run r) is (end_held r.heading r is)).there

-- the runs follow one another from the point on
abbrev pub Follow : Point → List Run → Type 0
Follow p [] = Unit {0}
Follow p (r ∷ rest) = IsRun r × (start_of_run r ≡ p) × Follow (end_of_run r) rest

pub follow : (p : Point) (runs : List Run) → ((k : ℕ) → k < length runs → IsRun (run_at runs k)) → ((k : ℕ) → k + 1 < length runs → end_of_run (run_at runs k) ≡ start_of_run (run_at runs (k + 1))) → (0 < length runs → start_of_run (run_at runs 0) ≡ p) → Follow p runs
follow p [] each joined first = tt
follow p (r ∷ rest) each joined first = (
  each 0 (omega arith),
  first (omega arith),
  follow (end_of_run r) rest
      (λ k h. each (suc k) (omega arith))
      (λ k h. joined (suc k) (omega arith) ∙ ap (λ n. start_of_run (run_at (r ∷ rest) n)) (let e : suc k + 1 ≡ suc (k + 1) = omega arith in e))
      (λ h. sym (joined 0 (omega arith) ∙ ap (λ n. start_of_run (run_at (r ∷ rest) n)) (let e : 0 + 1 ≡ suc 0 = omega arith in e))),
)

-- how many steps the runs before this one have
abbrev pub before : List Run → ℕ → ℕ
before [] k = 0
before (r ∷ rest) zero = 0
before (r ∷ rest) (suc k) = steps_of_run r + before rest k

-- the step with the number is on this run, so far on
pub record IsStepOn (runs : List Run) (k : ℕ) : Type 0 where
  pub run : ℕ
  pub offset : ℕ
  pub in_list : run < length runs
  pub on_it : offset < steps_of_run (run_at runs run)
  pub number : k ≡ before runs run + offset

length_along : (r : Run) (rest : List Run) → length (steps_along (r ∷ rest)) ≡ steps_of_run r + length (steps_along rest)
length_along r rest = length-append (replicate (steps_of_run r) r.heading) (steps_along rest) ∙ ap (λ n. n + length (steps_along rest)) (length-replicate (steps_of_run r) r.heading)

pub step_on : (runs : List Run) (k : ℕ) → k < length (steps_along runs) → IsStepOn runs k
step_on [] k h = absurd (omega arith)
step_on (r ∷ rest) k h =
    elim (cases_lt k (steps_of_run r)) as (λ _. IsStepOn (r ∷ rest) k) [
      | inl here ↦ record { run = 0; offset = k; in_list = omega arith; on_it = here; number = omega arith }
      | inr later ↦ (let s = step_on rest (k - steps_of_run r) (omega (arith, length_along r rest)) in
          record { run = suc s.run; offset = s.offset; in_list = omega (arith, s.in_list); on_it = s.on_it; number = omega (arith, s.number, later) })
    ]

take_after : (n : ℕ) (d : Dir) (m : ℕ) (xs : List Dir) → take (n + m) (replicate n d ++ xs) ≡ replicate n d ++ take m xs
take_after zero d m xs = ap (λ k. take k xs) (omega arith)
take_after (suc n) d m xs = ap (λ k. take k (d ∷ (replicate n d ++ xs))) (let e : suc n + m ≡ suc (n + m) = omega arith in e) ∙ ap (λ ys. d ∷ ys) (take_after n d m xs)

-- where the walk stands so far on along a run, and what its step is
pub stands_on : (p : Point) (runs : List Run) (j i : ℕ) → Follow p runs → j < length runs → i ≤ steps_of_run (run_at runs j) → after p (take (before runs j + i) (steps_along runs)) ≡ forward (run_at runs j).heading i (start_of_run (run_at runs j))
stands_on p [] j i f h g = absurd (omega arith)
stands_on p (r ∷ rest) zero i f h g =
    let n = steps_of_run r in
    let d = r.heading in
    let zero_on : 0 + i ≡ i = omega arith in
    ap (λ m. after p (take m (steps_along (r ∷ rest)))) zero_on
    ∙ ap (after p) (take-append-le i (replicate n d) (steps_along rest) (rw (length-replicate n d) g) ∙ take-replicate i n d g)
    ∙ after-replicate p i d ∙ ap (forward d i) (sym f.1)
stands_on p (r ∷ rest) (suc j) i f h g =
    let n = steps_of_run r in
    let d = r.heading in
    let m = before rest j + i in
    let sum : n + before rest j + i ≡ n + m = omega arith in
    ap (λ x. after p (take x (steps_along (r ∷ rest)))) sum
    ∙ ap (after p) (take_after n d m (steps_along rest)) ∙ after-append p (replicate n d) (take m (steps_along rest))
    ∙ ap (λ (q : Point). after q (take m (steps_along rest))) (after-replicate p n d ∙ ap (forward d n) (sym f.1) ∙ run_leads r f.0)
    ∙ stands_on (end_of_run r) rest j i f.2 (omega arith) g

pub step_of : (runs : List Run) (j i : ℕ) → j < length runs → i < steps_of_run (run_at runs j) → get_or (steps_along runs) (before runs j + i) East ≡ (run_at runs j).heading
step_of [] j i h g = absurd (omega arith)
step_of (r ∷ rest) zero i h g =
    let n = steps_of_run r in
    let d = r.heading in
    let zero_on : 0 + i ≡ i = omega arith in
    ap (λ m. get_or (steps_along (r ∷ rest)) m East) zero_on
    ∙ get_or_append_left (replicate n d) (steps_along rest) East i (rw (length-replicate n d) g) ∙ get_or-replicate n i d East g
step_of (r ∷ rest) (suc j) i h g =
    let n = steps_of_run r in
    let d = r.heading in
    let m = before rest j + i in
    ap (λ x. get_or (steps_along (r ∷ rest)) x East) (omega (arith, length-replicate n d))
    ∙ get_or-append-add (replicate n d) (steps_along rest) m East ∙ step_of rest j i (omega arith) g

-- the runs before one run have no fewer steps than those before an earlier one and that one
pub before_grows : (runs : List Run) (i j : ℕ) → i < j → j < length runs → before runs i + steps_of_run (run_at runs i) ≤ before runs j
before_grows [] i j h g = absurd (omega arith)
before_grows (r ∷ rest) zero zero h g = absurd (omega arith)
before_grows (r ∷ rest) (suc i) zero h g = absurd (omega arith)
before_grows (r ∷ rest) zero (suc j) h g = omega arith
before_grows (r ∷ rest) (suc i) (suc j) h g = omega (arith, before_grows rest i j (omega arith) (omega arith))

pub all_before : (runs : List Run) (j : ℕ) → j + 1 ≡ length runs → length (steps_along runs) ≡ before runs j + steps_of_run (run_at runs j)
all_before [] j e = absurd (omega arith)
all_before (r ∷ []) zero e = omega (arith, length_along r [])
all_before (r ∷ []) (suc j) e = absurd (omega arith)
all_before (r ∷ t ∷ rest) zero e = absurd (omega arith)
all_before (r ∷ t ∷ rest) (suc j) e = omega (arith, length_along r (t ∷ rest), all_before (t ∷ rest) j (omega arith))

-- steps that are all equal
pub all_equal : (xs : List Dir) (d : Dir) (n : ℕ) → length xs ≡ n → ((k : ℕ) → k < n → get_or xs k East ≡ d) → xs ≡ replicate n d
all_equal [] d zero e h = refl
all_equal [] d (suc n) e h = absurd (omega arith)
all_equal (x ∷ xs) d zero e h = absurd (omega arith)
all_equal (x ∷ xs) d (suc n) e h = ap (λ y. y ∷ xs) (h 0 (omega arith)) ∙ ap (λ ys. d ∷ ys) (all_equal xs d n (omega arith) (λ k g. h (suc k) (omega arith)))
