-- A run between two equal steps across it, and the same run one step to either side.
use Rattle.std.proofs.Common.{◌≡◌, ◌≢◌, ℕ, ◌+◌, ◌<◌, ◌≤◌, ℤ, ◌+ℤ◌, List, [], ◌∷◌, ◌++◌, replicate, Option, Some, None, refl, sym, ap, ◌∙◌, inl, inr, arith, append_assoc}
use Rattle.std.proofs.lemmas.Int.{ints}
use Rattle.plane_geom.specs.declared.point.Point.{Point}
use Rattle.plane_geom.specs.declared.point.Dir.{Dir}
use Rattle.plane_geom.specs.declared.point.Dir.TheVariants.{East, South, West, North}
use Rattle.plane_geom.specs.Along.{way_of, across}
use Rattle.plane_geom.specs.Point.{forward}
use Rattle.walk_model.specs.Walk.{after}
use Rattle.walk_model.specs.Cost.{turn, bends, runs, runs_after}
use Rattle.walk_model.specs.Lean.{lean, lean_after}
use Rattle.walk_model.proofs.CornerByCorner.Bends.{bends_from-stretch, runs_after-stretch, turn_from, turn_same, one_direction}
use Rattle.walk_model.proofs.CornerByCorner.Shapes.{runs_from, new_runs, new_lean, lean_after-stretch}
use Rattle.walk_model.proofs.CornerByCorner.Scan.{forward-forward}
use Rattle.walk_laws.proofs.Steps.Turns.{triangle, bends_after_by}
use Rattle.walk_laws.proofs.Steps.Fronts.{Leave, leave, leave_end}

-- steps in two directions may be exchanged
pub exchange : (d e : Dir) (m n : ℕ) (p : Point) → forward d m (forward e n p) ≡ forward e n (forward d m p)
exchange East East m n p = ap (λ (x : ℤ). record { x = x; y = p.y }) (omega (arith, ints))
exchange East West m n p = ap (λ (x : ℤ). record { x = x; y = p.y }) (omega (arith, ints))
exchange West East m n p = ap (λ (x : ℤ). record { x = x; y = p.y }) (omega (arith, ints))
exchange West West m n p = ap (λ (x : ℤ). record { x = x; y = p.y }) (omega (arith, ints))
exchange South South m n p = ap (λ (y : ℤ). record { x = p.x; y = y }) (omega (arith, ints))
exchange South North m n p = ap (λ (y : ℤ). record { x = p.x; y = y }) (omega (arith, ints))
exchange North South m n p = ap (λ (y : ℤ). record { x = p.x; y = y }) (omega (arith, ints))
exchange North North m n p = ap (λ (y : ℤ). record { x = p.x; y = y }) (omega (arith, ints))
exchange _ _ m n p = refl

-- the coordinate across a step stays on the way along it
pub across-forward : (u : Dir) (n : ℕ) (p : Point) → across (way_of u) (forward u n p) ≡ across (way_of u) p
across-forward East n p = refl
across-forward South n p = refl
across-forward West n p = refl
across-forward North n p = refl

-- directions with a bend between them differ
pub bend_differs : (u d : Dir) → 0 < turn u d → u ≢ d
bend_differs u d h e = let none : turn u d ≡ 0 = ap (turn u) (sym e) ∙ turn_same u in omega (arith, none, h)

pub turn_back : (u d : Dir) → turn u d ≡ turn d u
turn_back East East = refl
turn_back South South = refl
turn_back West West = refl
turn_back North North = refl
turn_back East West = refl
turn_back West East = refl
turn_back North South = refl
turn_back South North = refl
turn_back _ _ = refl

over : (u d : Dir) → turn u d ≡ 1 → 0 < turn u d
over u d h = omega (arith, h)

over_back : (u d : Dir) → turn u d ≡ 1 → 0 < turn d u
over_back u d h = omega (arith, h, turn_back d u)

-- after a bend a stretch begins a run
bend_runs : (u d : Dir) (n : ℕ) (ds : List Dir) → 0 < turn u d → 0 < n → runs_after u (replicate n d ++ ds) ≡ 1 + runs_after d ds
bend_runs u d n ds turns some = new_runs (Some u) d n ds some (λ e. bend_differs u d turns (let same : u ≡ d = cc in same))

bend_lean : (u d : Dir) (n : ℕ) (p : Point) (ds : List Dir) → 0 < turn u d → 0 < n → lean_after u p (replicate n d ++ ds) ≡ across (way_of d) p +ℤ lean_after d (forward d n p) ds
bend_lean u d n p ds turns some = new_lean (Some u) d n p ds some (λ e. bend_differs u d turns (let same : u ≡ d = cc in same))

turn_from_by : (last : Option Dir) (u d : Dir) → turn_from last d ≤ turn_from last u + turn u d
turn_from_by None u d = omega arith
turn_from_by (Some e) u d = triangle e u d

-- a step that begins no run goes on the last one
goes_on : (last : Option Dir) (u : Dir) (ds : List Dir) → runs_from last (u ∷ ds) ≤ runs_after u ds → last ≡ Some u
goes_on None u ds h = absurd (omega arith)
goes_on (Some e) u ds h = elim (one_direction e u) as (λ _. Some e ≡ Some u) [
  | inl same ↦ ap Some same
  | inr other ↦ absurd (omega (arith, bend_runs e u 1 ds other (omega arith), h))
]

pub runs_most : (last : Option Dir) (d : Dir) (n : ℕ) (ds : List Dir) → 0 < n → runs_from last (replicate n d ++ ds) ≤ 1 + runs_after d ds
runs_most None d n ds h = omega (arith, new_runs None d n ds h (λ e. cc))
runs_most (Some e) d n ds h = elim (one_direction e d) as (λ _. runs_after e (replicate n d ++ ds) ≤ 1 + runs_after d ds) [
  | inl same ↦ omega (arith, ap (λ (f : Dir). runs_after f (replicate n d ++ ds)) same, runs_after-stretch d n ds)
  | inr other ↦ omega (arith, bend_runs e d n ds other h)
]

-- a run between two steps across it, and the same run one step to either side
abbrev pub between : List Dir → List Dir → Dir → Dir → ℕ → List Dir
between front back u d n = front ++ (u ∷ (replicate n d ++ (u ∷ back)))

abbrev pub sooner : List Dir → List Dir → Dir → Dir → ℕ → List Dir
sooner front back u d n = front ++ (replicate n d ++ (u ∷ u ∷ back))

abbrev pub later : List Dir → List Dir → Dir → Dir → ℕ → List Dir
later front back u d n = front ++ (u ∷ u ∷ (replicate n d ++ back))

module _ (front back : List Dir) (u d : Dir) (n : ℕ) (cross : turn u d ≡ 1) (some : 0 < n) where
  pub sooner_bends : bends (sooner front back u d n) ≤ bends (between front back u d n)
  sooner_bends =
      let l = leave front in
      let last = l.0 in
      omega (
        arith,
        l.1.bends_on (replicate n d ++ (u ∷ u ∷ back)),
        l.1.bends_on (u ∷ (replicate n d ++ (u ∷ back))),
        bends_from-stretch last d n (u ∷ u ∷ back) some,
        bends_from-stretch last u 1 (replicate n d ++ (u ∷ back)) (omega arith),
        bends_from-stretch (Some u) d n (u ∷ back) some,
        turn_same u,
        turn_from_by last u d,
      )

  pub later_bends : bends (later front back u d n) ≤ bends (between front back u d n)
  later_bends =
      let l = leave front in
      let last = l.0 in
      omega (
        arith,
        l.1.bends_on (u ∷ u ∷ (replicate n d ++ back)),
        l.1.bends_on (u ∷ (replicate n d ++ (u ∷ back))),
        bends_from-stretch last u 2 (replicate n d ++ back) (omega arith),
        bends_from-stretch last u 1 (replicate n d ++ (u ∷ back)) (omega arith),
        bends_from-stretch (Some u) d n (u ∷ back) some,
        bends_from-stretch (Some u) d n back some,
        bends_after_by d u back,
      )

  -- where the run one step sooner has no fewer runs, the step before goes the same way
  pub before_same : (last : Option Dir) → Leave front last → runs (between front back u d n) ≤ runs (sooner front back u d n) → last ≡ Some u
  before_same last l h =
      goes_on last u (replicate n d ++ (u ∷ back)) (omega (
        arith,
        h,
        l.runs_on (u ∷ (replicate n d ++ (u ∷ back))),
        l.runs_on (replicate n d ++ (u ∷ u ∷ back)),
        runs_most last d n (u ∷ u ∷ back) some,
        bend_runs u d n (u ∷ back) (over u d cross) some,
        bend_runs d u 1 (u ∷ back) (over_back u d cross) (omega arith),
        bend_runs d u 1 back (over_back u d cross) (omega arith),
        runs_after-stretch u 1 back,
      ))

-- the run one step sooner has as many runs and leans less by the step
module _ (front back : List Dir) (u d : Dir) (n : ℕ) (p : Point) (cross : turn u d ≡ 1) (some : 0 < n) (l : Leave front (Some u)) where
  abbrev q : Point
  q = after p front

  abbrev end : Point
  end = forward d n q

  pub runs_sooner : runs (sooner front back u d n) ≡ runs (between front back u d n)
  runs_sooner =
      omega (
        arith,
        l.runs_on (u ∷ (replicate n d ++ (u ∷ back))),
        l.runs_on (replicate n d ++ (u ∷ u ∷ back)),
        runs_after-stretch u 1 (replicate n d ++ (u ∷ back)),
        bend_runs u d n (u ∷ back) (over u d cross) some,
        bend_runs u d n (u ∷ u ∷ back) (over u d cross) some,
        bend_runs d u 1 back (over_back u d cross) (omega arith),
        bend_runs d u 2 back (over_back u d cross) (omega arith),
      )

  pub lean_between : lean p (between front back u d n) ≡ lean p front +ℤ (across (way_of d) (forward u 1 q) +ℤ (across (way_of u) end +ℤ lean_after u (forward u 2 end) back))
  lean_between =
      let r = forward d n (forward u 1 q) in
      let there : r ≡ forward u 1 end = exchange d u n 1 q in
      let last : forward u 1 r ≡ forward u 2 end = ap (forward u 1) there ∙ forward-forward u 1 1 end in
      omega (
        arith,
        ints,
        l.lean_on p (u ∷ (replicate n d ++ (u ∷ back))),
        lean_after-stretch u 1 q (replicate n d ++ (u ∷ back)),
        bend_lean u d n (forward u 1 q) (u ∷ back) (over u d cross) some,
        bend_lean d u 1 r back (over_back u d cross) (omega arith),
        ap (across (way_of u)) there,
        across-forward u 1 end,
        ap (λ x. lean_after u x back) last,
      )

  pub lean_sooner : lean p (sooner front back u d n) ≡ lean p front +ℤ (across (way_of d) q +ℤ (across (way_of u) end +ℤ lean_after u (forward u 2 end) back))
  lean_sooner =
      omega (
        arith,
        ints,
        l.lean_on p (replicate n d ++ (u ∷ u ∷ back)),
        bend_lean u d n q (u ∷ u ∷ back) (over u d cross) some,
        bend_lean d u 2 end back (over_back u d cross) (omega arith),
      )

-- the run one step later
module _ (front : List Dir) (u d : Dir) (n : ℕ) (p : Point) (cross : turn u d ≡ 1) (some : 0 < n) where
  abbrev begun : List Dir
  begun = front ++ u ∷ []

  abbrev r : Point
  r = after p begun

  between_begun : (back : List Dir) → between front back u d n ≡ begun ++ (replicate n d ++ (u ∷ back))
  between_begun back = sym (append_assoc front (u ∷ []) (replicate n d ++ (u ∷ back)))

  later_begun : (back : List Dir) → later front back u d n ≡ begun ++ (u ∷ (replicate n d ++ back))
  later_begun back = sym (append_assoc front (u ∷ []) (u ∷ (replicate n d ++ back)))

  -- where it has no fewer runs, the step after it goes the same way
  pub behind_same : (back : List Dir) → runs (between front back u d n) ≤ runs (later front back u d n) → (rest : List Dir) × (back ≡ u ∷ rest)
  behind_same [] h = absurd (
      let l = leave_end front u in
      omega (
        arith,
        h,
        ap runs (between_begun []),
        ap runs (later_begun []),
        l.runs_on (replicate n d ++ (u ∷ [])),
        l.runs_on (u ∷ (replicate n d ++ [])),
        runs_after-stretch u 1 (replicate n d ++ []),
        bend_runs u d n (u ∷ []) (over u d cross) some,
        bend_runs u d n [] (over u d cross) some,
        bend_runs d u 1 [] (over_back u d cross) (omega arith),
      ))
  behind_same (k ∷ rest) h = elim (one_direction u k) as (λ _. (rest' : List Dir) × (k ∷ rest ≡ u ∷ rest')) [
    | inl same ↦ (rest, ap (λ (f : Dir). f ∷ rest) (sym same))
    | inr other ↦ absurd (
        let l = leave_end front u in
        omega (
          arith,
          h,
          ap runs (between_begun (k ∷ rest)),
          ap runs (later_begun (k ∷ rest)),
          l.runs_on (replicate n d ++ (u ∷ k ∷ rest)),
          l.runs_on (u ∷ (replicate n d ++ (k ∷ rest))),
          runs_after-stretch u 1 (replicate n d ++ (k ∷ rest)),
          bend_runs u d n (u ∷ k ∷ rest) (over u d cross) some,
          bend_runs u d n (k ∷ rest) (over u d cross) some,
          bend_runs d u 1 (k ∷ rest) (over_back u d cross) (omega arith),
          bend_runs u k 1 rest other (omega arith),
          runs_most (Some d) k 1 rest (omega arith),
        ))
  ]

  module _ (rest : List Dir) where
    -- then it has as many runs, and leans less by the step
    pub runs_later : runs (later front (u ∷ rest) u d n) ≡ runs (between front (u ∷ rest) u d n)
    runs_later =
        let l = leave_end front u in
        omega (
          arith,
          ap runs (between_begun (u ∷ rest)),
          ap runs (later_begun (u ∷ rest)),
          l.runs_on (replicate n d ++ (u ∷ u ∷ rest)),
          l.runs_on (u ∷ (replicate n d ++ (u ∷ rest))),
          runs_after-stretch u 1 (replicate n d ++ (u ∷ rest)),
          bend_runs u d n (u ∷ u ∷ rest) (over u d cross) some,
          bend_runs u d n (u ∷ rest) (over u d cross) some,
          bend_runs d u 2 rest (over_back u d cross) (omega arith),
          bend_runs d u 1 rest (over_back u d cross) (omega arith),
        )

    pub lean_between_begun : lean p (between front (u ∷ rest) u d n) ≡ lean p begun +ℤ (across (way_of d) r +ℤ (across (way_of u) (forward d n r) +ℤ lean_after u (forward u 2 (forward d n r)) rest))
    lean_between_begun =
        let l = leave_end front u in
        omega (
          arith,
          ints,
          ap (lean p) (between_begun (u ∷ rest)),
          l.lean_on p (replicate n d ++ (u ∷ u ∷ rest)),
          bend_lean u d n r (u ∷ u ∷ rest) (over u d cross) some,
          bend_lean d u 2 (forward d n r) rest (over_back u d cross) (omega arith),
        )

    pub lean_later : lean p (later front (u ∷ rest) u d n) ≡ lean p begun +ℤ (across (way_of d) (forward u 1 r) +ℤ (across (way_of u) (forward d n r) +ℤ lean_after u (forward u 2 (forward d n r)) rest))
    lean_later =
        let l = leave_end front u in
        let end = forward d n (forward u 1 r) in
        let there : end ≡ forward u 1 (forward d n r) = exchange d u n 1 r in
        let last : forward u 1 end ≡ forward u 2 (forward d n r) = ap (forward u 1) there ∙ forward-forward u 1 1 (forward d n r) in
        omega (
          arith,
          ints,
          ap (lean p) (later_begun (u ∷ rest)),
          l.lean_on p (u ∷ (replicate n d ++ (u ∷ rest))),
          lean_after-stretch u 1 r (replicate n d ++ (u ∷ rest)),
          bend_lean u d n (forward u 1 r) (u ∷ rest) (over u d cross) some,
          bend_lean d u 1 end rest (over_back u d cross) (omega arith),
          ap (across (way_of u)) there,
          across-forward u 1 (forward d n r),
          ap (λ x. lean_after u x rest) last,
        )
