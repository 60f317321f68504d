-- Between two points of one line no steps are fewer, or bend less, than those straight on.
use Rattle.std.proofs.Common.{◌≡◌, ◌⊎◌, ℕ, suc, zero, ◌<◌, ◌≤◌, pos, ◌+ℤ◌, ◌≤ℤ◌, List, [], ◌∷◌, ◌++◌, replicate, length, refl, sym, ap, ◌∙◌, inl, inr, arith, append_assoc}
use Rattle.std.proofs.lemmas.Int.{ints}
use Rattle.plane_geom.specs.declared.point.Point.{Point}
use Rattle.plane_geom.specs.declared.point.Dir.{Dir}
use Rattle.plane_geom.specs.declared.point.Dir.TheVariants.{East, South, West, North}
use Rattle.plane_geom.specs.Along.{reach}
use Rattle.plane_geom.specs.Point.{forward}
use Rattle.walk_model.specs.Walk.{after}
use Rattle.walk_model.specs.Cost.{turn, bends}
use Rattle.walk_model.proofs.CornerByCorner.Bends.{bends_from-stretch, one_direction}
use Rattle.walk_laws.proofs.Steps.Turns.{bends_drop}
use Rattle.walk_laws.proofs.Steps.Fronts.{leave}

reach_step : (d e : Dir) (p : Point) → reach d (forward e 1 p) ≤ℤ (reach d p +ℤ pos 1)
reach_step East East p = omega (arith, ints)
reach_step South South p = omega (arith, ints)
reach_step West West p = omega (arith, ints)
reach_step North North p = omega (arith, ints)
reach_step _ _ p = omega (arith, ints)

reach_other : (d e : Dir) (p : Point) → 0 < turn d e → reach d (forward e 1 p) ≤ℤ reach d p
reach_other East East p h = absurd (omega arith)
reach_other South South p h = absurd (omega arith)
reach_other West West p h = absurd (omega arith)
reach_other North North p h = absurd (omega arith)
reach_other _ _ p h = omega (arith, ints)

pub reach-forward : (d : Dir) (n : ℕ) (p : Point) → reach d (forward d n p) ≡ reach d p +ℤ pos n
reach-forward East n p = omega (arith, ints)
reach-forward South n p = omega (arith, ints)
reach-forward West n p = omega (arith, ints)
reach-forward North n p = omega (arith, ints)

-- steps that lead further in a direction have a step in it
has_step : (d : Dir) (p : Point) (xs : List Dir) → ((ys : List Dir) × (zs : List Dir) × (xs ≡ ys ++ d ∷ zs)) ⊎ (reach d (after p xs) ≤ℤ reach d p)
has_step d p [] = inr (omega (arith, ints))
has_step d p (e ∷ xs) = elim (one_direction d e) as (λ _. ((ys : List Dir) × (zs : List Dir) × (e ∷ xs ≡ ys ++ d ∷ zs)) ⊎ (reach d (after p (e ∷ xs)) ≤ℤ reach d p)) [
  | inl same ↦ inl ([], xs, ap (λ (f : Dir). f ∷ xs) (sym same))
  | inr other ↦ elim (has_step d (forward e 1 p) xs) as (λ _. ((ys : List Dir) × (zs : List Dir) × (e ∷ xs ≡ ys ++ d ∷ zs)) ⊎ (reach d (after p (e ∷ xs)) ≤ℤ reach d p)) [
    | inl h ↦ inl (e ∷ h.0, h.1, ap (λ ds. e ∷ ds) h.2)
    | inr h ↦ inr (omega (arith, ints, h, reach_other d e p other))
  ]
]

reach_length : (d : Dir) (p : Point) (xs : List Dir) → reach d (after p xs) ≤ℤ (reach d p +ℤ pos (length xs))
reach_length d p [] = omega (arith, ints)
reach_length d p (e ∷ xs) = omega (arith, ints, reach_length d (forward e 1 p) xs, reach_step d e p)

-- and where they lead as far as they can, all are in it
all_steps : (d : Dir) (p : Point) (xs : List Dir) → (reach d p +ℤ pos (length xs)) ≤ℤ reach d (after p xs) → xs ≡ replicate (length xs) d
all_steps d p [] h = refl
all_steps d p (e ∷ xs) h = elim (one_direction d e) as (λ _. e ∷ xs ≡ d ∷ replicate (length xs) d) [
  | inl same ↦ ap (λ (f : Dir). f ∷ xs) (sym same) ∙ ap (λ ds. d ∷ ds) (all_steps d (forward e 1 p) xs (omega (arith, ints, h, reach_step d e p)))
  | inr other ↦ absurd (omega (arith, ints, h, reach_other d e p other, reach_length d (forward e 1 p) xs))
]

-- a stretch bends as its one step does
bends_stretch : (front : List Dir) (d : Dir) (n : ℕ) (back : List Dir) → bends (front ++ (replicate (suc n) d ++ back)) ≡ bends (front ++ (d ∷ back))
bends_stretch front d n back =
    let l = leave front in
    omega (arith, l.1.bends_on (replicate (suc n) d ++ back), l.1.bends_on (d ∷ back), bends_from-stretch l.0 d (suc n) back (omega arith), bends_from-stretch l.0 d 1 back (omega arith))

-- between two points on one line, no steps have fewer bends than those of the straight way
pub straight_bends : (front back xs : List Dir) (d : Dir) (m : ℕ) (p : Point) → after p xs ≡ forward d m p → bends (front ++ (replicate m d ++ back)) ≤ bends (front ++ (xs ++ back))
straight_bends front back xs d zero p e = bends_drop front xs back
straight_bends front back xs d (suc n) p e = by_step (has_step d p xs)
  where
    by_step : ((ys : List Dir) × (zs : List Dir) × (xs ≡ ys ++ d ∷ zs)) ⊎ (reach d (after p xs) ≤ℤ reach d p) → bends (front ++ (replicate (suc n) d ++ back)) ≤ bends (front ++ (xs ++ back))
    by_step (inr h) = absurd (omega (arith, ints, h, ap (reach d) e, reach-forward d (suc n) p))
    by_step (inl (ys, zs, f)) =
        let whole : bends (front ++ (xs ++ back)) ≡ bends ((front ++ (ys ++ d ∷ [])) ++ (zs ++ back)) =
        ap (λ ds. bends (front ++ (ds ++ back))) f
        ∙ ap (λ ds. bends (front ++ ds)) (append_assoc ys (d ∷ zs) back)
        ∙ ap bends (sym (append_assoc front (ys ++ d ∷ []) (zs ++ back) ∙ ap (λ ds. front ++ ds) (append_assoc ys (d ∷ []) (zs ++ back)))) in
        let less : bends ((front ++ (ys ++ d ∷ [])) ++ back) ≡ bends (front ++ (ys ++ (d ∷ back))) =
        ap bends (append_assoc front (ys ++ d ∷ []) back ∙ ap (λ ds. front ++ ds) (append_assoc ys (d ∷ []) back)) in
        omega (arith, whole, less, bends_stretch front d n back, bends_drop front ys (d ∷ back), bends_drop (front ++ (ys ++ d ∷ [])) zs back)

-- nor are they fewer, and where they are not more they are the straight way
pub straight_length : (xs : List Dir) (d : Dir) (m : ℕ) (p : Point) → after p xs ≡ forward d m p → m ≤ length xs
straight_length xs d m p e = omega (arith, ints, ap (reach d) e, reach-forward d m p, reach_length d p xs)

pub straight_only : (xs : List Dir) (d : Dir) (m : ℕ) (p : Point) → after p xs ≡ forward d m p → length xs ≤ m → xs ≡ replicate m d
straight_only xs d m p e h =
    let same : length xs ≡ m = omega (arith, h, straight_length xs d m p e) in
    all_steps d p xs (omega (arith, ints, same, ap (reach d) e, reach-forward d m p)) ∙ ap (λ n. replicate n d) same
