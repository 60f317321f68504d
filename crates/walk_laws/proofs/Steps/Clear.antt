-- Steps that meet no solid, and steps that pass checkpoints, over lists of steps.
use Rattle.std.proofs.Common.{◌≡◌, ◌≢◌, ◌+◌, ◌-◌, ℤ, Option, Some, List, [], ◌∷◌, ◌++◌, length, take, drop, get_or, All, inl, inr, refl, sym, ap, subst, ◌∙◌, arith, append_assoc, length-append}
use Rattle.std.proofs.lemmas.Bool.{cases_lt}
use Rattle.std.proofs.lemmas.List.{take_at, get_or_at, length-take-le, take-append-drop}
use Rattle.plane_geom.specs.declared.point.Point.{Point}
use Rattle.plane_geom.specs.declared.point.Dir.{Dir}
use Rattle.plane_geom.specs.declared.point.Dir.TheVariants.{East}
use Rattle.plane_geom.specs.declared.rect.Solid.{Solid}
use Rattle.plane_geom.specs.Point.{forward}
use Rattle.plane_geom.specs.Rect.{StepMeets}
use Rattle.walk_model.specs.Walk.{Walk, after, point_at, step_at}
use Rattle.walk_model.specs.Legal.{IsFree, Passes}
use Rattle.walk_model.proofs.CornerByCorner.Scan.{after-append}

-- a unit step meets no solid, except those of the node that may be met
abbrev pub IsClearStep : List Solid → Option ℤ → Point → Dir → Type 0
IsClearStep solids may p d = All (λ s. Some s.node ≢ may → StepMeets s.rect p d → ⊥) solids

-- so all of the steps from the point
abbrev pub IsClear : List Solid → Option ℤ → Point → List Dir → Type 0
IsClear solids may p [] = Unit {0}
IsClear solids may p (d ∷ ds) = IsClearStep solids may p d × IsClear solids may (forward d 1 p) ds

-- the steps from the point pass the checkpoints in order
abbrev pub ComesBy : Point → List Dir → List Point → Type 0
ComesBy p ds [] = Unit {0}
ComesBy p ds (c ∷ cs) = (xs : List Dir) × (ys : List Dir) × (ds ≡ xs ++ ys) × (after p xs ≡ c) × ComesBy c ys cs

pub clear-append : (solids : List Solid) (may : Option ℤ) (p : Point) (xs ys : List Dir) → IsClear solids may p xs → IsClear solids may (after p xs) ys → IsClear solids may p (xs ++ ys)
clear-append solids may p [] ys h k = k
clear-append solids may p (d ∷ xs) ys h k = (h.0, clear-append solids may (forward d 1 p) xs ys h.1 k)

pub clear_front : (solids : List Solid) (may : Option ℤ) (p : Point) (xs ys : List Dir) → IsClear solids may p (xs ++ ys) → IsClear solids may p xs
clear_front solids may p [] ys h = tt
clear_front solids may p (d ∷ xs) ys h = (h.0, clear_front solids may (forward d 1 p) xs ys h.1)

pub clear_back : (solids : List Solid) (may : Option ℤ) (p : Point) (xs ys : List Dir) → IsClear solids may p (xs ++ ys) → IsClear solids may (after p xs) ys
clear_back solids may p [] ys h = h
clear_back solids may p (d ∷ xs) ys h = clear_back solids may (forward d 1 p) xs ys h.1

-- where the walk stands after its first steps, and what its next step is
pub point_after : (w : Walk) (xs ys : List Dir) → w.steps ≡ xs ++ ys → point_at w (length xs) ≡ after w.start xs
point_after w xs ys e = ap (λ ds. after w.start (take (length xs) ds)) e ∙ ap (after w.start) (take_at xs ys (length xs) refl)

pub step_after : (w : Walk) (xs : List Dir) (d : Dir) (ys : List Dir) → w.steps ≡ xs ++ d ∷ ys → step_at w (length xs) ≡ d
step_after w xs d ys e = ap (λ ds. get_or ds (length xs) East) e ∙ get_or_at xs d ys East (length xs) refl

module _ (solids : List Solid) (may : Option ℤ) (w : Walk) where
  here_clear : (xs : List Dir) (d : Dir) (ys : List Dir) → w.steps ≡ xs ++ d ∷ ys → IsClearStep solids may (point_at w (length xs)) (step_at w (length xs)) → IsClearStep solids may (after w.start xs) d
  here_clear xs d ys e h = subst (λ p. IsClearStep solids may p d) (point_after w xs (d ∷ ys) e) (subst (IsClearStep solids may (point_at w (length xs))) (step_after w xs d ys e) h)

  here_free : (xs : List Dir) (d : Dir) (ys : List Dir) → w.steps ≡ xs ++ d ∷ ys → IsClearStep solids may (after w.start xs) d → IsClearStep solids may (point_at w (length xs)) (step_at w (length xs))
  here_free xs d ys e h = subst (IsClearStep solids may (point_at w (length xs))) (sym (step_after w xs d ys e)) (subst (λ p. IsClearStep solids may p d) (sym (point_after w xs (d ∷ ys) e)) h)

  -- the same over a range of numbers and over the steps themselves
  pub clear_from_free : (xs ys zs : List Dir) → w.steps ≡ xs ++ (ys ++ zs) → IsFree solids may w (length xs) (length xs + length ys) → IsClear solids may (after w.start xs) ys
  clear_from_free xs [] zs e f = tt
  clear_from_free xs (d ∷ ys) zs e f = (
    here_clear xs d (ys ++ zs) e (f (length xs) (omega arith) (omega arith)),
    subst (λ p. IsClear solids may p ys) (after-append w.start xs (d ∷ []))
        (clear_from_free (xs ++ d ∷ []) ys zs (e ∙ sym (append_assoc xs (d ∷ []) (ys ++ zs)))
        (λ k low high. f k (omega (arith, length-append xs (d ∷ []))) (omega (arith, length-append xs (d ∷ []))))),
  )

  pub free_from_clear : (xs ys zs : List Dir) → w.steps ≡ xs ++ (ys ++ zs) → IsClear solids may (after w.start xs) ys → IsFree solids may w (length xs) (length xs + length ys)
  free_from_clear xs [] zs e c = λ k low high. absurd (omega arith)
  free_from_clear xs (d ∷ ys) zs e c = λ k low high. elim (cases_lt (length xs) k) as (λ _. IsClearStep solids may (point_at w k) (step_at w k)) [
    | inl later ↦ free_from_clear (xs ++ d ∷ []) ys zs (e ∙ sym (append_assoc xs (d ∷ []) (ys ++ zs)))
        (subst (λ p. IsClear solids may p ys) (sym (after-append w.start xs (d ∷ []))) c.1) k
        (omega (arith, length-append xs (d ∷ []))) (omega (arith, length-append xs (d ∷ [])))
    | inr here ↦ (let same : length xs ≡ k = omega arith in
        subst (λ j. IsClearStep solids may (point_at w j) (step_at w j)) same (here_free xs d (ys ++ zs) e c.0))
  ]

pub comes_from_passes : (w : Walk) (xs ys zs : List Dir) (cs : List Point) → w.steps ≡ xs ++ (ys ++ zs) → Passes w (length xs) (length xs + length ys) cs → ComesBy (after w.start xs) ys cs
comes_from_passes w xs ys zs [] e p = tt
comes_from_passes w xs ys zs (c ∷ cs) e p =
    let m = p.0 - length xs in
    let ps = take m ys in
    let qs = drop m ys in
    let parts : ys ≡ ps ++ qs = sym (take-append-drop m ys) in
    let long : length ps ≡ m = length-take-le m ys (omega (arith, p.1, p.2)) in
    let far : length (xs ++ ps) ≡ p.0 = omega (arith, length-append xs ps, long, p.1) in
    let whole : w.steps ≡ (xs ++ ps) ++ (qs ++ zs) = e ∙ ap (λ ds. xs ++ (ds ++ zs)) parts ∙ ap (λ ds. xs ++ ds) (append_assoc ps qs zs) ∙ sym (append_assoc xs ps (qs ++ zs)) in
    let here : after (after w.start xs) ps ≡ c = sym (after-append w.start xs ps) ∙ sym (point_after w (xs ++ ps) (qs ++ zs) whole) ∙ ap (point_at w) far ∙ p.3 in
    let last : length xs + length ys ≡ length (xs ++ ps) + length qs = omega (arith, ap length parts, length-append ps qs, length-append xs ps) in
    let rest : Passes w (length (xs ++ ps)) (length (xs ++ ps) + length qs) cs =
    subst (λ j. Passes w j (length (xs ++ ps) + length qs) cs) (sym far) (subst (λ j. Passes w p.0 j cs) last p.4) in
    (ps, qs, parts, here, subst (λ q. ComesBy q qs cs) (after-append w.start xs ps ∙ here) (comes_from_passes w (xs ++ ps) qs zs cs whole rest))

pub passes_from_comes : (w : Walk) (xs ys zs : List Dir) (cs : List Point) → w.steps ≡ xs ++ (ys ++ zs) → ComesBy (after w.start xs) ys cs → Passes w (length xs) (length xs + length ys) cs
passes_from_comes w xs ys zs [] e h = tt
passes_from_comes w xs ys zs (c ∷ cs) e h =
    let ps = h.0 in
    let qs = h.1 in
    let whole : w.steps ≡ (xs ++ ps) ++ (qs ++ zs) = e ∙ ap (λ ds. xs ++ (ds ++ zs)) h.2 ∙ ap (λ ds. xs ++ ds) (append_assoc ps qs zs) ∙ sym (append_assoc xs ps (qs ++ zs)) in
    let here : after w.start (xs ++ ps) ≡ c = after-append w.start xs ps ∙ h.3 in
    let last : length (xs ++ ps) + length qs ≡ length xs + length ys = omega (arith, ap length h.2, length-append ps qs, length-append xs ps) in
    let rest : Passes w (length (xs ++ ps)) (length xs + length ys) cs =
    subst (λ j. Passes w (length (xs ++ ps)) j cs) last (passes_from_comes w (xs ++ ps) qs zs cs whole (subst (λ q. ComesBy q qs cs) (sym here) h.4)) in
    (length (xs ++ ps), omega (arith, length-append xs ps), omega (arith, last), point_after w (xs ++ ps) (qs ++ zs) whole ∙ here, rest)
