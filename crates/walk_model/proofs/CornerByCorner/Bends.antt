-- Bends and runs of a stretch of equal steps.
use Rattle.std.proofs.Common.{◌≡◌, ◌⊎◌, ℕ, suc, zero, ◌+◌, ◌<◌, ◌≤◌, Option, Some, None, List, [], ◌∷◌, ◌++◌, replicate, refl, sym, ap, ◌∙◌, inl, inr, zero-add, arith, append_assoc}
use Rattle.std.proofs.lemmas.List.{append-nil, replicate-append-replicate}
use Rattle.plane_geom.specs.declared.point.Dir.{Dir}
use Rattle.plane_geom.specs.declared.point.Dir.TheVariants.{East, South, West, North}
use Rattle.walk_model.specs.Cost.{turn, bends_after, bends, runs_after, runs}

-- to go on in the same direction is no bend
pub turn_same : (d : Dir) → turn d d ≡ 0
turn_same East = refl
turn_same South = refl
turn_same West = refl
turn_same North = refl

-- a step in the same direction, or a bend
pub one_direction : (d e : Dir) → (d ≡ e) ⊎ (0 < turn d e)
one_direction East East = inl refl
one_direction South South = inl refl
one_direction West West = inl refl
one_direction North North = inl refl
one_direction _ _ = inr (omega arith)

-- a bend is at most a doubling back
pub turn_bound : (d e : Dir) → turn d e ≤ 2
turn_bound East East = omega arith
turn_bound South South = omega arith
turn_bound West West = omega arith
turn_bound North North = omega arith
turn_bound _ _ = omega arith

-- a stretch of equal steps has no bend, and goes on the run before it
pub bends_after-stretch : (d : Dir) (n : ℕ) (ds : List Dir) → bends_after d (replicate n d ++ ds) ≡ bends_after d ds
bends_after-stretch d zero ds = refl
bends_after-stretch d (suc n) ds = omega (arith, turn_same d, bends_after-stretch d n ds)

pub runs_after-stretch : (d : Dir) (n : ℕ) (ds : List Dir) → runs_after d (replicate n d ++ ds) ≡ runs_after d ds
runs_after-stretch d zero ds = refl
runs_after-stretch d (suc n) ds = rw (turn_same d, zero-add) (runs_after-stretch d n ds)

-- equal steps, and the last of them with the steps after it
pub stretch_end : (n : ℕ) (d : Dir) (ds : List Dir) → replicate (suc n) d ++ ds ≡ replicate n d ++ (d ∷ ds)
stretch_end n d ds = ap (λ k. replicate k d ++ ds) (let e : suc n ≡ n + 1 = omega arith in e) ∙ ap (λ xs. xs ++ ds) (sym (replicate-append-replicate n 1 d)) ∙ append_assoc (replicate n d) (d ∷ []) ds

-- the bends of the steps that follow the last step, if there is one
abbrev pub bends_from : Option Dir → List Dir → ℕ
bends_from None ds = bends ds
bends_from (Some d) ds = bends_after d ds

-- the bends between the last step, if there is one, and the next
abbrev pub turn_from : Option Dir → Dir → ℕ
turn_from None e = 0
turn_from (Some d) e = turn d e

pub turn_from_bound : (last : Option Dir) (e : Dir) → turn_from last e ≤ 2
turn_from_bound None e = omega arith
turn_from_bound (Some d) e = turn_bound d e

-- a stretch that is not empty bends once, where it begins
pub bends_from-stretch : (last : Option Dir) (d : Dir) (n : ℕ) (ds : List Dir) → 0 < n → bends_from last (replicate n d ++ ds) ≡ turn_from last d + bends_from (Some d) ds
bends_from-stretch last d zero ds some = absurd (omega arith)
bends_from-stretch None d (suc n) ds some = omega (arith, bends_after-stretch d n ds)
bends_from-stretch (Some e) d (suc n) ds some = omega (arith, bends_after-stretch d n ds)

-- equal steps alone
pub bends-stretch : (d : Dir) (n : ℕ) → bends (replicate n d) ≡ 0
bends-stretch d zero = refl
bends-stretch d (suc n) = ap (bends_after d) (sym (append-nil (replicate n d))) ∙ bends_after-stretch d n []

pub runs-stretch : (d : Dir) (n : ℕ) → 0 < n → runs (replicate n d) ≡ 1
runs-stretch d zero some = absurd (omega arith)
runs-stretch d (suc n) some = let e : runs_after d (replicate n d) ≡ 0 = ap (runs_after d) (sym (append-nil (replicate n d))) ∙ runs_after-stretch d n [] in omega (arith, e)
