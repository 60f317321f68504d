-- What is left of a line's steps, as a stretch and the line after it.
use Rattle.std.proofs.Common.{◌≡◌, ℕ, suc, zero, ◌-◌, ◌≤◌, List, ◌∷◌, ◌++◌, replicate, drop, All, refl, sym, ap, subst, ◌∙◌, arith}
use Rattle.std.specs.declared.cmp.Ordering.TheVariants.{Equal}
use Rattle.std.specs.Ordering.{ordering_then}
use Rattle.std.specs.Cmp.Lexicographic.{slice_cmp}
use Rattle.std.proofs.lemmas.List.Elements.{All-head, All-tail}
use Rattle.plane_geom.specs.declared.point.Point.{Point}
use Rattle.plane_geom.specs.declared.point.Dir.{Dir}
use Rattle.plane_geom.specs.declared.point.Dir.TheVariants.{East, South, West, North}
use Rattle.plane_geom.specs.Point.{PointIsOnSheet, distance, heading}
use Rattle.walk_model.specs.Line.{steps_through}
use Rattle.walk_model.specs.Order.{dir_cmp}

-- a stretch and a line on the sheet, with the same steps as another stretch and line
pub record Same (dir : Dir) (stretch : ℕ) (at : Point) (rest : List Point) (dir' : Dir) (stretch' : ℕ) (at' : Point) (rest' : List Point) : Type 0 where
  pub within : PointIsOnSheet at'
  pub rest_within : All PointIsOnSheet rest'
  pub steps : replicate stretch' dir' ++ steps_through at' rest' ≡ replicate stretch dir ++ steps_through at rest

-- an empty stretch gives way to the next segment
pub same_next : (d : Dir) (n : ℕ) (p : Point) (ps : List Point) (d' : Dir) (n' : ℕ) (p' : Point) (ps' : List Point) (q : Point) (qs : List Point) →
    n' ≡ 0 → ps' ≡ q ∷ qs → Same d n p ps d' n' p' ps' → Same d n p ps (heading p' q) (distance p' q) q qs
same_next d n p ps d' n' p' ps' q qs none e same = record {
  within = All-head PointIsOnSheet q qs (subst (All PointIsOnSheet) e same.rest_within);
  rest_within = All-tail PointIsOnSheet q qs (subst (All PointIsOnSheet) e same.rest_within);
  steps = sym (ap (λ k. replicate k d' ++ steps_through p' ps') none ∙ ap (steps_through p') e) ∙ same.steps;
}

-- the steps after some of a stretch
pub drop-stretch : (k n : ℕ) (d : Dir) (ds : List Dir) → k ≤ n → drop k (replicate n d ++ ds) ≡ replicate (n - k) d ++ ds
drop-stretch zero n d ds h = ap (λ m. replicate m d ++ ds) (omega arith)
drop-stretch (suc k) zero d ds h = absurd (omega arith)
drop-stretch (suc k) (suc n) d ds h = drop-stretch k n d ds (omega arith) ∙ ap (λ m. replicate m d ++ ds) (omega arith)

dir_cmp_same : (d : Dir) → dir_cmp d d ≡ Equal
dir_cmp_same East = refl
dir_cmp_same South = refl
dir_cmp_same West = refl
dir_cmp_same North = refl

-- equal steps in front leave the order to the others
pub slice_cmp-stretch : (n : ℕ) (d : Dir) (xs ys : List Dir) → slice_cmp dir_cmp (replicate n d ++ xs) (replicate n d ++ ys) ≡ slice_cmp dir_cmp xs ys
slice_cmp-stretch zero d xs ys = refl
slice_cmp-stretch (suc n) d xs ys = ap (λ o. ordering_then o (slice_cmp dir_cmp (replicate n d ++ xs) (replicate n d ++ ys))) (dir_cmp_same d) ∙ slice_cmp-stretch n d xs ys
