-- What it means for steps that they are no later than others.
use Rattle.std.proofs.Common.{◌≡◌, ◌≢◌, ℕ, suc, zero, ◌<◌, ◌≤◌, List, ◌∷◌, ◌++◌, replicate, inl, inr, refl, sym, ap, ◌∙◌, arith}
use Rattle.std.specs.Cmp.{nat_cmp_is}
use Rattle.std.specs.Cmp.Lexicographic.{slice_cmp}
use Rattle.std.specs.Ordering.{nat_cmp, ordering_then}
use Rattle.std.specs.declared.cmp.Ordering.{Ordering}
use Rattle.std.specs.declared.cmp.Ordering.TheVariants.{Greater}
use Rattle.std.proofs.lemmas.Bool.{cases_lt}
use Rattle.plane_geom.specs.declared.point.Dir.{Dir}
use Rattle.walk_model.specs.Order.{dir_cmp, rank}
use Rattle.walk_model.proofs.Ranking.StepLists.{slice_cmp-stretch}

pub number_no_later : (i j : ℕ) → nat_cmp i j ≢ Greater → i ≤ j
number_no_later i j h = elim (cases_lt j i) as (λ _. i ≤ j) [
  | inl l ↦ absurd (h (sym (nat_cmp_is i j Greater l)))
  | inr l ↦ l
]

-- the first step is no later
pub first_no_later : (d e : Dir) (m n : ℕ) (xs ys : List Dir) (o : Ordering) → 0 < m → 0 < n
    → ordering_then (slice_cmp dir_cmp (replicate m d ++ xs) (replicate n e ++ ys)) o ≢ Greater → rank d ≤ rank e
first_no_later d e zero n xs ys o some more h = absurd (omega (arith, some))
first_no_later d e (suc m) zero xs ys o some more h = absurd (omega (arith, more))
first_no_later d e (suc m) (suc n) xs ys o some more h = elim (cases_lt (rank e) (rank d)) as (λ _. rank d ≤ rank e) [
  | inl l ↦ absurd (h (ap (λ c. ordering_then (ordering_then c (slice_cmp dir_cmp (replicate m d ++ xs) (replicate n e ++ ys))) o) (sym (nat_cmp_is (rank d) (rank e) Greater l))))
  | inr l ↦ l
]

-- of two stretches in one direction the first is no longer, and of the same length with no later end
pub record IsNoLongerStretch (m n i j : ℕ) : Type 0 where
  pub steps : m ≤ n
  pub end : m ≡ n → i ≤ j

pub stretch_no_later : (d : Dir) (m n i j : ℕ) → ordering_then (slice_cmp dir_cmp (replicate m d) (replicate n d)) (nat_cmp i j) ≢ Greater → IsNoLongerStretch m n i j
stretch_no_later d zero zero i j h = record { steps = omega arith; end = λ _. number_no_later i j h }
stretch_no_later d zero (suc n) i j h = record { steps = omega arith; end = λ e. absurd (omega (arith, e)) }
stretch_no_later d (suc m) zero i j h = absurd (h refl)
stretch_no_later d (suc m) (suc n) i j h =
    let r = stretch_no_later d m n i j (λ g. h (ap (λ o. ordering_then o (nat_cmp i j)) (slice_cmp-stretch 1 d (replicate m d) (replicate n d)) ∙ g)) in
    record { steps = omega (arith, r.steps); end = λ e. r.end (omega (arith, e)) }

-- a stretch is the beginning of what continues it, and comes before it
pub longer_is_later : (d : Dir) (m n : ℕ) (x : Dir) (xs : List Dir) (o : Ordering) → n ≤ m → ordering_then (slice_cmp dir_cmp (replicate m d ++ x ∷ xs) (replicate n d)) o ≡ Greater
longer_is_later d zero zero x xs o h = refl
longer_is_later d zero (suc n) x xs o h = absurd (omega (arith, h))
longer_is_later d (suc m) zero x xs o h = refl
longer_is_later d (suc m) (suc n) x xs o h =
    ap (λ c. ordering_then c o) (slice_cmp-stretch 1 d (replicate m d ++ x ∷ xs) (replicate n d)) ∙ longer_is_later d m n x xs o (omega (arith, h))
