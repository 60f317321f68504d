-- Bends between directions, and bends of steps of which some are left out.
use Rattle.std.proofs.Common.{◌≡◌, ◌⊎◌, ℕ, suc, zero, ◌<◌, Bool, true, ◌&&◌, ◌+◌, ◌≤◌, leb, List, [], ◌∷◌, ◌++◌, refl, inl, inr, arith}
use Rattle.std.proofs.lemmas.Bool.Decides.{nat_tests}
use Rattle.plane_geom.specs.declared.point.Dir.{Dir}
use Rattle.plane_geom.specs.declared.point.Dir.TheVariants.{East, South, West, North}
use Rattle.plane_geom.specs.Point.{opposite}
use Rattle.walk_model.specs.Cost.{turn, bends_after, bends}
use Rattle.walk_model.proofs.CornerByCorner.Bends.{turn_bound}

-- a test that holds in each direction
every : (Dir → Bool) → Bool
every test = test East && (test South && (test West && test North))

each : (test : Dir → Bool) → every test ≡ true → (d : Dir) → test d ≡ true
unfolding every
each test h East = grind (arith, nat_tests)
each test h South = grind (arith, nat_tests)
each test h West = grind (arith, nat_tests)
each test h North = grind (arith, nat_tests)

-- to go by another direction saves no bend
pub triangle : (h y k : Dir) → turn h k ≤ turn h y + turn y k
unfolding every
triangle h y k =
    let all : every (λ h. every (λ y. every (λ k. leb (turn h k) (turn h y + turn y k)))) ≡ true = refl in
    let one = each (λ k. leb (turn h k) (turn h y + turn y k)) (each (λ y. every (λ k. leb (turn h k) (turn h y + turn y k))) (each (λ h. every (λ y. every (λ k. leb (turn h k) (turn h y + turn y k)))) all h) y) k in
    grind (arith, nat_tests)

-- a bend is a turn or a doubling back
pub one_or_two : (u d : Dir) → 0 < turn u d → (turn u d ≡ 1) ⊎ (turn u d ≡ 2)
one_or_two u d some = by_turn (turn u d) (turn_bound u d) some
  where
    by_turn : (k : ℕ) → k ≤ 2 → 0 < k → (k ≡ 1) ⊎ (k ≡ 2)
    by_turn zero h k = absurd (omega arith)
    by_turn (suc zero) h k = inl refl
    by_turn (suc (suc m)) h k = inr (omega arith)

-- of two directions across a third, the second is the first or the one back
pub across_two : (d u v : Dir) → turn u d ≡ 1 → turn d v ≡ 1 → (v ≡ u) ⊎ (v ≡ opposite u)
across_two East South South h k = inl refl
across_two East South North h k = inr refl
across_two East North South h k = inr refl
across_two East North North h k = inl refl
across_two South East East h k = inl refl
across_two South East West h k = inr refl
across_two South West East h k = inr refl
across_two South West West h k = inl refl
across_two West South South h k = inl refl
across_two West South North h k = inr refl
across_two West North South h k = inr refl
across_two West North North h k = inl refl
across_two North East East h k = inl refl
across_two North East West h k = inr refl
across_two North West East h k = inr refl
across_two North West West h k = inl refl
across_two _ _ _ h k = absurd (omega arith)

-- one more direction at the front adds at most its bend
pub bends_after_by : (h y : Dir) (zs : List Dir) → bends_after h zs ≤ turn h y + bends_after y zs
bends_after_by h y [] = omega arith
bends_after_by h y (k ∷ zs) = omega (arith, triangle h y k)

pub bends_after_drop : (h : Dir) (ys zs : List Dir) → bends_after h zs ≤ bends_after h (ys ++ zs)
bends_after_drop h [] zs = omega arith
bends_after_drop h (y ∷ ys) zs = omega (arith, bends_after_by h y zs, bends_after_drop y ys zs)

bends_first : (y : Dir) (zs : List Dir) → bends zs ≤ bends_after y zs
bends_first y [] = omega arith
bends_first y (k ∷ zs) = omega arith

-- to leave out steps adds no bend
pub bends_drop : (xs ys zs : List Dir) → bends (xs ++ zs) ≤ bends (xs ++ (ys ++ zs))
bends_drop [] [] zs = omega arith
bends_drop [] (y ∷ ys) zs = omega (arith, bends_first y zs, bends_after_drop y ys zs)
bends_drop (x ∷ xs) ys zs = inside x xs ys zs
  where
    inside : (x : Dir) (xs ys zs : List Dir) → bends_after x (xs ++ zs) ≤ bends_after x (xs ++ (ys ++ zs))
    inside x [] ys zs = bends_after_drop x ys zs
    inside x (e ∷ xs) ys zs = omega (arith, inside e xs ys zs)
