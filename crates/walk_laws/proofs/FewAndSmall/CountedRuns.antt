-- Runs of the directions that count: all of them, or those of one way.
use Rattle.std.proofs.Common.{◌≡◌, ℕ, suc, zero, ◌+◌, ◌<◌, ◌≤◌, ◌==◌, if◌then◌else◌, List, [], ◌∷◌, ◌++◌, replicate, refl, ap, arith}
use Rattle.std.proofs.lemmas.Bool.Decides.{nat_tests}
use Rattle.plane_geom.specs.declared.point.Dir.{Dir}
use Rattle.plane_geom.specs.declared.point.Dir.TheVariants.{East, South, West, North}
use Rattle.plane_geom.specs.declared.point.Way.{Way}
use Rattle.plane_geom.specs.declared.point.Way.TheVariants.{Vertical, Horizontal}
use Rattle.plane_geom.specs.Along.{way_of}
use Rattle.walk_model.specs.Cost.{turn, runs, runs_after}
use Rattle.walk_model.proofs.CornerByCorner.Bends.{turn_same}
use Rattle.walk_laws.specs.Runs.{share_of_way, runs_of_way, runs_of_way_after}

abbrev pub counted_after : (Dir → ℕ) → Dir → List Dir → ℕ
counted_after share d [] = 0
counted_after share d (e ∷ es) = (if turn d e == 0 then 0 else share e) + counted_after share e es

abbrev pub counted : (Dir → ℕ) → List Dir → ℕ
counted share [] = 0
counted share (d ∷ ds) = share d + counted_after share d ds

all_counted_after : (d : Dir) (ds : List Dir) → counted_after (λ _. 1) d ds ≡ runs_after d ds
all_counted_after d [] = refl
all_counted_after d (e ∷ es) = ap (λ n. (if turn d e == 0 then 0 else 1) + n) (all_counted_after e es)

pub all_counted : (ds : List Dir) → counted (λ _. 1) ds ≡ runs ds
all_counted [] = refl
all_counted (d ∷ ds) = ap (λ n. 1 + n) (all_counted_after d ds)

way_counted_after : (way : Way) (d : Dir) (ds : List Dir) → counted_after (share_of_way way) d ds ≡ runs_of_way_after way d ds
way_counted_after way d [] = refl
way_counted_after way d (e ∷ es) = ap (λ n. (if turn d e == 0 then 0 else share_of_way way e) + n) (way_counted_after way e es)

pub way_counted : (way : Way) (ds : List Dir) → counted (share_of_way way) ds ≡ runs_of_way way ds
way_counted way [] = refl
way_counted way (d ∷ ds) = ap (λ n. share_of_way way d + n) (way_counted_after way d ds)

-- each direction counts for one way
pub shares : (d : Dir) → share_of_way Vertical d + share_of_way Horizontal d ≡ 1
shares East = refl
shares South = refl
shares West = refl
shares North = refl

pub one_share : (way : Way) (d : Dir) → share_of_way way d ≤ 1
one_share Vertical East = omega arith
one_share Vertical South = omega arith
one_share Vertical West = omega arith
one_share Vertical North = omega arith
one_share Horizontal East = omega arith
one_share Horizontal South = omega arith
one_share Horizontal West = omega arith
one_share Horizontal North = omega arith

pub way_of_share : (way : Way) (d : Dir) → 0 < share_of_way way d → way_of d ≡ way
way_of_share Vertical South h = refl
way_of_share Vertical North h = refl
way_of_share Horizontal East h = refl
way_of_share Horizontal West h = refl
way_of_share _ _ h = absurd (omega (arith, h))

-- a step in another direction begins a run, one in the same does not
past_zero : (k n : ℕ) → 0 < k → (if k == 0 then 0 else n) ≡ n
past_zero k n h = grind (arith, nat_tests)

pub begins_run : (d e : Dir) (n : ℕ) → 0 < turn d e → (if turn d e == 0 then 0 else n) ≡ n
begins_run d e n h = past_zero (turn d e) n h

pub goes_on_run : (d : Dir) (n : ℕ) → (if turn d d == 0 then 0 else n) ≡ 0
goes_on_run d n = ap (λ k. if k == 0 then 0 else n) (turn_same d)

begins_most : (k n : ℕ) → (if k == 0 then 0 else n) ≤ n
begins_most zero n = omega arith
begins_most (suc k) n = omega (arith, past_zero (suc k) n)

-- the runs of both ways are all runs
shared : (n a b : ℕ) → a + b ≡ 1 → (if n == 0 then 0 else a) + (if n == 0 then 0 else b) ≡ (if n == 0 then 0 else 1)
shared zero a b h = refl
shared (suc n) a b h = omega (arith, h, past_zero (suc n) a, past_zero (suc n) b, past_zero (suc n) 1)

both_ways_after : (d : Dir) (ds : List Dir) → runs_of_way_after Vertical d ds + runs_of_way_after Horizontal d ds ≡ runs_after d ds
both_ways_after d [] = refl
both_ways_after d (e ∷ es) = omega (arith, both_ways_after e es, shared (turn d e) (share_of_way Vertical e) (share_of_way Horizontal e) (shares e))

pub both_ways : (ds : List Dir) → runs_of_way Vertical ds + runs_of_way Horizontal ds ≡ runs ds
both_ways [] = refl
both_ways (d ∷ ds) = omega (arith, shares d, both_ways_after d ds)

module _ (share : Dir → ℕ) where
  pub counted_stretch : (d : Dir) (n : ℕ) → counted share (replicate n d) ≤ share d
  counted_stretch d zero = omega arith
  counted_stretch d (suc n) = omega (arith, none n)
    where
      none : (n : ℕ) → counted_after share d (replicate n d) ≡ 0
      none zero = refl
      none (suc n) = omega (arith, goes_on_run d (share d), none n)

  -- two lists one after the other have at most the runs of both (`counted_together`)
  counted_first : (x : Dir) (ys : List Dir) → counted_after share x ys ≤ counted share ys
  counted_first x [] = omega arith
  counted_first x (y ∷ ys) = omega (arith, begins_most (turn x y) (share y))

  counted_on : (x : Dir) (xs ys : List Dir) → counted_after share x (xs ++ ys) ≤ counted_after share x xs + counted share ys
  counted_on x [] ys = omega (arith, counted_first x ys)
  counted_on x (y ∷ xs) ys = omega (arith, counted_on y xs ys)

  pub counted_together : (xs ys : List Dir) → counted share (xs ++ ys) ≤ counted share xs + counted share ys
  counted_together [] ys = omega arith
  counted_together (x ∷ xs) ys = omega (arith, counted_on x xs ys)
