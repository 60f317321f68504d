-- Runs that do not cross, runs by rising coordinate, and counts over them.
use Rattle.std.proofs.Common.{◌≡◌, ℕ, ℤ, zero, suc, ◌+◌, ◌-◌, ◌*◌, ◌<◌, ◌≤◌, ◌≤ℤ◌, ◌^◌, Bool, true, false, Some, inl, inr, List, [], ◌∷◌, length, get_or, take, drop, cond, refl, sym, ap, subst, ◌∙◌, arith}
use Rattle.std.specs.Prelude.{◌&&◌, ◌==◌, not, int_lt, slice_get, IsPermutation, IsSortedByKey}
use Rattle.std.specs.List.{count_by, filter, sum_by}
use Rattle.std.specs.List.Sorted.{IsPartitionedBy, IsPartitionPoint}
use Rattle.std.specs.Ordering.{int_cmp}
use Rattle.std.proofs.lemmas.Bool.{cases_lt}
use Rattle.std.proofs.lemmas.Cmp.{int_cmp_total}
use Rattle.std.proofs.lemmas.Int.{ints}
use Rattle.std.proofs.lemmas.List.{get_or-drop, get_or-take, length-drop, length-take-le}
use Rattle.std.proofs.lemmas.List.Elements.{filter_passes}
use Rattle.std.proofs.lemmas.List.Filters.{sum_by-filter_both}
use Rattle.std.proofs.lemmas.List.Sorted.{length_permutation, ranks_by, sorted_far, sum_by-IsPermutation}
use Rattle.std.proofs.lemmas.List.Sums.{count_by-le-length, length-filter, sum_by-cons, sum_by-le, sum_by-take-drop, sum_by_more_le}
use Rattle.std.proofs.lemmas.Option.{get_or_from_slice_get}
use Rattle.std.proofs.Math.Nat.{mul-le-mul_left}
use Rattle.plane_geom.specs.declared.point.Way.TheVariants.{Vertical, Horizontal}
use Rattle.segment_order.specs.declared.run.Run.{Run}
use Rattle.shared_paths.specs.Crossings.{crosses, is_vertical, passes}
use Rattle.shared_paths.specs.Columns.{AreRising, goes, is_near}
use Rattle.shared_paths.proofs.AllPaths.Stretches.{not_less}

-- ---- runs that do not cross

no_second : (a b : Bool) → b ≡ false → (a && b) ≡ false
no_second false b e = refl
no_second true b e = e

not_true : (b : Bool) → not b ≡ true → b ≡ false
not_true false e = refl
not_true true e = absurd (cc)

-- runs of which the one does not pass strictly between the ends of the other do not cross
apart : (v h : Run) → (passes v.at h && passes h.at v) ≡ false → crosses v h ≡ false
apart v h e = no_second (is_vertical v.way) _ (no_second (not (is_vertical h.way)) _ (no_second (not (v.edge == h.edge)) _ e))

-- a run does not cross one that stands where it begins or before
pub not_crossed_before : (v h : Run) → not (int_lt v.lo h.at) ≡ true → crosses v h ≡ false
not_crossed_before v h e = apart v h (no_second (passes v.at h) _ (ap (λ b. b && int_lt h.at v.hi) (not_true (int_lt v.lo h.at) e)))

-- nor one that stands where it ends or beyond
pub not_crossed_beyond : (v h : Run) → int_lt h.at v.hi ≡ false → crosses v h ≡ false
not_crossed_beyond v h e = apart v h (no_second (passes v.at h) _ (no_second (int_lt v.lo h.at) _ e))

not_reached : (lo hi at first last : ℤ) → first ≤ℤ at → at ≤ℤ last → (int_lt lo last && int_lt first hi) ≡ false → (int_lt lo at && int_lt at hi) ≡ false
not_reached lo hi at first last l h e = grind (arith, ints)

-- nor one that does not reach into its column
not_crossed_far : (first last v h : Run) → first.at ≤ℤ v.at → v.at ≤ℤ last.at → is_near first last h ≡ false → crosses v h ≡ false
not_crossed_far first last v h from to e = apart v h (ap (λ b. b && passes h.at v) (not_reached h.lo h.hi v.at first.at last.at from to e))

-- nor one that is not horizontal
not_crossed_alongside : (v h : Run) → goes Horizontal h ≡ false → crosses v h ≡ false
not_crossed_alongside v h e = no_second (is_vertical v.way) _ (ap (λ b. b && (not (v.edge == h.edge) && (passes v.at h && passes h.at v))) e)

-- nor does one that is not vertical
not_crossing : (v h : Run) → goes Vertical v ≡ false → crosses v h ≡ false
not_crossing v h e = ap (λ b. b && (not (is_vertical h.way) && (not (v.edge == h.edge) && (passes v.at h && passes h.at v)))) e

-- ---- counts of parts

none_counted : {X : Type 0} (p : X → Bool) (xs : List X) → ((k : ℕ) (d : X) → k < length xs → p (get_or xs k d) ≡ false) → count_by p xs ≡ 0
none_counted p xs none =
    let one : Bool → ℕ = λ b. cond b 1 0 in
    let bound = sum_by-le (λ x. cond (p x) 1 0) 0 xs (λ k d l. (let zero : one (p (get_or xs k d)) ≡ 0 = ap one (none k d l) in omega (arith, zero))) in
    omega (arith, bound)

-- a sum is that over the elements that add to it
sum_by-filter : {X : Type 0} (f : X → ℕ) (p : X → Bool) (xs : List X) → ((x : X) → p x ≡ false → f x ≡ 0) → sum_by f (filter p xs) ≡ sum_by f xs
sum_by-filter f p xs zeros =
    let others = filter (λ x. not (p x)) xs in
    let bound = sum_by-le f 0 others (λ k d l.
    (let fails : not (p (get_or others k d)) ≡ true = filter_passes (λ x. not (p x)) xs k d l in
    let here = zeros (get_or others k d) (not_true (p (get_or others k d)) fails) in omega (arith, here))) in
    omega (arith, bound, sum_by-filter_both p (λ x. not (p x)) (λ x. refl) f xs)

count_by-filter : {X : Type 0} (q p : X → Bool) (xs : List X) → ((x : X) → p x ≡ false → q x ≡ false) → count_by q (filter p xs) ≡ count_by q xs
count_by-filter q p xs none = sum_by-filter (λ x. cond (q x) 1 0) p xs (λ x e. ap (λ b. cond b 1 0) (none x e))

sums_agree : {X : Type 0} (f g : X → ℕ) (xs : List X) → ((k : ℕ) (d : X) → k < length xs → f (get_or xs k d) ≡ g (get_or xs k d)) → sum_by f xs ≡ sum_by g xs
sums_agree f g [] same = refl
sums_agree f g (x ∷ xs) same =
    let here : f x ≡ g x = same zero x (omega arith) in
    let rest = sums_agree f g xs (λ k d l. same (suc k) d (omega (arith, l))) in
    omega (arith, sum_by-cons f x xs, sum_by-cons g x xs, here, rest)

-- what passes the test stands before the place, and need not be counted
pub counted_after : {X : Type 0} (p test : X → Bool) (xs : List X) (n : ℕ) → n ≤ length xs → ((x : X) → test x ≡ true → p x ≡ false) →
    IsPartitionPoint (λ x. test x ≡ true) (λ x. test x ≡ false) xs n → count_by p (drop n xs) ≡ count_by p xs
counted_after p test xs n within none point =
    let long : length (take n xs) ≡ n = length-take-le n xs within in
    let zero = none_counted p (take n xs) (λ k d l.
    (let below : k < n = omega (arith, l, long) in
    subst (λ x. p x ≡ false) (sym (get_or-take n xs k d below)) (none (get_or xs k d) (point.0 k d (omega arith) below)))) in
    omega (arith, zero, sum_by-take-drop (λ x. cond (p x) 1 0) xs n)

-- what fails it stands behind
pub counted_before : {X : Type 0} (p test : X → Bool) (xs : List X) (n : ℕ) → ((x : X) → test x ≡ false → p x ≡ false) →
    IsPartitionPoint (λ x. test x ≡ true) (λ x. test x ≡ false) xs n → count_by p (take n xs) ≡ count_by p xs
counted_before p test xs n none point =
    let zero = none_counted p (drop n xs) (λ k d l.
    (let inside : n + k < length xs = omega (arith, l, length-drop n xs) in
    subst (λ x. p x ≡ false) (sym (get_or-drop n xs k d)) (none (get_or xs (n + k) d) (point.1 (n + k) d (omega arith) inside)))) in
    omega (arith, zero, sum_by-take-drop (λ x. cond (p x) 1 0) xs n)

-- ---- runs by rising coordinate

pub rises : (xs : List Run) → IsSortedByKey (λ (r : Run). r.at) int_cmp xs → AreRising xs
rises xs up = λ i j d l k.
    not_less (get_or xs j d).at (get_or xs i d).at (sorted_far _ (ranks_by int_cmp_total (λ (r : Run). r.at)) xs up i j d (omega arith) k)

upto : (xs : List Run) (i j : ℕ) (d : Run) → AreRising xs → i ≤ j → j < length xs → (get_or xs i d).at ≤ℤ (get_or xs j d).at
upto xs i j d up h l = elim (cases_lt i j) [
  | inl k ↦ up i j d k l
  | inr k ↦ (let same : i ≡ j = omega arith in subst (λ (n : ℕ). (get_or xs i d).at ≤ℤ (get_or xs n d).at) same (omega (arith, ints)))
]

-- a test that each lesser coordinate passes too parts runs that rise
pub parted : (test : ℤ → Bool) → ((y z : ℤ) → y ≤ℤ z → test z ≡ true → test y ≡ true) → (xs : List Run) → AreRising xs → IsPartitionedBy (λ (r : Run). test r.at) xs
parted test falls xs up = λ i j d h l e. falls (get_or xs i d).at (get_or xs j d).at (upto xs i j d up h l) e

pub upto_falls : (at y z : ℤ) → y ≤ℤ z → not (int_lt at z) ≡ true → not (int_lt at y) ≡ true
upto_falls at y z h e = grind (arith, ints)

pub before_falls : (at y z : ℤ) → y ≤ℤ z → int_lt z at ≡ true → int_lt y at ≡ true
before_falls at y z h e = grind (arith, ints)

pub left_rising : (n : ℕ) (xs : List Run) → AreRising xs → AreRising (drop n xs)
left_rising n xs up = λ i j d l k.
    let inside : n + j < length xs = omega (arith, k, length-drop n xs) in
    subst (λ (s : Run). s.at ≤ℤ (get_or (drop n xs) j d).at) (sym (get_or-drop n xs i d))
    (subst (λ (s : Run). (get_or xs (n + i) d).at ≤ℤ s.at) (sym (get_or-drop n xs j d)) (up (n + i) (n + j) d (omega arith) inside))

-- ---- sums of counts

-- how many of these runs cross the run
abbrev pub crossed_in : List Run → Run → ℕ
crossed_in level v = count_by (crosses v) level

-- the runs near a column are as good as all
pub near_counted : (column level : List Run) (first last : Run) → AreRising column → slice_get column 0 ≡ Some first → slice_get column (length column - 1) ≡ Some last →
    sum_by (crossed_in (filter (is_near first last) level)) column ≡ sum_by (crossed_in level) column
near_counted column level first last up begins ends = sums_agree (crossed_in (filter (is_near first last) level)) (crossed_in level) column (λ k d l.
    (let v = get_or column k d in
    let from : first.at ≤ℤ v.at = subst (λ (r : Run). r.at ≤ℤ v.at) (get_or_from_slice_get column 0 first d begins) (upto column 0 k d up (omega arith) l) in
    let to : v.at ≤ℤ last.at =
    subst (λ (r : Run). v.at ≤ℤ r.at) (get_or_from_slice_get column (length column - 1) last d ends) (upto column k (length column - 1) d up (omega (arith, l)) (omega (arith, l))) in
    count_by-filter (crosses v) (is_near first last) level (λ h e. not_crossed_far first last v h from to e)))

small_product : (a n : ℕ) → a < 2 ^ 32 → n < 2 ^ 32 → a * n < 2 ^ 64
small_product a n few less =
    let step : a * n ≤ a * 4294967295 = mul-le-mul_left a (omega arith) in
    omega (arith, step)

-- all is counted without overflow
pub all_fit : (level runs : List Run) → length level < 2 ^ 32 → length runs < 2 ^ 32 → sum_by (crossed_in level) runs < 2 ^ 64
all_fit level runs few short =
    let bound = sum_by-le (crossed_in level) (length level) runs (λ k d l. count_by-le-length (crosses (get_or runs k d)) level) in
    let product = small_product (length runs) (length level) short few in
    omega (arith, bound, product)

-- so is the next run
pub run_fits : (level runs : List Run) (i : ℕ) (d : Run) → i < length runs → length level < 2 ^ 32 → length runs < 2 ^ 32 →
    sum_by (crossed_in level) (take i runs) + crossed_in level (get_or runs i d) < 2 ^ 64
run_fits level runs i d l few short =
    let part = sum_by_more_le (crossed_in level) runs i d l in
    let all = all_fit level runs few short in
    omega (arith, part, all)

-- runs of one way are no more than all
pub moved_few : (p : Run → Bool) (all found : List Run) → IsPermutation (filter p all) found → length found ≤ length all
moved_few p all found moved = omega (arith, length_permutation (filter p all) found moved, length-filter p all, count_by-le-length p all)

-- the vertical runs cross as many of the horizontal ones as all runs cross of all
pub all_counted : (all upright level : List Run) → IsPermutation (filter (goes Vertical) all) upright → IsPermutation (filter (goes Horizontal) all) level →
    sum_by (crossed_in level) upright ≡ sum_by (crossed_in all) all
all_counted all upright level up flat =
    let same : (v : Run) → crossed_in level v ≡ crossed_in all v = λ v.
    sum_by-IsPermutation (λ h. cond (crosses v h) 1 0) (filter (goes Horizontal) all) level flat
    ∙ count_by-filter (crosses v) (goes Horizontal) all (not_crossed_alongside v) in
    ap (λ f. sum_by f upright) (λ i v. same v i)
    ∙ sum_by-IsPermutation (crossed_in all) (filter (goes Vertical) all) upright up
    ∙ sum_by-filter (crossed_in all) (goes Vertical) all (λ v e. none_counted (crosses v) all (λ k d l. not_crossing v (get_or all k d) e))
