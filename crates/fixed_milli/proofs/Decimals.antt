-- Digits that are counted up to a limit, and zeros after them.
use Rattle.std.proofs.Common.{pow-add, ◌≡◌, ℕ, ◌+◌, ◌-◌, ◌*◌, ◌^◌, ◌<◌, ◌≤◌, min, List, [], ◌∷◌, ◌++◌, length, take, get_or, refl, sym, ap, ◌∙◌, arith, inl, inr}
use Rattle.std.specs.Char.{digit_value}
use Rattle.std.specs.Str.Parse.{digits_value, digits_value_after}
use Rattle.std.proofs.lemmas.List.{take_more}
use Rattle.std.proofs.lemmas.Bool.{cases_lt}
use Rattle.std.proofs.Math.Nat.{pow-suc, one-le-pow, mul-le-mul_left, mul-le-mul_right}
use Rattle.fixed_milli.specs.declared.digits.TheConstants.{LIMIT}

-- digits after digits
pub after-append : (v : ℕ) (xs ys : List ℕ) → digits_value_after 10 v (xs ++ ys) ≡ digits_value_after 10 (digits_value_after 10 v xs) ys
after-append v [] ys = refl
after-append v (x ∷ xs) ys = after-append (v * 10 + digit_value x) xs ys

-- one digit more
pub after_more : (v : ℕ) (ds : List ℕ) (i : ℕ) → i < length ds → digits_value_after 10 v (take (i + 1) ds) ≡ digits_value_after 10 v (take i ds) * 10 + digit_value (get_or ds i 0)
after_more v ds i h = rw (take_more ds i 0 h) (after-append v (take i ds) (get_or ds i 0 ∷ []))

-- the number in front counts by its place
pub after_is : (v : ℕ) (ds : List ℕ) → digits_value_after 10 v ds ≡ v * 10 ^ length ds + digits_value 10 ds
after_is v [] = omega arith
after_is v (d ∷ ds) =
    let here = after_is (v * 10 + digit_value d) ds in
    let alone = after_is (0 * 10 + digit_value d) ds in
    let places : v * 10 ^ length (d ∷ ds) ≡ v * (10 ^ length ds * 10) = ap (λ p. v * p) (pow-suc 10 (length ds)) in
    omega (arith, here, alone, places)

-- what is counted up to a limit counts on as the whole number does
pub capped_after : (v limit : ℕ) (ds : List ℕ) → min (digits_value_after 10 (min v limit) ds) limit ≡ min (digits_value_after 10 v ds) limit
capped_after v limit [] = omega arith
capped_after v limit (d ∷ ds) =
    let x = min v limit * 10 + digit_value d in
    let y = v * 10 + digit_value d in
    let same : min x limit ≡ min y limit = omega arith in
    sym (capped_after x limit ds) ∙ ap (λ n. min (digits_value_after 10 n ds) limit) same ∙ capped_after y limit ds

-- a step of counting up to a limit
pub counted_more : (v most : ℕ) (ds : List ℕ) (i value digit tens sum next : ℕ) → most ≤ 2 ^ 64 - 1 → i < length ds → digit_value (get_or ds i 0) ≡ digit → value ≡ min (digits_value_after 10 v (take i ds)) most →
    tens ≡ min (value * 10) (2 ^ 64 - 1) → sum ≡ min (tens + digit) (2 ^ 64 - 1) → next ≡ min sum most → next ≡ min (digits_value_after 10 v (take (i + 1) ds)) most
counted_more v most ds i value digit tens sum next fits h d so by_ten added capped = omega (arith, after_more v ds i h)

-- zeros after a number count up to the limit as without it
pub capped_mul : (x k limit : ℕ) → 0 < k → min (min x limit * k) limit ≡ min (x * k) limit
capped_mul x k limit some = elim (cases_lt x limit) as (λ _. min (min x limit * k) limit ≡ min (x * k) limit) [
  | inl l ↦ (let e : min x limit ≡ x = omega arith in rw e)
  | inr l ↦ (let e : min x limit ≡ limit = omega arith in rw e (omega (arith, mul-le-mul_right k l, mul-le-mul_left limit some)))
]

-- one more zero after a number
pub zeros_more : (v i value : ℕ) → value ≡ min (v * 10 ^ i) LIMIT → min (value * 10) LIMIT ≡ min (v * 10 ^ (i + 1)) LIMIT
zeros_more v i value so = let places : v * 10 ^ (i + 1) ≡ v * (10 ^ i * 10) = ap (λ p. v * p) (pow-add 10 i 1) in omega (arith, places)

-- more zeros than sixteen change nothing
pub zeros_all : (v zeros : ℕ) → min (v * 10 ^ min zeros 16) LIMIT ≡ min (v * 10 ^ zeros) LIMIT
zeros_all v zeros = elim (cases_lt zeros 17) as (λ _. min (v * 10 ^ min zeros 16) LIMIT ≡ min (v * 10 ^ zeros) LIMIT) [
  | inl l ↦ (let e : min zeros 16 ≡ zeros = omega arith in rw e)
  | inr l ↦ (let e : min zeros 16 ≡ 16 = omega arith in
      let f : 10 ^ zeros ≡ 10 ^ 16 * 10 ^ (zeros - 16) = ap (λ n. 10 ^ n) (omega arith) ∙ pow-add 10 16 (zeros - 16) in
      let p : 1 ≤ 10 ^ (zeros - 16) = one-le-pow (zeros - 16) 10 (omega arith) in
      let g : v * 10 ^ 16 ≤ v * 10 ^ zeros = mul-le-mul_left v (omega arith) in
      elim (cases_lt 0 v) as (λ _. min (v * 10 ^ min zeros 16) LIMIT ≡ min (v * 10 ^ zeros) LIMIT) [
        | inl some ↦ rw e (omega arith)
        | inr none ↦ (let z : v ≡ 0 = omega arith in rw z (omega arith))
      ])
]
