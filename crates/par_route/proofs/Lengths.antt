-- The lengths of the pieces into which a list is cut, and what is left after each.
use Rattle.std.proofs.Common.{ℕ, ◌≡◌, ◌+◌, ◌-◌, ◌*◌, ◌/◌, ◌%◌, ◌<◌, ◌≤◌, List, [], ◌∷◌, refl, length, arith, zero, suc, nat_lt, if◌then◌else◌}
use Rattle.std.proofs.Math.Nat.{div-add-mod, mod-lt}
use Rattle.par_route.specs.Pieces.{piece_length}

-- the one additional item of a longer piece
abbrev pub longer : ℕ → ℕ → ℕ
longer place extra = if nat_lt place extra then 1 else 0

longer_next : (place extra : ℕ) → longer place extra + (extra - (place + 1)) ≡ extra - place
longer_next place extra = grind arith

pub longer_falls : (i j extra : ℕ) → i < j → longer j extra ≤ longer i extra
longer_falls i j extra lt = grind arith

pub longer_even : (i j extra : ℕ) → longer i extra ≤ longer j extra + 1
longer_even i j extra = grind arith

pub mod_small : (n count : ℕ) → (count ≡ 0 → n ≡ 0) → n % count ≤ count
mod_small n zero none = rw (none refl) (omega arith)
mod_small n (suc k) none = omega (arith, mod-lt n {m = suc k} (omega arith))

product_more : (k q : ℕ) → (k + 1) * q ≡ q + k * q
product_more k q = omega arith

-- what is left is the next piece and what is left after it
pub left_more : (n count place : ℕ) → place < count →
    (count - place) * (n / count) + (n % count - place) ≡ piece_length n count place + ((count - (place + 1)) * (n / count) + (n % count - (place + 1)))
left_more n count place lt =
    let more : count - place ≡ count - (place + 1) + 1 = omega (arith, lt) in
    rw more (omega (arith, product_more (count - (place + 1)) (n / count), longer_next place (n % count)))

pub none_left : (count q extra : ℕ) → extra ≤ count → (count - count) * q + (extra - count) ≡ 0
none_left count q extra le =
    let none : count - count ≡ 0 = omega arith in
    rw none (omega (arith, le))

pub empty : {X : Type 0} (xs : List X) → length xs ≡ 0 → xs ≡ []
empty [] none = refl
empty (x ∷ xs) none = absurd (omega (arith, none))

pub left_first : (n count : ℕ) → n ≡ (count - 0) * (n / count) + (n % count - 0)
left_first n count =
    let all : count - 0 ≡ count = omega arith in
    rw all (omega (arith, div-add-mod n count))
