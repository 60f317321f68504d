-- The number in a link. No public clause cites this module.
use Rattle.std.specs.Prelude.{◌≡◌, ℕ, zero, suc, Option, None, Some, refl}

-- the crossing to which a link of this number leads, or none
abbrev pub linked : ℕ → Option ℕ
linked zero = None
linked (suc n) = Some n

-- the number of a link to the crossing, or to none
abbrev pub number_of : Option ℕ → ℕ
number_of None = zero
number_of (Some n) = suc n

-- a link's number is determined by where it leads
abbrev pub number_again : (n : ℕ) → number_of (linked n) ≡ n
number_again zero = refl
number_again (suc n) = refl
