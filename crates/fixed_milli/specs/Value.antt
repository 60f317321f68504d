-- The result of reading bytes, as a function that computes; `Reads` says what that result is.
use Rattle.std.specs.Prelude.{ℕ, ◌+◌, ◌==◌, ◌||◌, Bool, true, false, List, [], ◌∷◌, length, Option, Some, None, Result, Ok, Err, ℤ, if◌then◌else◌, nat_lt, nat_le}
use Rattle.std.specs.Char.{digit_value}
use Rattle.fixed_milli.specs.Bytes.{plus, minus, point, is_mark}
use Rattle.fixed_milli.specs.declared.milli.MilliFault.{MilliFault}
use Rattle.fixed_milli.specs.declared.milli.MilliFault.TheVariants.{NotNumber, OutOfRange}
use Rattle.fixed_milli.specs.Number.{Number}
use Rattle.fixed_milli.specs.Milli.{magnitude, thousandths, most_thousandths}

-- whether a minus comes first, and what follows the sign
abbrev pub signed : List ℕ → Bool × List ℕ
signed [] = (false, [])
signed (b ∷ bs) = if b == minus then (true, bs) else if b == plus then (false, bs) else (false, b ∷ bs)

-- the leading digits
abbrev pub front_digits : List ℕ → List ℕ
front_digits [] = []
front_digits (b ∷ bs) = if nat_lt (digit_value b) 10 then b ∷ front_digits bs else []

-- what follows the leading digits
abbrev pub following_digits : List ℕ → List ℕ
following_digits [] = []
following_digits (b ∷ bs) = if nat_lt (digit_value b) 10 then following_digits bs else b ∷ bs

-- the digits after a leading point, if there is one, and what follows them
abbrev pub spelled_fraction : List ℕ → List ℕ × List ℕ
spelled_fraction [] = ([], [])
spelled_fraction (b ∷ bs) = if b == point then (front_digits bs, following_digits bs) else ([], b ∷ bs)

-- the sign with the digits after it, if there are some and nothing else
abbrev pub signed_digits : Bool × List ℕ → Option (Bool × List ℕ)
signed_digits s = if (length (front_digits s.1) == 0) || nat_lt 0 (length (following_digits s.1)) then None else Some (s.0, front_digits s.1)

-- whether an exponent is negative, and its digits, if the bytes are an exponent or empty
abbrev pub spelled_exponent : List ℕ → Option (Bool × List ℕ)
spelled_exponent [] = Some (false, [])
spelled_exponent (b ∷ bs) = if is_mark b then signed_digits (signed bs) else None

-- the number of these parts, if it has a digit and an exponent was found
abbrev pub number_with : Bool → List ℕ → List ℕ → Option (Bool × List ℕ) → Option Number
number_with negative whole fraction None = None
number_with negative whole fraction (Some e) =
    if length whole + length fraction == 0 then None
    else Some (record { negative = negative; whole = whole; fraction = fraction; shrinks = e.0; exponent = e.1 })

-- the number that the bytes spell
abbrev pub spelled_number : List ℕ → Option Number
spelled_number bytes =
    let s = signed bytes in
    let f = spelled_fraction (following_digits s.1) in
    number_with s.0 (front_digits s.1) f.0 (spelled_exponent f.1)

-- the thousandths of a number, or the fault of one that is too great or missing
abbrev pub thousandths_of : Option Number → Result ℤ MilliFault
thousandths_of None = Err NotNumber
thousandths_of (Some n) = if nat_le (magnitude n) most_thousandths then Ok (thousandths n) else Err OutOfRange

-- what the bytes are read as
abbrev pub read : List ℕ → Result ℤ MilliFault
read bytes = thousandths_of (spelled_number bytes)
