-- Bytes are split in one way, so they spell one number at most.
use Rattle.std.proofs.Common.{◌≡◌, ℕ, ◌+◌, ◌<◌, ◌⊎◌, Bool, true, false, List, [], ◌∷◌, ◌++◌, length, refl, sym, ap, subst, ◌∙◌, arith, inl, inr}
use Rattle.std.specs.Str.Parse.{AllDigits, IsNumeral}
use Rattle.std.proofs.lemmas.Str.Parse.{digit_from_value}
use Rattle.std.proofs.lemmas.List.{append-nil}
use Rattle.fixed_milli.specs.Number.{Number, IsSign, IsPoint, IsExponent, Spells, SpellsNothing}
use Rattle.fixed_milli.specs.Split.{BeginsUnsigned, BeginsPointless, EndsDigits, SplitsSign, SplitsDigits, SplitsFraction}

-- equal lists begin with the same byte
heads : {a b : ℕ} {s t : List ℕ} → a ∷ s ≡ b ∷ t → a ≡ b
heads e = cc

-- and what follows equal first bytes is equal
tails : {a b : ℕ} {s t : List ℕ} → a ∷ s ≡ b ∷ t → s ≡ t
tails e = cc

-- a sign is split off in one way
pub sign_same : (bytes : List ℕ) (m n : Bool) (a b : List ℕ) → SplitsSign bytes m a → SplitsSign bytes n b → (m ≡ n) × (a ≡ b)
sign_same bytes true true a b p q = (refl, tails (sym p ∙ q))
sign_same bytes true false a b p (inl e) = let h = heads (sym p ∙ e) in absurd (omega arith)
sign_same bytes true false a b p (inr (e, free)) = let h = subst BeginsUnsigned p free in absurd (h.0 refl)
sign_same bytes false true a b (inl e) q = let h = heads (sym e ∙ q) in absurd (omega arith)
sign_same bytes false true a b (inr (e, free)) q = let h = subst BeginsUnsigned q free in absurd (h.0 refl)
sign_same bytes false false a b (inl e) (inl f) = (refl, tails (sym e ∙ f))
sign_same bytes false false a b (inl e) (inr (f, free)) = let h = subst BeginsUnsigned e free in absurd (h.1 refl)
sign_same bytes false false a b (inr (e, free)) (inl f) = let h = subst BeginsUnsigned f free in absurd (h.1 refl)
sign_same bytes false false a b (inr (e, free)) (inr (f, _)) = (refl, sym e ∙ f)

-- digits are split off in one way
digits_apart : (a b c d : List ℕ) → a ++ b ≡ c ++ d → AllDigits 10 a → EndsDigits b → AllDigits 10 c → EndsDigits d → (a ≡ c) × (b ≡ d)
digits_apart [] b [] d e _ _ _ _ = (refl, e)
digits_apart [] b (y ∷ c) d e _ ended all _ = let h = subst EndsDigits e ended in absurd (omega (arith, h, all.0))
digits_apart (x ∷ a) b [] d e all _ _ ended = let h = subst EndsDigits (sym e) ended in absurd (omega (arith, h, all.0))
digits_apart (x ∷ a) b (y ∷ c) d e alla endb allc endd =
    let t = digits_apart a b c d (tails e) alla.1 endb allc.1 endd in
    let h = heads e in
    let s = t.0 in
    (cc, t.1)

-- so digits that are split off are the only ones
pub digits_same : (bytes a b c d : List ℕ) → SplitsDigits bytes a b → SplitsDigits bytes c d → (a ≡ c) × (b ≡ d)
digits_same bytes a b c d p q = digits_apart a b c d (sym p.spelled ∙ q.spelled) p.all_digits p.ended q.all_digits q.ended

-- a fraction is split off in one way
pub fraction_same : (bytes a b c d : List ℕ) → SplitsFraction bytes a b → SplitsFraction bytes c d → (a ≡ c) × (b ≡ d)
fraction_same bytes a b c d (inl (s, e, p)) (inl (t, f, q)) = digits_same s a b c d p (subst (λ l. SplitsDigits l c d) (sym (tails (sym e ∙ f))) q)
fraction_same bytes a b c d (inl (s, e, p)) (inr (f, none, free)) = let h = subst BeginsPointless e free in absurd (h refl)
fraction_same bytes a b c d (inr (f, none, free)) (inl (s, e, p)) = let h = subst BeginsPointless e free in absurd (h refl)
fraction_same bytes a b c d (inr (e, none, _)) (inr (f, nothing, _)) = (none ∙ sym nothing, sym e ∙ f)

-- a sign in front of no other one is split off
pub sign_splits : (sign rest : List ℕ) (negative : Bool) → IsSign sign negative → BeginsUnsigned rest → SplitsSign (sign ++ rest) negative rest
sign_splits sign rest true e free = ap (λ s. s ++ rest) e
sign_splits sign rest false (inl e) free = inl (ap (λ s. s ++ rest) e)
sign_splits sign rest false (inr e) free = let f : sign ++ rest ≡ rest = ap (λ s. s ++ rest) e in inr (f, subst BeginsUnsigned (sym f) free)

-- what was split off is a sign
pub sign_of : (bytes rest : List ℕ) (negative : Bool) → SplitsSign bytes negative rest → (sign : List ℕ) × IsSign sign negative × (bytes ≡ sign ++ rest)
sign_of bytes rest true e = (45 ∷ [], refl, e)
sign_of bytes rest false (inl e) = (43 ∷ [], inl refl, e)
sign_of bytes rest false (inr (e, _)) = ([], inr refl, e)

-- digits are no sign
pub unsigned_digits : (ds : List ℕ) → AllDigits 10 ds → BeginsUnsigned ds
unsigned_digits [] all = tt
unsigned_digits (d ∷ ds) all = let code = digit_from_value d all.0 in (λ e. absurd (omega (arith, code.0)), λ e. absurd (omega (arith, code.0)))

-- the splits of a number's parts, each of which is unique
pub record Parts (bytes : List ℕ) (negative : Bool) (whole fraction ending : List ℕ) : Type 0 where
  pub unsigned : List ℕ
  pub following : List ℕ
  pub sign : SplitsSign bytes negative unsigned
  pub digits : SplitsDigits unsigned whole following
  pub rest : SplitsFraction following fraction ending

-- one split after the other gives the parts
pub parts_of : (bytes : List ℕ) (negative : Bool) (unsigned whole following fraction ending : List ℕ) → SplitsSign bytes negative unsigned → SplitsDigits unsigned whole following → SplitsFraction following fraction ending → Parts bytes negative whole fraction ending
parts_of bytes negative unsigned whole following fraction ending sign digits rest = record { unsigned = unsigned; following = following; sign = sign; digits = digits; rest = rest }

-- a mark is no digit and no point
mark_begins : (mark rest : List ℕ) → (mark ≡ 101 ∷ []) ⊎ (mark ≡ 69 ∷ []) → EndsDigits (mark ++ rest) × BeginsPointless (mark ++ rest)
mark_begins mark rest (inl e) = subst (λ m. EndsDigits (m ++ rest) × BeginsPointless (m ++ rest)) (sym e) (omega arith, λ h. omega (arith, h))
mark_begins mark rest (inr e) = subst (λ m. EndsDigits (m ++ rest) × BeginsPointless (m ++ rest)) (sym e) (omega arith, λ h. omega (arith, h))

-- so an exponent ends the digits
exponent_begins : (ending : List ℕ) (negative : Bool) (digits : List ℕ) → IsExponent ending negative digits → EndsDigits ending × BeginsPointless ending
exponent_begins ending negative digits (inr h) = subst (λ l. EndsDigits l × BeginsPointless l) (sym h.0) (tt, tt)
exponent_begins ending negative digits (inl w) = subst (λ l. EndsDigits l × BeginsPointless l) (sym w.spelled) (mark_begins w.mark _ w.is_mark)

-- digits in front of what is no sign are no sign
unsigned_front : (ds rest : List ℕ) → AllDigits 10 ds → (length ds ≡ 0 → BeginsUnsigned rest) → BeginsUnsigned (ds ++ rest)
unsigned_front [] rest all free = free refl
unsigned_front (d ∷ ds) rest all free = unsigned_digits (d ∷ []) (all.0, tt)

-- a number that is spelled is split into its parts
pub number_splits : (n : Number) (bytes : List ℕ) (s : Spells n bytes) → Parts bytes n.negative n.whole n.fraction s.ending
number_splits n bytes s =
    let begins = exponent_begins s.ending n.shrinks n.exponent s.is_exponent in
    let following = s.point ++ (n.fraction ++ s.ending) in
    let last : SplitsDigits (n.fraction ++ s.ending) n.fraction s.ending = record { spelled = refl; all_digits = s.fraction_digits; ended = begins.0 } in
    let rest : EndsDigits following × (length n.whole ≡ 0 → BeginsUnsigned following) × SplitsFraction following n.fraction s.ending =
    elim s.is_point as (λ _. EndsDigits following × (length n.whole ≡ 0 → BeginsUnsigned following) × SplitsFraction following n.fraction s.ending) [
      | inl e ↦ rw e (omega arith, λ _. (λ h. omega (arith, h), λ h. omega (arith, h)), inl (n.fraction ++ s.ending, refl, last))
      | inr e ↦ (let alone : following ≡ s.ending = ap (λ p. p ++ (n.fraction ++ s.ending)) e.0 ∙ ap (λ f. f ++ s.ending) e.1 in
          rw alone (begins.0, λ h. absurd (omega (arith, s.some_digit, ap length e.1, h)), inr (refl, e.1, begins.1)))
    ] in
    record {
      unsigned = n.whole ++ following;
      following = following;
      sign = rw s.spelled (sign_splits s.sign (n.whole ++ following) n.negative s.is_sign (unsigned_front n.whole following s.whole_digits rest.1));
      digits = record { spelled = refl; all_digits = s.whole_digits; ended = rest.0 };
      rest = rest.2;
    }

-- the parts of bytes are the only ones
pub record SameParts (m n : Bool) (a b c d x y : List ℕ) : Type 0 where
  pub negative : m ≡ n
  pub whole : a ≡ b
  pub fraction : c ≡ d
  pub ending : x ≡ y

-- bytes have one choice of parts
pub parts_same : (bytes : List ℕ) (m n : Bool) (a b c d x y : List ℕ) → Parts bytes m a c x → Parts bytes n b d y → SameParts m n a b c d x y
parts_same bytes m n a b c d x y p q =
    let sign = sign_same bytes m n p.unsigned q.unsigned p.sign q.sign in
    let digits = digits_same p.unsigned a p.following b q.following p.digits (subst (λ u. SplitsDigits u b q.following) (sym sign.1) q.digits) in
    let rest = fraction_same p.following c x d y p.rest (subst (λ u. SplitsFraction u d y) (sym digits.1) q.rest) in
    record { negative = sign.0; whole = digits.0; fraction = rest.0; ending = rest.1 }

-- after the mark of an exponent come a sign and digits
pub exponent_splits : (mark : ℕ) (rest : List ℕ) (negative : Bool) (digits : List ℕ) → IsExponent (mark ∷ rest) negative digits → SplitsSign rest negative digits × IsNumeral 10 digits
exponent_splits mark rest negative digits (inr h) = let e = h.0 in cc
exponent_splits mark rest negative digits (inl w) =
    let after : rest ≡ w.sign ++ digits = elim w.is_mark as (λ _. rest ≡ w.sign ++ digits) [
      | inl e ↦ tails (w.spelled ∙ ap (λ m. m ++ (w.sign ++ digits)) e)
      | inr e ↦ tails (w.spelled ∙ ap (λ m. m ++ (w.sign ++ digits)) e)
    ] in
    (rw after (sign_splits w.sign digits negative w.is_sign (unsigned_digits digits w.is_numeral.1)), w.is_numeral)

-- where nothing stands there is no mark
no_mark : (mark rest : List ℕ) → (mark ≡ 101 ∷ []) ⊎ (mark ≡ 69 ∷ []) → [] ≡ mark ++ rest → ⊥
no_mark mark rest (inl e) spelled = let f : [] ≡ 101 ∷ rest = spelled ∙ ap (λ m. m ++ rest) e in cc
no_mark mark rest (inr e) spelled = let f : [] ≡ 69 ∷ rest = spelled ∙ ap (λ m. m ++ rest) e in cc

-- an exponent is spelled in one way
pub exponent_same : (bytes : List ℕ) (m n : Bool) (a b : List ℕ) → IsExponent bytes m a → IsExponent bytes n b → (m ≡ n) × (a ≡ b)
exponent_same [] m n a b (inr h) (inr k) = (h.1 ∙ sym k.1, h.2 ∙ sym k.2)
exponent_same [] m n a b (inl w) _ = absurd (no_mark w.mark _ w.is_mark w.spelled)
exponent_same [] m n a b (inr h) (inl w) = absurd (no_mark w.mark _ w.is_mark w.spelled)
exponent_same (mark ∷ rest) m n a b p q = sign_same rest m n a b (exponent_splits mark rest m a p).0 (exponent_splits mark rest n b q).0

-- two numbers with the same parts are one
same_number : (a b s t : Bool) (w v f g x y : List ℕ) → a ≡ b → w ≡ v → f ≡ g → s ≡ t → x ≡ y →
    let m : Number = record { negative = a; whole = w; fraction = f; shrinks = s; exponent = x } in
    let n : Number = record { negative = b; whole = v; fraction = g; shrinks = t; exponent = y } in m ≡ n
same_number a b s t w v f g x y p q r u z = cc

-- a number is spelled in one way
pub number_same : (bytes : List ℕ) (m n : Number) → Spells m bytes → Spells n bytes → m ≡ n
number_same bytes m n s t =
    let parts = parts_same bytes _ _ _ _ _ _ _ _ (number_splits m bytes s) (number_splits n bytes t) in
    let exponent = exponent_same s.ending m.shrinks n.shrinks m.exponent n.exponent s.is_exponent (subst (λ l. IsExponent l n.shrinks n.exponent) (sym parts.ending) t.is_exponent) in
    same_number _ _ _ _ _ _ _ _ _ _ parts.negative parts.whole parts.fraction exponent.0 exponent.1

-- bytes whose parts have no digit spell no number
pub no_digits : (bytes : List ℕ) (negative : Bool) (whole fraction ending : List ℕ) → Parts bytes negative whole fraction ending → length whole ≡ 0 → length fraction ≡ 0 → SpellsNothing bytes
no_digits bytes negative whole fraction ending parts none nothing n s =
    let same = parts_same bytes _ _ _ _ _ _ _ _ (number_splits n bytes s) parts in
    omega (arith, s.some_digit, ap length same.whole, ap length same.fraction)

-- nor do bytes whose parts end in no exponent
pub no_exponent : (bytes : List ℕ) (negative : Bool) (whole fraction ending : List ℕ) → Parts bytes negative whole fraction ending → ((shrinks : Bool) (digits : List ℕ) → IsExponent ending shrinks digits → ⊥) → SpellsNothing bytes
no_exponent bytes negative whole fraction ending parts none n s =
    let same = parts_same bytes _ _ _ _ _ _ _ _ (number_splits n bytes s) parts in
    none n.shrinks n.exponent (subst (λ l. IsExponent l n.shrinks n.exponent) same.ending s.is_exponent)

-- what was split off is a point and digits
fraction_of : (bytes fraction rest : List ℕ) → SplitsFraction bytes fraction rest → (point : List ℕ) × IsPoint point fraction × AllDigits 10 fraction × (bytes ≡ point ++ (fraction ++ rest))
fraction_of bytes fraction rest (inl (following, e, digits)) = (46 ∷ [], inl refl, digits.all_digits, e ∙ ap (λ l. 46 ∷ l) digits.spelled)
fraction_of bytes fraction rest (inr (e, none, _)) = ([], inr (refl, none), subst (AllDigits 10) (sym none) tt, e ∙ ap (λ f. f ++ rest) (sym none))

-- parts with a digit and an exponent spell their number
pub parts_spell : (bytes : List ℕ) (negative : Bool) (whole fraction ending : List ℕ) (shrinks : Bool) (exponent : List ℕ) → Parts bytes negative whole fraction ending → 0 < length whole + length fraction → IsExponent ending shrinks exponent →
    Spells (record { negative = negative; whole = whole; fraction = fraction; shrinks = shrinks; exponent = exponent }) bytes
parts_spell bytes negative whole fraction ending shrinks exponent parts some is_exponent =
    let sign = sign_of bytes parts.unsigned negative parts.sign in
    let point = fraction_of parts.following fraction ending parts.rest in
    record {
      sign = sign.0;
      point = point.0;
      ending = ending;
      is_sign = sign.1;
      whole_digits = parts.digits.all_digits;
      is_point = point.1;
      fraction_digits = point.2;
      some_digit = some;
      is_exponent = is_exponent;
      spelled = sign.2 ∙ ap (λ u. sign.0 ++ u) (parts.digits.spelled ∙ ap (λ b. whole ++ b) point.3);
    }

-- a mark, a sign and digits up to the end are an exponent
pub exponent_of : (first : ℕ) (rest unsigned digits end : List ℕ) (negative : Bool) → (first ≡ 101) ⊎ (first ≡ 69) → SplitsSign rest negative unsigned → SplitsDigits unsigned digits end → 0 < length digits → length end ≡ 0 → IsExponent (first ∷ rest) negative digits
exponent_of first rest unsigned digits [] negative is_mark sign split some none =
    let s = sign_of rest unsigned negative sign in
    inl (record {
      mark = first ∷ [];
      sign = s.0;
      is_mark = elim is_mark as (λ _. (first ∷ [] ≡ 101 ∷ []) ⊎ (first ∷ [] ≡ 69 ∷ [])) [ inl e ↦ inl (ap (λ m. m ∷ []) e) | inr e ↦ inr (ap (λ m. m ∷ []) e) ];
      is_sign = s.1;
      is_numeral = (some, split.all_digits);
      spelled = ap (λ l. first ∷ l) (s.2 ∙ ap (λ u. s.0 ++ u) (split.spelled ∙ append-nil digits));
    })
exponent_of first rest unsigned digits (x ∷ end) negative is_mark sign split some none = absurd (omega arith)

-- where there are no digits after a mark, or they do not extend to the end, there is no exponent
pub no_power : (first : ℕ) (rest unsigned digits end : List ℕ) (negative : Bool) → SplitsSign rest negative unsigned → SplitsDigits unsigned digits end → (length digits ≡ 0) ⊎ (0 < length end) → (shrinks : Bool) (power : List ℕ) → IsExponent (first ∷ rest) shrinks power → ⊥
no_power first rest unsigned digits end negative sign split not shrinks power is =
    let parts = exponent_splits first rest shrinks power is in
    let same = sign_same rest negative shrinks unsigned power sign parts.0 in
    let alone : SplitsDigits power power [] = record { spelled = sym (append-nil power); all_digits = parts.1.1; ended = tt } in
    let whole = digits_same unsigned digits end power [] split (subst (λ u. SplitsDigits u power []) (sym same.1) alone) in
    elim not as (λ _. ⊥) [
      | inl none ↦ omega (arith, none, ap length whole.0, parts.1.0)
      | inr more ↦ omega (arith, more, ap length whole.1)
    ]
