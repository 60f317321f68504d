-- Numbers part by part, and as the grammar spells them.
use Rattle.std.proofs.Common.{◌≡◌, ℕ, ◌+◌, ◌<◌, Bool, true, false, cond, ◌==◌, List, [], ◌∷◌, ◌++◌, length, Option, Some, None, ◌⊎◌, inl, inr, refl, sym, ap, ◌∙◌, subst, arith}
use Rattle.std.specs.Prelude.{codes}
use Rattle.std.specs.Char.{is_ascii_digit, digit_value}
use Rattle.std.specs.Str.Parse.{AllDigits}
use Rattle.std.specs.Option.{option_map_or}
use Rattle.std.proofs.lemmas.Bool.{or_cases, eqb-true, cond-true, cond-false, false≢true}
use Rattle.std.proofs.lemmas.Bool.Decides.{nat_tests}
use Rattle.fixed_milli.specs.Number.{IsNumber, IsSign, IsPoint, IsExponent}
use Rattle.fixed_milli.proofs.Wholes.{is_digit}
use Rattle.fixed_milli.specs.Bytes.{is_mark}
use Rattle.gml_text.specs.Token.{begun, after, is_complete, is_sign}
use Rattle.gml_text.specs.declared.token.NumberPart.{NumberPart}
use Rattle.gml_text.specs.declared.token.NumberPart.TheVariants.{Sign, Whole, Point, Fraction, Mark, MarkSign, Exponent}

-- a sign of either kind
abbrev HasSign : List ℕ → Type 0
HasSign sign = (negative : Bool) × IsSign sign negative

-- an exponent of any digits
abbrev HasExponent : List ℕ → Type 0
HasExponent bytes = (negative : Bool) × (digits : List ℕ) × IsExponent bytes negative digits

-- the bytes go on from the part, to one with which a number may end
abbrev pub ends : List ℕ → NumberPart → Bool
ends [] part = is_complete part
ends (b ∷ bs) part = option_map_or (ends bs) (after part b) false

-- what a number begins with: its first byte, and how the others go on
abbrev pub Begun : List ℕ → Type 0
Begun bytes = (b : ℕ) × (bs : List ℕ) × (part : NumberPart) × (bytes ≡ b ∷ bs) × (begun b ≡ Some part) × (ends bs part ≡ true)

-- what passes the test of digits has the value of one
digit_bound : (b : ℕ) → is_ascii_digit b ≡ true → digit_value b < 10
digit_bound b h = grind (arith, nat_tests)

digit_no_sign : (b : ℕ) → is_ascii_digit b ≡ true → (is_sign b ≡ false) × ((b == 46) ≡ false)
digit_no_sign b h = (grind (arith, nat_tests), grind (arith, nat_tests))

-- a digit leads to the next part
over_digit : (b : ℕ) (next : NumberPart) (other : Option NumberPart) (f : NumberPart → Bool) → is_ascii_digit b ≡ true → f next ≡ true
    → option_map_or f (cond (is_ascii_digit b) (Some next) other) false ≡ true
over_digit b next other f d h = ap (λ o. option_map_or f o false) (cond-true (is_ascii_digit b) (Some next) other d) ∙ h

ends_exponent : (ds : List ℕ) → AllDigits 10 ds → ends ds Exponent ≡ true
ends_exponent [] h = refl
ends_exponent (b ∷ ds) h =
    over_digit b Exponent None (ends ds) (is_digit b h.0) (ends_exponent ds h.1)

ends_mark_sign : (ds : List ℕ) → AllDigits 10 ds → 0 < length ds → ends ds MarkSign ≡ true
ends_mark_sign [] h some = absurd (omega arith)
ends_mark_sign (b ∷ ds) h some =
    over_digit b Exponent None (ends ds) (is_digit b h.0) (ends_exponent ds h.1)

ends_unsigned_mark : (ds : List ℕ) → AllDigits 10 ds → 0 < length ds → ends ds Mark ≡ true
ends_unsigned_mark [] h some = absurd (omega arith)
ends_unsigned_mark (b ∷ ds) h some =
    ap (λ o. option_map_or (ends ds) o false) (cond-false (is_sign b) _ _ (digit_no_sign b (is_digit b h.0)).0)
    ∙ over_digit b Exponent None (ends ds) (is_digit b h.0) (ends_exponent ds h.1)

ends_mark : (sign ds : List ℕ) → HasSign sign → AllDigits 10 ds → 0 < length ds → ends (sign ++ ds) Mark ≡ true
ends_mark sign ds (false, inl s) h some = subst (λ x. ends (x ++ ds) Mark ≡ true) (sym s) (ends_mark_sign ds h some)
ends_mark sign ds (true, s) h some = subst (λ x. ends (x ++ ds) Mark ≡ true) (sym s) (ends_mark_sign ds h some)
ends_mark sign ds (false, inr s) h some = subst (λ x. ends (x ++ ds) Mark ≡ true) (sym s) (ends_unsigned_mark ds h some)

marked : (mark rest : List ℕ) → (mark ≡ codes "e") ⊎ (mark ≡ codes "E") → ends rest Mark ≡ true
    → (ends (mark ++ rest) Whole ≡ true) × (ends (mark ++ rest) Fraction ≡ true)
marked mark rest (inl m) h = subst (λ x. (ends (x ++ rest) Whole ≡ true) × (ends (x ++ rest) Fraction ≡ true)) (sym m) (h, h)
marked mark rest (inr m) h = subst (λ x. (ends (x ++ rest) Whole ≡ true) × (ends (x ++ rest) Fraction ≡ true)) (sym m) (h, h)

ends_exponent_part : (bytes : List ℕ) → HasExponent bytes → (ends bytes Whole ≡ true) × (ends bytes Fraction ≡ true)
ends_exponent_part bytes (negative, digits, inl e) =
    subst (λ x. (ends x Whole ≡ true) × (ends x Fraction ≡ true)) (sym e.spelled)
    (marked e.mark (e.sign ++ digits) e.is_mark (ends_mark e.sign digits (negative, e.is_sign) e.is_numeral.1 e.is_numeral.0))
ends_exponent_part bytes (negative, digits, inr none) = subst (λ x. (ends x Whole ≡ true) × (ends x Fraction ≡ true)) (sym none.0) (refl, refl)

ends_fraction : (ds ending : List ℕ) → AllDigits 10 ds → HasExponent ending → ends (ds ++ ending) Fraction ≡ true
ends_fraction [] ending h e = (ends_exponent_part ending e).1
ends_fraction (b ∷ ds) ending h e =
    over_digit b Fraction _ (ends (ds ++ ending)) (is_digit b h.0) (ends_fraction ds ending h.1 e)

ends_point : (ds ending : List ℕ) → AllDigits 10 ds → 0 < length ds → HasExponent ending → ends (ds ++ ending) Point ≡ true
ends_point [] ending h some e = absurd (omega arith)
ends_point (b ∷ ds) ending h some e =
    over_digit b Fraction None (ends (ds ++ ending)) (is_digit b h.0) (ends_fraction ds ending h.1 e)

ends_whole_at : (point fraction ending : List ℕ) → IsPoint point fraction → AllDigits 10 fraction → HasExponent ending
    → ends (point ++ (fraction ++ ending)) Whole ≡ true
ends_whole_at point fraction ending (inl p) f e =
    subst (λ x. ends (x ++ (fraction ++ ending)) Whole ≡ true) (sym p) (ends_fraction fraction ending f e)
ends_whole_at point fraction ending (inr p) f e =
    subst (λ x. ends (x ++ (fraction ++ ending)) Whole ≡ true) (sym p.0)
    (subst (λ x. ends (x ++ ending) Whole ≡ true) (sym p.1) (ends_exponent_part ending e).0)

ends_whole : (whole point fraction ending : List ℕ) → AllDigits 10 whole → IsPoint point fraction → AllDigits 10 fraction → HasExponent ending
    → ends (whole ++ (point ++ (fraction ++ ending))) Whole ≡ true
ends_whole [] point fraction ending w p f e = ends_whole_at point fraction ending p f e
ends_whole (b ∷ whole) point fraction ending w p f e =
    over_digit b Whole _ (ends (whole ++ (point ++ (fraction ++ ending)))) (is_digit b w.0) (ends_whole whole point fraction ending w.1 p f e)

ends_sign_at : (point fraction ending : List ℕ) → IsPoint point fraction → AllDigits 10 fraction → 0 < length fraction → HasExponent ending
    → ends (point ++ (fraction ++ ending)) Sign ≡ true
ends_sign_at point fraction ending (inl p) f some e =
    subst (λ x. ends (x ++ (fraction ++ ending)) Sign ≡ true) (sym p) (ends_point fraction ending f some e)
ends_sign_at point fraction ending (inr p) f some e =
    let none : length fraction ≡ 0 = ap length p.1 in absurd (omega arith)

ends_sign : (whole point fraction ending : List ℕ) → AllDigits 10 whole → IsPoint point fraction → AllDigits 10 fraction
    → 0 < length whole + length fraction → HasExponent ending → ends (whole ++ (point ++ (fraction ++ ending))) Sign ≡ true
ends_sign [] point fraction ending w p f some e = ends_sign_at point fraction ending p f (omega arith) e
ends_sign (b ∷ whole) point fraction ending w p f some e =
    over_digit b Whole _ (ends (whole ++ (point ++ (fraction ++ ending)))) (is_digit b w.0) (ends_whole whole point fraction ending w.1 p f e)

begun_unsigned_at : (point fraction ending : List ℕ) → IsPoint point fraction → AllDigits 10 fraction → 0 < length fraction → HasExponent ending
    → Begun (point ++ (fraction ++ ending))
begun_unsigned_at point fraction ending (inl p) f some e =
    subst (λ x. Begun (x ++ (fraction ++ ending))) (sym p) (46, fraction ++ ending, Point, refl, refl, ends_point fraction ending f some e)
begun_unsigned_at point fraction ending (inr p) f some e =
    let none : length fraction ≡ 0 = ap length p.1 in absurd (omega arith)

begun_digit : (b : ℕ) → is_ascii_digit b ≡ true → begun b ≡ Some Whole
begun_digit b d =
    let n = digit_no_sign b d in
    cond-false (is_sign b) _ _ n.0 ∙ (cond-false (b == 46) _ _ n.1 ∙ cond-true (is_ascii_digit b) _ _ d)

begun_unsigned : (whole point fraction ending : List ℕ) → AllDigits 10 whole → IsPoint point fraction → AllDigits 10 fraction
    → 0 < length whole + length fraction → HasExponent ending → Begun (whole ++ (point ++ (fraction ++ ending)))
begun_unsigned [] point fraction ending w p f some e = begun_unsigned_at point fraction ending p f (omega arith) e
begun_unsigned (b ∷ whole) point fraction ending w p f some e =
    (b, whole ++ (point ++ (fraction ++ ending)), Whole, refl, begun_digit b (is_digit b w.0), ends_whole whole point fraction ending w.1 p f e)

begun_signed : (sign rest : List ℕ) → HasSign sign → ends rest Sign ≡ true → Begun rest → Begun (sign ++ rest)
begun_signed sign rest (false, inl s) h u = subst (λ x. Begun (x ++ rest)) (sym s) (43, rest, Sign, refl, refl, h)
begun_signed sign rest (true, s) h u = subst (λ x. Begun (x ++ rest)) (sym s) (45, rest, Sign, refl, refl, h)
begun_signed sign rest (false, inr s) h u = subst (λ x. Begun (x ++ rest)) (sym s) u

-- a number's first byte begins it, and the others end it
pub number_ends : (bytes : List ℕ) → IsNumber bytes → Begun bytes
number_ends bytes (n, s) =
    let exponent : HasExponent s.ending = (n.shrinks, n.exponent, s.is_exponent) in
    subst Begun (sym s.spelled)
    (begun_signed s.sign (n.whole ++ (s.point ++ (n.fraction ++ s.ending))) (n.negative, s.is_sign)
    (ends_sign n.whole s.point n.fraction s.ending s.whole_digits s.is_point s.fraction_digits s.some_digit exponent)
    (begun_unsigned n.whole s.point n.fraction s.ending s.whole_digits s.is_point s.fraction_digits s.some_digit exponent))

-- which way a test went
went : (t : Bool) (next : NumberPart) (other : Option NumberPart) (f : NumberPart → Bool) → option_map_or f (cond t (Some next) other) false ≡ true
    → ((t ≡ true) × (f next ≡ true)) ⊎ ((t ≡ false) × (option_map_or f other false ≡ true))
went true next other f h = inl (refl, h)
went false next other f h = inr (refl, h)

exponent_digits : (bs : List ℕ) → ends bs Exponent ≡ true → AllDigits 10 bs
exponent_digits [] h = tt
exponent_digits (b ∷ bs) h =
    elim (went (is_ascii_digit b) Exponent None (ends bs) h) [
      | inl y ↦ (digit_bound b y.0, exponent_digits bs y.1)
      | inr n ↦ absurd (false≢true n.1)
    ]

-- a sign and digits, of which there is one
pub record MarkRest (bs : List ℕ) : Type 0 where
  pub sign : List ℕ
  pub digits : List ℕ
  pub is_sign : HasSign sign
  pub are_digits : AllDigits 10 digits
  pub some_digit : 0 < length digits
  pub spelled : bs ≡ sign ++ digits

digits_at : (b : ℕ) (bs : List ℕ) → is_ascii_digit b ≡ true → ends bs Exponent ≡ true → AllDigits 10 (b ∷ bs)
digits_at b bs d h = (digit_bound b d, exponent_digits bs h)

mark_sign_rest : (bs : List ℕ) → ends bs MarkSign ≡ true → AllDigits 10 bs × (0 < length bs)
mark_sign_rest [] h = absurd (false≢true h)
mark_sign_rest (b ∷ bs) h =
    elim (went (is_ascii_digit b) Exponent None (ends bs) h) [
      | inl y ↦ (digits_at b bs y.0 y.1, omega arith)
      | inr n ↦ absurd (false≢true n.1)
    ]

sign_of : (b : ℕ) → is_sign b ≡ true → HasSign (b ∷ [])
sign_of b h =
    elim (or_cases (b == 43) (b == 45) h) [
      | inl p ↦ (false, inl (ap (λ x. x ∷ []) (eqb-true b 43 p)))
      | inr m ↦ (true, ap (λ x. x ∷ []) (eqb-true b 45 m))
    ]

mark_rest : (bs : List ℕ) → ends bs Mark ≡ true → MarkRest bs
mark_rest [] h = absurd (false≢true h)
mark_rest (b ∷ bs) h =
    elim (went (is_sign b) MarkSign _ (ends bs) h) [
      | inl s ↦ let r = mark_sign_rest bs s.1 in record {
        sign = b ∷ [];
        digits = bs;
        is_sign = sign_of b s.0;
        are_digits = r.0;
        some_digit = r.1;
        spelled = refl;
      }
      | inr o ↦ elim (went (is_ascii_digit b) Exponent None (ends bs) o.1) [
        | inl y ↦ record {
          sign = [];
          digits = b ∷ bs;
          is_sign = (false, inr refl);
          are_digits = digits_at b bs y.0 y.1;
          some_digit = omega arith;
          spelled = refl;
        }
        | inr n ↦ absurd (false≢true n.1)
      ]
    ]

mark_of : (b : ℕ) → is_mark b ≡ true → (b ∷ [] ≡ codes "e") ⊎ (b ∷ [] ≡ codes "E")
mark_of b h =
    elim (or_cases (b == 101) (b == 69) h) [
      | inl p ↦ inl (ap (λ x. x ∷ []) (eqb-true b 101 p))
      | inr m ↦ inr (ap (λ x. x ∷ []) (eqb-true b 69 m))
    ]

exponent_of : (b : ℕ) (bs : List ℕ) → is_mark b ≡ true → ends bs Mark ≡ true → HasExponent (b ∷ bs)
exponent_of b bs m h =
    let r = mark_rest bs h in (
      r.is_sign.0,
      r.digits,
      inl (record {
        mark = b ∷ [];
        sign = r.sign;
        is_mark = mark_of b m;
        is_sign = r.is_sign.1;
        is_numeral = (r.some_digit, r.are_digits);
        spelled = ap (λ x. b ∷ x) r.spelled;
      }),
    )

-- an exponent that is left out
no_exponent : HasExponent []
no_exponent = (false, [], inr (refl, refl, refl))

-- digits and an exponent
pub record FractionRest (bs : List ℕ) : Type 0 where
  pub digits : List ℕ
  pub ending : List ℕ
  pub are_digits : AllDigits 10 digits
  pub is_exponent : HasExponent ending
  pub spelled : bs ≡ digits ++ ending

abbrev more_fraction : (b : ℕ) (bs : List ℕ) → is_ascii_digit b ≡ true → FractionRest bs → FractionRest (b ∷ bs)
more_fraction b bs d r = record {
  digits = b ∷ r.digits;
  ending = r.ending;
  are_digits = (digit_bound b d, r.are_digits);
  is_exponent = r.is_exponent;
  spelled = ap (λ x. b ∷ x) r.spelled;
}

fraction_rest : (bs : List ℕ) → ends bs Fraction ≡ true → FractionRest bs
fraction_rest [] h = record { digits = []; ending = []; are_digits = tt; is_exponent = no_exponent; spelled = refl }
fraction_rest (b ∷ bs) h =
    elim (went (is_ascii_digit b) Fraction _ (ends bs) h) [
      | inl y ↦ more_fraction b bs y.0 (fraction_rest bs y.1)
      | inr o ↦ elim (went (is_mark b) Mark None (ends bs) o.1) [
        | inl m ↦ record { digits = []; ending = b ∷ bs; are_digits = tt; is_exponent = exponent_of b bs m.0 m.1; spelled = refl }
        | inr n ↦ absurd (false≢true n.1)
      ]
    ]

-- digits, a point, digits and an exponent
pub record WholeRest (bs : List ℕ) : Type 0 where
  pub whole : List ℕ
  pub point : List ℕ
  pub fraction : List ℕ
  pub ending : List ℕ
  pub whole_digits : AllDigits 10 whole
  pub is_point : IsPoint point fraction
  pub fraction_digits : AllDigits 10 fraction
  pub is_exponent : HasExponent ending
  pub spelled : bs ≡ whole ++ (point ++ (fraction ++ ending))

abbrev more_whole : (b : ℕ) (bs : List ℕ) → is_ascii_digit b ≡ true → WholeRest bs → WholeRest (b ∷ bs)
more_whole b bs d r = record {
  whole = b ∷ r.whole;
  point = r.point;
  fraction = r.fraction;
  ending = r.ending;
  whole_digits = (digit_bound b d, r.whole_digits);
  is_point = r.is_point;
  fraction_digits = r.fraction_digits;
  is_exponent = r.is_exponent;
  spelled = ap (λ x. b ∷ x) r.spelled;
}

abbrev point_of : (b : ℕ) (bs : List ℕ) → (b == 46) ≡ true → FractionRest bs → WholeRest (b ∷ bs)
point_of b bs p r = record {
  whole = [];
  point = b ∷ [];
  fraction = r.digits;
  ending = r.ending;
  whole_digits = tt;
  is_point = inl (ap (λ x. x ∷ []) (eqb-true b 46 p));
  fraction_digits = r.are_digits;
  is_exponent = r.is_exponent;
  spelled = ap (λ x. b ∷ x) r.spelled;
}

whole_rest : (bs : List ℕ) → ends bs Whole ≡ true → WholeRest bs
whole_rest [] h = record {
  whole = [];
  point = [];
  fraction = [];
  ending = [];
  whole_digits = tt;
  is_point = inr (refl, refl);
  fraction_digits = tt;
  is_exponent = no_exponent;
  spelled = refl;
}
whole_rest (b ∷ bs) h =
    elim (went (is_ascii_digit b) Whole _ (ends bs) h) [
      | inl y ↦ more_whole b bs y.0 (whole_rest bs y.1)
      | inr o ↦ elim (went (b == 46) Fraction _ (ends bs) o.1) [
        | inl p ↦ point_of b bs p.0 (fraction_rest bs p.1)
        | inr q ↦ elim (went (is_mark b) Mark None (ends bs) q.1) [
          | inl m ↦ record {
            whole = [];
            point = [];
            fraction = [];
            ending = b ∷ bs;
            whole_digits = tt;
            is_point = inr (refl, refl);
            fraction_digits = tt;
            is_exponent = exponent_of b bs m.0 m.1;
            spelled = refl;
          }
          | inr n ↦ absurd (false≢true n.1)
        ]
      ]
    ]

-- the same with a digit
pub record UnsignedRest (bs : List ℕ) : Type 0 where
  pub rest : WholeRest bs
  pub some_digit : 0 < length rest.whole + length rest.fraction

unsigned_digit : (b : ℕ) (bs : List ℕ) → is_ascii_digit b ≡ true → ends bs Whole ≡ true → UnsignedRest (b ∷ bs)
unsigned_digit b bs d h = record { rest = more_whole b bs d (whole_rest bs h); some_digit = omega arith }

unsigned_point : (b : ℕ) (bs : List ℕ) → (b == 46) ≡ true → ends bs Point ≡ true → UnsignedRest (b ∷ bs)
unsigned_point b [] p h = absurd (false≢true h)
unsigned_point b (c ∷ bs) p h =
    elim (went (is_ascii_digit c) Fraction None (ends bs) h) [
      | inl y ↦ record { rest = point_of b (c ∷ bs) p (more_fraction c bs y.0 (fraction_rest bs y.1)); some_digit = omega arith }
      | inr n ↦ absurd (false≢true n.1)
    ]

sign_rest : (bs : List ℕ) → ends bs Sign ≡ true → UnsignedRest bs
sign_rest [] h = absurd (false≢true h)
sign_rest (b ∷ bs) h =
    elim (went (is_ascii_digit b) Whole _ (ends bs) h) [
      | inl y ↦ unsigned_digit b bs y.0 y.1
      | inr o ↦ elim (went (b == 46) Point None (ends bs) o.1) [
        | inl p ↦ unsigned_point b bs p.0 p.1
        | inr n ↦ absurd (false≢true n.1)
      ]
    ]

number_of : (sign bs : List ℕ) → HasSign sign → UnsignedRest bs → IsNumber (sign ++ bs)
number_of sign bs s r = (
  record { negative = s.0; whole = r.rest.whole; fraction = r.rest.fraction; shrinks = r.rest.is_exponent.0; exponent = r.rest.is_exponent.1 },
  record {
    sign = sign;
    point = r.rest.point;
    ending = r.rest.ending;
    is_sign = s.1;
    whole_digits = r.rest.whole_digits;
    is_point = r.rest.is_point;
    fraction_digits = r.rest.fraction_digits;
    some_digit = r.some_digit;
    is_exponent = r.rest.is_exponent.2;
    spelled = ap (λ x. sign ++ x) r.rest.spelled;
  },
)

-- which way the first byte went
began : (t : Bool) (next part : NumberPart) (other : Option NumberPart) → cond t (Some next) other ≡ Some part
    → ((t ≡ true) × (next ≡ part)) ⊎ ((t ≡ false) × (other ≡ Some part))
began true next part other h = inl (refl, cc)
began false next part other h = inr (refl, h)

-- what begins and ends as a number does is one
pub number_spelled : (b : ℕ) (bs : List ℕ) (part : NumberPart) → begun b ≡ Some part → ends bs part ≡ true → IsNumber (b ∷ bs)
number_spelled b bs part h e =
    elim (began (is_sign b) Sign part _ h) [
      | inl s ↦ number_of (b ∷ []) bs (sign_of b s.0) (sign_rest bs (subst (λ p. ends bs p ≡ true) (sym s.1) e))
      | inr o ↦ elim (began (b == 46) Point part _ o.1) [
        | inl p ↦ number_of [] (b ∷ bs) (false, inr refl) (unsigned_point b bs p.0 (subst (λ q. ends bs q ≡ true) (sym p.1) e))
        | inr q ↦ elim (began (is_ascii_digit b) Whole part None q.1) [
          | inl d ↦ number_of [] (b ∷ bs) (false, inr refl) (unsigned_digit b bs d.0 (subst (λ q. ends bs q ≡ true) (sym d.1) e))
          | inr n ↦ absurd cc
        ]
      ]
    ]
