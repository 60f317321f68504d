-- Which bytes are which.
use Rattle.std.proofs.Common.{◌≡◌, ℕ, ◌==◌, true, false, Some, None, arith}
use Rattle.std.proofs.lemmas.Bool.Decides.{nat_tests}
use Rattle.std.specs.Char.{is_ascii_digit}
use Rattle.gml_text.specs.Bytes.{is_space, begins_key, is_key_byte, is_word_byte}
use Rattle.fixed_milli.specs.Bytes.{is_mark}
use Rattle.gml_text.specs.Token.{begun, after, is_sign}
use Rattle.gml_text.specs.declared.token.NumberPart.{NumberPart}
use Rattle.gml_text.specs.declared.token.NumberPart.TheVariants.{Sign, Whole, Point, Fraction, Mark, MarkSign, Exponent}

-- two that are not the same, as a test
pub not_same : (a b : ℕ) → (a ≡ b → ⊥) → (a == b) ≡ false
not_same a b h = grind (arith, nat_tests)

-- what begins a key is no white space and no bracket
pub key_begin : (b : ℕ) → begins_key b ≡ true → (is_space b ≡ false) × ((b == 35) ≡ false) × ((b == 93) ≡ false)
key_begin b h = (grind (arith, nat_tests), grind (arith, nat_tests), grind (arith, nat_tests))

-- what is of no word is no digit, point, sign or mark, and of no key
pub record IsNoWord (b : ℕ) : Type 0 where
  pub key : is_key_byte b ≡ false
  pub digit : is_ascii_digit b ≡ false
  pub point : (b == 46) ≡ false
  pub sign : is_sign b ≡ false
  pub mark : is_mark b ≡ false

pub no_word : (b : ℕ) → is_word_byte b ≡ false → IsNoWord b
no_word b h = record {
  key = grind (arith, nat_tests);
  digit = grind (arith, nat_tests);
  point = grind (arith, nat_tests);
  sign = grind (arith, nat_tests);
  mark = grind (arith, nat_tests);
}

-- white space is of no word
pub space_no_word : (b : ℕ) → is_space b ≡ true → is_word_byte b ≡ false
space_no_word b h = grind (arith, nat_tests)

-- no number begins or goes on with what is of no word
pub begun_no_word : (b : ℕ) → is_word_byte b ≡ false → begun b ≡ None
begun_no_word b h = let w = no_word b h in rw (w.sign, w.point, w.digit)

pub after_no_word : (part : NumberPart) (b : ℕ) → is_word_byte b ≡ false → after part b ≡ None
after_no_word Sign b h = let w = no_word b h in rw (w.digit, w.point)
after_no_word Whole b h = let w = no_word b h in rw (w.digit, w.point, w.mark)
after_no_word Point b h = let w = no_word b h in rw (w.digit)
after_no_word Fraction b h = let w = no_word b h in rw (w.digit, w.mark)
after_no_word Mark b h = let w = no_word b h in rw (w.sign, w.digit)
after_no_word MarkSign b h = let w = no_word b h in rw (w.digit)
after_no_word Exponent b h = let w = no_word b h in rw (w.digit)

-- what a number begins with is no white space, bracket or quote
pub number_begin : (b : ℕ) (part : NumberPart) → begun b ≡ Some part → (is_space b ≡ false) × ((b == 35) ≡ false) × ((b == 91) ≡ false) × ((b == 34) ≡ false)
number_begin b part h = (grind (arith, nat_tests), grind (arith, nat_tests), grind (arith, nat_tests), grind (arith, nat_tests))
