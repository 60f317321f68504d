-- The order of two and three spans.
use Rattle.std.proofs.Common.{◌≡◌, true, false, arith}
use Rattle.std.proofs.lemmas.Bool.Decides.{nat_tests, Decides-int_eq}
use Rattle.std.proofs.lemmas.Int.{ints}
use Rattle.interval_index.specs.declared.span.Span.{Span}
use Rattle.interval_index.specs.Order.{is_before}

pub before_all : (s t u : Span) → is_before s t ≡ true → is_before t u ≡ true → is_before s u ≡ true
before_all s t u h k = grind (arith, ints, nat_tests, Decides-int_eq s.lo t.lo, Decides-int_eq t.lo u.lo, Decides-int_eq s.lo u.lo)

pub not_both : (s t : Span) → is_before s t ≡ true → is_before t s ≡ false
not_both s t h = grind (arith, ints, nat_tests, Decides-int_eq s.lo t.lo, Decides-int_eq t.lo s.lo)

-- what stands before t and what stands after it, where s is not before t
pub not_before_later : (s t u : Span) → is_before s u ≡ false → is_before t u ≡ true → is_before s t ≡ false
not_before_later s t u h k = grind (arith, ints, nat_tests, Decides-int_eq s.lo t.lo, Decides-int_eq t.lo u.lo, Decides-int_eq s.lo u.lo)

-- a span in the same place stands before the same ones, and after the same ones
pub before_same : (s t u : Span) → is_before s t ≡ false → is_before t s ≡ false → is_before u t ≡ true → is_before u s ≡ true
before_same s t u h k e = grind (arith, ints, nat_tests, Decides-int_eq s.lo t.lo, Decides-int_eq t.lo s.lo, Decides-int_eq u.lo t.lo, Decides-int_eq u.lo s.lo)

pub after_same : (s t u : Span) → is_before s t ≡ false → is_before t s ≡ false → is_before t u ≡ true → is_before s u ≡ true
after_same s t u h k e = grind (arith, ints, nat_tests, Decides-int_eq s.lo t.lo, Decides-int_eq t.lo s.lo, Decides-int_eq t.lo u.lo, Decides-int_eq s.lo u.lo)
