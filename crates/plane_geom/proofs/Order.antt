-- The order of lines is a strict one, and total on lines that do not begin at one point.
use Rattle.std.proofs.Common.{◌≡◌, ◌≢◌, ℤ, Bool, true, false, refl, subst, arith}
use Rattle.std.specs.Prelude.{◌&&◌, ◌||◌, int_lt}
use Rattle.std.specs.Ordering.{int_eq}
use Rattle.std.proofs.lemmas.Bool.Decides.{Decides-int_eq}
use Rattle.std.proofs.lemmas.Int.{ints}
use Rattle.plane_geom.specs.declared.point.Way.{Way}
use Rattle.plane_geom.specs.declared.point.Way.TheVariants.{Vertical, Horizontal}
use Rattle.plane_geom.specs.declared.floor.Line.{Line}
use Rattle.plane_geom.specs.Order.{stands_before, way_before}

-- ---- of three lines

through_places : (a b c x y z : ℤ) → (int_lt a b || (int_eq a b && int_lt x y)) ≡ true → (int_lt b c || (int_eq b c && int_lt y z)) ≡ true → (int_lt a c || (int_eq a c && int_lt x z)) ≡ true
through_places a b c x y z e f = grind (arith, ints, Decides-int_eq a b, Decides-int_eq b c, Decides-int_eq a c)

through_ways : (u v w : Way) (a b c x y z : ℤ) → way_before u v (int_lt a b || (int_eq a b && int_lt x y)) ≡ true → way_before v w (int_lt b c || (int_eq b c && int_lt y z)) ≡ true → way_before u w (int_lt a c || (int_eq a c && int_lt x z)) ≡ true
through_ways Vertical Vertical Vertical a b c x y z e f = through_places a b c x y z e f
through_ways Vertical Vertical Horizontal a b c x y z e f = refl
through_ways Vertical Horizontal Vertical a b c x y z e f = absurd (cc)
through_ways Vertical Horizontal Horizontal a b c x y z e f = refl
through_ways Horizontal Vertical w a b c x y z e f = absurd (cc)
through_ways Horizontal Horizontal Vertical a b c x y z e f = absurd (cc)
through_ways Horizontal Horizontal Horizontal a b c x y z e f = through_places a b c x y z e f

pub stands_through : (k l m : Line) → stands_before k l ≡ true → stands_before l m ≡ true → stands_before k m ≡ true
stands_through k l m e f = through_ways k.way l.way m.way k.at l.at m.at k.lo l.lo m.lo e f

-- ---- of one line

not_on_itself : (a x : ℤ) → (int_lt a a || (int_eq a a && int_lt x x)) ≡ false
not_on_itself a x = grind (arith, ints, Decides-int_eq a a)

not_itself_by : (w : Way) (a x : ℤ) → way_before w w (int_lt a a || (int_eq a a && int_lt x x)) ≡ false
not_itself_by Vertical a x = not_on_itself a x
not_itself_by Horizontal a x = not_on_itself a x

pub not_before_itself : (l : Line) → stands_before l l ≡ false
not_before_itself l = not_itself_by l.way l.at l.lo

both : (b : Bool) → b ≡ true → b ≡ false → ⊥
both b t f = cc (t, f)

pub before_apart : (l m : Line) → stands_before l m ≡ true → l ≢ m
before_apart l m e same = both (stands_before m m) (subst (λ (x : Line). stands_before x m ≡ true) same e) (not_before_itself m)

-- ---- of two lines

pub never_both : (l m : Line) → stands_before l m ≡ true → stands_before m l ≡ true → ⊥
never_both l m e f = both (stands_before l l) (stands_through l m l e f) (not_before_itself l)

either_by : (a b x y : ℤ) → ((a ≡ b) → (x ≡ y) → ⊥) → (int_lt a b || (int_eq a b && int_lt x y)) ≡ false → (int_lt b a || (int_eq b a && int_lt y x)) ≡ true
either_by a b x y apart e = grind (arith, ints, Decides-int_eq a b, Decides-int_eq b a)

either_way : (v w : Way) (a b x y : ℤ) → ((v ≡ w) → (a ≡ b) → (x ≡ y) → ⊥) → way_before v w (int_lt a b || (int_eq a b && int_lt x y)) ≡ false → way_before w v (int_lt b a || (int_eq b a && int_lt y x)) ≡ true
either_way Vertical Vertical a b x y apart e = either_by a b x y (apart refl) e
either_way Vertical Horizontal a b x y apart e = absurd (cc)
either_way Horizontal Vertical a b x y apart e = refl
either_way Horizontal Horizontal a b x y apart e = either_by a b x y (apart refl) e

-- of two lines that do not begin at one point of one whole line, one stands before the other
pub either_before : (l m : Line) → ((l.way ≡ m.way) → (l.at ≡ m.at) → (l.lo ≡ m.lo) → ⊥) → stands_before l m ≡ false → stands_before m l ≡ true
either_before l m apart e = either_way l.way m.way l.at m.at l.lo m.lo apart e
