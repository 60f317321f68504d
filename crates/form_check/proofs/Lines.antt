-- The line of an edge lies on the sheet, and is not too long to be judged.
use Rattle.std.proofs.Common.{◌≡◌, ℕ, suc, ◌+◌, ◌≤◌, Bool, true, false, List, [], ◌∷◌, length, Option, Some, None, Ok, All, refl, subst, arith, length-append}
use Rattle.std.specs.Prelude.{ℤ, ◌||◌, codes, option_and_then, IfOk, IfSome, if◌then◌else◌}
use Rattle.std.proofs.lemmas.Int.{ints}
use Rattle.std.proofs.lemmas.Option.{none-some, same_Some}
use Rattle.std.proofs.lemmas.List.Elements.{All-nil, All-push}
use Rattle.plane_geom.specs.declared.point.Point.{Point}
use Rattle.plane_geom.specs.Point.{IsCoordinate, PointIsOnSheet, is_coordinate}
use Rattle.walk_model.specs.Line.{IsPolyline}
use Rattle.gml_text.specs.Tree.{Pairs}
use Rattle.scene_model.specs.declared.edge.Edge.{Edge}
use Rattle.diagram_read.specs.declared.fault.Part.TheVariants as part
use Rattle.diagram_read.specs.declared.fault.DiagramFault.TheVariants.{BadNumber, OutOfRange}
use Rattle.diagram_read.specs.Values.{value_at, lists_at, number_in, is_no_number, in_range}
use Rattle.diagram_read.specs.Faults.{need, refuse, each}
use Rattle.diagram_read.specs.Lines.{on_sheet, point_in, with_point, line_with, line_in, list_with, line_of}
use Rattle.diagram_read.proofs.Steps.{bound, ok_holds, there}
use Rattle.form_check.specs.Sizes.{pair_count, HasFewPairs}
use Rattle.form_check.proofs.Counts.{parted, line_few, lists_few}

fits : (v : ℤ) → is_coordinate v ≡ true → IsCoordinate v
fits v within = record { low = grind (arith, ints, within); high = grind (arith, ints, within) }

coordinate : (v z : ℤ) → on_sheet v ≡ Some z → IsCoordinate z
coordinate v z is = by (is_coordinate v) refl is
  where
    by : (b : Bool) → is_coordinate v ≡ b → (if b then Some v else None) ≡ Some z → IsCoordinate z
    by true within e = subst IsCoordinate (same_Some v z e) (fits v within)
    by false out e = absurd (none-some z e)

coordinate_of : (o : Option ℤ) (z : ℤ) → option_and_then on_sheet o ≡ Some z → IsCoordinate z
coordinate_of o z is = (let value = parted on_sheet o z is in coordinate value.0 z value.2)

point_fits : (n : ℕ) (pairs : Pairs) → IfOk (point_in n pairs) PointIsOnSheet
point_fits n pairs =
    let x = number_in (value_at (codes "x") pairs) in
    let y = number_in (value_at (codes "y") pairs) in
    bound _ (refuse (BadNumber part.Edge n) (is_no_number x || is_no_number y)) _ (λ numbers a.
    bound _ (need (OutOfRange part.Edge n) (option_and_then on_sheet (in_range x))) _ (λ on_x b.
    bound _ (need (OutOfRange part.Edge n) (option_and_then on_sheet (in_range y))) _ (λ on_y c.
    record {
      x = coordinate_of (in_range x) on_x (there (OutOfRange part.Edge n) (option_and_then on_sheet (in_range x)) on_x b);
      y = coordinate_of (in_range y) on_y (there (OutOfRange part.Edge n) (option_and_then on_sheet (in_range y)) on_y c);
    })))

-- `count` points on the sheet
record AreFit (count : ℕ) (points : List Point) : Type 0 where
  within : All PointIsOnSheet points
  counted : length points ≡ count

one_fits : (n count : ℕ) (points : List Point) (l : Pairs) → AreFit count points → IfOk (with_point n points l) (AreFit (suc count))
one_fits n count points l fit =
    bound _ (point_in n l) _ (λ p is.
    let more = length-append points (p ∷ []) in
    record {
      within = All-push PointIsOnSheet points p fit.within (ok_holds (point_in n l) p PointIsOnSheet is (point_fits n l));
      counted = (let was = fit.counted in omega (arith, more, was));
    })

all_fit : (n count total : ℕ) (points : List Point) (ls : List Pairs) → count + length ls ≡ total → AreFit count points → IfOk (each (with_point n) points ls) (AreFit total)
all_fit n count total points [] sum fit = subst (λ c. AreFit c points) (let e : count ≡ total = omega (arith, sum) in e) fit
all_fit n count total points (l ∷ ls) sum fit =
    bound _ (with_point n points l) _ (λ next is.
    all_fit n (suc count) total next ls (omega (arith, sum)) (ok_holds (with_point n points l) next (AreFit (suc count)) is (one_fits n count points l fit)))

line_fits_with : (n : ℕ) (o : Option Pairs) (points : List Point) → ((l : Pairs) → o ≡ Some l → pair_count l ≤ 40000000) → line_with n o ≡ Ok (Some points) → IsPolyline points
line_fits_with n None points few is = absurd cc
line_fits_with n (Some l) points few is = ok_holds (line_with n (Some l)) (Some points) (λ o. (ps : List Point) → o ≡ Some ps → IsPolyline ps) is fits points refl
  where
    fits : IfOk (line_with n (Some l)) (λ o. (ps : List Point) → o ≡ Some ps → IsPolyline ps)
    fits =
        bound _ (each (with_point n) [] (lists_at (codes "point") l)) _ (λ qs e ps same.
        let fit = ok_holds (each (with_point n) [] (lists_at (codes "point") l)) qs (AreFit (length (lists_at (codes "point") l))) e
        (all_fit n 0 (length (lists_at (codes "point") l)) [] (lists_at (codes "point") l) (omega arith) (record { within = All-nil PointIsOnSheet; counted = refl })) in
        let one = lists_few (codes "point") l in
        let two = few l refl in
        let long = fit.counted in
        subst IsPolyline (same_Some qs ps same) (record { within = fit.within; few = omega (arith, one, two, long) }))

-- a line that is read may be judged
pub line_fits : (tree : Pairs) (e : Edge) (points : List Point) → HasFewPairs tree → line_of tree e ≡ Ok (Some points) → IsPolyline points
line_fits tree e points few is =
    line_fits_with e.number (option_and_then line_in (option_and_then (list_with tree) e.origin)) points
    (λ l there. let short = line_few tree e.origin l there in omega (arith, short, few)) is

-- the same of a line that an edge may have or not
pub drawn_fits : (tree : Pairs) (e : Edge) (o : Option (List Point)) → HasFewPairs tree → line_of tree e ≡ Ok o → IfSome o IsPolyline
drawn_fits tree e None few is = tt
drawn_fits tree e (Some points) few is = line_fits tree e points few is
