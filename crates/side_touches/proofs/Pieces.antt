-- Rows of a list that goes on.
use Rattle.std.proofs.Common.{ℕ, ℤ, ◌≡◌, ◌↔◌, ◌∙◌, ◌+◌, ◌-◌, ◌<◌, ◌≤◌, zero, suc, List, [], ◌∷◌, ◌++◌, Some, length, get_or, take, drop, map, All, refl, sym, ap, subst, arith}
use Rattle.std.specs.Prelude.{Any, Contains, slice_get}
use Rattle.std.specs.List.{AllZip, filter_map}
use Rattle.std.specs.Option.{option_map}
use Rattle.std.proofs.lemmas.List.{drop-take, drop_at, length-map, length-take, take_at, take_more, take-take, take_rest}
use Rattle.std.proofs.lemmas.List.Elements.{All-cons, All-nil}
use Rattle.std.proofs.lemmas.Option.{none-some, same_Some, slice_get-map, slice_get_read}
use Rattle.plane_geom.specs.declared.point.Dir.{Dir}
use Rattle.plane_geom.specs.declared.point.Dir.TheVariants.{East, South, West, North}
use Rattle.plane_geom.specs.declared.rect.Solid.{Solid}
use Rattle.plane_geom.specs.declared.floor.Line.{Line}
use Rattle.plane_geom.specs.Point.{opposite}
use Rattle.side_touches.specs.declared.extent.Extent.{Extent}
use Rattle.side_touches.specs.declared.row.Row.{Row}
use Rattle.side_touches.specs.declared.row.Rows.{Rows}
use Rattle.side_touches.specs.declared.side.Side.{Side}
use Rattle.side_touches.specs.declared.side.Sides.{Sides}
use Rattle.side_touches.specs.Extents.{IsHull}
use Rattle.side_touches.specs.Rows.{AreAllRows, AreRows, AreRowsOf, GoesOn, IsRow, in_row, lesser_side, line_touches, row_to}
use Rattle.side_touches.specs.Sides.{AreSides, extent_met, sides_to}
use Rattle.side_touches.specs.Touches.{AreLineTouches, AreTouches, LineTouches, touches_to}
use Rattle.side_touches.proofs.Members.{any_of, kept_members, member_of}
use Rattle.side_touches.proofs.Runs.{not_level, not_upright, touching}

pub appended : (old ys new : List Extent) → new ≡ old ++ ys → GoesOn old new
appended old ys new e = ap (take (length old)) e ∙ take_at old ys (length old) refl

pub longer : (old new : List Extent) → GoesOn old new → length old ≤ length new
longer old new on = omega (arith, ap length on, length-take (length old) new)

pub goes_on_further : (xs ys zs : List Extent) → GoesOn xs ys → GoesOn ys zs → GoesOn xs zs
goes_on_further xs ys zs first second =
    let short : length xs ≤ length ys = longer xs ys first in
    sym (take-take (length xs) (length ys) zs short) ∙ ap (take (length xs)) second ∙ first

-- what is new is a row
pub new_row : (old ys new : List Extent) (row : Row) → new ≡ old ++ ys → row.begin ≡ length old → row.end ≡ length new → in_row new row ≡ ys
new_row old ys new row e b n =
    ap (λ k. take (row.end - k) (drop k new)) b ∙ ap (λ k. take (k - length old) (drop (length old) new)) n ∙ take_rest new (length old)
    ∙ ap (drop (length old)) e ∙ drop_at old ys (length old) refl

-- a row stays as it is where the list goes on
pub kept_part : (old new : List Extent) (row : Row) → GoesOn old new → row.begin ≤ row.end → row.end ≤ length old → in_row new row ≡ in_row old row
kept_part old new row on ordered within =
    let whole : row.begin + (row.end - row.begin) ≡ row.end = omega arith in
    let cut = λ (xs : List Extent). sym (ap (λ k. drop row.begin (take k xs)) (sym whole) ∙ drop-take row.begin (row.end - row.begin) xs) in
    let front : take row.end new ≡ take row.end old = sym (take-take row.end (length old) new within) ∙ ap (take row.end) on in
    cut new ∙ ap (drop row.begin) front ∙ sym (cut old)

pub kept_row : (old new : List Extent) (row : Row) → GoesOn old new → IsRow old row → IsRow new row
kept_row old new row on is = record {
  ordered = is.ordered;
  within = omega (arith, is.within, longer old new on);
  hull = subst (λ xs. IsHull xs row.hull) (sym (kept_part old new row on is.ordered is.within)) is.hull;
}

kept_rows : (solids : List Solid) (old new : List Extent) → GoesOn old new → (l : Line) (rows : Rows) → AreRowsOf solids old l rows → AreRowsOf solids new l rows
kept_rows solids old new on l rows are =
    let lesser = are.both.lesser in
    let greater = are.both.greater in
    let first = kept_part old new rows.lesser on lesser.ordered lesser.within in
    let second = kept_part old new rows.greater on greater.ordered greater.within in
    record {
      both = record { lesser = kept_row old new rows.lesser on lesser; greater = kept_row old new rows.greater on greater };
      touches = subst (λ (xs : List Extent). AreLineTouches solids l (record { lesser = xs; greater = in_row new rows.greater })) (sym first)
          (subst (λ (xs : List Extent). AreLineTouches solids l (record { lesser = in_row old rows.lesser; greater = xs })) (sym second) are.touches);
    }

zip_weaker : {X Y : Type 0} (R S : X → Y → Type 0) → ((x : X) (y : Y) → R x y → S x y) → (xs : List X) (ys : List Y) → AllZip R xs ys → AllZip S xs ys
zip_weaker R S w [] [] z = z
zip_weaker R S w [] (y ∷ ys) z = absurd z
zip_weaker R S w (x ∷ xs) [] z = absurd z
zip_weaker R S w (x ∷ xs) (y ∷ ys) z = (w x y z.0, zip_weaker R S w xs ys z.1)

zip_push : {X Y : Type 0} (R : X → Y → Type 0) (xs : List X) (ys : List Y) (x : X) (y : Y) → AllZip R xs ys → R x y → AllZip R (xs ++ x ∷ []) (ys ++ y ∷ [])
zip_push R [] [] x y z r = (r, z)
zip_push R [] (b ∷ ys) x y z r = absurd z
zip_push R (a ∷ xs) [] x y z r = absurd z
zip_push R (a ∷ xs) (b ∷ ys) x y z r = (z.0, zip_push R xs ys x y z.1 r)

zip_at : {X Y : Type 0} (R : X → Y → Type 0) (xs : List X) (ys : List Y) (n : ℕ) (x : X) (y : Y) → AllZip R xs ys → slice_get xs n ≡ Some x → slice_get ys n ≡ Some y → R x y
zip_at R [] ys n x y z e f = absurd (none-some x e)
zip_at R (a ∷ xs) [] n x y z e f = absurd (none-some y f)
zip_at R (a ∷ xs) (b ∷ ys) zero x y z e f = subst (λ u. R u y) (same_Some a x e) (subst (R a) (same_Some b y f) z.0)
zip_at R (a ∷ xs) (b ∷ ys) (suc n) x y z e f = zip_at R xs ys n x y z.1 e f

pub kept_all : (solids : List Solid) (lines : List Line) (old new : List Extent) (rows : List Rows) → GoesOn old new → AreAllRows solids lines old rows → AreAllRows solids lines new rows
kept_all solids lines old new rows on all = zip_weaker (AreRowsOf solids old) (AreRowsOf solids new) (kept_rows solids old new on) lines rows all

pub all_in_order : (solids : List Solid) (lines : List Line) (xs : List Extent) (rows : List Rows) → AreAllRows solids lines xs rows → All (AreRows xs) rows
all_in_order solids [] xs [] z = All-nil (AreRows xs)
all_in_order solids [] xs (r ∷ rows) z = absurd z
all_in_order solids (l ∷ lines) xs [] z = absurd z
all_in_order solids (l ∷ lines) xs (r ∷ rows) z = All-cons (AreRows xs) r rows z.0.both (all_in_order solids lines xs rows z.1)

pub all_counted : (solids : List Solid) (lines : List Line) (xs : List Extent) (rows : List Rows) → AreAllRows solids lines xs rows → length (map (line_touches xs) rows) ≡ length lines
all_counted solids [] xs [] z = refl
all_counted solids [] xs (r ∷ rows) z = absurd z
all_counted solids (l ∷ lines) xs [] z = absurd z
all_counted solids (l ∷ lines) xs (r ∷ rows) z = ap suc (all_counted solids lines xs rows z.1)

-- the rows give what touches the lines
pub all_touches : (solids : List Solid) (lines : List Line) (xs : List Extent) (rows : List Rows) → AreAllRows solids lines xs rows → AreTouches lines solids (map (line_touches xs) rows)
all_touches solids [] xs [] z = z
all_touches solids [] xs (r ∷ rows) z = absurd z
all_touches solids (l ∷ lines) xs [] z = absurd z
all_touches solids (l ∷ lines) xs (r ∷ rows) z = (z.0.touches, all_touches solids lines xs rows z.1)

-- the extents are those of the sides at the line's coordinate that it meets
abbrev pub AreMet : Line → List Side → List Extent → Type 0
AreMet l sides xs = (x : Extent) → Contains xs x ↔ Any (λ s. (s.at ≡ l.at) × (extent_met l s ≡ Some x)) sides

-- the rows of the sides across the line are those of the line
pub line_rows : (solids : List Solid) (sides : Sides) (l : Line) (xs : List Extent) (rows : Rows) → AreSides solids sides → AreMet l (sides_to (lesser_side l.way) sides) (in_row xs rows.lesser) →
    AreMet l (sides_to (opposite (lesser_side l.way)) sides) (in_row xs rows.greater) → AreLineTouches solids l (line_touches xs rows)
line_rows solids sides l xs rows are lesser greater East n =
    touching East solids (sides_to East sides) l (in_row xs rows.greater) n (are East) (subst (λ d. AreMet l (sides_to d sides) (in_row xs rows.greater)) (ap (λ w. opposite (lesser_side w)) (not_level l.way n)) greater)
line_rows solids sides l xs rows are lesser greater South n =
    touching South solids (sides_to South sides) l (in_row xs rows.greater) n (are South) (subst (λ d. AreMet l (sides_to d sides) (in_row xs rows.greater)) (ap (λ w. opposite (lesser_side w)) (not_upright l.way n)) greater)
line_rows solids sides l xs rows are lesser greater West n =
    touching West solids (sides_to West sides) l (in_row xs rows.lesser) n (are West) (subst (λ d. AreMet l (sides_to d sides) (in_row xs rows.lesser)) (ap lesser_side (not_level l.way n)) lesser)
line_rows solids sides l xs rows are lesser greater North n =
    touching North solids (sides_to North sides) l (in_row xs rows.lesser) n (are North) (subst (λ d. AreMet l (sides_to d sides) (in_row xs rows.lesser)) (ap lesser_side (not_upright l.way n)) lesser)

pub touches_in : (side : Dir) (xs : List Extent) (rows : Rows) → touches_to side (line_touches xs rows) ≡ in_row xs (row_to side rows)
touches_in East xs rows = refl
touches_in South xs rows = refl
touches_in West xs rows = refl
touches_in North xs rows = refl

pub row_in_order : (side : Dir) (xs : List Extent) (rows : Rows) → AreRows xs rows → IsRow xs (row_to side rows)
row_in_order East xs rows are = are.greater
row_in_order South xs rows are = are.greater
row_in_order West xs rows are = are.lesser
row_in_order North xs rows are = are.lesser

-- what a loop over the sides at the line's coordinate keeps
pub met_row : (l : Line) (sides here : List Side) (at : ℤ) → at ≡ l.at → ((x : Side) → Contains here x ↔ (Contains sides x × (x.at ≡ at))) → AreMet l sides (filter_map (extent_met l) here)
met_row l sides here at e parts = λ x.
    let kept = kept_members (extent_met l) here x in (
      λ c.
          let a = kept.0 c in
          let b = (parts a.1).0 (member_of (λ s. extent_met l s ≡ Some x) here a) in
          any_of (λ s. (s.at ≡ l.at) × (extent_met l s ≡ Some x)) sides a.1 b.0 (b.1 ∙ e, a.4),
      λ a.
          let stands = (parts a.1).1 (member_of (λ s. (s.at ≡ l.at) × (extent_met l s ≡ Some x)) sides a, a.4.0 ∙ sym e) in
          kept.1 (any_of (λ s. extent_met l s ≡ Some x) here a.1 stands a.4.1),
    )

-- the rows of one more line
pub one_line_more : (solids : List Solid) (lines : List Line) (old new : List Extent) (rows : List Rows) (i : ℕ) (d : Line) (r : Rows) → i < length lines → GoesOn old new → AreAllRows solids (take i lines) old rows → AreRowsOf solids new (get_or lines i d) r →
    AreAllRows solids (take (i + 1) lines) new (rows ++ r ∷ [])
one_line_more solids lines old new rows i d r l on all is =
    subst (λ ls. AreAllRows solids ls new (rows ++ r ∷ [])) (sym (take_more lines i d l))
    (zip_push (AreRowsOf solids new) (take i lines) rows (get_or lines i d) r (kept_all solids (take i lines) old new rows on all) is)

-- what touches the line of the number
pub touches_of : (solids : List Solid) (lines : List Line) (xs : List Extent) (rows : List Rows) (ts : List LineTouches) (n : ℕ) (l : Line) (r : Rows) → map (line_touches xs) rows ≡ ts → AreTouches lines solids ts → slice_get lines n ≡ Some l → n < length ts → r ≡ get_or rows n r →
    AreLineTouches solids l (line_touches xs r)
touches_of solids lines xs rows ts n l r view are is inside read =
    let f = line_touches xs in
    let long : n < length rows = subst (λ k. n < k) (ap length (sym view) ∙ length-map rows f) inside in
    let mapped : slice_get (map f rows) n ≡ Some (f r) = slice_get-map f rows n ∙ ap (option_map f) (slice_get_read rows (length rows) n r refl long read) in
    zip_at (AreLineTouches solids) lines ts n l (f r) are is (ap (λ zs. slice_get zs n) (sym view) ∙ mapped)

-- the rows of the line of the number
pub rows_of : (xs : List Extent) (rows : List Rows) (ts : List LineTouches) (n : ℕ) (r : Rows) → map (line_touches xs) rows ≡ ts → All (AreRows xs) rows → n < length ts → r ≡ get_or rows n r → AreRows xs r
rows_of xs rows ts n r view all inside read =
    let long : n < length rows = subst (λ k. n < k) (ap length (sym view) ∙ length-map rows (line_touches xs)) inside in
    subst (AreRows xs) (sym read) (all n r long)
