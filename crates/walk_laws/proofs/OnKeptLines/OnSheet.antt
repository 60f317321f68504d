-- A first walk stays on the sheet.
use Rattle.std.proofs.Common.{◌≡◌, ℕ, suc, zero, List, [], ◌∷◌, ◌++◌, take, replicate, All, refl, sym, ap, subst, ◌∙◌, arith}
use Rattle.std.proofs.lemmas.Int.{ints}
use Rattle.std.proofs.lemmas.List.Elements.{All-cons, All-nil}
use Rattle.plane_geom.specs.declared.point.Point.{Point}
use Rattle.plane_geom.specs.declared.point.Dir.{Dir}
use Rattle.plane_geom.specs.declared.point.Dir.TheVariants.{East, South, West, North}
use Rattle.plane_geom.specs.declared.floor.Floor.{Floor}
use Rattle.plane_geom.specs.Point.{PointIsOnSheet, forward, distance, heading, opposite}
use Rattle.plane_geom.proofs.Headings.{straight_end}
use Rattle.walk_model.specs.declared.task.Task.{Task}
use Rattle.walk_model.specs.Walk.{Walk, after}
use Rattle.walk_model.specs.Choice.{IsChoice, stub_length}
use Rattle.walk_model.specs.Line.{AreStraight, Draws, steps_through}
use Rattle.walk_model.specs.Legal.{IsTask}
use Rattle.walk_model.specs.Floors.{IsFloorOf}
use Rattle.walk_model.specs.Order.{Triple, IsFirst}
use Rattle.walk_model.proofs.CornerByCorner.Scan.{after-replicate, forward-forward}
use Rattle.walk_laws.proofs.Replacing.Tours.{IsTour, stub, stub_back, to_port, to_pin, tour_from_legal}
use Rattle.walk_laws.proofs.OnKeptLines.Lines.{chosen_start, chosen_end, tour_in}

-- all points of the steps from the point are on the sheet
abbrev pub AreOnSheet : Point → List Dir → Type 0
AreOnSheet p [] = PointIsOnSheet p
AreOnSheet p (d ∷ ds) = PointIsOnSheet p × AreOnSheet (forward d 1 p) ds

pub begin_on_sheet : (p : Point) (ds : List Dir) → AreOnSheet p ds → PointIsOnSheet p
begin_on_sheet p [] h = h
begin_on_sheet p (d ∷ ds) h = h.0

on_sheet-append : (p : Point) (xs ys : List Dir) → AreOnSheet p xs → AreOnSheet (after p xs) ys → AreOnSheet p (xs ++ ys)
on_sheet-append p [] ys h k = k
on_sheet-append p (d ∷ xs) ys h k = (h.0, on_sheet-append (forward d 1 p) xs ys h.1 k)

on_sheet_behind : (p : Point) (xs ys : List Dir) → AreOnSheet p (xs ++ ys) → AreOnSheet (after p xs) ys
on_sheet_behind p [] ys h = h
on_sheet_behind p (d ∷ xs) ys h = on_sheet_behind (forward d 1 p) xs ys h.1

-- between two points of the sheet a straight line stays on it
next_on_sheet : (d : Dir) (n : ℕ) (p : Point) → PointIsOnSheet p → PointIsOnSheet (forward d (suc n) p) → PointIsOnSheet (forward d 1 p)
next_on_sheet East n p h k = record { x = record { low = omega (arith, ints, h.x.low); high = omega (arith, ints, k.x.high) }; y = h.y }
next_on_sheet South n p h k = record { x = h.x; y = record { low = omega (arith, ints, h.y.low); high = omega (arith, ints, k.y.high) } }
next_on_sheet West n p h k = record { x = record { low = omega (arith, ints, k.x.low); high = omega (arith, ints, h.x.high) }; y = h.y }
next_on_sheet North n p h k = record { x = h.x; y = record { low = omega (arith, ints, k.y.low); high = omega (arith, ints, h.y.high) } }

stretch_on_sheet : (n : ℕ) (d : Dir) (p : Point) → PointIsOnSheet p → PointIsOnSheet (forward d n p) → AreOnSheet p (replicate n d)
stretch_on_sheet zero d p h k = h
stretch_on_sheet (suc n) d p h k = (
  h,
  stretch_on_sheet n d (forward d 1 p) (next_on_sheet d n p h k) (subst PointIsOnSheet (sym (forward-forward d n 1 p ∙ ap (λ m. forward d m p) (omega arith))) k),
)

from_fronts : (p : Point) (ds : List Dir) → ((xs ys : List Dir) → ds ≡ xs ++ ys → PointIsOnSheet (after p xs)) → AreOnSheet p ds
from_fronts p [] h = h [] [] refl
from_fronts p (d ∷ ds) h = (h [] (d ∷ ds) refl, from_fronts (forward d 1 p) ds (λ xs ys cut. h (d ∷ xs) ys (ap (λ zs. d ∷ zs) cut)))

-- so each of its points is, by number
pub point_on_sheet : (k : ℕ) (p : Point) (ds : List Dir) → AreOnSheet p ds → PointIsOnSheet (after p (take k ds))
point_on_sheet zero p ds h = begin_on_sheet p ds h
point_on_sheet (suc k) p [] h = h
point_on_sheet (suc k) p (d ∷ ds) h = point_on_sheet k (forward d 1 p) ds h.1

-- and each corner of a line that draws it
corners_on_sheet : (p : Point) (qs : List Point) → AreStraight p qs → AreOnSheet p (steps_through p qs) → All PointIsOnSheet (p ∷ qs)
corners_on_sheet p [] straight h = All-cons PointIsOnSheet p [] h (All-nil PointIsOnSheet)
corners_on_sheet p (q ∷ qs) straight h =
    let run = replicate (distance p q) (heading p q) in
    let there : after p run ≡ q = after-replicate p (distance p q) (heading p q) ∙ straight_end p q straight.0 in
    All-cons PointIsOnSheet p (q ∷ qs) (begin_on_sheet p (run ++ steps_through q qs) h)
    (corners_on_sheet q qs straight.1 (subst (λ x. AreOnSheet x (steps_through q qs)) there (on_sheet_behind p run (steps_through q qs) h)))

pub drawn_on_sheet : (points : List Point) (w : Walk) → Draws points w → AreOnSheet w.start w.steps → All PointIsOnSheet points
drawn_on_sheet [] w draws h = absurd draws
drawn_on_sheet (p ∷ qs) w draws h = corners_on_sheet p qs draws.0 (subst (λ (v : Walk). AreOnSheet v.start v.steps) draws.1 h)

pub first_on_sheet : (floor : Floor) (task : Task) (t : Triple) → IsTask task → IsFloorOf floor task → IsFirst floor.solids task t → AreOnSheet t.walk.start t.walk.steps
first_on_sheet floor task t is_task on first = of_tour tour.0 tour.1
  where
    start_choice : IsChoice first.legal.start
    start_choice = chosen_start floor.solids task t is_task first.legal

    end_choice : IsChoice first.legal.end
    end_choice = chosen_end floor.solids task t is_task first.legal

    tour : (middle : List Dir) × IsTour floor.solids task.via first.legal.start t.walk first.legal.end middle
    tour = tour_from_legal floor.solids task.via first.legal.start t.walk first.legal.end start_choice end_choice first.legal.legal

    of_tour : (middle : List Dir) → IsTour floor.solids task.via first.legal.start t.walk first.legal.end middle → AreOnSheet t.walk.start t.walk.steps
    of_tour middle tour =
        let s = first.legal.start in
        let e = first.legal.end in
        let out : AreOnSheet s.pin (stub s) = stretch_on_sheet (stub_length s) s.dir s.pin start_choice.pin (subst PointIsOnSheet start_choice.straight start_choice.port) in
        let pin : forward (opposite e.dir) (stub_length e) e.port ≡ e.pin = sym (after-replicate e.port (stub_length e) (opposite e.dir)) ∙ to_pin e end_choice in
        let back : AreOnSheet e.port (stub_back e) = stretch_on_sheet (stub_length e) (opposite e.dir) e.port end_choice.port (subst PointIsOnSheet (sym pin) end_choice.pin) in
        let inner : AreOnSheet s.port middle = from_fronts s.port middle (tour_in floor task t is_task on first middle tour) in
        let rest : AreOnSheet s.port (middle ++ stub_back e) = on_sheet-append s.port middle (stub_back e) inner (subst (λ p. AreOnSheet p (stub_back e)) (sym tour.reaches) back) in
        let all : AreOnSheet s.pin (stub s ++ (middle ++ stub_back e)) =
        on_sheet-append s.pin (stub s) (middle ++ stub_back e) out (subst (λ p. AreOnSheet p (middle ++ stub_back e)) (sym (to_port s start_choice)) rest) in
        subst (λ p. AreOnSheet p t.walk.steps) (sym tour.start) (subst (AreOnSheet s.pin) (sym tour.steps) all)
