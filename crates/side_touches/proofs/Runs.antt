-- Which runs along a line touch the sides that touch the line.
use Rattle.std.proofs.Common.{ℤ, pos, ◌≡◌, ◌≢◌, ◌↔◌, ◌-ℤ◌, ◌≤ℤ◌, Bool, true, IsTrue, List, Option, Some, None, IfSome, refl, sym, ap, ◌∙◌, subst, arith}
use Rattle.std.specs.Prelude.{Any, Contains}
use Rattle.std.proofs.lemmas.Int.{ints}
use Rattle.std.proofs.lemmas.Option.{cond_some}
use Rattle.plane_geom.specs.declared.point.Point.{Point}
use Rattle.plane_geom.specs.declared.point.Dir.{Dir}
use Rattle.plane_geom.specs.declared.point.Dir.TheVariants.{East, South, West, North}
use Rattle.plane_geom.specs.declared.point.Way.{Way}
use Rattle.plane_geom.specs.declared.point.Way.TheVariants.{Vertical, Horizontal}
use Rattle.plane_geom.specs.declared.rect.Rect.{Rect}
use Rattle.plane_geom.specs.declared.rect.Solid.{Solid}
use Rattle.plane_geom.specs.declared.floor.Line.{Line}
use Rattle.plane_geom.specs.Along.{reach, way_of}
use Rattle.walk_laws.specs.Sides.{SharesSideTo}
use Rattle.move_model.specs.Stations.{line_between}
use Rattle.move_model.proofs.Stopping.RunLines.{way_between}
use Rattle.side_touches.specs.declared.extent.Extent.{Extent}
use Rattle.side_touches.specs.declared.side.Side.{Side}
use Rattle.side_touches.specs.Extents.{IsLastPlace, IsMet, begin_in}
use Rattle.side_touches.specs.Sides.{AreSidesTo, extent_met, is_met_by, side_of}
use Rattle.side_touches.specs.Touches.{AreTouching, IsRunOn, IsTouched, IsTouchedFrom, MayTouch}
use Rattle.side_touches.proofs.Members.{any_of, member_of}

-- the side stands on the whole line of the line, and shares a point with it
record Meets (l : Line) (s : Side) : Type 0 where
  at : s.at ≡ l.at
  from : l.lo ≤ℤ s.extent.hi
  to : s.extent.lo ≤ℤ l.hi

pub not_level : (w : Way) → Horizontal ≢ w → w ≡ Vertical
not_level Vertical n = refl
not_level Horizontal n = absurd (n refl)

pub not_upright : (w : Way) → Vertical ≢ w → w ≡ Horizontal
not_upright Vertical n = absurd (n refl)
not_upright Horizontal n = refl

shared : (side : Dir) (l : Line) (r : Rect) → SharesSideTo side l r → Meets l (side_of side r)
shared East l r h = record { at = h.1; from = h.2; to = h.3 }
shared South l r h = record { at = h.1; from = h.2; to = h.3 }
shared West l r h = record { at = h.1; from = h.2; to = h.3 }
shared North l r h = record { at = h.1; from = h.2; to = h.3 }

shares : (side : Dir) (l : Line) (r : Rect) → way_of side ≢ l.way → Meets l (side_of side r) → SharesSideTo side l r
shares East l r n m = (not_level l.way n, m.at, m.from, m.to)
shares South l r n m = (not_upright l.way n, m.at, m.from, m.to)
shares West l r n m = (not_level l.way n, m.at, m.from, m.to)
shares North l r n m = (not_upright l.way n, m.at, m.from, m.to)

met_parts : (l : Line) (x : Extent) → is_met_by l x ≡ true → (l.lo ≤ℤ x.hi) × (x.lo ≤ℤ l.hi)
met_parts l x e = (grind (arith, ints), grind (arith, ints))

met_whole : (l : Line) (x : Extent) → l.lo ≤ℤ x.hi → x.lo ≤ℤ l.hi → is_met_by l x ≡ true
met_whole l x a b = grind (arith, ints)

-- what a line touches, from the sides of the solids
pub touching : (side : Dir) (solids : List Solid) (sides : List Side) (l : Line) (xs : List Extent) → way_of side ≢ l.way → AreSidesTo side solids sides →
    ((x : Extent) → Contains xs x ↔ Any (λ s. (s.at ≡ l.at) × (extent_met l s ≡ Some x)) sides) → AreTouching solids l side xs
touching side solids sides l xs n are members = λ x. (
  λ c.
      let a = (members x).0 c in
      let b = (are.members a.1).0 (member_of (λ s. (s.at ≡ l.at) × (extent_met l s ≡ Some x)) sides a) in
      let met = cond_some (is_met_by l a.1.extent) a.1.extent x a.4.1 in
      let parts = met_parts l a.1.extent met.0 in
      let here : Meets l a.1 = record { at = a.4.0; from = parts.0; to = parts.1 } in
      let same : side_of side b.1.rect ≡ a.1 = b.4 in
      any_of (λ s. SharesSideTo side l s.rect × ((side_of side s.rect).extent ≡ x)) solids b.1 (member_of (λ s. side_of side s.rect ≡ a.1) solids b)
      (shares side l b.1.rect n (subst (Meets l) (sym same) here), ap (λ (s : Side). s.extent) same ∙ met.1),
  λ a.
      let y = side_of side a.1.rect in
      let here = shared side l a.1.rect a.4.0 in
      let all = λ (s : Solid). SharesSideTo side l s.rect × ((side_of side s.rect).extent ≡ x) in
      let stands : Contains sides y = (are.members y).1 (any_of (λ s. side_of side s.rect ≡ y) solids a.1 (member_of all solids a) refl) in
      (members x).1 (any_of (λ s. (s.at ≡ l.at) × (extent_met l s ≡ Some x)) sides y stands
      (here.at, rw (met_whole l y.extent here.from here.to) (ap (λ (z : Extent). Some z) a.4.1))),
)

-- the run shares points with the extents to which one comes on it
run_meets : (d : Dir) (p q : Point) (x : Extent) → (line_between d p q).lo ≤ℤ x.hi → x.lo ≤ℤ (line_between d p q).hi → IsMet d (reach d p) (reach d q) x
run_meets East p q x a b = record { begins = b; ends = a }
run_meets South p q x a b = record { begins = b; ends = a }
run_meets West p q x a b = record { begins = omega (arith, ints); ends = omega (arith, ints) }
run_meets North p q x a b = record { begins = omega (arith, ints); ends = omega (arith, ints) }

met_on_run : (d : Dir) (p q : Point) (x : Extent) → IsMet d (reach d p) (reach d q) x → ((line_between d p q).lo ≤ℤ x.hi) × (x.lo ≤ℤ (line_between d p q).hi)
met_on_run East p q x m = (m.ends, m.begins)
met_on_run South p q x m = (m.ends, m.begins)
met_on_run West p q x m = (let b = m.begins in omega (arith, ints), let e = m.ends in omega (arith, ints))
met_on_run North p q x m = (let b = m.begins in omega (arith, ints), let e = m.ends in omega (arith, ints))

-- a run touches a side exactly if one comes on it to an extent of the line
touched_by : (solids : List Solid) (l : Line) (side heading : Dir) (xs : List Extent) (p q : Point) → (way_of side ≢ l.way → AreTouching solids l side xs) → way_of side ≢ way_of heading → IsRunOn l heading p q →
    IsTouched solids side heading p q ↔ Any (IsMet heading (reach heading p) (reach heading q)) xs
touched_by solids l side heading xs p q touching_them n run =
    let m = line_between heading p q in
    let across : way_of side ≢ m.way = subst (λ w. way_of side ≢ w) (sym (way_between heading p q)) n in
    let across_line : way_of side ≢ l.way = subst (λ w. way_of side ≢ w) run.part.way across in
    let are = touching_them across_line in (
      λ a.
          let r = a.1.rect in
          let x = (side_of side r).extent in
          let here = shared side m r a.4 in
          let from = run.part.from in
          let to = run.part.to in
          let on_line : Meets l (side_of side r) = record { at = here.at ∙ run.part.at; from = omega (arith, ints, here.from); to = omega (arith, ints, here.to) } in
          let stands = (are x).1 (any_of (λ s. SharesSideTo side l s.rect × ((side_of side s.rect).extent ≡ x)) solids a.1 (member_of (λ s. SharesSideTo side m s.rect) solids a) (shares side l r across_line on_line, refl)) in
          any_of (IsMet heading (reach heading p) (reach heading q)) xs x stands (run_meets heading p q x here.from here.to),
      λ a.
          let x = a.1 in
          let b = (are x).0 (member_of (IsMet heading (reach heading p) (reach heading q)) xs a) in
          let r = b.1.rect in
          let here = shared side l r b.4.0 in
          let met = subst (IsMet heading (reach heading p) (reach heading q)) (sym b.4.1) a.4 in
          let on_run = met_on_run heading p q (side_of side r).extent met in
          any_of (λ s. SharesSideTo side m s.rect) solids b.1 (member_of (λ s. SharesSideTo side l s.rect × ((side_of side s.rect).extent ≡ x)) solids b)
          (shares side m r across (record { at = here.at ∙ sym run.part.at; from = on_run.0; to = on_run.1 })),
    )

-- the point of the line at which one reaches it who goes in the direction, on the whole line of the other point
begin_point : Dir → Line → Point → Point
begin_point East l q = record { x = l.lo; y = q.y }
begin_point South l q = record { x = q.x; y = l.lo }
begin_point West l q = record { x = l.hi; y = q.y }
begin_point North l q = record { x = q.x; y = l.hi }

longest_run : (d : Dir) (l : Line) (q : Point) → IsRunOn l d q q → IsRunOn l d (begin_point d l q) q
unfolding begin_point
longest_run East l q run = record { part = record { way = run.part.way; at = run.part.at; from = omega (arith, ints); to = run.part.to }; ordered = run.part.from }
longest_run South l q run = record { part = record { way = run.part.way; at = run.part.at; from = omega (arith, ints); to = run.part.to }; ordered = run.part.from }
longest_run West l q run = record { part = record { way = run.part.way; at = run.part.at; from = run.part.from; to = omega (arith, ints) }; ordered = let k = run.part.to in omega (arith, ints) }
longest_run North l q run = record { part = record { way = run.part.way; at = run.part.at; from = run.part.from; to = omega (arith, ints) }; ordered = let k = run.part.to in omega (arith, ints) }

-- an extent that touches the line is met on the longest run if it begins before its end
longest_meets : (d : Dir) (l : Line) (q : Point) (x : Extent) → l.lo ≤ℤ x.hi → x.lo ≤ℤ l.hi → begin_in d x ≤ℤ reach d q → IsMet d (reach d (begin_point d l q)) (reach d q) x
unfolding begin_point
longest_meets East l q x from to b = record { begins = b; ends = from }
longest_meets South l q x from to b = record { begins = b; ends = from }
longest_meets West l q x from to b = record { begins = b; ends = omega (arith, ints) }
longest_meets North l q x from to b = record { begins = b; ends = omega (arith, ints) }

-- the point so far on, on the whole line of the other point
place_point : Dir → ℤ → Point → Point
place_point East z q = record { x = z; y = q.y }
place_point South z q = record { x = q.x; y = z }
place_point West z q = record { x = pos 0 -ℤ z; y = q.y }
place_point North z q = record { x = q.x; y = pos 0 -ℤ z }

run_from : (d : Dir) (l : Line) (q : Point) (z : ℤ) → IsRunOn l d q q → reach d (begin_point d l q) ≤ℤ z → z ≤ℤ reach d q → IsRunOn l d (place_point d z q) q × (reach d (place_point d z q) ≡ z)
unfolding begin_point place_point
run_from East l q z run from to = (record { part = record { way = run.part.way; at = run.part.at; from = from; to = run.part.to }; ordered = to }, refl)
run_from South l q z run from to = (record { part = record { way = run.part.way; at = run.part.at; from = from; to = run.part.to }; ordered = to }, refl)
run_from West l q z run from to = (record { part = record { way = run.part.way; at = run.part.at; from = run.part.from; to = omega (arith, ints) }; ordered = omega (arith, ints) }, omega (arith, ints))
run_from North l q z run from to = (record { part = record { way = run.part.way; at = run.part.at; from = run.part.from; to = omega (arith, ints) }; ordered = omega (arith, ints) }, omega (arith, ints))

-- one who reaches an extent from the last place reaches one from the line's begin, so that place is on the line
last_on_line : (solids : List Solid) (l : Line) (side heading : Dir) (xs : List Extent) (answer : Option ℤ) (q : Point) → AreTouching solids l side xs → IsRunOn l heading q q → IsLastPlace heading (reach heading q) xs answer →
    IfSome answer (λ from. (p : Point) × IsRunOn l heading p q × (reach heading p ≡ from))
last_on_line solids l side heading xs None q are run last = tt
last_on_line solids l side heading xs (Some z) q are run last =
    let at = reach heading q in
    let begin = reach heading (begin_point heading l q) in
    let a = (last.met z last.within).1 (omega (arith, ints)) in
    let x = a.1 in
    let stands = member_of (IsMet heading z at) xs a in
    let b = (are x).0 stands in
    let here = subst (λ (y : Extent). (l.lo ≤ℤ y.hi) × (y.lo ≤ℤ l.hi)) b.4.1 (let h = shared side l b.1.rect b.4.0 in (h.from, h.to)) in
    let met : IsMet heading begin at x = longest_meets heading l q x here.0 here.1 a.4.begins in
    let from : begin ≤ℤ z = (last.met begin (longest_run heading l q run).ordered).0 (any_of (IsMet heading begin at) xs x stands met) in
    let there = run_from heading l q z run from last.within in
    (place_point heading z q, there.0, there.1)

pub touched_upto : (solids : List Solid) (l : Line) (side heading : Dir) (at : ℤ) (xs : List Extent) (answer : Option ℤ) → (way_of side ≢ l.way → AreTouching solids l side xs) → way_of side ≢ way_of heading → IsLastPlace heading at xs answer → IsTouchedFrom solids l side heading at answer
touched_upto solids l side heading at xs answer are n last = record {
  runs = λ p q run e.
      let by = touched_by solids l side heading xs p q are n run in
      let ordered : reach heading p ≤ℤ at = subst (λ z. reach heading p ≤ℤ z) e run.ordered in
      let place = last.met (reach heading p) ordered in (
        λ t. place.0 (subst (λ z. Any (IsMet heading (reach heading p) z) xs) e (by.0 t)),
        λ k. by.1 (subst (λ z. Any (IsMet heading (reach heading p) z) xs) (sym e) (place.1 k)),
      );
  begins = λ q run e.
      let across_line : way_of side ≢ l.way = subst (λ w. way_of side ≢ w) (sym (way_between heading q q) ∙ run.part.way) n in
      last_on_line solids l side heading xs answer q (are across_line) run (subst (λ z. IsLastPlace heading z xs answer) (sym e) last);
}

pub touched_at_all : (solids : List Solid) (l : Line) (side heading : Dir) (at : ℤ) (xs : List Extent) (answer : Bool) → (way_of side ≢ l.way → AreTouching solids l side xs) → way_of side ≢ way_of heading →
    IsTrue answer ↔ Any (λ x. begin_in heading x ≤ℤ at) xs → MayTouch solids l side heading at answer
touched_at_all solids l side heading at xs answer are n means = record {
  if_touched = λ p q run e t.
      let a = (touched_by solids l side heading xs p q are n run).0 t in
      means.1 (any_of (λ x. begin_in heading x ≤ℤ at) xs a.1 (member_of (IsMet heading (reach heading p) (reach heading q)) xs a) (subst (λ z. begin_in heading a.1 ≤ℤ z) e a.4.begins));
  only_if = λ t q run e.
      let a = means.0 t in
      let x = a.1 in
      let p = begin_point heading l q in
      let whole = longest_run heading l q run in
      let across_line : way_of side ≢ l.way = subst (λ w. way_of side ≢ w) (sym (way_between heading q q) ∙ run.part.way) n in
      let stands = member_of (λ x. begin_in heading x ≤ℤ at) xs a in
      let b = (are across_line x).0 stands in
      let here = subst (λ (z : Extent). (l.lo ≤ℤ z.hi) × (z.lo ≤ℤ l.hi)) b.4.1 (let h = shared side l b.1.rect b.4.0 in (h.from, h.to)) in
      let begins : begin_in heading x ≤ℤ reach heading q = subst (λ z. begin_in heading x ≤ℤ z) (sym e) a.4 in
      (p, whole, (touched_by solids l side heading xs p q are n whole).1 (any_of (IsMet heading (reach heading p) (reach heading q)) xs x stands (longest_meets heading l q x here.0 here.1 begins)));
}
