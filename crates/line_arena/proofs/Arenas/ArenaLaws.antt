-- Laws of arenas, for callers: crossings and points, the order on a line, and what puts and removals leave as it was.
use Rattle.std.proofs.Common.{◌≡◌, ◌≢◌, ◌⊎◌, ℕ, ◌≤ℤ◌, ◌<ℤ◌, Bool, true, false, cond, Option, Some, None, inl, inr, sym, ap, subst, ◌∙◌, arith}
use Rattle.std.specs.Prelude.{◌↔◌}
use Rattle.std.proofs.lemmas.Int.{ints, by_lt_z}
use Rattle.std.specs.FinMap.{FinMap, empty, get, get-empty, get-insert, get-remove, insert, remove}
use Rattle.std.specs.Ordering.{eq_by_cmp, nat_cmp}
use Rattle.std.proofs.lemmas.Cmp.{nat_cmp_total}
use Rattle.line_arena.proofs.Arenas.Seen.{untied}
use Rattle.line_arena.proofs.Linking.Put.{one_point as one_place}
use Rattle.plane_geom.specs.declared.point.Point.{Point}
use Rattle.plane_geom.specs.declared.point.Dir.{Dir}
use Rattle.plane_geom.specs.declared.point.Dir.TheVariants.{East, South, West, North}
use Rattle.plane_geom.specs.declared.point.Way.{Way}
use Rattle.plane_geom.specs.declared.point.Way.TheVariants.{Vertical, Horizontal}
use Rattle.plane_geom.specs.declared.floor.Line.{Line}
use Rattle.plane_geom.specs.declared.floor.Floor.{Floor}
use Rattle.plane_geom.specs.Point.{opposite}
use Rattle.plane_geom.specs.Along.{reach, way_of}
use Rattle.plane_geom.specs.Floor.{point_on, Holds, IsCrossing}
use Rattle.plane_geom.proofs.Headings.{same_point}
use Rattle.line_arena.specs.Arena.{Arena, IsArena, IsOn, LiesFurther, Meet, Pair, StandsAt, line_along}
use Rattle.line_arena.specs.Stands.{StandsFor}

same_line : (x y : Line) → ◌≡◌ {A = Option Line} (Some x) (Some y) → x ≡ y
same_line x y e = cc

pub same_pair : (x y : Pair) → ◌≡◌ {A = Option Pair} (Some x) (Some y) → x ≡ y
same_pair x y e = cc

-- ---- crossings and points

-- a crossing's point, by the coordinates of its two lines
pub record IsPlaced (a : Arena) (c : ℕ) (p : Point) : Type 0 where
  pub pair : Pair
  pub is : get a.crossings c ≡ Some pair
  pub down : Line
  pub across : Line
  pub is_down : get a.lines pair.vertical ≡ Some down
  pub is_across : get a.lines pair.horizontal ≡ Some across
  pub down_runs : down.way ≡ Vertical
  pub across_runs : across.way ≡ Horizontal
  pub on_down : Holds down p
  pub on_across : Holds across p
  pub x : p.x ≡ down.at
  pub y : p.y ≡ across.at

held_x : (l : Line) (p : Point) → l.way ≡ Vertical → Holds l p → p.x ≡ l.at
held_x l p w h = ap (λ (q : Point). q.x) (h.here ∙ ap (λ (v : Way). point_on v l.at h.along) w)

held_y : (l : Line) (p : Point) → l.way ≡ Horizontal → Holds l p → p.y ≡ l.at
held_y l p w h = ap (λ (q : Point). q.y) (h.here ∙ ap (λ (v : Way). point_on v l.at h.along) w)

pub placed : (a : Arena) (c : ℕ) (p : Point) → IsArena a → StandsAt a c p → IsPlaced a c p
placed a c p arena s =
    let m = arena.meet c s.pair s.is in
    let down_runs = ap (λ (l : Line). l.way) (same_line s.down m.down (sym s.is_down ∙ m.is_down)) ∙ m.down_runs in
    let across_runs = ap (λ (l : Line). l.way) (same_line s.across m.across (sym s.is_across ∙ m.is_across)) ∙ m.across_runs in
    record {
      pair = s.pair;
      is = s.is;
      down = s.down;
      across = s.across;
      is_down = s.is_down;
      is_across = s.is_across;
      down_runs = down_runs;
      across_runs = across_runs;
      on_down = s.on_down;
      on_across = s.on_across;
      x = held_x s.down p down_runs s.on_down;
      y = held_y s.across p across_runs s.on_across;
    }

-- a crossing stands at one point
pub one_point : (a : Arena) (c : ℕ) (p q : Point) → IsArena a → StandsAt a c p → StandsAt a c q → p ≡ q
one_point a c p q arena s t =
    let u = placed a c p arena s in
    let v = placed a c q arena t in
    let pairs = same_pair u.pair v.pair (sym u.is ∙ v.is) in
    let downs = same_line u.down v.down (sym u.is_down ∙ ap (λ (r : Pair). get a.lines r.vertical) pairs ∙ v.is_down) in
    let acrosses = same_line u.across v.across (sym u.is_across ∙ ap (λ (r : Pair). get a.lines r.horizontal) pairs ∙ v.is_across) in
    same_point p q (u.x ∙ ap (λ (l : Line). l.at) downs ∙ sym v.x) (u.y ∙ ap (λ (l : Line). l.at) acrosses ∙ sym v.y)

-- at one point stands one crossing
pub one_crossing : (a : Arena) (c k : ℕ) (p : Point) → IsArena a → StandsAt a c p → StandsAt a k p → c ≡ k
one_crossing a c k p arena s t =
    let u = placed a c p arena s in
    let v = placed a k p arena t in
    let downs = arena.apart u.pair.vertical v.pair.vertical u.down v.down p u.is_down v.is_down (record { way = u.down_runs ∙ sym v.down_runs; at = sym u.x ∙ v.x }) u.on_down v.on_down in
    let acrosses = arena.apart u.pair.horizontal v.pair.horizontal u.across v.across p u.is_across v.is_across (record { way = u.across_runs ∙ sym v.across_runs; at = sym u.y ∙ v.y }) u.on_across v.on_across in
    let pairs : u.pair ≡ v.pair = λ i. record { vertical = downs i; horizontal = acrosses i } in
    arena.once c k u.pair u.is (v.is ∙ ap (λ (r : Pair). Some r) (sym pairs))

-- each crossing stands at a point
pub some_point : (a : Arena) (c : ℕ) (pair : Pair) → IsArena a → get a.crossings c ≡ Some pair → (p : Point) × StandsAt a c p
some_point a c pair arena is =
    let m = arena.meet c pair is in
    (m.point, record { pair = pair; is = is; down = m.down; across = m.across; is_down = m.is_down; is_across = m.is_across; on_down = m.on_down; on_across = m.on_across })

-- a vertical and a horizontal line meet where each runs at a coordinate between the other's ends
pub record AreAcross (down across : Line) : Type 0 where
  pub down_runs : down.way ≡ Vertical
  pub across_runs : across.way ≡ Horizontal
  pub above : down.lo ≤ℤ across.at
  pub below : across.at ≤ℤ down.hi
  pub left : across.lo ≤ℤ down.at
  pub right : down.at ≤ℤ across.hi

pub meet_where_across : (a : Arena) (v h : ℕ) (down across : Line) → get a.lines v ≡ Some down → get a.lines h ≡ Some across → AreAcross down across → Meet a v h
meet_where_across a v h down across is_down is_across m =
    let point : Point = record { x = down.at; y = across.at } in
    record {
      down = down;
      across = across;
      is_down = is_down;
      is_across = is_across;
      down_runs = m.down_runs;
      across_runs = m.across_runs;
      point = point;
      on_down = record { along = across.at; from = m.above; to = m.below; here = ap (λ (w : Way). point_on w down.at across.at) (sym m.down_runs) };
      on_across = record { along = down.at; from = m.left; to = m.right; here = ap (λ (w : Way). point_on w across.at down.at) (sym m.across_runs) };
    }

held_along : (l : Line) (p : Point) (w : Way) → l.way ≡ w → (h : Holds l p) → p ≡ point_on w l.at h.along
held_along l p w e h = h.here ∙ ap (λ (v : Way). point_on v l.at h.along) e

pub across_where_meet : (a : Arena) (v h : ℕ) (down across : Line) → get a.lines v ≡ Some down → get a.lines h ≡ Some across → Meet a v h → AreAcross down across
across_where_meet a v h down across is_down is_across m =
    let downs : m.down ≡ down = same_line m.down down (sym m.is_down ∙ is_down) in
    let acrosses : m.across ≡ across = same_line m.across across (sym m.is_across ∙ is_across) in
    let on_down : Holds down m.point = subst (λ (l : Line). Holds l m.point) downs m.on_down in
    let on_across : Holds across m.point = subst (λ (l : Line). Holds l m.point) acrosses m.on_across in
    let down_runs : down.way ≡ Vertical = ap (λ (l : Line). l.way) (sym downs) ∙ m.down_runs in
    let across_runs : across.way ≡ Horizontal = ap (λ (l : Line). l.way) (sym acrosses) ∙ m.across_runs in
    let on_x = held_along down m.point Vertical down_runs on_down in
    let on_y = held_along across m.point Horizontal across_runs on_across in
    let x : m.point.x ≡ down.at = ap (λ (p : Point). p.x) on_x in
    let place_down : m.point.y ≡ on_down.along = ap (λ (p : Point). p.y) on_x in
    let y : m.point.y ≡ across.at = ap (λ (p : Point). p.y) on_y in
    let place_across : m.point.x ≡ on_across.along = ap (λ (p : Point). p.x) on_y in
    record {
      down_runs = down_runs;
      across_runs = across_runs;
      above = omega (arith, ints, on_down.from, place_down, y);
      below = omega (arith, ints, on_down.to, place_down, y);
      left = omega (arith, ints, on_across.from, place_across, x);
      right = omega (arith, ints, on_across.to, place_across, x);
    }

-- ---- the order on a line

-- what lies further than what lies further lies further
pub further_on : (a : Arena) (d : Dir) (c k e : ℕ) → IsArena a → LiesFurther a d c k → LiesFurther a d k e → LiesFurther a d c e
further_on a d c k e arena f g =
    let same = one_point a k f.stop g.start arena f.stands_there g.stands_here in
    let pairs = same_pair f.there g.here (sym f.is_there ∙ g.is_here) in
    let mid : reach d f.stop ≡ reach d g.start = ap (reach d) same in
    let one = f.further in
    let two = g.further in
    record {
      here = f.here;
      there = g.there;
      is_here = f.is_here;
      is_there = g.is_there;
      line = g.line ∙ ap (line_along d) (sym pairs) ∙ f.line;
      start = f.start;
      stop = g.stop;
      stands_here = f.stands_here;
      stands_there = g.stands_there;
      further = omega (arith, ints, one, two, mid);
    }

-- no crossing lies further than itself
pub never_further : (a : Arena) (d : Dir) (c : ℕ) → IsArena a → LiesFurther a d c c → ⊥
never_further a d c arena f =
    let same : reach d f.start ≡ reach d f.stop = ap (reach d) (one_point a c f.start f.stop arena f.stands_here f.stands_there) in
    let further = f.further in
    omega (arith, ints, further, same)

-- the line of a placed crossing along which one travels in the direction
pub record IsHeldAlong (a : Arena) (pair : Pair) (p : Point) (d : Dir) : Type 0 where
  pub line : Line
  pub is : get a.lines (line_along d pair) ≡ Some line
  pub way : line.way ≡ way_of d
  pub on : Holds line p

pub held_in : (a : Arena) (c : ℕ) (p : Point) (d : Dir) → (u : IsPlaced a c p) → IsHeldAlong a u.pair p d
held_in a c p East u = record { line = u.across; is = u.is_across; way = u.across_runs; on = u.on_across }
held_in a c p South u = record { line = u.down; is = u.is_down; way = u.down_runs; on = u.on_down }
held_in a c p West u = record { line = u.across; is = u.is_across; way = u.across_runs; on = u.on_across }
held_in a c p North u = record { line = u.down; is = u.is_down; way = u.down_runs; on = u.on_down }

-- of two crossings of one line, one lies further
pub one_further : (a : Arena) (d : Dir) (c k : ℕ) (here there : Pair) → IsArena a → get a.crossings c ≡ Some here → get a.crossings k ≡ Some there → line_along d there ≡ line_along d here → c ≢ k
    → LiesFurther a d c k ⊎ LiesFurther a d k c
one_further a d c k here there arena is_here is_there line apart =
    let s = some_point a c here arena is_here in
    let t = some_point a k there arena is_there in
    by_lt_z (reach d s.0) (reach d t.0)
    (λ less. inl (record { here = here; there = there; is_here = is_here; is_there = is_there; line = line; start = s.0; stop = t.0; stands_here = s.1; stands_there = t.1; further = less }))
    (λ more. by_lt_z (reach d t.0) (reach d s.0)
    (λ less. inr (record { here = there; there = here; is_here = is_there; is_there = is_here; line = sym line; start = t.0; stop = s.0; stands_here = t.1; stands_there = s.1; further = less }))
    (λ same. absurd (
    let u = placed a c s.0 arena s.1 in
    let v = placed a k t.0 arena t.1 in
    let f = held_in a c s.0 d u in
    let g = held_in a k t.0 d v in
    let pairs : line_along d v.pair ≡ line_along d u.pair =
    ap (line_along d) (same_pair v.pair there (sym v.is ∙ is_there)) ∙ line ∙ ap (line_along d) (same_pair here u.pair (sym is_here ∙ u.is)) in
    let lines : g.line ≡ f.line = same_line g.line f.line (sym g.is ∙ ap (get a.lines) pairs ∙ f.is) in
    let level : reach d s.0 ≡ reach d t.0 = omega (arith, ints, more, same) in
    let points = one_place d f.line s.0 t.0 f.way f.on (subst (λ (l : Line). Holds l t.0) lines g.on) level in
    apart (one_crossing a c k t.0 arena (subst (StandsAt a c) points s.1) t.1)
    )))

line_back : (d : Dir) (p q : Pair) → line_along d p ≡ line_along d q → line_along (opposite d) q ≡ line_along (opposite d) p
line_back East p q e = sym e
line_back South p q e = sym e
line_back West p q e = sym e
line_back North p q e = sym e

further_back : (d : Dir) (p q : Point) → reach d p <ℤ reach d q → reach (opposite d) q <ℤ reach (opposite d) p
further_back East p q h = omega (arith, ints)
further_back South p q h = omega (arith, ints)
further_back West p q h = omega (arith, ints)
further_back North p q h = omega (arith, ints)

-- the way back reverses the order
pub further_turned : (a : Arena) (d : Dir) (c k : ℕ) → LiesFurther a d c k → LiesFurther a (opposite d) k c
further_turned a d c k f = record {
  here = f.there;
  there = f.here;
  is_here = f.is_there;
  is_there = f.is_here;
  line = line_back d f.there f.here f.line;
  start = f.stop;
  stop = f.start;
  stands_here = f.stands_there;
  stands_there = f.stands_here;
  further = further_back d f.start f.stop f.further;
}

-- ---- what stays

-- each line and each crossing of the first arena is in the second under the same id
pub record IsWithin (a b : Arena) : Type 0 where
  pub lines : (l : ℕ) (line : Line) → get a.lines l ≡ Some line → get b.lines l ≡ Some line
  pub crossings : (c : ℕ) (pair : Pair) → get a.crossings c ≡ Some pair → get b.crossings c ≡ Some pair

-- whatever stands in the smaller arena stands in the greater one
module _ (a b : Arena) (h : IsWithin a b) where
  pub stands_more : (c : ℕ) (p : Point) → StandsAt a c p → StandsAt b c p
  stands_more c p s = record {
    pair = s.pair;
    is = h.crossings c s.pair s.is;
    down = s.down;
    across = s.across;
    is_down = h.lines s.pair.vertical s.down s.is_down;
    is_across = h.lines s.pair.horizontal s.across s.is_across;
    on_down = s.on_down;
    on_across = s.on_across;
  }

  pub meet_more : (v u : ℕ) → Meet a v u → Meet b v u
  meet_more v u m = record {
    down = m.down;
    across = m.across;
    is_down = h.lines v m.down m.is_down;
    is_across = h.lines u m.across m.is_across;
    down_runs = m.down_runs;
    across_runs = m.across_runs;
    point = m.point;
    on_down = m.on_down;
    on_across = m.on_across;
  }

  pub on_more : (l c : ℕ) → IsOn a l c → IsOn b l c
  on_more l c o = record { pair = o.pair; is = h.crossings c o.pair o.is; on = o.on }

  pub further_more : (d : Dir) (c k : ℕ) → LiesFurther a d c k → LiesFurther b d c k
  further_more d c k f = record {
    here = f.here;
    there = f.there;
    is_here = h.crossings c f.here f.is_here;
    is_there = h.crossings k f.there f.is_there;
    line = f.line;
    start = f.start;
    stop = f.stop;
    stands_here = stands_more c f.start f.stands_here;
    stands_there = stands_more k f.stop f.stands_there;
    further = f.further;
  }

-- an entry is there after a put under a new id
kept_by_put : {X : Type 0} (m : FinMap nat_cmp X) (id : ℕ) (new : X) (q : ℕ) (x : X) → get m id ≡ None → get m q ≡ Some x → get (insert m id new) q ≡ Some x
kept_by_put m id new q x free is =
    let apart : q ≢ id = λ e. let none : get m q ≡ None = ap (get m) e ∙ free in let wrong : None ≡ Some x = sym none ∙ is in cc in
    get-insert nat_cmp_total m id new q ∙ ap (λ b. cond b (Some new) (get m q)) (untied q id apart) ∙ is

-- what is there after a removal was there before
kept_from_removal : {X : Type 0} (m : FinMap nat_cmp X) (id q : ℕ) (x : X) → get (remove m id) q ≡ Some x → get m q ≡ Some x
kept_from_removal m id q x is = by (eq_by_cmp nat_cmp q id) (sym (get-remove nat_cmp_total m id q) ∙ is)
  where
    by : (b : Bool) → cond b None (get m q) ≡ Some x → get m q ≡ Some x
    by true e = absurd cc
    by false e = e

-- a line that is added leaves what was there, and so does a crossing
pub within_line_put : (a b : Arena) (id : ℕ) (line : Line) → get a.lines id ≡ None → b.lines ≡ insert a.lines id line → b.crossings ≡ a.crossings → IsWithin a b
within_line_put a b id line free lines crossings = record {
  lines = λ l other is. ap (λ m. get m l) lines ∙ kept_by_put a.lines id line l other free is;
  crossings = λ c pair is. ap (λ m. get m c) crossings ∙ is;
}

pub within_crossing_put : (a b : Arena) (id : ℕ) (pair : Pair) → get a.crossings id ≡ None → b.lines ≡ a.lines → b.crossings ≡ insert a.crossings id pair → IsWithin a b
within_crossing_put a b id pair free lines crossings = record {
  lines = λ l line is. ap (λ m. get m l) lines ∙ is;
  crossings = λ c other is. ap (λ m. get m c) crossings ∙ kept_by_put a.crossings id pair c other free is;
}

-- what is left after a removal was there before
pub within_line_taken : (a b : Arena) (id : ℕ) → b.lines ≡ remove a.lines id → b.crossings ≡ a.crossings → IsWithin b a
within_line_taken a b id lines crossings = record {
  lines = λ l line is. kept_from_removal a.lines id l line (ap (λ m. get m l) (sym lines) ∙ is);
  crossings = λ c pair is. ap (λ m. get m c) (sym crossings) ∙ is;
}

pub within_crossing_taken : (a b : Arena) (id : ℕ) → b.lines ≡ a.lines → b.crossings ≡ remove a.crossings id → IsWithin b a
within_crossing_taken a b id lines crossings = record {
  lines = λ l line is. ap (λ m. get m l) (sym lines) ∙ is;
  crossings = λ c pair is. kept_from_removal a.crossings id c pair (ap (λ m. get m c) (sym crossings) ∙ is);
}

-- an arena without lines
pub empty_arena : (a : Arena) → a.lines ≡ empty → a.crossings ≡ empty → IsArena a
empty_arena a lines crossings =
    let no_line : (l : ℕ) (line : Line) → get a.lines l ≡ Some line → ⊥ = λ l line is. let none : get a.lines l ≡ None = ap (λ m. get m l) lines ∙ get-empty nat_cmp l in let wrong : None ≡ Some line = sym none ∙ is in cc in
    let no_crossing : (c : ℕ) (pair : Pair) → get a.crossings c ≡ Some pair → ⊥ = λ c pair is. let none : get a.crossings c ≡ None = ap (λ m. get m c) crossings ∙ get-empty nat_cmp c in let wrong : None ≡ Some pair = sym none ∙ is in cc in
    record {
      ordered = λ l line is. absurd (no_line l line is);
      apart = λ i j l m p is _ _ _ _. absurd (no_line i l is);
      meet = λ c pair is. absurd (no_crossing c pair is);
      once = λ c k pair is _. absurd (no_crossing c pair is);
    }

-- ---- crossings of a floor

-- where an arena stands for a floor, its crossings stand at the floor's crossings, and no others
pub crossings_of_floor : (floor : Floor) (a : Arena) → IsArena a → StandsFor floor a → (p : Point) → IsCrossing floor p ↔ ((c : ℕ) × StandsAt a c p)
crossings_of_floor floor a arena stands p = (
  λ crossing.
      let down = (stands.lines crossing.vertical).1 crossing.vertical_kept in
      let across = (stands.lines crossing.horizontal).1 crossing.horizontal_kept in
      let meet : Meet a down.0 across.0 = record {
        down = crossing.vertical;
        across = crossing.horizontal;
        is_down = down.1;
        is_across = across.1;
        down_runs = crossing.is_vertical;
        across_runs = crossing.is_horizontal;
        point = p;
        on_down = crossing.on_vertical;
        on_across = crossing.on_horizontal;
      } in
      let c = stands.complete down.0 across.0 meet in (
        c.0,
        record {
          pair = record { vertical = down.0; horizontal = across.0 };
          is = c.1;
          down = crossing.vertical;
          across = crossing.horizontal;
          is_down = down.1;
          is_across = across.1;
          on_down = crossing.on_vertical;
          on_across = crossing.on_horizontal;
        },
      ),
  λ found.
      let u = placed a found.0 p arena found.1 in
      record {
        vertical = u.down;
        horizontal = u.across;
        is_vertical = u.down_runs;
        is_horizontal = u.across_runs;
        vertical_kept = (stands.lines u.down).0 (u.pair.vertical, u.is_down);
        horizontal_kept = (stands.lines u.across).0 (u.pair.horizontal, u.is_across);
        on_vertical = u.on_down;
        on_horizontal = u.on_across;
      },
)
