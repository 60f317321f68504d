-- A walk along a line, to the first crossing that a point does not lie beyond.
use Rattle.std.proofs.Common.{◌≡◌, ◌≢◌, ℕ, ◌+◌, ◌<◌, ℤ, pos, negsuc, ◌<ℤ◌, ◌≤ℤ◌, ◌-ℤ◌, Option, Some, None, refl, sym, ap, subst, ◌∙◌, arith}
use Rattle.std.specs.Prelude.{option_and_then}
use Rattle.std.specs.Option.{ForSome, option_map}
use Rattle.std.proofs.lemmas.Int.{ints}
use Rattle.plane_geom.specs.declared.point.Point.{Point}
use Rattle.plane_geom.specs.declared.point.Dir.{Dir}
use Rattle.plane_geom.specs.declared.point.Dir.TheVariants.{East, South, West, North}
use Rattle.plane_geom.specs.declared.point.Way.TheVariants.{Vertical}
use Rattle.plane_geom.specs.declared.floor.Line.{Line}
use Rattle.plane_geom.specs.Point.{opposite}
use Rattle.line_arena.specs.declared.lists.Lists.{Lists}
use Rattle.line_arena.specs.declared.node.Node.{Node}
use Rattle.plane_geom.specs.Along.{IsFurther, reach, way_of}
use Rattle.line_arena.specs.Entries.{entry_at}
use Rattle.line_arena.specs.Node.{line_of, next_of}
use Rattle.line_arena.specs.Lists.{AreLists, IsFirstFrom, IsNext, IsPast, RunsAlong, Spot, Stands, IsShortOf, line_along, line_at, link, spot_at, spot_of}
use Rattle.line_arena.proofs.Linking.Nearest.{int_apart, next_from_previous, not_below, past_further}
use Rattle.line_arena.proofs.Linking.Linked.{reach-opposite, same_spot, turned, turned_back}
use Rattle.line_arena.proofs.Linking.Joined.{line_of-spot}
use Rattle.line_arena.proofs.Linking.Put.{apart_of_sound}

none_some_spot : (s : Spot) → None ≡ Some s → ⊥
none_some_spot s e = cc

-- what stands somewhere is there
pub stands_live : (a : Lists) (l : ℕ) (d : Dir) (c : ℕ) (z : ℤ) → Stands (spot_at a) l d c z → entry_at a.crossings c ≢ None
stands_live a l d c z h none = none_some_spot h.spot (sym (ap (option_map spot_of) none) ∙ h.is)

pub read_next : (a : Lists) (l c : ℕ) (d : Dir) (e : Point × Node) → entry_at a.crossings c ≡ Some e → (p : Option ℕ) → p ≡ next_of d e.1 → p ≡ link a l (Some c) d
read_next a l c d e is p read = read ∙ sym (ap (option_and_then (λ x. next_of d x.1)) is)

pub stands_reach : (a : Lists) (l : ℕ) (d : Dir) (c : ℕ) (z : ℤ) (e : Point × Node) → entry_at a.crossings c ≡ Some e → Stands (spot_at a) l d c z → reach d e.0 ≡ z
stands_reach a l d c z e is h = ap (λ s. reach d s.point) (same_spot (spot_of e) h.spot (spot_at a c) (ap (option_map spot_of) is) h.is) ∙ h.along

-- the list's crossing is the nearest past some coordinate that lies before the point
pub record IsComing (a : Lists) (l : ℕ) (d : Dir) (p : Point) (next : Option ℕ) : Type 0 where
  pub from : Option ℤ
  pub past : IsPast from (reach d p)
  pub is_next : IsNext (Stands (spot_at a) l d) from next

module _ (a : Lists) (l : ℕ) (d : Dir) (p : Point) (lists : AreLists a) (runs : RunsAlong a l d) where
  -- what follows a crossing of the line is the nearest past it
  next_past : (c : ℕ) (z : ℤ) → Stands (spot_at a) l d c z → IsNext (Stands (spot_at a) l d) (Some z) (link a l (Some c) d)
  next_past c z here =
      let on = subst (λ m. IsNext (Stands (spot_at a) m d) (Some (reach d here.spot.point)) (link a m (Some c) d)) here.line ((lists.linked d).nexts c here.spot here.is) in
      subst (λ w. IsNext (Stands (spot_at a) l d) (Some w) (link a l (Some c) d)) here.along on

  -- a walk begins after a crossing that is before the point, or at the beginning of the list
  pub coming_behind : (from : Option ℕ) → ForSome from (λ c. IsShortOf (spot_at a) l d p c) → (next : Option ℕ) → next ≡ link a l from d → IsComing a l d p next
  coming_behind None before next read = record {
    from = None;
    past = tt;
    is_next = subst (IsNext (Stands (spot_at a) l d) None) (sym read) ((lists.linked d).starts l runs.line runs.is runs.way);
  }
  coming_behind (Some c) before next read =
      let h = before c refl in
      record { from = Some h.at; past = h.before; is_next = subst (IsNext (Stands (spot_at a) l d) (Some h.at)) (sym read) (next_past c h.at h.stands) }

  module _ (c : ℕ) (e : Point × Node) (is : entry_at a.crossings c ≡ Some e) (coming : IsComing a l d p (Some c)) where
    here : Stands (spot_at a) l d c coming.is_next.0
    here = coming.is_next.1

    pub coming_next : (next : Option ℕ) → next ≡ link a l (Some c) d → IsNext (Stands (spot_at a) l d) (Some (reach d e.0)) next
    coming_next next read =
        subst (IsNext (Stands (spot_at a) l d) (Some (reach d e.0))) (sym read)
        (subst (λ z. IsNext (Stands (spot_at a) l d) (Some z) (link a l (Some c) d)) (sym (stands_reach a l d c _ e is here)) (next_past c _ here))

    pub coming_more : IsFurther d e.0 p → (next : Option ℕ) → next ≡ link a l (Some c) d → IsComing a l d p next
    coming_more before next read = record { from = Some (reach d e.0); past = before; is_next = coming_next next read }

    pub found : (IsFurther d e.0 p → ⊥) → IsFirstFrom (Stands (spot_at a) l d) (reach d p) (Some c)
    found not =
        let h = coming.is_next in (
          h.0,
          h.1,
          subst (λ z. reach d p ≤ℤ z) (stands_reach a l d c _ e is here) (not_below (reach d e.0) (reach d p) not),
          λ k z at q. h.3 k z at (past_further coming.from (reach d p) z coming.past q),
        )

  pub found_none : IsComing a l d p None → IsFirstFrom (Stands (spot_at a) l d) (reach d p) None
  found_none coming = λ k z at q. coming.is_next k z at (past_further coming.from (reach d p) z coming.past q)

-- where nothing stands at the coordinate, the first from it on is the nearest past it
pub past_from : (At : ℕ → ℤ → Type 0) (from : ℤ) → ((c : ℕ) → At c from → ⊥) → (answer : Option ℕ) → IsFirstFrom At from answer → IsNext At (Some from) answer
past_from At from free None h = λ c z at q. h c z at (let less : from <ℤ z = q in omega (arith, ints))
past_from At from free (Some n) h = (
  h.0,
  h.1,
  int_apart from h.0 h.2 (λ e. free n (subst (At n) (sym e) h.1)),
  λ c z at q. h.3 c z at (let less : from <ℤ z = q in omega (arith, ints)),
)

-- the number, and 0 for one below 0
abbrev pub above_zero : ℤ → ℕ
above_zero (pos n) = n
above_zero (negsuc n) = 0

-- how far the walk is at most
abbrev pub walk_left : Dir → Point → Option Spot → ℕ
walk_left d p None = 0
walk_left d p (Some s) = above_zero (reach d p -ℤ reach d s.point) + 1

abbrev pub left_at : Lists → Dir → Point → Option ℕ → ℕ
left_at a d p None = 0
left_at a d p (Some c) = walk_left d p (spot_at a c)

above_zero-lt : (v w : ℤ) → v <ℤ w → pos 0 <ℤ w → above_zero v < above_zero w
above_zero-lt (pos m) (pos n) less some = omega (arith, ints)
above_zero-lt (negsuc m) (pos n) less some = omega (arith, ints)
above_zero-lt v (negsuc n) less some = absurd (omega (arith, ints))

-- the next one leaves less to walk
pub left_falls : (a : Lists) (l : ℕ) (d : Dir) (p : Point) (c : ℕ) (e : Point × Node) → entry_at a.crossings c ≡ Some e → reach d e.0 <ℤ reach d p
    → (next : Option ℕ) → IsNext (Stands (spot_at a) l d) (Some (reach d e.0)) next → left_at a d p next < left_at a d p (Some c)
left_falls a l d p c e is before None h = subst (λ o. 0 < walk_left d p o) (sym (ap (option_map spot_of) is)) (omega arith)
left_falls a l d p c e is before (Some n) h =
    let spot = h.1.spot in
    let past : reach d e.0 <ℤ h.0 = h.2 in
    let along = h.1.along in
    let falls = above_zero-lt (reach d p -ℤ reach d spot.point) (reach d p -ℤ reach d e.0) (omega (arith, ints)) (omega (arith, ints)) in
    subst (λ o. walk_left d p o < left_at a d p (Some c)) (sym h.1.is)
    (subst (λ o. walk_left d p (Some spot) < walk_left d p o) (sym (ap (option_map spot_of) is)) (omega (arith, falls)))

pub opposite-twice : (d : Dir) → opposite (opposite d) ≡ d
opposite-twice East = refl
opposite-twice South = refl
opposite-twice West = refl
opposite-twice North = refl

way_of-opposite : (d : Dir) → way_of (opposite d) ≡ way_of d
way_of-opposite East = refl
way_of-opposite South = refl
way_of-opposite West = refl
way_of-opposite North = refl

-- what is linked is there
pub next_live : (At : ℕ → ℤ → Type 0) (Live : ℕ → Type 0) → ((c : ℕ) (z : ℤ) → At c z → Live c) → (from : Option ℤ) (answer : Option ℕ) → IsNext At from answer
    → (c : ℕ) → answer ≡ Some c → Live c
next_live At Live live from None h c e = absurd (none_some c e)
  where
    none_some : (k : ℕ) → None ≡ Some k → ⊥
    none_some k e = cc
next_live At Live live from (Some n) h c e = subst Live (same n c e) (live n h.0 h.1)
  where
    same : (i j : ℕ) → Some i ≡ Some j → i ≡ j
    same i j e = cc

-- what follows a crossing is there
pub step_live : (a : Lists) → AreLists a → (d : Dir) (c : ℕ) (e : Point × Node) → entry_at a.crossings c ≡ Some e
    → (next : Option ℕ) → next ≡ next_of d e.1 → (k : ℕ) → next ≡ Some k → entry_at a.crossings k ≢ None
step_live a lists d c e is next read =
    let l = line_along d (spot_of e) in
    next_live (Stands (spot_at a) l d) (λ k. entry_at a.crossings k ≢ None) (stands_live a l d) (Some (reach d e.0)) next
    (subst (IsNext (Stands (spot_at a) l d) (Some (reach d e.0))) (sym (read_next a l c d e is next read)) ((lists.linked d).nexts c (spot_of e) (ap (option_map spot_of) is)))

-- a crossing of the line that the point lies beyond stands before it
pub is_short_of : (a : Lists) (l : ℕ) (d : Dir) (p : Point) (c : ℕ) (e : Point × Node) → entry_at a.crossings c ≡ Some e → line_of d e.1 ≡ l → IsFurther d e.0 p
    → IsShortOf (spot_at a) l d p c
is_short_of a l d p c e is on further = record {
  at = reach d e.0;
  stands = record { spot = spot_of e; is = ap (option_map spot_of) is; line = sym (line_of-spot d e) ∙ on; along = refl };
  before = further;
}

module _ (a : Lists) (l : ℕ) (d : Dir) (runs : RunsAlong a l d) where
  pub line_live : entry_at a.lines l ≢ None
  line_live none = none_some_line runs.line (sym (ap (option_map (λ e. e.0)) none) ∙ runs.is)
    where
      none_some_line : (s : Line) → None ≡ Some s → ⊥
      none_some_line s e = cc

  pub runs_back : RunsAlong a l (opposite d)
  runs_back = record { line = runs.line; is = runs.is; way = runs.way ∙ sym (way_of-opposite d) }

  module _ (lists : AreLists a) where
    pub start_live : (answer : Option ℕ) → answer ≡ link a l None d → (c : ℕ) → answer ≡ Some c → entry_at a.crossings c ≢ None
    start_live answer read c e =
        next_live (Stands (spot_at a) l d) (λ k. entry_at a.crossings k ≢ None) (stands_live a l d) None answer
        (subst (IsNext (Stands (spot_at a) l d) None) (sym read) ((lists.linked d).starts l runs.line runs.is runs.way)) c e

    -- where the point lies beyond the line's last crossing, that one is the nearest back, and none lies further on
    module _ (p : Point) (last : Option ℕ) (read : last ≡ link a l None (opposite d)) (beyond : ForSome last (λ c. (s : Spot) → spot_at a c ≡ Some s → IsFurther d s.point p)) where
      last_is : IsNext (Stands (spot_at a) l (opposite d)) None last
      last_is = subst (IsNext (Stands (spot_at a) l (opposite d)) None) (sym read) ((lists.linked (opposite d)).starts l runs.line runs.is (runs.way ∙ sym (way_of-opposite d)))

      back_at_last : (n : Option ℕ) → last ≡ n → IsNext (Stands (spot_at a) l (opposite d)) None n → IsNext (Stands (spot_at a) l (opposite d)) (Some (reach (opposite d) p)) n
      back_at_last None is h = λ c z here past. h c z here tt
      back_at_last (Some n) is h =
          let spot = h.1.spot in
          let before : reach d spot.point <ℤ reach d p = beyond n is spot h.1.is in
          let along = h.1.along in
          let turns = reach-opposite d spot.point in
          let point_turns = reach-opposite d p in
          (h.0, h.1, omega (arith, ints), λ c z here past. h.3 c z here tt)

      on_at_last : (n : Option ℕ) → last ≡ n → IsNext (Stands (spot_at a) l (opposite d)) None n → IsNext (Stands (spot_at a) l d) (Some (reach d p)) None
      on_at_last None is h = λ c z here past. h c (pos 0 -ℤ z) (turned (spot_at a) l d c z here) tt
      on_at_last (Some n) is h = λ c z here past.
          let spot = h.1.spot in
          let before : reach d spot.point <ℤ reach d p = beyond n is spot h.1.is in
          let along = h.1.along in
          let turns = reach-opposite d spot.point in
          let least : h.0 ≤ℤ (pos 0 -ℤ z) = h.3 c (pos 0 -ℤ z) (turned (spot_at a) l d c z here) tt in
          let further : reach d p <ℤ z = past in
          omega (arith, ints)

      pub last_back : IsNext (Stands (spot_at a) l (opposite d)) (Some (reach (opposite d) p)) last
      last_back = back_at_last last refl last_is

      pub none_on : IsNext (Stands (spot_at a) l d) (Some (reach d p)) None
      none_on = on_at_last last refl last_is

    module _ (p : Point) (free : (c : ℕ) → Stands (spot_at a) l d c (reach d p) → ⊥) where
      pub free_back : (c : ℕ) → Stands (spot_at a) l (opposite d) c (reach (opposite d) p) → ⊥
      free_back c h =
          let e = reach-opposite d p in
          let same : (pos 0 -ℤ reach (opposite d) p) ≡ reach d p = omega (arith, ints) in
          free c (subst (Stands (spot_at a) l d c) same (turned_back (spot_at a) l d c (reach (opposite d) p) h))

      -- the neighbour back of what is nearest past the point is the nearest back
      pub across : (on : Option ℕ) → IsNext (Stands (spot_at a) l d) (Some (reach d p)) on
          → IsNext (Stands (spot_at a) l (opposite d)) (Some (reach (opposite d) p)) (link a l on (opposite d))
      across None h =
          next_from_previous (Stands (spot_at a) l (opposite d)) (reach (opposite d) p) free_back None tt
          (λ c z here past less.
          let e = reach-opposite d p in
          h c (pos 0 -ℤ z) (turned_back (spot_at a) l d c z here) (omega (arith, ints)))
          (link a l None (opposite d)) ((lists.linked (opposite d)).starts l runs.line runs.is (runs.way ∙ sym (way_of-opposite d)))
      across (Some n) h =
          let e = reach-opposite d p in
          let past : reach d p <ℤ h.0 = h.2 in
          let back = turned (spot_at a) l d n h.0 h.1 in
          let linked = subst (λ m. IsNext (Stands (spot_at a) m (opposite d)) (Some (reach (opposite d) back.spot.point)) (link a m (Some n) (opposite d))) back.line
          ((lists.linked (opposite d)).nexts n back.spot back.is) in
          let placed = subst (λ z. IsNext (Stands (spot_at a) l (opposite d)) (Some z) (link a l (Some n) (opposite d))) back.along linked in
          next_from_previous (Stands (spot_at a) l (opposite d)) (reach (opposite d) p) free_back (Some (pos 0 -ℤ h.0)) (omega (arith, ints))
          (λ c z here q less.
          let after : (pos 0 -ℤ h.0) <ℤ z = q in
          let least : h.0 ≤ℤ (pos 0 -ℤ z) = h.3 c (pos 0 -ℤ z) (turned_back (spot_at a) l d c z here) (omega (arith, ints)) in
          omega (arith, ints))
          (link a l (Some n) (opposite d)) placed

-- what stands at the point is the first from there on
first_at : (a : Lists) (l : ℕ) (d : Dir) (p : Point) → AreLists a → (answer : Option ℕ) → IsFirstFrom (Stands (spot_at a) l d) (reach d p) answer
    → (c : ℕ) → Stands (spot_at a) l d c (reach d p) → answer ≡ Some c
first_at a l d p lists None h c at = absurd (h c (reach d p) at (omega (arith, ints)))
first_at a l d p lists (Some n) h c at =
    let from = h.2 in
    let least = h.3 c (reach d p) at (omega (arith, ints)) in
    let same : h.0 ≡ reach d p = omega (arith, ints) in
    ap Some (apart_of_sound (line_at a) (spot_at a) lists.sound d l n c (reach d p) (subst (Stands (spot_at a) l d n) same h.1) at)

down_along : (d : Dir) (s : Spot) → way_of d ≡ Vertical → line_along d s ≡ s.vertical
down_along East s e = absurd (cc e)
down_along South s e = refl
down_along West s e = absurd (cc e)
down_along North s e = refl

one_line : (l m : Line) (o : Option Line) → o ≡ Some l → o ≡ Some m → l ≡ m
one_line l m o e f = cc

-- what stands on a vertical line stands along it both ways
stands_down : (a : Lists) (l : ℕ) (d : Dir) (p : Point) → RunsAlong a l South → RunsAlong a l d → (c : ℕ) (s : Spot) → spot_at a c ≡ Some s → s.vertical ≡ l → s.point ≡ p
    → Stands (spot_at a) l d c (reach d p)
stands_down a l d p down runs c s is on at =
    let same = one_line runs.line down.line (line_at a l) runs.is down.is in
    let way : way_of d ≡ Vertical = sym runs.way ∙ ap (λ (x : Line). x.way) same ∙ down.way in
    record { spot = s; is = is; line = down_along d s way ∙ on; along = ap (reach d) at }

-- what stands at the point of a vertical line is the first from there on, both ways
pub first_down : (a : Lists) (l : ℕ) (d : Dir) (p : Point) → AreLists a → RunsAlong a l South → RunsAlong a l d
    → (answer : Option ℕ) → IsFirstFrom (Stands (spot_at a) l d) (reach d p) answer
    → (c : ℕ) (s : Spot) → spot_at a c ≡ Some s → s.vertical ≡ l → s.point ≡ p → answer ≡ Some c
first_down a l d p lists down runs answer first c s is on at = first_at a l d p lists answer first c (stands_down a l d p down runs c s is on at)
