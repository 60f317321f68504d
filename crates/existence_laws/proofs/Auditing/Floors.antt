-- It is decided whether a line is kept on a floor, whether a point is a crossing, and which is next.
use Rattle.std.proofs.Common.{◌≡◌, ◌⊎◌, inl, inr, ℕ, ◌<◌, ◌≤◌, ℤ, ◌≤ℤ◌, List, [], ◌∷◌, refl, sym, ap, ◌∙◌, subst, arith}
use Rattle.std.proofs.Math.Decide.{map_dec, dec_le}
use Rattle.std.proofs.Math.IntN.{ℤ_discrete}
use Rattle.std.specs.Prelude.{All, Any}
use Rattle.std.specs.Int.{int_max, int_min}
use Rattle.std.specs.List.{AllByRecursion as Each}
use Rattle.std.proofs.lemmas.Int.{ints}
use Rattle.std.proofs.lemmas.Bool.{cases_lt}
use Rattle.std.proofs.lemmas.List.Elements.{All-from_recursion, recursion_from_All}
use Rattle.plane_geom.specs.declared.point.Point.{Point}
use Rattle.plane_geom.specs.declared.point.Dir.{Dir}
use Rattle.plane_geom.specs.declared.point.Way.{Way}
use Rattle.plane_geom.specs.declared.point.Way.TheVariants.{Vertical, Horizontal}
use Rattle.plane_geom.specs.declared.rect.Rect.{Rect}
use Rattle.plane_geom.specs.declared.floor.Line.{Line}
use Rattle.plane_geom.specs.declared.floor.Floor.{Floor}
use Rattle.plane_geom.specs.Along.{way_of}
use Rattle.plane_geom.specs.Point.{IsCoordinate, PointIsOnSheet, distance, forward, sheet_end, sheet_start}
use Rattle.plane_geom.specs.Rect.{Meets, Overlaps}
use Rattle.plane_geom.specs.Floor.{AreOnOneWholeLine, Holds, IsCrossing, IsFreePiece, IsKept, IsLongestFreePiece, SharesSide, SideOn, first_point, last_point, point_on}
use Rattle.plane_geom.proofs.Headings.{forward_distance}
use Rattle.plane_geom.proofs.Places.{halfway, overlap_ends}
use Rattle.plane_geom.proofs.Signed.{distance_bound}
use Rattle.proof_model.specs.Crossings.{IsNextCrossing, LiesAhead}
use Rattle.existence_laws.proofs.Deciding.Decided.{both, denied, int_le, int_lt, one_of, some_below, some_between, some_in}
use Rattle.existence_laws.proofs.Deciding.Alike.{same_point}

-- all elements of a list, and some
pub each_decided : {X : Type 0} (P : X → Type 0) → ((x : X) → Dec (P x)) → (xs : List X) → Dec (Each P xs)
each_decided P each [] = yes tt
each_decided P each (x ∷ xs) = both (each x) (each_decided P each xs)

pub all_decided : {X : Type 0} (P : X → Type 0) → ((x : X) → Dec (P x)) → (xs : List X) → Dec (All P xs)
all_decided P each xs = map_dec (All-from_recursion P xs) (recursion_from_All P xs) (each_decided P each xs)

pub any_decided : {X : Type 0} (P : X → Type 0) → ((x : X) → Dec (P x)) → (xs : List X) → Dec (Any P xs)
any_decided P each xs = map_dec (λ h. (h.1.0, h.0, h.1.1, h.1.2, h.2)) (λ h. (h.1, (h.0, h.2, h.3), h.4)) (some_in P each xs)

pub coordinate_decided : (z : ℤ) → Dec (IsCoordinate z)
coordinate_decided z = map_dec (λ h. record { low = h.0; high = h.1 }) (λ h. (h.low, h.high)) (both (int_le sheet_start z) (int_le z sheet_end))

pub same_way : (v w : Way) → Dec (v ≡ w)
same_way Vertical Vertical = yes refl
same_way Vertical Horizontal = no (λ e. cc)
same_way Horizontal Vertical = no (λ e. cc)
same_way Horizontal Horizontal = yes refl

same_line : (l m : Line) → Dec (l ≡ m)
same_line l m = map_dec
    (λ h. λ i. record { way = h.0.0 i; at = h.0.1 i; lo = h.1.0 i; hi = h.1.1 i })
    (λ e. ((ap (λ x. x.way) e, ap (λ x. x.at) e), (ap (λ x. x.lo) e, ap (λ x. x.hi) e)))
    (both (both (same_way l.way m.way) (ℤ_discrete l.at m.at)) (both (ℤ_discrete l.lo m.lo) (ℤ_discrete l.hi m.hi)))

-- some line on the sheet
record OnSheet (l : Line) : Type 0 where
  at : IsCoordinate l.at
  lo : IsCoordinate l.lo
  hi : IsCoordinate l.hi

some_coordinate : (P : ℤ → Type 0) → ((z : ℤ) → Dec (P z)) → Dec ((z : ℤ) × IsCoordinate z × P z)
some_coordinate P each = map_dec (λ h. (h.0, record { low = h.1; high = h.2 }, h.3)) (λ h. let c = h.1 in (h.0, c.low, c.high, h.2)) (some_between sheet_start sheet_end P each)

abbrev of_way : Way → (Line → Type 0) → Type 0
of_way way P = (at : ℤ) × IsCoordinate at × ((lo : ℤ) × IsCoordinate lo × ((hi : ℤ) × IsCoordinate hi × P (record { way = way; at = at; lo = lo; hi = hi })))

way_decided : (way : Way) (P : Line → Type 0) → ((l : Line) → Dec (P l)) → Dec (of_way way P)
way_decided way P each = some_coordinate _ (λ at. some_coordinate _ (λ lo. some_coordinate _ (λ hi. each (record { way = way; at = at; lo = lo; hi = hi }))))

some_line : (P : Line → Type 0) → ((l : Line) → Dec (P l)) → Dec ((l : Line) × OnSheet l × P l)
some_line P each = map_dec {A = of_way Vertical P ⊎ of_way Horizontal P} into back (one_of (way_decided Vertical P each) (way_decided Horizontal P each))
  where
    into : of_way Vertical P ⊎ of_way Horizontal P → (l : Line) × OnSheet l × P l
    into (inl (at, a, (lo, b, (hi, c, p)))) = (record { way = Vertical; at = at; lo = lo; hi = hi }, record { at = a; lo = b; hi = c }, p)
    into (inr (at, a, (lo, b, (hi, c, p)))) = (record { way = Horizontal; at = at; lo = lo; hi = hi }, record { at = a; lo = b; hi = c }, p)

    by_way : (way : Way) (at lo hi : ℤ) → IsCoordinate at → IsCoordinate lo → IsCoordinate hi → P (record { way = way; at = at; lo = lo; hi = hi }) → of_way Vertical P ⊎ of_way Horizontal P
    by_way Vertical at lo hi a b c p = inl (at, a, (lo, b, (hi, c, p)))
    by_way Horizontal at lo hi a b c p = inr (at, a, (lo, b, (hi, c, p)))

    back : (l : Line) × OnSheet l × P l → of_way Vertical P ⊎ of_way Horizontal P
    back (l, on, p) = by_way l.way l.at l.lo l.hi on.at on.lo on.hi p

-- free pieces
overlap_decided : (low high a b : ℤ) → Dec (Overlaps low high a b)
overlap_decided low high a b = map_dec
    (λ h. halfway low high a b h.0 h.1.0 h.1.1)
    (λ o. let ends = overlap_ends low high a b o in (ends.0, (ends.1, ends.2)))
    (both (int_lt low high) (both (int_lt (int_min a b) high) (int_lt low (int_max a b))))

pub meets_decided : (r : Rect) (a b : Point) → Dec (Meets r a b)
meets_decided r a b = map_dec (λ h. record { x = h.0; y = h.1 }) (λ m. (m.x, m.y)) (both (overlap_decided r.left r.right a.x b.x) (overlap_decided r.top r.bottom a.y b.y))

module _ (floor : Floor) where
  free_decided : (l : Line) → Dec (IsFreePiece floor l)
  free_decided l = map_dec
      (λ h. record { at = h.0.0; lo = h.0.1.0; hi = h.0.1.1; ordered = h.1.0; free = h.1.1 })
      (λ f. ((f.at, (f.lo, f.hi)), (f.ordered, f.free)))
      (both (both (coordinate_decided l.at) (both (coordinate_decided l.lo) (coordinate_decided l.hi)))
      (both (int_le l.lo l.hi) (all_decided (λ s. Meets s.rect (first_point l) (last_point l) → ⊥) (λ s. denied (meets_decided s.rect (first_point l) (last_point l))) floor.solids)))

  -- another free piece that holds the line
  Longer : Line → Line → Type 0
  Longer l m = IsFreePiece floor m × ((((l.way ≡ m.way) × (l.at ≡ m.at)) × ((m.lo ≤ℤ l.lo) × (l.hi ≤ℤ m.hi))) × (m ≡ l → ⊥))

  longer_decided : (l m : Line) → Dec (Longer l m)
  unfolding Longer
  longer_decided l m =
      both (free_decided m) (both (both (both (same_way l.way m.way) (ℤ_discrete l.at m.at)) (both (int_le m.lo l.lo) (int_le l.hi m.hi))) (denied (same_line m l)))

  longest : (l : Line) → ((m : Line) × OnSheet m × Longer l m → ⊥) → (m : Line) → IsFreePiece floor m → AreOnOneWholeLine l m → m.lo ≤ℤ l.lo → l.hi ≤ℤ m.hi → Dec (m ≡ l) → m ≡ l
  unfolding Longer
  longest l none m free one lo hi (yes same) = same
  longest l none m free one lo hi (no other) = absurd (none (m, record { at = free.at; lo = free.lo; hi = free.hi }, (free, (((one.way, one.at), (lo, hi)), other))))

  longest_decided : (l : Line) → Dec (IsLongestFreePiece floor l)
  unfolding Longer
  longest_decided l = map_dec
      (λ h. record { piece = h.0; longest = λ m free one lo hi. longest l h.1 m free one lo hi (same_line m l) })
      (λ h. (h.piece, λ m. let longer = m.2 in longer.1.1 (h.longest m.0 longer.0 (record { way = longer.1.0.0.0; at = longer.1.0.0.1 }) longer.1.0.1.0 longer.1.0.1.1)))
      (both (free_decided l) (denied (some_line (Longer l) (longer_decided l))))

  shares_by : (r : Rect) (way : Way) (at lo hi : ℤ) → Dec ((a : ℤ) × (b : ℤ) × SideOn r way at a b × (lo ≤ℤ b) × (a ≤ℤ hi))
  shares_by r Vertical at lo hi = map_dec
      (λ h. (r.top, r.bottom, (h.0, refl, refl), h.1.0, h.1.1))
      (λ h. let side = h.2 in (side.0, (subst (λ b. lo ≤ℤ b) (sym side.2) h.3, subst (λ a. a ≤ℤ hi) (sym side.1) h.4)))
      (both (one_of (ℤ_discrete r.left at) (ℤ_discrete r.right at)) (both (int_le lo r.bottom) (int_le r.top hi)))
  shares_by r Horizontal at lo hi = map_dec
      (λ h. (r.left, r.right, (h.0, refl, refl), h.1.0, h.1.1))
      (λ h. let side = h.2 in (side.0, (subst (λ b. lo ≤ℤ b) (sym side.2) h.3, subst (λ a. a ≤ℤ hi) (sym side.1) h.4)))
      (both (one_of (ℤ_discrete r.top at) (ℤ_discrete r.bottom at)) (both (int_le lo r.right) (int_le r.left hi)))

  holds_decided : (l : Line) (p : Point) → Dec (Holds l p)
  holds_decided l p = map_dec
      (λ h. record { along = h.0; from = h.1; to = h.2; here = h.3 })
      (λ h. (h.along, h.from, h.to, h.here))
      (some_between l.lo l.hi (λ z. p ≡ point_on l.way l.at z) (λ z. same_point p (point_on l.way l.at z)))

  kept_decided : (l : Line) → Dec (IsKept floor l)
  kept_decided l = map_dec
      (λ h. record { longest = h.0; reason = h.1 })
      (λ k. (k.longest, k.reason))
      (both (longest_decided l)
      (one_of (both (int_lt l.lo l.hi) (any_decided (λ s. SharesSide l s.rect) (λ s. shares_by s.rect l.way l.at l.lo l.hi) floor.solids))
      (any_decided (Holds l) (holds_decided l) floor.anchors)))

  kept_on_sheet : (l : Line) → IsKept floor l → OnSheet l
  kept_on_sheet l k = let piece = k.longest.piece in record { at = piece.at; lo = piece.lo; hi = piece.hi }

  -- a kept line of the way through the point
  Through : Way → Point → Type 0
  Through way p = (l : Line) × OnSheet l × ((l.way ≡ way) × (IsKept floor l × Holds l p))

  through_decided : (way : Way) (p : Point) → Dec (Through way p)
  unfolding Through
  through_decided way p = some_line (λ l. (l.way ≡ way) × (IsKept floor l × Holds l p)) (λ l. both (same_way l.way way) (both (kept_decided l) (holds_decided l p)))

  pub crossing_decided : (p : Point) → Dec (IsCrossing floor p)
  unfolding Through
  crossing_decided p = map_dec
      (λ h. let v = h.0 in let w = h.1 in record {
        vertical = v.0;
        horizontal = w.0;
        is_vertical = v.2.0;
        is_horizontal = w.2.0;
        vertical_kept = v.2.1.0;
        horizontal_kept = w.2.1.0;
        on_vertical = v.2.1.1;
        on_horizontal = w.2.1.1;
      })
      (λ c. (
        (c.vertical, kept_on_sheet c.vertical c.vertical_kept, (c.is_vertical, (c.vertical_kept, c.on_vertical))),
        (c.horizontal, kept_on_sheet c.horizontal c.horizontal_kept, (c.is_horizontal, (c.horizontal_kept, c.on_horizontal))),
      ))
      (both (through_decided Vertical p) (through_decided Horizontal p))

  -- n steps ahead along a kept line
  Ahead : Dir → Point → ℕ → Type 0
  Ahead d p n = (l : Line) × OnSheet l × ((IsKept floor l × (l.way ≡ way_of d)) × (Holds l p × Holds l (forward d n p)))

  ahead_as : (d : Dir) (p : Point) (n : ℕ) → Ahead d p n × (0 < n) → LiesAhead floor d p n (forward d n p)
  unfolding Ahead
  ahead_as d p n h = let a = h.0 in record { line = a.0; kept = a.2.0.0; way = a.2.0.1; begin = a.2.1.0; end = a.2.1.1; some = h.1; straight = refl }

  ahead_back : (d : Dir) (p : Point) (n : ℕ) (q : Point) → LiesAhead floor d p n q → Ahead d p n × (0 < n)
  unfolding Ahead
  ahead_back d p n q a = ((a.line, kept_on_sheet a.line a.kept, ((a.kept, a.way), (a.begin, subst (Holds a.line) a.straight a.end))), a.some)

  ahead_decided : (d : Dir) (p : Point) (n : ℕ) → Dec (Ahead d p n × (0 < n))
  unfolding Ahead
  ahead_decided d p n =
      both (some_line (λ l. (IsKept floor l × (l.way ≡ way_of d)) × (Holds l p × Holds l (forward d n p)))
      (λ l. both (both (kept_decided l) (same_way l.way (way_of d))) (both (holds_decided l p) (holds_decided l (forward d n p)))))
      (dec_le 1 n)

  -- a crossing m steps ahead
  IsStop : Dir → Point → ℕ → Type 0
  IsStop d p m = IsCrossing floor (forward d m p) × (Ahead d p m × (0 < m))

  stop_decided : (d : Dir) (p : Point) (m : ℕ) → Dec (IsStop d p m)
  unfolding IsStop
  stop_decided d p m = both (crossing_decided (forward d m p)) (ahead_decided d p m)

  pub next_decided : (d : Dir) (p : Point) (n : ℕ) → Dec (IsNextCrossing floor d p n (forward d n p))
  unfolding IsStop
  next_decided d p n = map_dec
      (λ h. record {
        crossing = h.0.0;
        ahead = ahead_as d p n h.0.1;
        nearest = λ m r crossing ahead. elim (cases_lt m n) as (λ _. n ≤ m) [
          | inl less ↦ absurd (h.1 (m, less, (subst (IsCrossing floor) ahead.straight crossing, ahead_back d p m r ahead)))
          | inr l ↦ l
        ];
      })
      (λ x. (
        (x.crossing, ahead_back d p n (forward d n p) x.ahead),
        λ m. let stop = m.2 in
            let least = x.nearest m.0 (forward d m.0 p) stop.0 (ahead_as d p m.0 stop.1) in let less = m.1 in omega (arith, least, less),
      ))
      (both (both (crossing_decided (forward d n p)) (ahead_decided d p n)) (denied (some_below n (IsStop d p) (stop_decided d p))))

  -- no two points of the sheet are further apart
  on_sheet_by : (way : Way) (at z : ℤ) → IsCoordinate at → IsCoordinate z → PointIsOnSheet (point_on way at z)
  on_sheet_by Vertical at z a c = record { x = a; y = c }
  on_sheet_by Horizontal at z a c = record { x = c; y = a }

  held_on_sheet : (l : Line) (p : Point) → OnSheet l → Holds l p → PointIsOnSheet p
  held_on_sheet l p on h =
      let lo = on.lo in
      let hi = on.hi in
      let from = h.from in
      let to = h.to in
      subst PointIsOnSheet (sym h.here) (on_sheet_by l.way l.at h.along on.at (record { low = omega (arith, ints, lo.low, from); high = omega (arith, ints, hi.high, to) }))

  pub crossing_on_sheet : (p : Point) → IsCrossing floor p → PointIsOnSheet p
  crossing_on_sheet p c = held_on_sheet c.vertical p (kept_on_sheet c.vertical c.vertical_kept) c.on_vertical

  pub few_ahead : (d : Dir) (p : Point) (n : ℕ) (q : Point) → LiesAhead floor d p n q → n ≤ 8000000000
  few_ahead d p n q a =
      let on = kept_on_sheet a.line a.kept in
      let bound : distance p q ≤ 8000000000 = distance_bound p q (held_on_sheet a.line p on a.begin) (held_on_sheet a.line q on a.end) in
      let long : distance p q ≡ n = ap (distance p) a.straight ∙ forward_distance d n p in
      omega (arith, bound, long)
