-- How far a run may move: each condition narrows the coordinates from a lower limit to an upper one.
use Rattle.std.proofs.Common.{◌≡◌, ◌↔◌, ◌⊎◌, inl, inr, ℕ, suc, ◌+◌, ◌-◌, ◌<◌, ℤ, ◌≤ℤ◌, List, [], ◌∷◌, length, get_or, refl, arith}
use Rattle.std.specs.Prelude.{All, Any, Contains, ⊤}
use Rattle.std.specs.Int.{int_max, int_min}
use Rattle.std.proofs.Math.Decide.{map_dec, dec_le, ℕ_discrete}
use Rattle.std.proofs.lemmas.Int.{ints, by_lt_z}
use Rattle.std.proofs.lemmas.List.Elements.{All-cons, All-contains, All-head, All-nil, All-tail, Contains-get_or}
use Rattle.plane_geom.specs.declared.point.Point.{Point}
use Rattle.plane_geom.specs.declared.point.Dir.{Dir}
use Rattle.plane_geom.specs.declared.point.Dir.TheVariants.{East, South, West, North}
use Rattle.plane_geom.specs.declared.point.Way.{Way}
use Rattle.plane_geom.specs.declared.point.Way.TheVariants.{Vertical, Horizontal}
use Rattle.plane_geom.specs.declared.floor.Line.{Line}
use Rattle.plane_geom.specs.declared.rect.Rect.{Rect}
use Rattle.plane_geom.specs.declared.rect.Solid.{Solid}
use Rattle.plane_geom.specs.Along.{across}
use Rattle.plane_geom.specs.Floor.{Holds, point_on}
use Rattle.plane_geom.specs.Point.{opposite, sheet_end, sheet_start}
use Rattle.plane_geom.specs.Rect.{Overlaps}
use Rattle.plane_geom.proofs.Places.{halfway, overlap_ends}
use Rattle.segment_order.specs.declared.run.Run.{Run}
use Rattle.segment_order.specs.Run.{end_of_run, line_of_run, run_at, start_of_run}
use Rattle.channel_bundles.specs.declared.route.PhaseRoute.{PhaseRoute}
use Rattle.channel_bundles.specs.Route.{HasToLeave, HasToReach, IsFixed}
use Rattle.channel_bundles.specs.Limits.{HasLimits, IsFromTo, IsReached, MayStandAt, Sweeps}
use Rattle.channel_bundles.proofs.Neighbours.{left, reached}
use Rattle.channel_bundles.proofs.Ranges.{beside_left, beside_right, lowered, on_left, raised}
use Rattle.existence_laws.proofs.Deciding.Alike.{same_point}
use Rattle.existence_laws.proofs.Deciding.Decided.{both, int_lt, one_of, some_between, some_in}
use Rattle.existence_laws.proofs.Sharing.Starts.{same_way}

-- ---- whether a run is fixed

holds_decided : (l : Line) (p : Point) → Dec (Holds l p)
holds_decided l p = map_dec (λ h. record { along = h.0; from = h.1; to = h.2; here = h.3 }) (λ h. (h.along, h.from, h.to, h.here))
    (some_between l.lo l.hi (λ z. p ≡ point_on l.way l.at z) (λ z. same_point p (point_on l.way l.at z)))

any_decided : {X : Type 0} (P : X → Type 0) → ((x : X) → Dec (P x)) → (xs : List X) → Dec (Any P xs)
any_decided P each xs = map_dec (λ h. (h.1.0, h.0, h.1.1, h.1.2, h.2)) (λ h. (h.1, (h.0, h.2, h.3), h.4)) (some_in P each xs)

module _ (route : PhaseRoute) (k : ℕ) where
  abbrev runs : List Run
  runs = route.runs.items

  abbrev Reason : Type 0
  Reason = ((k ≡ 0) ⊎ (k + 1 ≡ length runs)) ⊎ (Any (Holds (line_of_run (run_at runs k))) route.anchors.via.items
      ⊎ (((k + 1 < length runs) × ((run_at runs (k + 1)).way ≡ (run_at runs k).way)) ⊎ ((0 < k) × ((run_at runs (k - 1)).way ≡ (run_at runs k).way))))

  reason_fixes : Reason → IsFixed route k
  reason_fixes (inl (inl e)) = IsFixed.is_first e
  reason_fixes (inl (inr e)) = IsFixed.is_last e
  reason_fixes (inr (inl has)) = IsFixed.has_checkpoint has
  reason_fixes (inr (inr (inl h))) = IsFixed.doubles_back h.0 h.1
  reason_fixes (inr (inr (inr h))) = IsFixed.was_doubled_back h.0 h.1

  fixed_reason : IsFixed route k → Reason
  fixed_reason (IsFixed.is_first e) = inl (inl e)
  fixed_reason (IsFixed.is_last e) = inl (inr e)
  fixed_reason (IsFixed.has_checkpoint has) = inr (inl has)
  fixed_reason (IsFixed.doubles_back l w) = inr (inr (inl (l, w)))
  fixed_reason (IsFixed.was_doubled_back l w) = inr (inr (inr (l, w)))

  pub fixed_decided : Dec (IsFixed route k)
  fixed_decided = map_dec reason_fixes fixed_reason
      (one_of (one_of (ℕ_discrete k 0) (ℕ_discrete (k + 1) (length runs)))
      (one_of (any_decided _ (holds_decided (line_of_run (run_at runs k))) route.anchors.via.items)
      (one_of (both (dec_le _ _) (same_way _ _)) (both (dec_le _ _) (same_way _ _)))))

-- ---- what narrows a range

-- with the condition, the coordinates from one limit to another are again those from one to another
abbrev Narrows : (ℤ → Type 0) → Type 0
Narrows T = (low high : ℤ) → (l : ℤ) × (h : ℤ) × ((z : ℤ) → IsFromTo l h z ↔ (IsFromTo low high z × T z))

as_same : (T U : ℤ → Type 0) → ((z : ℤ) → T z ↔ U z) → Narrows T → Narrows U
as_same T U same narrows = λ low high. (let n = narrows low high in (n.0, n.1, λ z. (λ f. (let h = (n.2 z).0 f in (h.0, (same z).0 h.1)), λ h. (n.2 z).1 (h.0, (same z).1 h.1))))

always : (T : ℤ → Type 0) → ((z : ℤ) → T z) → Narrows T
always T holds = λ low high. (low, high, λ z. (λ f. (f, holds z), λ h. h.0))

from_on : (c : ℤ) → Narrows (λ z. c ≤ℤ z)
from_on c = λ low high. (int_max low c, high, λ z. raised low high c (int_max low c) z refl)

up_to : (c : ℤ) → Narrows (λ z. z ≤ℤ c)
up_to c = λ low high. (low, int_min high c, λ z. lowered low high c (int_min high c) z refl)

with_both : (T U : ℤ → Type 0) → Narrows T → Narrows U → Narrows (λ z. T z × U z)
with_both T U one two = λ low high.
    let n = one low high in
    let m = two n.0 n.1 in
    (m.0, m.1, λ z. (λ f. (let h = (m.2 z).0 f in let g = (n.2 z).0 h.0 in (g.0, (g.1, h.1))), λ h. (m.2 z).1 ((n.2 z).1 (h.0, h.1.0), h.1.1)))

where_holds : {P : Type 0} (T : ℤ → Type 0) → Dec P → (P → Narrows T) → Narrows (λ z. P → T z)
where_holds T (yes p) narrows = as_same T (λ z. _ → T z) (λ z. (λ t q. t, λ f. f p)) (narrows p)
where_holds T (no not) narrows = always (λ z. _ → T z) (λ z p. absurd (not p))

for_all : {X : Type 0} (T : X → ℤ → Type 0) (xs : List X) → ((x : X) → Contains xs x → Narrows (T x)) → Narrows (λ z. All (λ x. T x z) xs)
for_all T [] each = always (λ z. All (λ x. T x z) []) (λ z. All-nil (λ x. T x z))
for_all T (x ∷ xs) each =
    as_same (λ z. T x z × All (λ y. T y z) xs) (λ z. All (λ y. T y z) (x ∷ xs))
    (λ z. (λ h. All-cons (λ y. T y z) x xs h.0 h.1, λ all. (All-head (λ y. T y z) x xs all, All-tail (λ y. T y z) x xs all)))
    (with_both (T x) (λ z. All (λ y. T y z) xs) (each x (0, omega arith, refl)) (for_all T xs (λ y has. each y (suc has.0, (let l = has.1 in omega (arith, l)), has.2))))

reach_narrows : (d : Dir) (c : ℤ) → Narrows (IsReached d c)
reach_narrows East c = from_on c
reach_narrows South c = from_on c
reach_narrows West c = up_to c
reach_narrows North c = up_to c

overlaps_decided : (low high a b : ℤ) → Dec (Overlaps low high a b)
overlaps_decided low high a b = map_dec (λ h. halfway low high a b h.0 h.1.0 h.1.1) (λ o. (let e = overlap_ends low high a b o in (e.0, (e.1, e.2))))
    (both (int_lt low high) (both (int_lt (int_min a b) high) (int_lt low (int_max a b))))

-- the way from a coordinate that is not inside keeps out of the inside
keeps_out : (low high at : ℤ) → (Overlaps low high at at → ⊥) → Narrows (λ z. Overlaps low high at z → ⊥)
keeps_out low high at clear = by_lt_z low high
    (λ wide. by_lt_z at high
    (λ before. as_same (λ z. z ≤ℤ low) (λ z. Overlaps low high at z → ⊥) (λ z. beside_left low high at z wide (on_left low high at wide before clear)) (up_to low))
    (λ right. as_same (λ z. high ≤ℤ z) (λ z. Overlaps low high at z → ⊥) (λ z. beside_right low high at z wide right) (from_on high)))
    (λ narrow. always (λ z. Overlaps low high at z → ⊥) (λ z o. let e = overlap_ends low high at z o in omega (arith, ints, narrow, e.0)))

out_along : (P : ℤ → Type 0) (Q : Type 0) → Dec Q → (Q → Narrows (λ z. P z → ⊥)) → Narrows (λ z. P z × Q → ⊥)
out_along P Q along narrows =
    as_same (λ z. Q → P z → ⊥) (λ z. P z × Q → ⊥) (λ z. (λ f h. f h.1 h.0, λ f q p. f (p, q))) (where_holds (λ z. P z → ⊥) along narrows)

clear_narrows : (way : Way) (r : Rect) (at lo hi : ℤ) → (Sweeps way r at at lo hi → ⊥) → Narrows (λ z. Sweeps way r at z lo hi → ⊥)
clear_narrows Vertical r at lo hi clear =
    out_along (Overlaps r.left r.right at) (Overlaps r.top r.bottom lo hi) (overlaps_decided r.top r.bottom lo hi) (λ along. keeps_out r.left r.right at (λ o. clear (o, along)))
clear_narrows Horizontal r at lo hi clear =
    out_along (Overlaps r.top r.bottom at) (Overlaps r.left r.right lo hi) (overlaps_decided r.left r.right lo hi) (λ along. keeps_out r.top r.bottom at (λ o. clear (o, along)))

-- ---- the limits of a run that may stay

module _ (solids : List Solid) (route : PhaseRoute) (k : ℕ) (stays : MayStandAt solids route k (run_at route.runs.items k).at) where
  abbrev Free : ℤ → Type 0
  Free z = All (λ s. let r = run_at route.runs.items k in Sweeps r.way s.rect r.at z r.lo r.hi → ⊥) solids

  free : Narrows Free
  free = for_all (λ s z. Sweeps (run_at route.runs.items k).way s.rect (run_at route.runs.items k).at z (run_at route.runs.items k).lo (run_at route.runs.items k).hi → ⊥) solids
      (λ s has. clear_narrows _ s.rect _ _ _ (All-contains (λ t. Sweeps (run_at route.runs.items k).way t.rect (run_at route.runs.items k).at (run_at route.runs.items k).at (run_at route.runs.items k).lo (run_at route.runs.items k).hi → ⊥) solids s stays.free has))

  -- a neighbour in the direction has reached the point
  abbrev Meets : Dir → Point → ℤ → Type 0
  Meets d p z = IsReached d (across (run_at route.runs.items k).way p) z

  meets : (d : Dir) (p : Point) → Narrows (Meets d p)
  meets d p = reach_narrows d (across (run_at route.runs.items k).way p)

  -- so have its checkpoints
  checkpoints : (d : Dir) (l : Line) (ps : List Point) → Narrows (λ z. (p : Point) → Contains ps p → Holds l p → Meets d p z)
  checkpoints d l ps =
      as_same (λ z. All (λ p. Holds l p → Meets d p z) ps) (λ z. (p : Point) → Contains ps p → Holds l p → Meets d p z)
      (λ z. (λ all p has. All-contains (λ q. Holds l q → Meets d q z) ps p all has, λ each j q h. each (get_or ps j q) (Contains-get_or ps j q h)))
      (for_all (λ p z. Holds l p → Meets d p z) ps (λ p has. where_holds (Meets d p) (holds_decided l p) (λ h. meets d p)))

  iff : {P : Type 0} → P ↔ P
  iff = (λ p. p, λ p. p)

  abbrev Before : ℕ → Dir → ℤ → Type 0
  Before j d z = (p : Point) → HasToReach route j p → Meets d p z

  before : (j : ℕ) (d : Dir) → Narrows (Before j d)
  before j d =
      let runs = route.runs.items in
      let via : ℤ → Type 0 = λ z. (p : Point) → Contains route.anchors.via.items p → Holds (line_of_run (run_at runs j)) p → Meets d p z in
      let port : ℤ → Type 0 = λ z. j ≡ 0 → Meets d route.anchors.source_port z in
      let tip : ℤ → Type 0 = λ z. (0 < j) × ((run_at runs (j - 1)).way ≡ (run_at runs j).way) → Meets d (start_of_run (run_at runs j)) z in
      as_same (λ z. (port z × tip z) × via z) (λ z. (p : Point) → HasToReach route j p → Meets d p z)
      (λ z. (let is = reached route j (λ p. Meets d p z) {A = ⊤} {B = ⊤ × port z} {C = (⊤ × port z) × tip z} {D = ((⊤ × port z) × tip z) × via z} iff iff iff iff iff in
      (λ h. (is.0 (((tt, h.0.0), h.0.1), h.1)).1, λ all. let d = is.1 (tt, all) in ((d.0.0.1, d.0.1), d.1))))
      (with_both (λ z. port z × tip z) via
      (with_both port tip (where_holds (Meets d route.anchors.source_port) (ℕ_discrete j 0) (λ e. meets d route.anchors.source_port))
      (where_holds (Meets d (start_of_run (run_at runs j))) (both (dec_le _ _) (same_way _ _)) (λ e. meets d (start_of_run (run_at runs j)))))
      (checkpoints d (line_of_run (run_at runs j)) route.anchors.via.items))

  abbrev After : ℕ → Dir → ℤ → Type 0
  After j d z = (p : Point) → HasToLeave route j p → Meets d p z

  after : (j : ℕ) (d : Dir) → Narrows (After j d)
  after j d =
      let runs = route.runs.items in
      let via : ℤ → Type 0 = λ z. (p : Point) → Contains route.anchors.via.items p → Holds (line_of_run (run_at runs j)) p → Meets d p z in
      let port : ℤ → Type 0 = λ z. j + 1 ≡ length runs → Meets d route.anchors.target_port z in
      let tip : ℤ → Type 0 = λ z. (j + 1 < length runs) × ((run_at runs (j + 1)).way ≡ (run_at runs j).way) → Meets d (end_of_run (run_at runs j)) z in
      as_same (λ z. (port z × tip z) × via z) (λ z. (p : Point) → HasToLeave route j p → Meets d p z)
      (λ z. (let is = left route j (λ p. Meets d p z) {A = ⊤} {B = ⊤ × port z} {C = (⊤ × port z) × tip z} {D = ((⊤ × port z) × tip z) × via z} iff iff iff iff iff in
      (λ h. (is.0 (((tt, h.0.0), h.0.1), h.1)).1, λ all. let d = is.1 (tt, all) in ((d.0.0.1, d.0.1), d.1))))
      (with_both (λ z. port z × tip z) via
      (with_both port tip (where_holds (Meets d route.anchors.target_port) (ℕ_discrete (j + 1) (length runs)) (λ e. meets d route.anchors.target_port))
      (where_holds (Meets d (end_of_run (run_at runs j))) (both (dec_le _ _) (same_way _ _)) (λ e. meets d (end_of_run (run_at runs j)))))
      (checkpoints d (line_of_run (run_at runs j)) route.anchors.via.items))

  pub stand_limits : (low : ℤ) × (high : ℤ) × ((z : ℤ) → MayStandAt solids route k z ↔ ((low ≤ℤ z) × (z ≤ℤ high)))
  stand_limits =
      let runs = route.runs.items in
      let d = (run_at runs (k - 1)).heading in
      let e = opposite (run_at runs (k + 1)).heading in
      let n = with_both Free (λ z. (0 < k → Before (k - 1) d z) × (k + 1 < length runs → After (k + 1) e z)) free
      (with_both (λ z. 0 < k → Before (k - 1) d z) (λ z. k + 1 < length runs → After (k + 1) e z)
      (where_holds (Before (k - 1) d) (dec_le _ _) (λ l. before (k - 1) d)) (where_holds (After (k + 1) e) (dec_le _ _) (λ l. after (k + 1) e))) sheet_start sheet_end in (
        n.0,
        n.1,
        λ z. (
          λ may. (n.2 z).1 ((may.within.low, may.within.high), (may.free, (λ l p has. may.before p l has, λ l p has. may.after p l has))),
          λ f. (let h = (n.2 z).0 f in record { within = record { low = h.0.0; high = h.0.1 }; free = h.1.0; before = λ p l has. h.1.1.0 l p has; after = λ p l has. h.1.1.1 l p has }),
        ),
      )

pub some_limits : (solids : List Solid) (route : PhaseRoute) (k : ℕ) → ((IsFixed route k → ⊥) → MayStandAt solids route k (run_at route.runs.items k).at) → Dec (IsFixed route k) → (low : ℤ) × (high : ℤ) × HasLimits solids route k low high
some_limits solids route k stays (yes fixed) =
    let at = (run_at route.runs.items k).at in
    (at, at, record { fixed = λ f. (refl, refl); movable = λ not. absurd (not fixed) })
some_limits solids route k stays (no not) =
    let limits = stand_limits solids route k (stays not) in
    (limits.0, limits.1, record { fixed = λ fixed. absurd (not fixed); movable = λ n z. limits.2 z })
