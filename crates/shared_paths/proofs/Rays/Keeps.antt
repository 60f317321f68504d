-- Along a shared path the one route stays on one hand of the other.
use Rattle.std.proofs.Common.{◌≡◌, ◌≢◌, ℕ, ℤ, pos, ◌-ℤ◌, Option, Some, None, List, [], ◌∷◌, map, refl, sym, ap, ◌∙◌, arith}
use Rattle.std.specs.declared.cmp.Ordering.{Ordering}
use Rattle.std.specs.declared.cmp.Ordering.TheVariants.{Less, Equal, Greater}
use Rattle.std.specs.Ordering.{ordering_then, ordering_reverse}
use Rattle.std.specs.Cmp.Lexicographic.{slice_cmp}
use Rattle.std.proofs.lemmas.Cmp.{int_cmp_total, tied_itself}
use Rattle.std.proofs.lemmas.Int.{ints}
use Rattle.plane_geom.specs.declared.point.Dir.{Dir}
use Rattle.plane_geom.specs.declared.point.Dir.TheVariants.{East, South, West, North}
use Rattle.plane_geom.specs.Along.{way_of, reach}
use Rattle.plane_geom.specs.Floor.{point_on}
use Rattle.segment_order.specs.declared.side.Side.{Side}
use Rattle.segment_order.specs.declared.side.Side.TheVariants.{Left, Right}
use Rattle.segment_order.specs.declared.run.Run.{Run}
use Rattle.segment_order.specs.declared.ray.Entry.{Entry}
use Rattle.segment_order.specs.declared.ray.Entry.TheVariants.{Near, Stop, Far}
use Rattle.segment_order.specs.Run.{run_at, end_in}
use Rattle.segment_order.specs.Side.{turn_to, near_side}
use Rattle.segment_order.specs.Ray.{ray, entries, entries_after, entry_of, entry_cmp, reach_in}
use Rattle.segment_order.proofs.Stops.{stops}
use Rattle.shared_paths.specs.Pairs.{first_of}
use Rattle.shared_paths.specs.Paths.{other_side}
use Rattle.shared_paths.proofs.Rays.Orders.{flip, flipped_rays}
use Rattle.shared_paths.proofs.Rays.Leads.{Half}

-- the hand on which the first route is that stands so to the other, where this hand is near
abbrev pub hand_by : Ordering → Side → Option Side
hand_by Less near = Some near
hand_by Equal near = None
hand_by Greater near = Some (other_side near)

reversed_right : (o : Ordering) → hand_by (ordering_reverse o) Right ≡ hand_by o Left
reversed_right Less = refl
reversed_right Equal = refl
reversed_right Greater = refl

after_flipped : (z : ℤ) (turn : Option Side) (rest other : List Entry) → other ≡ map flip rest → entries_after Right z turn other ≡ map flip (entries_after Left z turn rest)
after_flipped z None rest other e = refl
after_flipped z (Some Left) rest other e = ap (λ es. Far z ∷ es) e
after_flipped z (Some Right) rest other e = ap (λ es. Near z ∷ es) e

entries_flipped : (d : Dir) (z : ℤ) (trail : List Run) → entries Right d z trail ≡ map flip (entries Left d z trail)
entries_flipped d z [] = refl
entries_flipped d z (r ∷ rs) = after_flipped z (turn_to d r.heading) _ _ (entries_flipped r.heading (reach_in r.heading r) rs)

-- two trails, of which either hand may be near
module _ (d e : Dir) (y z : ℤ) (one other : List Run) where
  abbrev order_by : Side → Ordering
  order_by near = slice_cmp entry_cmp (entries near d y one) (entries near e z other)

  reversed : order_by Right ≡ ordering_reverse (order_by Left)
  reversed =
      ap (λ es. slice_cmp entry_cmp es (entries Right e z other)) (entries_flipped d y one)
      ∙ ap (λ es. slice_cmp entry_cmp (map flip (entries Left d y one)) es) (entries_flipped e z other)
      ∙ flipped_rays _ _ (stops Left d y one) (stops Left e z other)

  as_left : (near : Side) → hand_by (order_by near) near ≡ hand_by (order_by Left) Left
  as_left Left = refl
  as_left Right = ap (λ o. hand_by o Right) reversed ∙ reversed_right (order_by Left)

  -- whichever hand is near, the route is on one hand
  pub one_hand : (near far : Side) → hand_by (slice_cmp entry_cmp (entries near d y one) (entries near e z other)) near ≡ hand_by (slice_cmp entry_cmp (entries far d y one) (entries far e z other)) far
  one_hand near far = as_left near ∙ sym (as_left far)

-- the hand on which the first route is by the rays of a pair in the direction
abbrev pub hand_at : List Run → List Run → ℕ → ℕ → Dir → Option Side
hand_at a b k m d = hand_by (slice_cmp entry_cmp (ray a (run_at a k) d) (ray b (run_at b m) d)) (near_side d)

near_number : (y z : ℤ) → Near y ≡ Near z → y ≡ z
near_number y z e = cc

far_number : (y z : ℤ) → Far y ≡ Far z → y ≡ z
far_number y z e = cc

-- entries that are one turn to one hand, so far on
pub same_turn : (near one other : Side) (y z : ℤ) → entry_of near y one ≡ entry_of near z other → (one ≡ other) × (y ≡ z)
same_turn Left Left Left y z e = (refl, near_number y z e)
same_turn Left Left Right y z e = cc
same_turn Left Right Left y z e = cc
same_turn Left Right Right y z e = (refl, far_number y z e)
same_turn Right Left Left y z e = (refl, far_number y z e)
same_turn Right Left Right y z e = cc
same_turn Right Right Left y z e = cc
same_turn Right Right Right y z e = (refl, near_number y z e)

-- where the ray does not stop it turns
pub turned_there : (near : Side) (z : ℤ) (turn : Option Side) (rest : List Entry) → first_of (entries_after near z turn rest) ≢ Stop →
    (side : Side) × (turn ≡ Some side) × (first_of (entries_after near z turn rest) ≡ entry_of near z side)
turned_there near z None rest h = absurd (h refl)
turned_there near z (Some side) rest h = (side, refl, refl)

itself : (e : Entry) → entry_cmp e e ≡ Equal
itself (Near p) = tied_itself int_cmp_total p
itself Stop = refl
itself (Far p) = tied_itself int_cmp_total (pos 0 -ℤ p)

-- two rays that turn alike are ordered as what is after the turn
behind : (e : Entry) (more rest : List Entry) → slice_cmp entry_cmp (e ∷ more) (e ∷ rest) ≡ slice_cmp entry_cmp more rest
behind e more rest = ap (λ o. ordering_then o (slice_cmp entry_cmp more rest)) (itself e)

-- where both rays of a pair turn alike, the route is on the same hand before the turn and after it
pub same_hand : (a b : List Run) (k m n i : ℕ) (d e : Dir) (side : Side) → Half a k d n e → Half b m d i e → turn_to d e ≡ Some side →
    reach_in d (run_at a k) ≡ reach_in d (run_at b m) → hand_at a b k m d ≡ hand_at a b n i e
same_hand a b k m n i d e side one other turn reached =
    let near = near_side d in
    let y = reach_in d (run_at a k) in
    let z = reach_in d (run_at b m) in
    let more = entries near e (reach_in e (run_at a n)) one.trail in
    let rest = entries near e (reach_in e (run_at b i)) other.trail in
    let here : ray a (run_at a k) d ≡ entry_of near y side ∷ more = one.here ∙ ap (λ t. entries_after near y t more) turn in
    let there : ray b (run_at b m) d ≡ entry_of near y side ∷ rest = other.here ∙ ap (λ t. entries_after near z t rest) turn ∙ ap (λ w. entry_of near w side ∷ rest) (sym reached) in
    ap (λ es. hand_by (slice_cmp entry_cmp es (ray b (run_at b m) d)) near) here
    ∙ ap (λ es. hand_by (slice_cmp entry_cmp (entry_of near y side ∷ more) es) near) there
    ∙ ap (λ o. hand_by o near) (behind (entry_of near y side) more rest)
    ∙ one_hand e e (reach_in e (run_at a n)) (reach_in e (run_at b i)) one.trail other.trail near (near_side e)
    ∙ sym (ap (λ es. hand_by (slice_cmp entry_cmp es (ray b (run_at b i) e)) (near_side e)) one.there
    ∙ ap (λ es. hand_by (slice_cmp entry_cmp (entries (near_side e) e (reach_in e (run_at a n)) one.trail) es) (near_side e)) other.there)

-- the end of a run is as far in its direction as the run reaches
pub reached_at : (d : Dir) (r : Run) → r.way ≡ way_of d → reach_in d r ≡ reach d (end_in d r)
reached_at East r w = ap (λ way. reach East (point_on way r.at r.hi)) (sym w)
reached_at South r w = ap (λ way. reach South (point_on way r.at r.hi)) (sym w)
reached_at West r w = ap (λ way. reach West (point_on way r.at r.lo)) (sym w)
reached_at North r w = ap (λ way. reach North (point_on way r.at r.lo)) (sym w)

pub same_negated : (y z : ℤ) → pos 0 -ℤ y ≡ pos 0 -ℤ z → y ≡ z
same_negated y z e = omega (arith, ints)

-- runs on one line that reach as far end at one point
pub same_end : (d : Dir) (r s : Run) → r.way ≡ s.way → r.at ≡ s.at → reach_in d r ≡ reach_in d s → end_in d r ≡ end_in d s
same_end East r s w at e = ap (λ way. point_on way r.at r.hi) w ∙ ap (λ z. point_on s.way z r.hi) at ∙ ap (λ z. point_on s.way s.at z) e
same_end South r s w at e = ap (λ way. point_on way r.at r.hi) w ∙ ap (λ z. point_on s.way z r.hi) at ∙ ap (λ z. point_on s.way s.at z) e
same_end West r s w at e = ap (λ way. point_on way r.at r.lo) w ∙ ap (λ z. point_on s.way z r.lo) at ∙ ap (λ z. point_on s.way s.at z) (same_negated r.lo s.lo e)
same_end North r s w at e = ap (λ way. point_on way r.at r.lo) w ∙ ap (λ z. point_on s.way z r.lo) at ∙ ap (λ z. point_on s.way s.at z) (same_negated r.lo s.lo e)
