-- The step from a pair of companions to the next.
use Rattle.std.proofs.Common.{◌≡◌, ◌≢◌, ℕ, ◌<◌, ◌<ℤ◌, ℤ, Bool, true, false, Some, List, length, inl, inr, sym, ap, ◌∙◌, subst}
use Rattle.plane_geom.specs.declared.point.Dir.{Dir}
use Rattle.plane_geom.specs.declared.point.Dir.TheVariants.{East, South, West, North}
use Rattle.plane_geom.specs.declared.point.Point.{Point}
use Rattle.plane_geom.specs.declared.point.Way.{Way}
use Rattle.plane_geom.specs.declared.point.Way.TheVariants.{Vertical, Horizontal}
use Rattle.plane_geom.specs.Along.{way_of, reach}
use Rattle.plane_geom.specs.Point.{opposite}
use Rattle.plane_geom.specs.Floor.{point_on}
use Rattle.segment_order.specs.declared.side.Side.{Side}
use Rattle.segment_order.specs.declared.side.Side.TheVariants.{Left, Right}
use Rattle.segment_order.specs.declared.run.Run.{Run}
use Rattle.segment_order.specs.declared.ray.Entry.TheVariants.{Stop}
use Rattle.segment_order.specs.Run.{AreRunsOf, run_at, no_run, end_in}
use Rattle.segment_order.specs.Side.{turn_to, near_side}
use Rattle.segment_order.specs.Ray.{entries, entries_after, entry_of, reach_in}
use Rattle.shared_paths.specs.Pairs.{Pair, AreCompanions, IsPair, GoesOn, first_of, first_entry, leaving, next_index, next_pair, outward}
use Rattle.shared_paths.specs.Paths.{other_side}
use Rattle.shared_paths.specs.Laws.{IsRoute}
use Rattle.shared_paths.proofs.Rays.Dirs.{back_again, one_way, turned, turned_so, turns_back, way_back}
use Rattle.shared_paths.proofs.Rays.Leads.{Leads, leads}
use Rattle.shared_paths.proofs.Rays.Keeps.{hand_at, reached_at, same_end, same_hand, same_turn, turned_there}

-- both routes go from the pair in the direction to the next one, with the same turn at the same place
pub record Step (a b : List Run) (k m : ℕ) (d : Dir) (n i : ℕ) (e : Dir) : Type 0 where
  pub one : Leads a k d n e
  pub other : Leads b m d i e
  pub side : Side
  pub turn : turn_to d e ≡ Some side
  pub reached : reach_in d (run_at a k) ≡ reach_in d (run_at b m)
  pub one_way_on : (run_at a n).way ≡ way_of e
  pub other_way_on : (run_at b i).way ≡ way_of e

-- the way of a run is that of the direction in which one leaves it
way_leaving : (ahead : Bool) (r : Run) → r.way ≡ way_of r.heading → r.way ≡ way_of (leaving ahead r)
way_leaving true r w = w
way_leaving false r w = w ∙ sym (way_back r.heading)

-- the direction is one in which one leaves the run
record Leaves (r : Run) (d : Dir) : Type 0 where
  ahead : Bool
  so : leaving ahead r ≡ d

leaves : (r : Run) (d : Dir) → r.way ≡ way_of r.heading → r.way ≡ way_of d → Leaves r d
leaves r d w v = elim (one_way r.heading d (sym w ∙ v)) as (λ _. Leaves r d) [
  | inl same ↦ record { ahead = true; so = same }
  | inr back ↦ record { ahead = false; so = ap opposite back ∙ back_again d }
]

-- what is known of a route that leads on from a run in a direction
record Turn (route : List Run) (k : ℕ) (d : Dir) (e : Dir) : Type 0 where
  leads : Leads route k d (next_index route k d) e
  side : Side
  turn : turn_to d e ≡ Some side
  first : first_entry route k d ≡ entry_of (near_side d) (reach_in d (run_at route k)) side
  way : (run_at route (next_index route k d)).way ≡ way_of e

module _ (edge : ℕ) (route : List Run) (are : AreRunsOf edge route) where
  turns : (ahead : Bool) (k : ℕ) → k < length route → first_entry route k (leaving ahead (run_at route k)) ≢ Stop →
      Turn route k (leaving ahead (run_at route k)) (leaving ahead (run_at route (next_index route k (leaving ahead (run_at route k)))))
  turns ahead k l goes =
      let d = leaving ahead (run_at route k) in
      let n = next_index route k d in
      let e = leaving ahead (run_at route n) in
      let on : Leads route k d n e = leads edge route are ahead k l goes in
      let first = ap first_of on.forth.here in
      let there = turned_there (near_side d) (reach_in d (run_at route k)) (turn_to d e) (entries (near_side d) e (reach_in e (run_at route n)) on.forth.trail) (λ h. goes (first ∙ h)) in
      record {
        leads = on;
        side = there.0;
        turn = there.1;
        first = first ∙ there.2;
        way = way_leaving ahead (run_at route n) (are.each n on.within).way;
      }

module _ (edge other : ℕ) (a b : List Run) (are : AreRunsOf edge a) (others : AreRunsOf other b) where
  met : (k m : ℕ) (d e f : Dir) → Turn a k d e → Turn b m d f → first_entry a k d ≡ first_entry b m d →
      Step a b k m d (next_index a k d) (next_index b m d) e
  met k m d e f one two same =
      let alike = same_turn (near_side d) one.side two.side (reach_in d (run_at a k)) (reach_in d (run_at b m)) (sym one.first ∙ same ∙ two.first) in
      let fe : f ≡ e = turned_so d f two.side two.turn ∙ ap (turned d) (sym alike.0) ∙ sym (turned_so d e one.side one.turn) in
      record {
        one = one.leads;
        other = subst (λ g. Leads b m d (next_index b m d) g) fe two.leads;
        side = one.side;
        turn = one.turn;
        reached = alike.1;
        one_way_on = one.way;
        other_way_on = two.way ∙ ap way_of fe;
      }

  -- a pair that goes on has a step
  pub step_of : (ahead : Bool) (p : Pair) → IsPair a b p → GoesOn a b ahead p →
      Step a b p.a p.b (outward a ahead p) (next_index a p.a (outward a ahead p)) (next_index b p.b (outward a ahead p)) (leaving ahead (run_at a (next_index a p.a (outward a ahead p))))
  step_of ahead p is goes =
      let r = run_at a p.a in
      let s = run_at b p.b in
      let d = leaving ahead r in
      let one = turns edge a are ahead p.a is.of_a goes.turns in
      let v : s.way ≡ way_of d = sym is.companions.way ∙ way_leaving ahead r (are.each p.a is.of_a).way in
      let way = leaves s d (others.each p.b is.of_b).way v in
      let f = leaving way.ahead (run_at b (next_index b p.b (leaving way.ahead s))) in
      let two : Turn b p.b (leaving way.ahead s) f = turns other b others way.ahead p.b is.of_b (λ h. goes.turns (goes.same ∙ ap (first_entry b p.b) (sym way.so) ∙ h)) in
      let same : Turn b p.b d f = subst (λ g. Turn b p.b g f) way.so two in
      met p.a p.b d (leaving ahead (run_at a (next_index a p.a d))) f one same goes.same

turn_goes_on : (near side : Side) (z : ℤ) → entry_of near z side ≢ Stop
turn_goes_on Left Left z e = cc
turn_goes_on Right Right z e = cc
turn_goes_on Left Right z e = cc
turn_goes_on Right Left z e = cc

-- a point of a whole line determines its coordinates
coordinates : (way : Way) (at z on y : ℤ) → point_on way at z ≡ point_on way on y → (at ≡ on) × (z ≡ y)
coordinates Vertical at z on y e = (ap (λ (p : Point). p.x) e, ap (λ (p : Point). p.y) e)
coordinates Horizontal at z on y e = (ap (λ (p : Point). p.y) e, ap (λ (p : Point). p.x) e)

-- runs of some length that begin at one point in one direction are companions
from_low : (r s : Run) → r.way ≡ s.way → point_on r.way r.at r.lo ≡ point_on s.way s.at s.lo → r.lo <ℤ r.hi → s.lo <ℤ s.hi → AreCompanions r s
from_low r s way here l h =
    let same = coordinates s.way r.at r.lo s.at s.lo (ap (λ w. point_on w r.at r.lo) (sym way) ∙ here) in
    record { way = way; at = same.0; begins = subst (λ z. z <ℤ s.hi) (sym same.1) h; ends = subst (λ z. z <ℤ r.hi) same.1 l }

from_high : (r s : Run) → r.way ≡ s.way → point_on r.way r.at r.hi ≡ point_on s.way s.at s.hi → r.lo <ℤ r.hi → s.lo <ℤ s.hi → AreCompanions r s
from_high r s way here l h =
    let same = coordinates s.way r.at r.hi s.at s.hi (ap (λ w. point_on w r.at r.hi) (sym way) ∙ here) in
    record { way = way; at = same.0; begins = subst (λ z. r.lo <ℤ z) same.1 l; ends = subst (λ z. s.lo <ℤ z) (sym same.1) h }

same_start : (d : Dir) (r s : Run) → r.way ≡ s.way → end_in d r ≡ end_in d s → r.lo <ℤ r.hi → s.lo <ℤ s.hi → AreCompanions r s
same_start East r s way here l h = from_high r s way here l h
same_start South r s way here l h = from_high r s way here l h
same_start West r s way here l h = from_low r s way here l h
same_start North r s way here l h = from_low r s way here l h

-- what holds at a step from the one pair to the next
module _ (a b : List Run) (k m : ℕ) (d : Dir) (n i : ℕ) (e : Dir) (step : Step a b k m d n i e) where
  -- ahead the route is on one hand at both
  pub hand_kept : hand_at a b k m d ≡ hand_at a b n i e
  hand_kept = same_hand a b k m n i d e step.side step.one.forth step.other.forth step.turn step.reached

  turn_there : turn_to (opposite e) (opposite d) ≡ Some (other_side step.side)
  turn_there = ap (λ f. turn_to (opposite f) (opposite d)) (turned_so d e step.side step.turn) ∙ turns_back d step.side

  -- the next runs begin at one point
  meets : (run_at a k).way ≡ (run_at b m).way → (run_at a k).at ≡ (run_at b m).at → end_in (opposite e) (run_at a n) ≡ end_in (opposite e) (run_at b i)
  meets way at = sym step.one.meet ∙ same_end d (run_at a k) (run_at b m) way at step.reached ∙ step.other.meet

  reached_back : (run_at a k).way ≡ (run_at b m).way → (run_at a k).at ≡ (run_at b m).at → reach_in (opposite e) (run_at a n) ≡ reach_in (opposite e) (run_at b i)
  reached_back way at =
      reached_at (opposite e) (run_at a n) (step.one_way_on ∙ sym (way_back e))
      ∙ ap (reach (opposite e)) (meets way at)
      ∙ sym (reached_at (opposite e) (run_at b i) (step.other_way_on ∙ sym (way_back e)))

  -- and after it is on one hand at both
  pub hand_kept_back : (run_at a k).way ≡ (run_at b m).way → (run_at a k).at ≡ (run_at b m).at → hand_at a b n i (opposite e) ≡ hand_at a b k m (opposite d)
  hand_kept_back way at =
      same_hand a b n i k m (opposite e) (opposite d) (other_side step.side) step.one.back step.other.back turn_there (reached_back way at)

  first_back : first_entry a n (opposite e) ≡ entry_of (near_side (opposite e)) (reach_in (opposite e) (run_at a n)) (other_side step.side)
  first_back =
      ap first_of step.one.back.here
      ∙ ap (λ t. first_of (entries_after (near_side (opposite e)) (reach_in (opposite e) (run_at a n)) t (entries (near_side (opposite e)) (opposite d) (reach_in (opposite d) (run_at a k)) step.one.back.trail))) turn_there

  other_first_back : first_entry b i (opposite e) ≡ entry_of (near_side (opposite e)) (reach_in (opposite e) (run_at b i)) (other_side step.side)
  other_first_back =
      ap first_of step.other.back.here
      ∙ ap (λ t. first_of (entries_after (near_side (opposite e)) (reach_in (opposite e) (run_at b i)) t (entries (near_side (opposite e)) (opposite d) (reach_in (opposite d) (run_at b m)) step.other.back.trail))) turn_there

  -- from the next pair both routes lead back alike
  pub alike_back : (run_at a k).way ≡ (run_at b m).way → (run_at a k).at ≡ (run_at b m).at → first_entry a n (opposite e) ≡ first_entry b i (opposite e)
  alike_back way at = first_back ∙ ap (λ z. entry_of (near_side (opposite e)) z (other_side step.side)) (reached_back way at) ∙ sym other_first_back

  pub turns_there_back : first_entry a n (opposite e) ≢ Stop
  turns_there_back h = turn_goes_on (near_side (opposite e)) (other_side step.side) (reach_in (opposite e) (run_at a n)) (sym first_back ∙ h)

  -- the next runs are companions again
  pub companions_there : (run_at a k).way ≡ (run_at b m).way → (run_at a k).at ≡ (run_at b m).at → (run_at a n).lo <ℤ (run_at a n).hi → (run_at b i).lo <ℤ (run_at b i).hi →
      AreCompanions (run_at a n) (run_at b i)
  companions_there way at l h = same_start (opposite e) (run_at a n) (run_at b i) (step.one_way_on ∙ sym step.other_way_on) (meets way at) l h

same_pair : (k m : ℕ) (p : Pair) → k ≡ p.a → m ≡ p.b → record { a = k; b = m } ≡ p
same_pair k m p one other = ap (λ n. record { a = n; b = m }) one ∙ ap (λ n. record { a = p.a; b = n }) other

-- a pair that goes on goes on to a pair, which goes back to it
pub record IsBack (a b : List Run) (p q : Pair) : Type 0 where
  pub pair : IsPair a b q
  pub goes : GoesOn a b true q
  pub returns : next_pair a b true q ≡ p

module _ (edge other : ℕ) (a b : List Run) (one : IsRoute edge a) (two : IsRoute other b) where
  pub goes_back : (p : Pair) → IsPair a b p → GoesOn a b false p → IsBack a b p (next_pair a b false p)
  goes_back p is goes =
      let d = outward a false p in
      let n = next_index a p.a d in
      let i = next_index b p.b d in
      let step = step_of edge other a b one.runs two.runs false p is goes in
      let e = opposite (run_at a n).heading in
      let again : opposite e ≡ (run_at a n).heading = back_again (run_at a n).heading in
      let l : (run_at a n).lo <ℤ (run_at a n).hi = one.long n no_run step.one.within in
      let h : (run_at b i).lo <ℤ (run_at b i).hi = two.long i no_run step.other.within in
      record {
        pair = record {
          of_a = step.one.within;
          of_b = step.other.within;
          companions = companions_there a b p.a p.b d n i e step is.companions.way is.companions.at l h;
        };
        goes = record {
          same = subst (λ f. first_entry a n f ≡ first_entry b i f) again (alike_back a b p.a p.b d n i e step is.companions.way is.companions.at);
          turns = subst (λ f. first_entry a n f ≢ Stop) again (turns_there_back a b p.a p.b d n i e step);
        };
        returns = same_pair (next_index a n (run_at a n).heading) (next_index b i (run_at a n).heading) p
            (subst (λ f. next_index a n f ≡ p.a) again step.one.returns)
            (subst (λ f. next_index b i f ≡ p.b) again step.other.returns);
      }
