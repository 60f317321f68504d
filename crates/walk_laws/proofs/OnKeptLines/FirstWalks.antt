-- The laws of first walks, over the numbers of their steps.
use Rattle.std.proofs.Common.{◌≡◌, ℕ, suc, zero, ◌+◌, ◌-◌, ◌<◌, ◌≤◌, List, [], ◌∷◌, ◌++◌, length, take, drop, replicate, All, refl, sym, ap, subst, ◌∙◌, arith, append_assoc, append-nil, length-append, length-drop, Contains}
use Rattle.std.proofs.lemmas.List.{take_at, take-append-drop, length-take-le, length-replicate}
use Rattle.plane_geom.specs.declared.point.Dir.{Dir}
use Rattle.plane_geom.specs.declared.floor.Line.{Line}
use Rattle.plane_geom.specs.declared.floor.Floor.{Floor}
use Rattle.plane_geom.specs.declared.rect.Solid.{Solid}
use Rattle.plane_geom.specs.Point.{PointIsOnSheet, heading, distance}
use Rattle.plane_geom.specs.Floor.{Holds, IsKept, IsCrossing, IsFreePiece}
use Rattle.plane_geom.specs.Along.{way_of}
use Rattle.walk_model.specs.declared.task.Task.{Task}
use Rattle.walk_model.specs.Walk.{after, point_at, step_at}
use Rattle.walk_model.specs.Choice.{stub_length}
use Rattle.walk_model.specs.Cost.{turn}
use Rattle.walk_model.specs.Legal.{IsTask}
use Rattle.walk_model.specs.Floors.{IsFloorOf}
use Rattle.walk_model.specs.Order.{Triple, IsFirst}
use Rattle.walk_model.proofs.CornerByCorner.Scan.{after-append}
use Rattle.walk_laws.specs.Lines.{GoesAlongLines, IsInOneLeg, DoublesBackAtCheckpoints, run_line}
use Rattle.walk_laws.specs.Sides.{IsHeldTo, AreRunsHeldTo, held_to}
use Rattle.walk_laws.proofs.Steps.Clear.{ComesBy}
use Rattle.walk_laws.proofs.Replacing.Tours.{IsTour, stub, stub_back, tour_from_legal}
use Rattle.walk_laws.proofs.Replacing.Legs.{tour_part, part_begin, comes_around}
use Rattle.walk_laws.proofs.OnKeptLines.Lines.{chosen_start, chosen_end, tour_in, tour_stretch, corner_crossing, start_crossing, end_crossing, via_crossing}
use Rattle.walk_laws.proofs.OnKeptLines.OneRun.{straight_on_piece}
use Rattle.walk_laws.proofs.Replacing.HeldRuns.{tour_held, tour_tip}
use Rattle.walk_laws.proofs.OnKeptLines.Numbers.{cut_at, left_of, equal_front, two_steps, rest_of, point_of, step_of, passed_before, passed_behind}

module _ (solids : List Solid) (task : Task) (t : Triple) (is_task : IsTask task) (first : IsFirst solids task t) where
  abbrev begin : ℕ
  begin = stub_length first.legal.start

  abbrev finish : ℕ
  finish = length t.walk.steps - stub_length first.legal.end

  -- the walk as a tour
  first_tour : (middle : List Dir) × IsTour solids task.via first.legal.start t.walk first.legal.end middle
  first_tour = tour_from_legal solids task.via first.legal.start t.walk first.legal.end (chosen_start solids task t is_task first.legal) (chosen_end solids task t is_task first.legal) first.legal.legal

  module _ (middle : List Dir) (tour : IsTour solids task.via first.legal.start t.walk first.legal.end middle) where
    held_run : (xs : List Dir) (u d : Dir) (n : ℕ) (v : Dir) (ys : List Dir) (k : ℕ) → 0 < n → middle ≡ xs ++ u ∷ (replicate n d ++ v ∷ ys) → k ≡ begin + length xs →
        0 < turn (step_at t.walk k) d → 0 < turn d (step_at t.walk (k + 1 + n)) → IsHeldTo solids task.via (held_to (step_at t.walk k) (step_at t.walk (k + 1 + n))) (run_line (point_at t.walk (k + 1)) d n)
    held_run xs u d zero v ys k some cut place hu hv = absurd (omega arith)
    held_run xs u d (suc n) v ys k some cut place hu hv =
        let run = replicate (suc n) d in
        let next : middle ≡ (xs ++ u ∷ []) ++ (run ++ v ∷ ys) = cut ∙ sym (append_assoc xs (u ∷ []) (run ++ v ∷ ys)) in
        let last : middle ≡ ((xs ++ u ∷ []) ++ run) ++ v ∷ ys = next ∙ sym (append_assoc (xs ++ u ∷ []) run (v ∷ ys)) in
        let here : point_at t.walk (k + 1) ≡ after first.legal.start.port (xs ++ u ∷ []) =
        point_of solids task t is_task first.legal middle tour (xs ++ u ∷ []) (run ++ v ∷ ys) (k + 1) next (omega (arith, place, length-append xs (u ∷ []))) in
        let before : step_at t.walk k ≡ u = step_of solids task t is_task first.legal middle tour xs u (run ++ v ∷ ys) k cut place in
        let behind : step_at t.walk (k + 1 + suc n) ≡ v =
        step_of solids task t is_task first.legal middle tour ((xs ++ u ∷ []) ++ run) v ys (k + 1 + suc n) last
        (omega (arith, place, length-append xs (u ∷ []), length-append (xs ++ u ∷ []) run, length-replicate n d)) in
        subst (λ p. IsHeldTo solids task.via (held_to (step_at t.walk k) (step_at t.walk (k + 1 + suc n))) (run_line p d (suc n))) (sym here)
        (subst (λ (x : Dir). IsHeldTo solids task.via (held_to x (step_at t.walk (k + 1 + suc n))) (run_line (after first.legal.start.port (xs ++ u ∷ [])) d (suc n))) (sym before)
        (subst (λ (x : Dir). IsHeldTo solids task.via (held_to u x) (run_line (after first.legal.start.port (xs ++ u ∷ [])) d (suc n))) (sym behind)
        (tour_held solids task t first (chosen_start solids task t is_task first.legal) (chosen_end solids task t is_task first.legal) middle tour xs u d n v ys cut
        (subst (λ x. 0 < turn x d) before hu) (subst (λ x. 0 < turn d x) behind hv))))

    held_runs : AreRunsHeldTo solids task.via t.walk begin finish
    held_runs k n d from some to equal hu hv =
        let c = cut_at solids task t is_task first.legal middle tour k from (omega arith) in
        behind_step c.front c.behind c.cut c.number (left_of solids task t is_task first.legal middle tour c.front c.behind k c.cut c.number)
      where
        behind_run : (xs : List Dir) (u : Dir) (rest ys : List Dir) → middle ≡ xs ++ u ∷ rest → k ≡ begin + length xs → rest ≡ replicate n d ++ ys → 0 < length ys → IsHeldTo solids task.via (held_to (step_at t.walk k) (step_at t.walk (k + 1 + n))) (run_line (point_at t.walk (k + 1)) d n)
        behind_run xs u rest [] cut is run more = absurd (omega (arith, more))
        behind_run xs u rest (v ∷ ys) cut is run more = held_run xs u d n v ys k some (cut ∙ ap (λ ds. xs ++ u ∷ ds) run) is hu hv

        behind_step : (xs rest : List Dir) → middle ≡ xs ++ rest → k ≡ begin + length xs → finish ≡ k + length rest → IsHeldTo solids task.via (held_to (step_at t.walk k) (step_at t.walk (k + 1 + n))) (run_line (point_at t.walk (k + 1)) d n)
        behind_step xs [] cut is left = absurd (omega (arith, left, to))
        behind_step xs (u ∷ rest) cut is left =
            let next : middle ≡ (xs ++ u ∷ []) ++ rest = cut ∙ sym (append_assoc xs (u ∷ []) rest) in
            let ahead : drop (k + 1) t.walk.steps ≡ rest ++ stub_back first.legal.end =
            rest_of solids task t is_task first.legal middle tour (xs ++ u ∷ []) rest (k + 1) next (omega (arith, is, length-append xs (u ∷ []))) in
            let run = equal_front n d rest (stub_back first.legal.end) (omega (arith, left, to)) (sym (ap (take n) ahead) ∙ equal) in
            behind_run xs u rest (drop n rest) cut is run (omega (arith, left, to, length-drop n rest))

    tips : DoublesBackAtCheckpoints task.via t.walk begin finish
    tips k from to back =
        let s = two_steps solids task t is_task first.legal middle tour k from to in
        subst (Contains task.via) (sym s.there)
        (tour_tip solids task t first (chosen_start solids task t is_task first.legal) (chosen_end solids task t is_task first.legal) middle tour s.before s.one s.two s.behind s.cut
        (sym (ap (λ x. turn x s.two) s.is_one) ∙ sym (ap (turn (step_at t.walk k)) s.is_two) ∙ back))

  pub runs_held : AreRunsHeldTo solids task.via t.walk begin finish
  runs_held = let tour = first_tour in held_runs tour.0 tour.1

  pub doublings_back : DoublesBackAtCheckpoints task.via t.walk begin finish
  doublings_back = let tour = first_tour in tips tour.0 tour.1

module _ (floor : Floor) (task : Task) (t : Triple) (is_task : IsTask task) (first : IsFirst floor.solids task t) where
  abbrev low : ℕ
  low = stub_length first.legal.start

  abbrev high : ℕ
  high = length t.walk.steps - stub_length first.legal.end

  module _ (on : IsFloorOf floor task) (middle : List Dir) (tour : IsTour floor.solids task.via first.legal.start t.walk first.legal.end middle) where
    point : (xs ys : List Dir) (k : ℕ) → middle ≡ xs ++ ys → k ≡ low + length xs → point_at t.walk k ≡ after first.legal.start.port xs
    point = point_of floor.solids task t is_task first.legal middle tour

    points_within : (k : ℕ) → low ≤ k → k ≤ high → PointIsOnSheet (point_at t.walk k)
    points_within k from to =
        let c = cut_at floor.solids task t is_task first.legal middle tour k from to in
        subst PointIsOnSheet (sym (point c.front c.behind k c.cut c.number)) (tour_in floor task t is_task on first middle tour c.front c.behind c.cut)

    stretch_of : (xs : List Dir) (d : Dir) (ys : List Dir) (n k : ℕ) → 0 < n → middle ≡ xs ++ (replicate n d ++ ys) → k ≡ low + length xs →
        (m : Line) × IsKept floor m × (m.way ≡ way_of d) × Holds m (point_at t.walk k) × Holds m (point_at t.walk (k + n))
    stretch_of xs d ys zero k some cut place = absurd (omega arith)
    stretch_of xs d ys (suc n) k some cut place =
        let m = tour_stretch floor task t is_task on first middle tour n xs d ys cut in
        let end : middle ≡ (xs ++ replicate (suc n) d) ++ ys = cut ∙ sym (append_assoc xs (replicate (suc n) d) ys) in
        let place' : k + suc n ≡ low + length (xs ++ replicate (suc n) d) = omega (arith, place, length-append xs (replicate (suc n) d), length-replicate n d) in
        (m.0, m.1, m.2, subst (Holds m.0) (sym (point xs (replicate (suc n) d ++ ys) k cut place)) m.3, subst (Holds m.0) (sym (point (xs ++ replicate (suc n) d) ys (k + suc n) end place')) m.4)

    stretches : (k n : ℕ) (d : Dir) → low ≤ k → 0 < n → k + n ≤ high → take n (drop k t.walk.steps) ≡ replicate n d →
        (m : Line) × IsKept floor m × (m.way ≡ way_of d) × Holds m (point_at t.walk k) × Holds m (point_at t.walk (k + n))
    stretches k n d from some to equal =
        let c = cut_at floor.solids task t is_task first.legal middle tour k from (omega arith) in
        behind_cut c.front c.behind c.cut c.number
      where
        behind_cut : (xs rest : List Dir) → middle ≡ xs ++ rest → k ≡ low + length xs → (m : Line) × IsKept floor m × (m.way ≡ way_of d) × Holds m (point_at t.walk k) × Holds m (point_at t.walk (k + n))
        behind_cut xs rest cut is =
            let ahead : drop k t.walk.steps ≡ rest ++ stub_back first.legal.end = rest_of floor.solids task t is_task first.legal middle tour xs rest k cut is in
            let left = left_of floor.solids task t is_task first.legal middle tour xs rest k cut is in
            let run = equal_front n d rest (stub_back first.legal.end) (omega (arith, left, to)) (sym (ap (take n) ahead) ∙ equal) in
            stretch_of xs d (drop n rest) n k some (cut ∙ ap (λ ds. xs ++ ds) run) is

    bends_cross : (k : ℕ) → low ≤ k → k + 1 < high → 0 < turn (step_at t.walk k) (step_at t.walk (k + 1)) → IsCrossing floor (point_at t.walk (k + 1))
    bends_cross k from to turns =
        let s = two_steps floor.solids task t is_task first.legal middle tour k from to in
        let turned : 0 < turn s.one s.two = subst (λ x. 0 < turn x s.two) s.is_one (subst (λ x. 0 < turn (step_at t.walk k) x) s.is_two turns) in
        subst (IsCrossing floor) (sym s.there) (corner_crossing floor task t is_task on first middle tour s.before s.one s.two s.behind s.cut turned)

    along_lines : GoesAlongLines floor t.walk low high
    along_lines =
        let begin : point_at t.walk low ≡ first.legal.start.port = point [] middle low refl (omega arith) in
        let all : high ≡ low + length middle = left_of floor.solids task t is_task first.legal middle tour [] middle low refl (omega arith) in
        let end : point_at t.walk high ≡ first.legal.end.port = point middle [] high (sym (append-nil middle)) all ∙ tour.reaches in
        record {
          within = points_within;
          stretch = stretches;
          bend = bends_cross;
          begin = subst (IsCrossing floor) (sym begin) (start_crossing floor task t is_task on first middle tour);
          end = subst (IsCrossing floor) (sym end) (end_crossing floor task t is_task on first middle tour);
        }

  -- what is passed in one leg between two points of a free piece is straight
  module _ (middle : List Dir) (tour : IsTour floor.solids task.via first.legal.start t.walk first.legal.end middle) (i j : ℕ) (leg : IsInOneLeg t.walk low high task.via i j)
      (m : Line) (piece : IsFreePiece floor m) (hi : Holds m (point_at t.walk i)) (hj : Holds m (point_at t.walk j)) where
    straight_between : (xs part ys : List Dir) → middle ≡ xs ++ (part ++ ys) → i ≡ low + length xs → j ≡ i + length part →
        take (j - i) (drop i t.walk.steps) ≡ replicate (distance (point_at t.walk i) (point_at t.walk j)) (heading (point_at t.walk i) (point_at t.walk j))
    straight_between xs part ys cut at_i at_j =
        let solids = floor.solids in
        let hs = chosen_start solids task t is_task first.legal in
        let he = chosen_end solids task t is_task first.legal in
        let further : middle ≡ (xs ++ part) ++ ys = cut ∙ sym (append_assoc xs part ys) in
        let number : j ≡ low + length (xs ++ part) = omega (arith, at_i, at_j, length-append xs part) in
        let p = after t.walk.start (stub first.legal.start ++ xs) in
        let begin : p ≡ after first.legal.start.port xs = part_begin solids task t first.legal hs he middle tour xs in
        let from_i : point_at t.walk i ≡ p = point_of solids task t is_task first.legal middle tour xs (part ++ ys) i cut at_i ∙ sym begin in
        let from_j : point_at t.walk j ≡ after p part =
        point_of solids task t is_task first.legal middle tour (xs ++ part) ys j further number ∙ after-append first.legal.start.port xs part ∙ ap (λ q. after q part) (sym begin) in
        let before = passed_before solids task t is_task first.legal middle tour xs (part ++ ys) i (take leg.count task.via) cut at_i leg.passed in
        let behind : ComesBy (after (after first.legal.start.port xs) part) ys (drop leg.count task.via) =
        subst (λ q. ComesBy q ys (drop leg.count task.via)) (after-append first.legal.start.port xs part) (passed_behind solids task t is_task first.legal middle tour (xs ++ part) ys j (drop leg.count task.via) further number leg.left) in
        let is_part = tour_part solids task t first.legal hs he middle tour xs part ys cut
        (λ other same. subst (ComesBy first.legal.start.port (xs ++ (other ++ ys))) (take-append-drop leg.count task.via)
        (comes_around first.legal.start.port xs part ys (take leg.count task.via) (drop leg.count task.via) before behind other same)) in
        let straight = straight_on_piece floor task t first (stub first.legal.start ++ xs) part (ys ++ stub_back first.legal.end) is_part m piece (subst (Holds m) from_i hi) (subst (Holds m) from_j hj) in
        let here : drop i t.walk.steps ≡ part ++ (ys ++ stub_back first.legal.end) =
        rest_of solids task t is_task first.legal middle tour xs (part ++ ys) i cut at_i ∙ append_assoc part ys (stub_back first.legal.end) in
        let taken : take (j - i) (drop i t.walk.steps) ≡ part = ap (take (j - i)) here ∙ take_at part (ys ++ stub_back first.legal.end) (j - i) (omega (arith, at_j)) in
        taken ∙ straight ∙ ap (λ q. replicate (distance p q) (heading p q)) (sym from_j) ∙ ap (λ q. replicate (distance q (point_at t.walk j)) (heading q (point_at t.walk j))) (sym from_i)

    one_run_of : take (j - i) (drop i t.walk.steps) ≡ replicate (distance (point_at t.walk i) (point_at t.walk j)) (heading (point_at t.walk i) (point_at t.walk j))
    one_run_of =
        let c = cut_at floor.solids task t is_task first.legal middle tour i leg.begun (omega (arith, leg.ordered, leg.ended)) in
        behind_cut c.front c.behind c.cut c.number
      where
        behind_cut : (xs rest : List Dir) → middle ≡ xs ++ rest → i ≡ low + length xs →
            take (j - i) (drop i t.walk.steps) ≡ replicate (distance (point_at t.walk i) (point_at t.walk j)) (heading (point_at t.walk i) (point_at t.walk j))
        behind_cut xs rest cut at_i =
            let long : length (take (j - i) rest) ≡ j - i = length-take-le (j - i) rest (omega (arith, left_of floor.solids task t is_task first.legal middle tour xs rest i cut at_i, leg.ordered, leg.ended)) in
            straight_between xs (take (j - i) rest) (drop (j - i) rest) (cut ∙ ap (λ ds. xs ++ ds) (sym (take-append-drop (j - i) rest))) at_i (omega (arith, long, leg.ordered))

  pub along : IsFloorOf floor task → GoesAlongLines floor t.walk low high
  along on = let tour = first_tour floor.solids task t is_task first in along_lines on tour.0 tour.1

  pub checkpoints : IsFloorOf floor task → All (IsCrossing floor) task.via
  checkpoints on = let tour = first_tour floor.solids task t is_task first in via_crossing floor task t is_task on first tour.0 tour.1

  pub one_run : (i j : ℕ) → IsInOneLeg t.walk low high task.via i j → (m : Line) → IsFreePiece floor m → Holds m (point_at t.walk i) → Holds m (point_at t.walk j) →
      take (j - i) (drop i t.walk.steps) ≡ replicate (distance (point_at t.walk i) (point_at t.walk j)) (heading (point_at t.walk i) (point_at t.walk j))
  one_run = let tour = first_tour floor.solids task t is_task first in one_run_of tour.0 tour.1
