-- Each walk has a route: its corners are where its runs end.
use Rattle.std.proofs.Common.{◌≡◌, ◌⊎◌, Bool, true, false, ◌==◌, if◌then◌else◌, ℕ, suc, ◌+◌, ◌<◌, List, [], ◌∷◌, ◌++◌, length, replicate, refl, sym, ap, subst, ◌∙◌, inl, inr, arith}
use Rattle.plane_geom.specs.declared.point.Point.{Point}
use Rattle.plane_geom.specs.declared.point.Dir.{Dir}
use Rattle.plane_geom.specs.Point.{forward, heading}
use Rattle.plane_geom.proofs.Headings.{forward_straight, forward_distance, forward_heading}
use Rattle.walk_model.specs.declared.task.Task.{Task}
use Rattle.walk_model.specs.declared.route.Route.{Route}
use Rattle.walk_model.specs.Cost.{turn, runs, runs_after}
use Rattle.walk_model.specs.Line.{AreStraight, steps_through}
use Rattle.walk_model.specs.Order.{Triple, IsRouteOf, triple_cost}
use Rattle.walk_model.proofs.CornerByCorner.Bends.{one_direction, turn_same, stretch_end}
use Rattle.walk_model.proofs.CornerByCorner.Scan.{forward-forward}
use Rattle.walk_model.proofs.CornerByCorner.Shapes.{turn_differs}
use Rattle.walk_model.proofs.Ranking.OneAnswer.{corners, corners_after}

-- the line from the point through the others is straight, and has these steps
record Leads (p : Point) (qs : List Point) (ds : List Dir) : Type 0 where
  straight : AreStraight p qs
  steps : steps_through p qs ≡ ds

one_segment : (d : Dir) (n : ℕ) (p : Point) (qs : List Point) (ds : List Dir) → 0 < n → Leads (forward d n p) qs ds → Leads p (forward d n p ∷ qs) (replicate n d ++ ds)
one_segment d n p qs ds some l = record {
  straight = (forward_straight d n p, l.straight);
  steps =
      ap (λ m. replicate m (heading p (forward d n p)) ++ steps_through (forward d n p) qs) (forward_distance d n p)
      ∙ ap (λ (e : Dir). replicate n e ++ steps_through (forward d n p) qs) (forward_heading d n p some) ∙ ap (λ es. replicate n d ++ es) l.steps;
}

-- after some equal steps, the corners at which the runs end lead along all steps
corners_lead : (d : Dir) (n : ℕ) (p : Point) (ds : List Dir) → Leads p (corners_after d (forward d (suc n) p) ds) (replicate (suc n) d ++ ds)
corners_lead d n p [] = one_segment d (suc n) p [] [] (omega arith) (record { straight = tt; steps = refl })
corners_lead d n p (e ∷ es) = by_turn (one_direction d e) (corners_lead d (suc n) p es) (corners_lead e 0 q es)
  where
    q : Point
    q = forward d (suc n) p

    by_turn : (d ≡ e) ⊎ (0 < turn d e) → Leads p (corners_after d (forward d (suc (suc n)) p) es) (replicate (suc (suc n)) d ++ es) →
        Leads (forward d (suc n) p) (corners_after e (forward e 1 (forward d (suc n) p)) es) (e ∷ es) → Leads p (corners_after d (forward d (suc n) p) (e ∷ es)) (replicate (suc n) d ++ e ∷ es)
    by_turn (inl same) on off =
        let further : forward d (suc (suc n)) p ≡ forward d 1 q = sym (forward-forward d 1 (suc n) p ∙ ap (λ m. forward d m p) (omega arith)) in
        let goes_on : corners_after d q (d ∷ es) ≡ corners_after d (forward d 1 q) es =
        ap (λ k. if k == 0 then corners_after d (forward d 1 q) es else q ∷ corners_after d (forward d 1 q) es) (turn_same d) in
        subst (λ (f : Dir). Leads p (corners_after d q (f ∷ es)) (replicate (suc n) d ++ f ∷ es)) same
        (subst (λ qs. Leads p qs (replicate (suc n) d ++ d ∷ es)) (ap (λ r. corners_after d r es) further ∙ sym goes_on)
        (subst (Leads p (corners_after d (forward d (suc (suc n)) p) es)) (stretch_end (suc n) d es) on))
    by_turn (inr turns) on off =
        let begins : corners_after d q (e ∷ es) ≡ q ∷ corners_after e (forward e 1 q) es =
        ap (λ b. if b then corners_after e (forward e 1 q) es else q ∷ corners_after e (forward e 1 q) es)
        (turn_differs d e (λ same. let none : turn d e ≡ 0 = ap (turn d) (sym same) ∙ turn_same d in omega (arith, none, turns))) in
        subst (λ qs. Leads p qs (replicate (suc n) d ++ e ∷ es)) (sym begins) (one_segment d (suc n) p (corners_after e (forward e 1 q) es) (e ∷ es) (omega arith) off)

corners_number : (d : Dir) (p : Point) (ds : List Dir) → length (corners_after d p ds) ≡ 1 + runs_after d ds
corners_number d p [] = refl
corners_number d p (e ∷ es) = by (turn d e == 0) (corners_number e (forward e 1 p) es)
  where
    by : (b : Bool) → length (corners_after e (forward e 1 p) es) ≡ 1 + runs_after e es → length (if b then corners_after e (forward e 1 p) es else p ∷ corners_after e (forward e 1 p) es) ≡ 1 + ((if b then 0 else 1) + runs_after e es)
    by true behind = omega (arith, behind)
    by false behind = omega (arith, behind)

corners_draw : (p : Point) (ds : List Dir) → Leads p (corners p ds) ds
corners_draw p [] = record { straight = tt; steps = refl }
corners_draw p (d ∷ ds) = corners_lead d 0 p ds

corners_count : (p : Point) (ds : List Dir) → length (corners p ds) ≡ runs ds
corners_count p [] = refl
corners_count p (d ∷ ds) = corners_number d (forward d 1 p) ds

pub some_route : (task : Task) (t : Triple) → (r : Route) × IsRouteOf task r t
some_route task t =
    let p = t.walk.start in
    let steps = t.walk.steps in
    let line = corners_draw p steps in (
      record { start = t.start; end = t.end; points = p ∷ corners p steps; cost = triple_cost task t },
      record {
        draws = (line.straight, ap (λ ds. record { start = p; steps = ds }) (sym line.steps));
        corners = omega (arith, corners_count p steps);
        start = refl;
        end = refl;
        cost = refl;
      },
    )
