-- Where a ray goes on: the run that it reaches, and the ray after it.
use Rattle.std.proofs.Common.{◌≡◌, ◌≢◌, ℕ, zero, suc, ◌+◌, ◌-◌, ◌<◌, Bool, true, false, List, [], ◌∷◌, length, take, drop, map, inl, inr, refl, sym, ap, ◌∙◌, subst, arith, drop-cons}
use Rattle.std.specs.Prelude.{reverse, if◌then◌else◌}
use Rattle.std.proofs.lemmas.List.{drop_all, take_more, reverse-append}
use Rattle.std.proofs.lemmas.Bool.{cases_lt}
use Rattle.plane_geom.specs.declared.point.Dir.{Dir}
use Rattle.plane_geom.specs.declared.point.Dir.TheVariants.{East, South, West, North}
use Rattle.plane_geom.specs.Point.{opposite}
use Rattle.segment_order.specs.declared.run.Run.{Run}
use Rattle.segment_order.specs.declared.ray.Entry.TheVariants.{Stop}
use Rattle.segment_order.specs.Run.{AreRunsOf, run_at, no_run, end_in}
use Rattle.segment_order.specs.Side.{turn_to, near_side}
use Rattle.segment_order.specs.Ray.{ray, entries, entries_after, reach_in, turned_round}
use Rattle.shared_paths.specs.Pairs.{first_of, first_entry, leaving, next_index}
use Rattle.shared_paths.proofs.Rays.Dirs.{back_again, is_itself, is_no_return}

-- the ray of the one run, left in the one direction, reaches the other run, which it leaves in the other direction
pub record Half (route : List Run) (k : ℕ) (d : Dir) (n : ℕ) (e : Dir) : Type 0 where
  pub trail : List Run
  pub here : ray route (run_at route k) d ≡ entries_after (near_side d) (reach_in d (run_at route k)) (turn_to d e) (entries (near_side d) e (reach_in e (run_at route n)) trail)
  pub there : ray route (run_at route n) e ≡ entries (near_side e) e (reach_in e (run_at route n)) trail

-- so it does, and the way back reaches the one run again
pub record Leads (route : List Run) (k : ℕ) (d : Dir) (n : ℕ) (e : Dir) : Type 0 where
  pub forth : Half route k d n e
  pub back : Half route n (opposite e) k (opposite d)
  pub within : n < length route
  pub meet : end_in d (run_at route k) ≡ end_in (opposite e) (run_at route n)
  pub returns : next_index route n (opposite e) ≡ k

module _ (edge : ℕ) (route : List Run) (are : AreRunsOf edge route) where
  -- ahead, the runs after this one are left
  ray_ahead : (k : ℕ) → k < length route →
      ray route (run_at route k) (run_at route k).heading
      ≡ entries (near_side (run_at route k).heading) (run_at route k).heading (reach_in (run_at route k).heading (run_at route k)) (drop (k + 1) route)
  ray_ahead k l =
      let r = run_at route k in
      ap (λ b. entries (near_side r.heading) r.heading (reach_in r.heading r) (if b then drop r.place route else map turned_round (reverse (take (r.place - 1) route)))) (is_itself r.heading)
      ∙ ap (λ n. entries (near_side r.heading) r.heading (reach_in r.heading r) (drop n route)) (are.places k l)

  -- back the runs before it are
  ray_back : (k : ℕ) → k < length route →
      ray route (run_at route k) (opposite (run_at route k).heading)
      ≡ entries (near_side (opposite (run_at route k).heading)) (opposite (run_at route k).heading) (reach_in (opposite (run_at route k).heading) (run_at route k)) (map turned_round (reverse (take k route)))
  ray_back k l =
      let r = run_at route k in
      let d = opposite r.heading in
      let same : r.place - 1 ≡ k = omega (arith, are.places k l) in
      ap (λ b. entries (near_side d) d (reach_in d r) (if b then drop r.place route else map turned_round (reverse (take (r.place - 1) route)))) (is_no_return r.heading)
      ∙ ap (λ n. entries (near_side d) d (reach_in d r) (map turned_round (reverse (take n route)))) same

  next_run : (k : ℕ) → k + 1 < length route → drop (k + 1) route ≡ run_at route (k + 1) ∷ drop (k + 1 + 1) route
  next_run k l =
      let more : suc (k + 1) ≡ k + 1 + 1 = omega arith in
      drop-cons route (k + 1) no_run l ∙ ap (λ n. run_at route (k + 1) ∷ drop n route) more

  run_before : (k : ℕ) → k < length route → map turned_round (reverse (take (k + 1) route)) ≡ turned_round (run_at route k) ∷ map turned_round (reverse (take k route))
  run_before k l =
      ap (λ rs. map turned_round (reverse rs)) (take_more route k no_run l)
      ∙ ap (map turned_round) (reverse-append (take k route) (run_at route k ∷ []))

  half_ahead : (k : ℕ) → k + 1 < length route → Half route k (run_at route k).heading (k + 1) (run_at route (k + 1)).heading
  half_ahead k l =
      let r = run_at route k in
      let next = run_at route (k + 1) in
      let before : k < length route = omega arith in
      record {
        trail = drop (k + 1 + 1) route;
        here = ray_ahead k before ∙ ap (λ rs. entries (near_side r.heading) r.heading (reach_in r.heading r) rs) (next_run k l);
        there = ray_ahead (k + 1) l;
      }

  same_reach : (d : Dir) (r : Run) → reach_in d (turned_round r) ≡ reach_in d r
  same_reach East r = refl
  same_reach South r = refl
  same_reach West r = refl
  same_reach North r = refl

  half_back : (k : ℕ) → k + 1 < length route → Half route (k + 1) (opposite (run_at route (k + 1)).heading) k (opposite (run_at route k).heading)
  half_back k l =
      let r = run_at route k in
      let next = run_at route (k + 1) in
      let d = opposite next.heading in
      let e = opposite r.heading in
      let before : k < length route = omega arith in
      record {
        trail = map turned_round (reverse (take k route));
        here = ray_back (k + 1) l
            ∙ ap (λ rs. entries (near_side d) d (reach_in d next) rs) (run_before k before)
            ∙ ap (λ z. entries_after (near_side d) (reach_in d next) (turn_to d e) (entries (near_side d) e z (map turned_round (reverse (take k route))))) (same_reach e r);
        there = ray_back k before;
      }

  lead_ahead : (k : ℕ) → k + 1 < length route → Leads route k (run_at route k).heading (k + 1) (run_at route (k + 1)).heading
  lead_ahead k l = record { forth = half_ahead k l; back = half_back k l; within = l; meet = are.joined k l; returns = ap (λ b. if b then k + 1 + 1 else k + 1 - 1) (is_no_return (run_at route (k + 1)).heading) ∙ omega arith }

  lead_back : (k : ℕ) → k + 1 < length route → Leads route (k + 1) (opposite (run_at route (k + 1)).heading) k (opposite (run_at route k).heading)
  lead_back k l = record {
    forth = half_back k l;
    back = subst (λ d. Half route k d (k + 1) (opposite (opposite (run_at route (k + 1)).heading))) (sym (back_again (run_at route k).heading))
        (subst (λ e. Half route k (run_at route k).heading (k + 1) e) (sym (back_again (run_at route (k + 1)).heading)) (half_ahead k l));
    within = omega arith;
    meet = sym (are.joined k l) ∙ ap (λ d. end_in d (run_at route k)) (sym (back_again (run_at route k).heading));
    returns = ap (λ d. next_index route k d) (back_again (run_at route k).heading) ∙ ap (λ b. if b then k + 1 else k - 1) (is_itself (run_at route k).heading);
  }

  -- a route that does not stop ahead has a run more, and one that does not stop behind has one before
  more : (k : ℕ) → k < length route → first_entry route k (run_at route k).heading ≢ Stop → k + 1 < length route
  more k l goes =
      let r = run_at route k in
      elim (cases_lt (k + 1) (length route)) as (λ _. k + 1 < length route) [
        | inl h ↦ h
        | inr h ↦ absurd (goes (ap first_of (ray_ahead k l ∙ ap (λ rs. entries (near_side r.heading) r.heading (reach_in r.heading r) rs) (drop_all (k + 1) route h))))
      ]

  some : first_entry route 0 (opposite (run_at route 0).heading) ≢ Stop → 0 < length route → ⊥
  some goes l = goes (ap first_of (ray_back 0 l))

  -- where the route does not stop at the end of the run, it leads on
  pub leads : (ahead : Bool) (k : ℕ) → k < length route → first_entry route k (leaving ahead (run_at route k)) ≢ Stop →
      Leads route k (leaving ahead (run_at route k)) (next_index route k (leaving ahead (run_at route k))) (leaving ahead (run_at route (next_index route k (leaving ahead (run_at route k)))))
  leads true k l goes =
      let r = run_at route k in
      let n : next_index route k r.heading ≡ k + 1 = ap (λ b. if b then k + 1 else k - 1) (is_itself r.heading) in
      subst (λ i. Leads route k r.heading i (run_at route i).heading) (sym n) (lead_ahead k (more k l goes))
  leads false zero l goes = absurd (some goes l)
  leads false (suc k) l goes =
      let r = run_at route (suc k) in
      let n : next_index route (suc k) (opposite r.heading) ≡ k = ap (λ b. if b then suc k + 1 else suc k - 1) (is_no_return r.heading) ∙ omega arith in
      let at : k + 1 ≡ suc k = omega arith in
      subst (λ i. Leads route (suc k) (opposite r.heading) i (opposite (run_at route i).heading)) (sym n)
      (subst (λ i. Leads route i (opposite (run_at route i).heading) k (opposite (run_at route k).heading)) at (lead_back k (omega arith)))
