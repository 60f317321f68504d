-- One bundle after another is settled, and its runs are put.
use Rattle.std.proofs.Common.{◌≡◌, ℕ, suc, zero, ◌+◌, ◌<◌, ◌≤◌, ℤ, Some, List, [], ◌∷◌, ◌++◌, length, take, get_or, refl, sym, ap, subst, ◌∙◌, arith, length-take-le}
use Rattle.std.specs.Prelude.{slice_get, All, Contains}
use Rattle.std.proofs.lemmas.List.Elements.{All-get_or}
use Rattle.std.proofs.lemmas.Option.{slice_get-get_or}
use Rattle.plane_geom.specs.declared.point.Way.{Way}
use Rattle.segment_order.specs.declared.run.Run.{Run}
use Rattle.separation_model.specs.declared.bundle.Solution.{Solution}
use Rattle.channel_bundles.specs.declared.route.PhaseRoute.{PhaseRoute}
use Rattle.channel_bundles.specs.declared.channel.RunBundle.{RunBundle}
use Rattle.channel_bundles.specs.Route.{IsPhaseRoute}
use Rattle.nudge_phases.specs.Moved.{IsPutAt}
use Rattle.nudge_phases.specs.Phase.{IsSolutionOf}
use Rattle.nudge_phases.specs.Rising.{EdgesRise}
use Rattle.nudge_phases.specs.Steps.{AreBundlesIn, AreEach, AreSettledIn, AreSolutionsOf, IsPutSoFar, IsRunIn, IsSettledIn}
use Rattle.nudge_phases.proofs.Putting.{in_all_runs, put_begins, put_ends, runs_all, runs_before, runs_more}
use Rattle.nudge_phases.proofs.RouteRuns.{each_all, each_more, each_none}

-- the bundles before one have solutions, and their runs are put
pub record AreSettledUpTo (found : List RunBundle) (k : ℕ) (before now : List PhaseRoute) : Type 0 where
  pub solutions : List Solution
  pub solved : AreSolutionsOf (take k found) solutions
  pub put : (way : Way) → AreBundlesIn before way found → AreEach (IsPutSoFar way found solutions (runs_before found k)) before now

read_front : {X : Type 0} (xs ys : List X) (k : ℕ) (x : X) → slice_get xs k ≡ Some x → slice_get (xs ++ ys) k ≡ Some x
read_front [] ys k x e = cc
read_front (a ∷ xs) ys zero x e = e
read_front (a ∷ xs) ys (suc k) x e = read_front xs ys k x e

read_last : {X : Type 0} (xs : List X) (x : X) → slice_get (xs ++ x ∷ []) (length xs) ≡ Some x
read_last [] x = refl
read_last (a ∷ xs) x = read_last xs x

-- what is put stays so with one more solution
module _ (way : Way) (found : List RunBundle) (solutions : List Solution) (s : Solution) where
  still_at : (r : Run) (z : ℤ) → IsPutAt found solutions r z → IsPutAt found (solutions ++ s ∷ []) r z
  still_at r z is = record {
    place = is.place;
    item = is.item;
    bundle = is.bundle;
    solution = is.solution;
    of_bundle = is.of_bundle;
    of_solution = read_front solutions (s ∷ []) is.place is.solution is.of_solution;
    here = is.here;
    down = is.down;
  }

  still_put : (done : List Run) (before now : List PhaseRoute) → AreEach (IsPutSoFar way found solutions done) before now → AreEach (IsPutSoFar way found (solutions ++ s ∷ []) done) before now
  still_put done before now so = record {
    count = so.count;
    each = λ k x y at_x at_y.
        let one = so.each k x y at_x at_y in
        record { same = one.same; count = one.count; runs = one.runs; own = λ j h has. still_at _ _ (one.own j h has); others = one.others };
  }

module _ (found : List RunBundle) (before : List PhaseRoute) (good : All IsPhaseRoute before) (rise : EdgesRise before) where
  pub settled_none : AreSettledUpTo found 0 before before
  settled_none = record {
    solutions = [];
    solved = each_none (λ b s. IsSolutionOf b.bundle s) found [] refl;
    put = λ way are. put_begins way found [] before good rise;
  }

  pub settled_more : (k : ℕ) (b : RunBundle) (now new : List PhaseRoute) → k < length found → b ≡ get_or found k b → AreSettledUpTo found k before now → IsSettledIn b now new → AreSettledUpTo found (k + 1) before new
  settled_more k b now new h is so more =
      let s = more.solution in
      let solutions = so.solutions ++ s ∷ [] in
      let count : length so.solutions ≡ k = (let n = so.solved.count in let m = length-take-le k found (omega (arith, h)) in omega (arith, n, m)) in
      record {
        solutions = solutions;
        solved = each_more (λ (q : RunBundle) (t : Solution). IsSolutionOf q.bundle t) found k so.solutions solutions b s so.solved h is more.solved refl;
        put = λ way are.
            let own = subst (λ (q : RunBundle). All (IsRunIn before way) q.runs.items) (sym is) (All-get_or (λ (q : RunBundle). All (IsRunIn before way) q.runs.items) found k b h are.own) in
            subst (λ (rs : List Run). AreEach (IsPutSoFar way found solutions rs) before new) (sym (runs_more found k b h is))
            (more.carries way found solutions k (runs_before found k) before (slice_get-get_or found k b h ∙ ap Some (sym is))
            (subst (λ n. slice_get solutions n ≡ Some s) count (read_last so.solutions s)) good rise own
            (still_put way found so.solutions s (runs_before found k) before now (so.put way are)));
      }

  pub settled_all : (k : ℕ) (now : List PhaseRoute) → length found ≤ k → AreSettledUpTo found k before now → AreSettledIn found before now
  settled_all k now past so = record {
    solutions = so.solutions;
    solved = each_all (λ b s. IsSolutionOf b.bundle s) found k so.solutions so.solved past;
    put = λ way are.
        put_ends way found so.solutions before good rise (runs_before found k) now (so.put way are)
        (λ r is. let has = are.whole r is in subst (λ (rs : List Run). Contains rs r) (sym (runs_all found k past)) (in_all_runs found has.0 r has.1 has.2));
  }
