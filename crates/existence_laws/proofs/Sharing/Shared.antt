-- From each start a path leads as far as both routes go on, since it goes forward along the first of them.
use Rattle.std.proofs.Common.{ℕ, zero, suc, ◌+◌, ◌≤◌, true, List, [], ◌∷◌, length, refl, arith}
use Rattle.std.proofs.lemmas.List.Elements.{All-cons, All-nil, recursion_from_All}
use Rattle.segment_order.specs.declared.run.Run.{Run}
use Rattle.scene_model.proofs.Editing.Entries.{each_weaker}
use Rattle.shared_paths.specs.declared.path.EdgeRuns.{EdgeRuns}
use Rattle.shared_paths.specs.declared.path.SharedPath.{SharedPath}
use Rattle.shared_paths.specs.Pairs.{GoesOn, IsPair, Pair, next_pair}
use Rattle.shared_paths.specs.Listed.{AreRoutes, path_of, route_at}
use Rattle.shared_paths.specs.Starts.{IsPathFrom, IsStart, paired_from, pair_of}
use Rattle.shared_paths.specs.Views.{EndsAt, IsSomeRoute}
use Rattle.shared_paths.proofs.AlongPaths.Ahead.{goes_ahead, one_more}
use Rattle.shared_paths.proofs.AlongPaths.Begins.{is_paired, some_route}
use Rattle.shared_paths.proofs.AllPaths.Gathered.{are_shared_paths}
use Rattle.existence_laws.specs.Paths.{HaveSharedPaths}
use Rattle.existence_laws.proofs.Answering.Answered.{partners}
use Rattle.existence_laws.proofs.Sharing.Starts.{Start, all_starts, each_start, goes_decided, starts, starts_sorted}

module _ (a b : List Run) (one : IsSomeRoute a) (two : IsSomeRoute b) where
  on_or_ends : (p : Pair) → IsPair a b p → Dec (GoesOn a b true p) → (IsPair a b (next_pair a b true p) → (last : Pair) × EndsAt a b (next_pair a b true p) last) → (last : Pair) × EndsAt a b p last
  on_or_ends p is (yes goes) on =
      let next = next_pair a b true p in
      let is_next = goes_ahead a b one two p is goes in
      let path = on is_next in
      (path.0, record { others = next ∷ path.1.others; pairs = All-cons (IsPair a b) next path.1.others is_next path.1.pairs; runs_on = (goes, refl, path.1.runs_on); is_last = path.1.is_last })
  on_or_ends p is (no stop) on = (p, record { others = []; pairs = All-nil (IsPair a b); runs_on = stop; is_last = refl })

  -- the path ahead from a pair; so many runs of the first route are left
  ahead_from : (left : ℕ) (p : Pair) → length a ≤ p.a + left → IsPair a b p → (last : Pair) × EndsAt a b p last
  ahead_from zero p few is = absurd (omega (arith, few, is.of_a))
  ahead_from (suc left) p few is = on_or_ends p is (goes_decided a b true p) (ahead_from left (next_pair a b true p) (omega (arith, few, one_more a b p)))

path_from : (routes : List EdgeRuns) → AreRoutes routes → (s : Start) → IsStart routes s → (path : SharedPath) × IsPathFrom routes s path
path_from routes are s is =
    let a = (route_at routes s.a).runs in
    let b = (route_at routes s.b).runs in
    let one = some_route routes are s.a (omega (arith, is.earlier, is.within)) in
    let two = some_route routes are s.b is.within in
    let path = ahead_from a b one two (length a) (pair_of s) (omega arith) is.pair in
    (path_of routes (paired_from s path.1.others), record { others = path.1.others; paired = is_paired routes s path.0 are is path.1; is = refl })

pub some_shared_paths : HaveSharedPaths
some_shared_paths routes are =
    let paths = partners (IsPathFrom routes) (starts routes)
    (each_weaker (IsStart routes) (λ s. (path : SharedPath) × IsPathFrom routes s path) (path_from routes are) (starts routes) (recursion_from_All (IsStart routes) (starts routes) (each_start routes))) in
    (paths.0, are_shared_paths routes are (starts routes) paths.0 (starts_sorted routes) (all_starts routes) paths.1)
