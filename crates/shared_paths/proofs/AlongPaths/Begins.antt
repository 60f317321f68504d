-- The path from a start is one of the shared paths.
use Rattle.std.proofs.Common.{◌≡◌, ℕ, ◌<◌, ◌^◌, Bool, true, false, List, [], ◌∷◌, length, All, ap, ◌∙◌, subst, arith}
use Rattle.std.proofs.lemmas.List.Concat.{length-flat_map}
use Rattle.std.proofs.lemmas.List.Elements.{All-head, All-tail}
use Rattle.std.proofs.lemmas.List.Sums.{get_or-le-sum_by}
use Rattle.segment_order.specs.declared.run.Run.{Run}
use Rattle.segment_order.specs.Run.{run_at}
use Rattle.shared_paths.specs.declared.path.EdgeRuns.{EdgeRuns}
use Rattle.shared_paths.specs.declared.start.Start.{Start}
use Rattle.shared_paths.specs.Pairs.{Pair, IsPair, GoesOn, next_index, next_pair, outward}
use Rattle.shared_paths.specs.declared.path.SharedPath.{SharedPath}
use Rattle.shared_paths.specs.Paths.{end_at, last_of}
use Rattle.shared_paths.specs.Listed.{AreRoutes, IsPairedPath, no_route, route_at}
use Rattle.shared_paths.specs.Starts.{IsStart, paired_from, pair_of}
use Rattle.shared_paths.specs.Views.{EndsAt, IsSomeRoute}
use Rattle.shared_paths.proofs.AlongPaths.Steps.{alike_back, step_of, turns_there_back}

-- the route at the place is a route
pub some_route : (routes : List EdgeRuns) → AreRoutes routes → (k : ℕ) → k < length routes → IsSomeRoute (route_at routes k).runs
some_route routes are k l = ((route_at routes k).edge, are.each k no_route l)

-- it has few runs
pub few_runs : (routes : List EdgeRuns) → AreRoutes routes → (k : ℕ) → k < length routes → length (route_at routes k).runs < 2 ^ 32
few_runs routes are k l = omega (arith, are.few, length-flat_map (λ (r : EdgeRuns). r.runs) routes, get_or-le-sum_by (λ (r : EdgeRuns). length r.runs) routes k no_route l)

-- a pair to which another goes on ahead goes on back
goes_on_back : (a b : List Run) → IsSomeRoute a → IsSomeRoute b → (p : Pair) → IsPair a b p → GoesOn a b true p → GoesOn a b false (next_pair a b true p)
goes_on_back a b one two p is goes =
    let d = outward a true p in
    let n = next_index a p.a d in
    let i = next_index b p.b d in
    let step = step_of one.0 two.0 a b one.1.runs two.1.runs true p is goes in
    record {
      same = alike_back a b p.a p.b d n i (run_at a n).heading step is.companions.way is.companions.at;
      turns = turns_there_back a b p.a p.b d n i (run_at a n).heading step;
    }

pub is_paired : (routes : List EdgeRuns) (s : Start) (last : Pair) → AreRoutes routes → IsStart routes s →
    (path : EndsAt (route_at routes s.a).runs (route_at routes s.b).runs (pair_of s) last) → IsPairedPath routes (paired_from s path.others)
is_paired routes s last are is path =
    let a = (route_at routes s.a).runs in
    let b = (route_at routes s.b).runs in
    let one = some_route routes are s.a (omega (arith, is.earlier, is.within)) in
    let two = some_route routes are s.b is.within in
    record {
      earlier = is.earlier;
      within = is.within;
      shared = record {
        first_is = is.pair;
        pairs = path.pairs;
        runs_on = path.runs_on;
        begins = λ p pair goes same. is.begins (subst (GoesOn a b false) same (goes_on_back a b one two p pair goes));
      };
    }

-- the last of some pairs is a pair
pub last_is : (a b : List Run) (p : Pair) (ps : List Pair) → IsPair a b p → All (IsPair a b) ps → IsPair a b (last_of p ps)
last_is a b p [] is pairs = is
last_is a b p (q ∷ ps) is pairs = last_is a b q ps (All-head (IsPair a b) q ps pairs) (All-tail (IsPair a b) q ps pairs)

-- the path along two lists of runs that are those of the routes
pub along_routes : (routes : List EdgeRuns) (s : Start) (a b : List Run) (first last : Pair) → a ≡ (route_at routes s.a).runs → b ≡ (route_at routes s.b).runs → first ≡ pair_of s →
    EndsAt a b first last → EndsAt (route_at routes s.a).runs (route_at routes s.b).runs (pair_of s) last
along_routes routes s a b first last one two at path =
    subst (λ (p : Pair). EndsAt (route_at routes s.a).runs (route_at routes s.b).runs p last) at
    (subst (λ (bs : List Run). EndsAt (route_at routes s.a).runs bs first last) two
    (subst (λ (as_ : List Run). EndsAt as_ b first last) one path))

pub same_path : (p q : SharedPath) → p.a ≡ q.a → p.b ≡ q.b → p.first ≡ q.first → p.last ≡ q.last → p.b_first ≡ q.b_first → p.b_last ≡ q.b_last → p.back ≡ q.back → p.ahead ≡ q.ahead → p.side ≡ q.side → p ≡ q
same_path p q a b first last b_first b_last back ahead side =
    λ i. record { a = a i; b = b i; first = first i; last = last i; b_first = b_first i; b_last = b_last i; back = back i; ahead = ahead i; side = side i }

-- the end of the path at a pair of the two routes
pub end_along : (routes : List EdgeRuns) (s : Start) (a b : List Run) (ahead : Bool) (p q : Pair) → a ≡ (route_at routes s.a).runs → b ≡ (route_at routes s.b).runs → p ≡ q →
    end_at a b ahead p ≡ end_at (route_at routes s.a).runs (route_at routes s.b).runs ahead q
end_along routes s a b ahead p q one two at =
    ap (λ (as_ : List Run). end_at as_ b ahead p) one ∙ ap (λ (bs : List Run). end_at (route_at routes s.a).runs bs ahead p) two
    ∙ ap (λ (r : Pair). end_at (route_at routes s.a).runs (route_at routes s.b).runs ahead r) at
