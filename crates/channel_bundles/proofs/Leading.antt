-- Routes that go alike give their runs the same keys, and runs that are the same but for their edges are ordered by these.
use Rattle.std.proofs.Common.{◌≡◌, ℕ, ◌+◌, ◌-◌, ◌<◌, ℤ, Bool, true, false, List, [], ◌∷◌, ◌++◌, map, reverse, take, drop, length, get_or, if◌then◌else◌, refl, sym, ap, ◌∙◌, arith}
use Rattle.std.specs.declared.cmp.Ordering.{Ordering}
use Rattle.std.specs.declared.cmp.Ordering.TheVariants.{Less, Equal, Greater}
use Rattle.std.specs.Ordering.{nat_cmp, ordering_then}
use Rattle.std.specs.Cmp.Lexicographic.{slice_cmp}
use Rattle.std.specs.List.Sorted.{IsSortedBy}
use Rattle.std.specs.Prelude.{All}
use Rattle.std.proofs.lemmas.Cmp.{tied_itself}
use Rattle.std.proofs.lemmas.List.{drop-map, take-map, map-append, reverse-append, get_or-map, length-map, take_more_same}
use Rattle.std.proofs.lemmas.List.Elements.{All-get_or}
use Rattle.std.proofs.lemmas.Option.{slice_get-get_or}
use Rattle.plane_geom.specs.declared.point.Dir.{Dir}
use Rattle.plane_geom.specs.declared.point.Dir.TheVariants.{East, South, West, North}
use Rattle.plane_geom.specs.Along.{rising}
use Rattle.plane_geom.specs.Point.{opposite}
use Rattle.segment_order.specs.declared.side.Side.{Side}
use Rattle.segment_order.specs.declared.run.Run.{Run}
use Rattle.segment_order.specs.Side.{near_side, turn_to}
use Rattle.segment_order.specs.Ray.{entries, entries_after, entry_cmp, is_heading, ray, reach_in, turned_round}
use Rattle.segment_order.specs.Order.{Key, compare_keys, key_of}
use Rattle.segment_order.proofs.OneOrder.{keys_total}
use Rattle.channel_bundles.specs.declared.route.PhaseRoute.{PhaseRoute}
use Rattle.channel_bundles.specs.Leaders.{GoAlike, runs_at, runs_if, without_edge}

reach_same : (d : Dir) (r : Run) → reach_in d (without_edge r) ≡ reach_in d r
reach_same East r = refl
reach_same South r = refl
reach_same West r = refl
reach_same North r = refl

-- a ray does not read the edge of the run that it leaves, nor of those that it follows
ray_same : (route : List Run) (r : Run) (d : Dir) → ray route (without_edge r) d ≡ ray route r d
ray_same route r d =
    ap (λ z. entries (near_side d) d z (if is_heading r.heading d then drop r.place route else map turned_round (reverse (take (r.place - 1) route)))) (reach_same d r)

entries_same : (near : Side) (d : Dir) (z : ℤ) (rs : List Run) → entries near d z (map without_edge rs) ≡ entries near d z rs
entries_same near d z [] = refl
entries_same near d z (r ∷ rs) =
    ap (λ y. entries_after near z (turn_to d r.heading) (entries near r.heading y (map without_edge rs))) (reach_same r.heading r)
    ∙ ap (entries_after near z (turn_to d r.heading)) (entries_same near r.heading (reach_in r.heading r) rs)

entries_alike : (near : Side) (d : Dir) (z : ℤ) (rs ts : List Run) → GoAlike rs ts → entries near d z rs ≡ entries near d z ts
entries_alike near d z rs ts e = sym (entries_same near d z rs) ∙ ap (entries near d z) e ∙ entries_same near d z ts

-- the runs to come, onward and backward
map_reverse : {X Y : Type 0} (f : X → Y) (xs : List X) → map f (reverse xs) ≡ reverse (map f xs)
map_reverse f [] = refl
map_reverse f (x ∷ xs) =
    ap (map f) (reverse-append (x ∷ []) xs) ∙ map-append f (reverse xs) (x ∷ []) ∙ ap (λ ys. ys ++ f x ∷ []) (map_reverse f xs) ∙ sym (reverse-append (f x ∷ []) (map f xs))

turned_same : (rs : List Run) → map without_edge (map turned_round rs) ≡ map turned_round (map without_edge rs)
turned_same [] = refl
turned_same (r ∷ rs) = ap (λ ts. turned_round (without_edge r) ∷ ts) (turned_same rs)

onward_alike : (n : ℕ) (rs ts : List Run) → GoAlike rs ts → GoAlike (drop n rs) (drop n ts)
onward_alike n rs ts e = sym (drop-map without_edge n rs) ∙ ap (drop n) e ∙ drop-map without_edge n ts

abbrev backward : ℕ → List Run → List Run
backward n rs = map turned_round (reverse (take n rs))

backward_same : (n : ℕ) (rs : List Run) → map without_edge (backward n rs) ≡ backward n (map without_edge rs)
backward_same n rs =
    turned_same (reverse (take n rs)) ∙ ap (map turned_round) (map_reverse without_edge (take n rs) ∙ ap reverse (sym (take-map without_edge n rs)))

backward_alike : (n : ℕ) (rs ts : List Run) → GoAlike rs ts → GoAlike (backward n rs) (backward n ts)
backward_alike n rs ts e = backward_same n rs ∙ ap (backward n) e ∙ sym (backward_same n ts)

trail_alike : (b : Bool) (near : Side) (d : Dir) (z : ℤ) (p n : ℕ) (rs ts : List Run) → GoAlike rs ts →
    entries near d z (if b then drop p rs else backward n rs) ≡ entries near d z (if b then drop p ts else backward n ts)
trail_alike true near d z p n rs ts e = entries_alike near d z (drop p rs) (drop p ts) (onward_alike p rs ts e)
trail_alike false near d z p n rs ts e = entries_alike near d z (backward n rs) (backward n ts) (backward_alike n rs ts e)

ray_alike : (rs ts : List Run) (r : Run) (d : Dir) → GoAlike rs ts → ray rs r d ≡ ray ts r d
ray_alike rs ts r d e = trail_alike (is_heading r.heading d) (near_side d) d (reach_in d r) r.place (r.place - 1) rs ts e

pub key_alike : (rs ts : List Run) (r : Run) → GoAlike rs ts → key_of rs r ≡ key_of ts r
key_alike rs ts r e =
    ap (λ f. record (key_of rs r) { first = f }) (ray_alike rs ts r (opposite (rising r.way)) e)
    ∙ ap (λ f. record (key_of ts r) { second = f }) (ray_alike rs ts r (rising r.way) e)

-- where two parts tie, both do
both_tie : (o more : Ordering) → ordering_then o more ≡ Equal → (o ≡ Equal) × (more ≡ Equal)
both_tie Less more e = cc
both_tie Equal more e = (refl, e)
both_tie Greater more e = cc

then_tie : (o : Ordering) → ordering_then o Equal ≡ o
then_tie Less = refl
then_tie Equal = refl
then_tie Greater = refl

-- two keys that differ in the edge alone
abbrev with_edge : Key → ℕ → Key
with_edge k m = record k { edge = m }

by_edges : (k : Key) (m n : ℕ) → compare_keys (with_edge k m) (with_edge k n) ≡ nat_cmp m n
by_edges k m n =
    let at = both_tie _ _ (tied_itself keys_total k) in
    let first = both_tie _ _ at.1 in
    let second = both_tie _ _ first.1 in
    let last = both_tie _ _ second.1 in
    let edges : Ordering = ordering_then (nat_cmp m n) (nat_cmp k.place k.place) in
    ap (λ o. ordering_then o (ordering_then (slice_cmp entry_cmp k.first k.first) (ordering_then (slice_cmp entry_cmp k.second k.second) edges))) at.0
    ∙ ap (λ o. ordering_then o (ordering_then (slice_cmp entry_cmp k.second k.second) edges)) first.0
    ∙ ap (λ o. ordering_then o edges) second.0
    ∙ ap (ordering_then (nat_cmp m n)) last.1 ∙ then_tie (nat_cmp m n)

key_same : (route : List Run) (r : Run) → key_of route r ≡ with_edge (key_of route (without_edge r)) r.edge
key_same route r =
    sym (ap (λ f. record (key_of route (without_edge r)) { first = f; edge = r.edge }) (ray_same route r (opposite (rising r.way)))
    ∙ ap (λ f. record (key_of route r) { second = f }) (ray_same route r (rising r.way)))

pub by_edge : (route : List Run) (a b : Run) → without_edge a ≡ without_edge b → compare_keys (key_of route a) (key_of route b) ≡ nat_cmp a.edge b.edge
by_edge route a b e =
    ap (λ k. compare_keys k (key_of route b)) (key_same route a ∙ ap (λ r. with_edge (key_of route r) a.edge) e)
    ∙ ap (compare_keys (with_edge (key_of route (without_edge b)) a.edge)) (key_same route b)
    ∙ by_edges (key_of route (without_edge b)) a.edge b.edge

-- a list that is sorted by one test is sorted by another that agrees on its elements
pub sorted_alike : {X : Type 0} (P : X → Type 0) (lt other : X → X → Bool) (xs : List X) → All P xs → ((x y : X) → P x → P y → lt x y ≡ other x y) → IsSortedBy lt xs → IsSortedBy other xs
sorted_alike P lt other xs all same sorted k d low h =
    sym (same _ _ (All-get_or P xs (k + 1) d h all) (All-get_or P xs k d (omega (arith, h)) all)) ∙ sorted k d low h

-- lists of runs that are the same so far, and at the next index
pub more_alike : (a b : List Run) (k : ℕ) (d : Run) → length a ≡ length b → k < length a → take k (map without_edge a) ≡ take k (map without_edge b) → without_edge (get_or a k d) ≡ without_edge (get_or b k d) →
    take (k + 1) (map without_edge a) ≡ take (k + 1) (map without_edge b)
more_alike a b k d len h so e =
    take_more_same (map without_edge a) (map without_edge b) k (without_edge d) (omega (arith, h, length-map {B = Run} a without_edge)) (omega (arith, h, len, length-map {B = Run} b without_edge)) so
    (get_or-map without_edge a k d (without_edge d) h ∙ e ∙ sym (get_or-map without_edge b k d (without_edge d) (omega (arith, h, len))))

-- the runs of the route at the index
pub runs_are : (routes : List PhaseRoute) (at : ℕ) (route : PhaseRoute) → at < length routes → route ≡ get_or routes at route → runs_at routes at ≡ route.runs.items
runs_are routes at route h e = ap runs_if (slice_get-get_or routes at route h) ∙ ap (λ (r : PhaseRoute). r.runs.items) (sym e)
