-- The runs of the way, one after another, and in their order.
use Rattle.std.proofs.Common.{◌≡◌, ◌↔◌, ℕ, suc, zero, ◌+◌, ◌-◌, ◌<◌, ◌≤◌, ℤ, ◌≤ℤ◌, ◌<ℤ◌, Bool, true, false, List, [], ◌∷◌, ◌++◌, map, length, get_or, take, cond, if◌then◌else◌, add-one, refl, sym, ap, subst, ◌∙◌, arith, append_assoc, true≢false}
use Rattle.std.specs.Prelude.{All, int_lt, IsTrue}
use Rattle.std.specs.List.Sorted.{IsSortedBy, IsSortedByKey}
use Rattle.std.specs.Ordering.{int_cmp, nat_cmp, ordering_then, is_lt}
use Rattle.std.specs.declared.cmp.Ordering.TheVariants.{Less, Equal, Greater}
use Rattle.std.specs.Cmp.Lexicographic.{slice_cmp}
use Rattle.std.proofs.lemmas.Int.{ints, by_lt_z}
use Rattle.std.proofs.lemmas.List.{get_or-map, length-map, map_push, take_more, append-nil}
use Rattle.std.proofs.lemmas.List.Elements.{All-push}
use Rattle.plane_geom.specs.declared.point.Way.{Way}
use Rattle.plane_geom.specs.declared.point.Way.TheVariants.{Vertical, Horizontal}
use Rattle.plane_geom.specs.declared.rect.Solid.{Solid}
use Rattle.segment_order.specs.declared.run.Run.{Run}
use Rattle.segment_order.specs.Run.{no_run, run_at}
use Rattle.segment_order.specs.Ray.{entry_cmp}
use Rattle.segment_order.specs.Order.{Key, compare_keys, key_of}
use Rattle.channel_bundles.specs.declared.route.PhaseRoute.{PhaseRoute}
use Rattle.channel_bundles.specs.declared.member.Member.{Member}
use Rattle.channel_bundles.specs.declared.channel.Placed.{Placed}
use Rattle.channel_bundles.specs.Route.{IsFixed, IsPhaseRoute, is_way, of_way, runs_of_way}
use Rattle.channel_bundles.specs.Limits.{HasLimits}
use Rattle.channel_bundles.specs.Links.{member_at, no_member}
use Rattle.channel_bundles.specs.Bundles.{Standing, IsStanding, members_of}
use Rattle.channel_bundles.specs.Placed.{AreRising, IsPlaced, pairs_of, standing_of, standings_of}
use Rattle.channel_bundles.proofs.Trees.{cases_below}

-- a way is itself, and not the other one
own_way : (way : Way) → is_way way way ≡ true
own_way Vertical = refl
own_way Horizontal = refl

pub is_own : (a way : Way) → a ≡ way → is_way a way ≡ true
is_own a way e = subst (λ w. is_way w way ≡ true) (sym e) (own_way way)

pub is_other : (a way : Way) → (a ≡ way → ⊥) → is_way a way ≡ false
is_other Vertical Vertical ne = absurd (ne refl)
is_other Vertical Horizontal ne = refl
is_other Horizontal Vertical ne = refl
is_other Horizontal Horizontal ne = absurd (ne refl)

way_by : (b : Bool) (r : Run) (all xs ys : List Run) → all ≡ xs ++ ys → (if b then r ∷ all else all) ≡ (if b then r ∷ xs else xs) ++ ys
way_by true r all xs ys e = ap (λ rs. r ∷ rs) e
way_by false r all xs ys e = e

of_way-append : (way : Way) (xs ys : List Run) → of_way way (xs ++ ys) ≡ of_way way xs ++ of_way way ys
of_way-append way [] ys = refl
of_way-append way (r ∷ rs) ys = way_by (is_way r.way way) r (of_way way (rs ++ ys)) (of_way way rs) (of_way way ys) (of_way-append way rs ys)

-- the runs of the way among one more run
more_runs : (way : Way) (runs : List Run) (k : ℕ) → k < length runs → of_way way (take (k + 1) runs) ≡ of_way way (take k runs) ++ of_way way (run_at runs k ∷ [])
more_runs way runs k h = ap (of_way way) (take_more runs k no_run h) ∙ of_way-append way (take k runs) (run_at runs k ∷ [])

pub one_more : (route : PhaseRoute) (way : Way) (runs : List Run) (k : ℕ) (pairs made before : List (PhaseRoute × Run)) (r : Run) → k < length runs → r ≡ run_at runs k → r.way ≡ way →
    pairs ≡ before ++ map (λ (s : Run). (route, s)) (of_way way (take k runs)) → made ≡ pairs ++ (route, r) ∷ [] →
    made ≡ before ++ map (λ (s : Run). (route, s)) (of_way way (take (k + 1) runs))
one_more route way runs k pairs made before r h e own so is_made =
    let f : Run → PhaseRoute × Run = λ s. (route, s) in
    let old = of_way way (take k runs) in
    let here : of_way way (run_at runs k ∷ []) ≡ r ∷ [] = ap (λ s. of_way way (s ∷ [])) (sym e) ∙ ap (λ b. if b then r ∷ [] else []) (is_own r.way way own) in
    is_made ∙ ap (λ xs. xs ++ (route, r) ∷ []) so ∙ append_assoc before (map f old) ((route, r) ∷ [])
    ∙ ap (λ xs. before ++ xs) (sym (map_push f old r) ∙ ap (map f) (ap (λ xs. old ++ xs) (sym here) ∙ sym (more_runs way runs k h)))

pub none_more : (route : PhaseRoute) (way : Way) (runs : List Run) (k : ℕ) (pairs before : List (PhaseRoute × Run)) (r : Run) → k < length runs → r ≡ run_at runs k → (r.way ≡ way → ⊥) →
    pairs ≡ before ++ map (λ (s : Run). (route, s)) (of_way way (take k runs)) → pairs ≡ before ++ map (λ (s : Run). (route, s)) (of_way way (take (k + 1) runs))
none_more route way runs k pairs before r h e other so =
    let f : Run → PhaseRoute × Run = λ s. (route, s) in
    let old = of_way way (take k runs) in
    let here : of_way way (run_at runs k ∷ []) ≡ [] = ap (λ s. of_way way (s ∷ [])) (sym e) ∙ ap (λ b. if b then r ∷ [] else []) (is_other r.way way other) in
    so ∙ ap (λ xs. before ++ map f xs) (sym (append-nil old) ∙ ap (λ xs. old ++ xs) (sym here) ∙ sym (more_runs way runs k h))

runs_of_way-append : (way : Way) (xs ys : List PhaseRoute) → runs_of_way way (xs ++ ys) ≡ runs_of_way way xs ++ runs_of_way way ys
runs_of_way-append way [] ys = refl
runs_of_way-append way (route ∷ routes) ys =
    let first = map (λ (r : Run). (route, r)) (of_way way route.runs.items) in
    ap (λ xs. first ++ xs) (runs_of_way-append way routes ys) ∙ sym (append_assoc first (runs_of_way way routes) (runs_of_way way ys))

-- the runs of one route more
pub more_routes : (way : Way) (routes : List PhaseRoute) (i : ℕ) (route : PhaseRoute) (pairs made : List (PhaseRoute × Run)) → i < length routes → route ≡ get_or routes i route → pairs ≡ runs_of_way way (take i routes) →
    made ≡ pairs ++ map (λ (r : Run). (route, r)) (of_way way route.runs.items) → made ≡ runs_of_way way (take (i + 1) routes)
more_routes way routes i route pairs made h e so is_made =
    let own = map (λ (r : Run). (route, r)) (of_way way route.runs.items) in
    is_made ∙ ap (λ xs. xs ++ own) so ∙ ap (λ xs. runs_of_way way (take i routes) ++ xs) (sym (append-nil own)) ∙ sym (runs_of_way-append way (take i routes) (route ∷ []))
    ∙ ap (runs_of_way way) (ap (λ r. take i routes ++ r ∷ []) e ∙ sym (take_more routes i route h))

-- what the function says of the run is what is known of the run in its place
pub is_placed : (solids : List Solid) (route : PhaseRoute) (k : ℕ) (m : Member) → IsPhaseRoute route → k < length route.runs.items → m.run ≡ run_at route.runs.items k → (IsTrue m.fixed ↔ IsFixed route k) →
    HasLimits solids route k m.low m.high → m.weight ≡ route.weight → IsStanding solids (record { route = route; member = m })
is_placed solids route k m good h own fixed limits weight =
    let place : m.run.place - 1 ≡ k = omega (arith, ap (λ (r : Run). r.place) own, good.runs.places k h) in
    record {
      fixed = subst (λ n. IsTrue m.fixed ↔ IsFixed route n) (sym place) fixed;
      limits = subst (λ n. HasLimits solids route n m.low m.high) (sym place) limits;
      weight = weight;
    }

pub map_map : {X Y Z : Type 0} (g : Y → Z) (f : X → Y) (xs : List X) → map g (map f xs) ≡ map (λ x. g (f x)) xs
map_map g f [] = refl
map_map g f (x ∷ xs) = ap (λ ys. g (f x) ∷ ys) (map_map g f xs)

-- a list is sorted by what its elements are mapped to
pub sorted_map : {X Y : Type 0} (f : X → Y) (lt : Y → Y → Bool) (xs : List X) → IsSortedBy (λ a b. lt (f a) (f b)) xs → IsSortedBy lt (map f xs)
sorted_map f lt [] sorted k d low h = absurd (omega arith)
sorted_map {X} {Y} f lt (x ∷ xs) sorted k d low h =
    let all = x ∷ xs in
    let count : length (map f all) ≡ length all = length-map {B = Y} all f in
    let next = get_or-map f all (k + 1) x d (omega (arith, h, count)) in
    let one = get_or-map f all k x d (omega (arith, h, count)) in
    ap (λ b. lt b (get_or (map f all) k d)) next ∙ ap (λ a. lt (f (get_or all (k + 1) x)) a) one ∙ sorted k x low (omega (arith, h, count))

-- along the order of the runs their coordinates do not fall
less : (x y : ℤ) → x <ℤ y → int_lt x y ≡ true
less x y h = grind (arith, ints)

less_cmp : (x y : ℤ) → x <ℤ y → int_cmp x y ≡ Less
less_cmp x y h = ap (λ b. cond b Less (cond (int_lt y x) Greater Equal)) (less x y h)

first_decides : (a b : Key) → a.at <ℤ b.at → is_lt (compare_keys a b) ≡ true
first_decides a b h =
    ap (λ o. is_lt (ordering_then o (ordering_then (slice_cmp entry_cmp a.first b.first) (ordering_then (slice_cmp entry_cmp a.second b.second) (ordering_then (nat_cmp a.edge b.edge) (nat_cmp a.place b.place))))))
    (less_cmp a.at b.at h)

next_rises : (all : List Standing) → IsSortedByKey (λ (s : Standing). key_of s.route.runs.items s.member.run) compare_keys all → (k : ℕ) (d : Standing) → k + 1 < length all →
    (get_or all k d).member.run.at ≤ℤ (get_or all (k + 1) d).member.run.at
next_rises all sorted k d h =
    let one = get_or all k d in
    let next = get_or all (k + 1) d in
    by_lt_z next.member.run.at one.member.run.at
    (λ falls. absurd (true≢false (sym (first_decides (key_of next.route.runs.items next.member.run) (key_of one.route.runs.items one.member.run) falls) ∙ sorted k d (omega arith) h)))
    (λ rises. rises)

pub at_rises : (all : List Standing) → IsSortedByKey (λ (s : Standing). key_of s.route.runs.items s.member.run) compare_keys all → (i j : ℕ) (d : Standing) → i ≤ j → j < length all →
    (get_or all i d).member.run.at ≤ℤ (get_or all j d).member.run.at
at_rises all sorted i zero d h g = let same : i ≡ 0 = omega arith in subst (λ k. (get_or all i d).member.run.at ≤ℤ (get_or all k d).member.run.at) same (omega (arith, ints))
at_rises all sorted i (suc j) d h g = cases_below j i
    (λ last. let same : i ≡ suc j = omega arith in subst (λ k. (get_or all i d).member.run.at ≤ℤ (get_or all k d).member.run.at) same (omega (arith, ints)))
    (λ earlier. let one = at_rises all sorted i j d earlier (omega arith) in
    let two = subst (λ k. (get_or all j d).member.run.at ≤ℤ (get_or all k d).member.run.at) (add-one j) (next_rises all sorted j d (omega arith)) in
    omega (arith, ints, one, two))

pub are_rising : (all : List Standing) → IsSortedByKey (λ (s : Standing). key_of s.route.runs.items s.member.run) compare_keys all → AreRising (members_of all)
are_rising [] sorted = record { rise = λ i j before h. absurd (omega arith) }
are_rising (s ∷ rest) sorted =
    let all = s ∷ rest in
    let count : length (members_of all) ≡ length all = length-map {B = Member} all (λ t. t.member) in
    record {
      rise = λ i j before h.
          let at : (k : ℕ) → k < length all → member_at (members_of all) k ≡ (get_or all k s).member = λ k g. get_or-map (λ (t : Standing). t.member) all k s no_member g in
          subst (λ (m : Member). m.run.at ≤ℤ (member_at (members_of all) j).run.at) (sym (at i (omega (arith, h, count))))
          (subst (λ (m : Member). (get_or all i s).member.run.at ≤ℤ m.run.at) (sym (at j (omega (arith, h, count))))
          (at_rises all sorted i j s before (omega (arith, h, count))));
    }

-- a run more in the list
pub added : (solids : List Solid) (routes : List PhaseRoute) (old made : List Placed) (p : Placed) → All (IsPlaced solids routes) old → IsPlaced solids routes p → made ≡ old ++ p ∷ [] → All (IsPlaced solids routes) made
added solids routes old made p all one e = subst (All (IsPlaced solids routes)) (sym e) (All-push (IsPlaced solids routes) old p all one)

pub paired : (old made : List Placed) (p : Placed) → made ≡ old ++ p ∷ [] → pairs_of made ≡ pairs_of old ++ (p.route.now, p.member.run) ∷ []
paired old made p e =
    ap pairs_of e ∙ ap (λ xs. map (λ (s : Standing). (s.route, s.member.run)) xs) (map_push standing_of old p)
    ∙ map_push (λ (s : Standing). (s.route, s.member.run)) (standings_of old) (standing_of p)
