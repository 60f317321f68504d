-- One run after another is put where the solutions have it.
use Rattle.std.proofs.Common.{◌≡◌, ◌≢◌, ℕ, suc, zero, ◌+◌, ◌-◌, ◌<◌, ◌≤◌, ℤ, Some, List, [], ◌∷◌, ◌++◌, length, take, get_or, set, inl, inr, refl, sym, ap, subst, subst₂, ◌∙◌, arith, append_assoc}
use Rattle.std.specs.Prelude.{slice_get, slice_index, flat_map, All, Contains}
use Rattle.std.specs.List.Sorted.{IsNonDecreasingBy, IsPartitionPoint}
use Rattle.std.specs.Ordering.{nat_cmp, ordering_index}
use Rattle.std.specs.declared.cmp.Ordering.TheVariants.{Less, Equal, Greater}
use Rattle.std.proofs.lemmas.Cmp.{by_ranked, nat_cmp_total, ranked, tied_itself}
use Rattle.std.proofs.lemmas.List.{length-set, get_or-set_same, get_or-set_other, append-nil, take_all, take_more}
use Rattle.std.proofs.lemmas.List.Concat.{flat_map-append}
use Rattle.std.proofs.lemmas.List.Elements.{Contains-append_left, Contains-append_right, Contains-push_cases}
use Rattle.std.proofs.lemmas.Option.{get_or_from_slice_get, slice_get_within, slice_get-get_or, same_Some}
use Rattle.plane_geom.specs.declared.point.Way.{Way}
use Rattle.segment_order.specs.declared.run.Run.{Run}
use Rattle.segment_order.specs.Run.{run_at, no_run}
use Rattle.separation_model.specs.declared.bundle.Solution.{Solution}
use Rattle.separation_model.specs.Bundle.{int_at}
use Rattle.separation_model.specs.Rounded.{IsRoundedDown}
use Rattle.channel_bundles.specs.declared.route.PhaseRoute.{PhaseRoute}
use Rattle.channel_bundles.specs.declared.channel.RunBundle.{RunBundle}
use Rattle.channel_bundles.specs.Route.{IsPhaseRoute}
use Rattle.channel_bundles.proofs.Trees.{cases_below, cases_same}
use Rattle.nudge_phases.specs.Moved.{IsPutAt}
use Rattle.nudge_phases.specs.Rising.{EdgesRise}
use Rattle.nudge_phases.specs.Steps.{AreEach, CarriesOn, HasPlaceOf, IsPut, IsPutIfOwn, IsPutSoFar, IsPutTo, IsRunIn, IsSameButRuns}
use Rattle.nudge_phases.proofs.RouteRuns.{all_read, one_place, one_route, run_edge, run_is, run_place, some_read}

abbrev at_z : Run → ℤ → Run
at_z r z = record r { at = z }

same_runs : (r : PhaseRoute) → IsSameButRuns r r
same_runs r = record { edge = refl; weight = refl; anchors = refl }

same_on : (a b c : PhaseRoute) → IsSameButRuns a b → IsSameButRuns b c → IsSameButRuns a c
same_on a b c h k = record { edge = k.edge ∙ h.edge; weight = k.weight ∙ h.weight; anchors = k.anchors ∙ h.anchors }

-- how a route with one run at another place differs
record IsAtOne (k : ℕ) (z : ℤ) (before after : PhaseRoute) : Type 0 where
  count : length after.runs.items ≡ length before.runs.items
  own : k < length before.runs.items → run_at after.runs.items k ≡ at_z (run_at before.runs.items k) z
  others : (j : ℕ) → j ≢ k → run_at after.runs.items j ≡ run_at before.runs.items j

at_one : (k : ℕ) (z : ℤ) (before after : PhaseRoute) → IsPutTo k z before after → IsAtOne k z before after
at_one k z before after put =
    let runs = before.runs.items in
    let moved = at_z (run_at runs k) z in
    record {
      count = ap length put.runs ∙ length-set runs k moved;
      own = λ h. ap (λ xs. run_at xs k) put.runs ∙ get_or-set_same runs k moved no_run h;
      others = λ j ne. ap (λ xs. run_at xs j) put.runs ∙ get_or-set_other runs k j moved no_run ne;
    }

in_nothing : (r : Run) → Contains [] r → ⊥
in_nothing r (k, h, e) = omega arith

module _ (way : Way) (found : List RunBundle) (solutions : List Solution) (before : List PhaseRoute) (good : All IsPhaseRoute before) (rise : EdgesRise before) where
  abbrev so_far : List Run → List PhaseRoute → Type 0
  so_far done now = AreEach (IsPutSoFar way found solutions done) before now

  none_yet : (r : PhaseRoute) → IsPutSoFar way found solutions [] r r
  none_yet r = record {
    same = same_runs r;
    count = refl;
    runs = λ k h. refl;
    own = λ k h c. absurd (in_nothing _ c);
    others = λ k h ne. refl;
  }

  pub put_begins : so_far [] before
  put_begins = record {
    count = refl;
    each = λ k r s at_r at_s. subst (IsPutSoFar way found solutions [] r) (same_Some r s (sym at_r ∙ at_s)) (none_yet r);
  }

  -- a run of another edge is put: the route stays
  put_elsewhere : (k : ℕ) (s t u : PhaseRoute) (done : List Run) (r : Run) → slice_get before k ≡ Some s → IsPutSoFar way found solutions done s t → t.edge ≢ r.edge → u ≡ t → IsPutSoFar way found solutions (done ++ r ∷ []) s u
  put_elsewhere k s t u done r at_s so ne e = subst (IsPutSoFar way found solutions (done ++ r ∷ []) s) (sym e) (record {
    same = so.same;
    count = so.count;
    runs = so.runs;
    own = λ j h c. elim (Contains-push_cases done r (run_at s.runs.items j) c) as (λ _. IsPutAt found solutions (run_at s.runs.items j) (run_at t.runs.items j).at) [
      | inl old ↦ so.own j h old
      | inr is ↦ absurd (ne (so.same.edge ∙ sym (run_edge before k j s good at_s h) ∙ ap (λ (q : Run). q.edge) (sym is)))
    ];
    others = so.others;
  })

  -- a run of this edge is put: it stands at the coordinate
  put_here : (k : ℕ) (s t u : PhaseRoute) (done : List Run) (r : Run) (z : ℤ) → slice_get before k ≡ Some s → IsPutSoFar way found solutions done s t → (is : IsRunIn before way r) → IsPutAt found solutions r z →
      t.edge ≡ r.edge → IsPutTo (r.place - 1) z t u → IsPutSoFar way found solutions (done ++ r ∷ []) s u
  put_here k s t u done r z at_s so is at edge put =
      let i = is.index in
      let own_route = is.route in
      let in_own = slice_get_within own_route.runs.items i r is.here in
      let own_edge : r.edge ≡ own_route.edge = ap (λ (q : Run). q.edge) (sym (run_is own_route.runs.items i r is.here)) ∙ run_edge before is.place i own_route good is.of_route in_own in
      let same_route : s ≡ own_route = one_route before k is.place s own_route rise at_s is.of_route (sym so.same.edge ∙ edge ∙ own_edge) in
      let here : slice_get s.runs.items i ≡ Some r = subst (λ (q : PhaseRoute). slice_get q.runs.items i ≡ Some r) (sym same_route) is.here in
      let in_s : i < length s.runs.items = slice_get_within s.runs.items i r here in
      let r_is : run_at s.runs.items i ≡ r = run_is s.runs.items i r here in
      let place : r.place - 1 ≡ i = omega (arith, run_place before k i s r good at_s here) in
      let one : IsAtOne i z t u = subst (λ n. IsAtOne n z t u) place (at_one (r.place - 1) z t u put) in
      let in_t : i < length t.runs.items = omega (arith, in_s, so.count) in
      let moved : run_at u.runs.items i ≡ at_z (run_at t.runs.items i) z = one.own in_t in
      let at_there : (run_at u.runs.items i).at ≡ z = ap (λ (q : Run). q.at) moved in
      let was : at_z (run_at t.runs.items i) z ≡ at_z (run_at s.runs.items i) z = ap (λ q. at_z q z) (so.runs i in_s) in
      let put_there : IsPutAt found solutions (run_at s.runs.items i) (run_at u.runs.items i).at =
      subst (λ y. IsPutAt found solutions (run_at s.runs.items i) y) (sym at_there) (subst (λ q. IsPutAt found solutions q z) (sym r_is) at) in
      record {
        same = same_on s t u so.same put.same;
        count = one.count ∙ so.count;
        runs = λ j h. cases_same {P = run_at u.runs.items j ≡ at_z (run_at s.runs.items j) (run_at u.runs.items j).at} j i
            (λ e. subst (λ n. run_at u.runs.items n ≡ at_z (run_at s.runs.items n) (run_at u.runs.items n).at) (sym e)
            (moved ∙ was ∙ ap (at_z (run_at s.runs.items i)) (sym at_there)))
            (λ ne. one.others j ne ∙ so.runs j h ∙ ap (at_z (run_at s.runs.items j)) (ap (λ (q : Run). q.at) (sym (one.others j ne))));
        own = λ j h c. cases_same {P = IsPutAt found solutions (run_at s.runs.items j) (run_at u.runs.items j).at} j i
            (λ e. subst (λ n. IsPutAt found solutions (run_at s.runs.items n) (run_at u.runs.items n).at) (sym e) put_there)
            (λ ne. elim (Contains-push_cases done r (run_at s.runs.items j) c) as (λ _. IsPutAt found solutions (run_at s.runs.items j) (run_at u.runs.items j).at) [
              | inl old ↦ subst (λ (q : Run). IsPutAt found solutions (run_at s.runs.items j) q.at) (sym (one.others j ne)) (so.own j h old)
              | inr same ↦ (let p = ap (λ (q : Run). q.place) same in let q = (all_read IsPhaseRoute before k s good at_s).runs.places j h in let n = run_place before k i s r good at_s here in absurd (ne (omega (arith, p, q, n))))
            ]);
        others = λ j h ne_way. cases_same {P = (run_at u.runs.items j).at ≡ (run_at s.runs.items j).at} j i
            (λ e. absurd (ne_way (ap (λ n. (run_at s.runs.items n).way) e ∙ ap (λ (q : Run). q.way) r_is ∙ is.is_way)))
            (λ ne. ap (λ (q : Run). q.at) (one.others j ne) ∙ so.others j h ne_way);
      }

  pub put_more : (done : List Run) (now new : List PhaseRoute) (r : Run) (z : ℤ) → so_far done now → IsRunIn before way r → IsPutAt found solutions r z → AreEach (IsPutIfOwn r z) now new → so_far (done ++ r ∷ []) new
  put_more done now new r z so is at puts = record {
    count = puts.count ∙ so.count;
    each = λ k s u at_s at_u.
        let in_s = slice_get_within before k s at_s in
        let t = some_read now k (omega (arith, in_s, so.count)) in
        let so_k = so.each k s t.0 at_s t.1 in
        let put = puts.each k t.0 u t.1 at_u in
        cases_same {P = IsPutSoFar way found solutions (done ++ r ∷ []) s u} t.0.edge r.edge
        (λ e. put_here k s t.0 u done r z at_s so_k is at e (put.own e))
        (λ ne. put_elsewhere k s t.0 u done r at_s so_k ne (put.others ne));
  }

  -- with all runs of the way the routes are put
  pub put_ends : (done : List Run) (new : List PhaseRoute) → so_far done new → ((r : Run) → IsRunIn before way r → Contains done r) → AreEach (IsPut way found solutions) before new
  put_ends done new so all = record {
    count = so.count;
    each = λ k s u at_s at_u.
        let one = so.each k s u at_s at_u in
        record {
          same = one.same;
          count = one.count;
          runs = one.runs;
          own = λ j h e. one.own j h (let r = some_read s.runs.items j h in let same = run_is s.runs.items j r.0 r.1 in
              all (run_at s.runs.items j) (record { place = k; index = j; route = s; of_route = at_s; here = r.1 ∙ ap Some (sym same); is_way = e }));
          others = one.others;
        };
  }

  -- while runs are put, the routes keep their edges and how many runs they have
  pub put_same : (done : List Run) (now : List PhaseRoute) → so_far done now → AreEach IsSameButRuns before now
  put_same done now so = record { count = so.count; each = λ k r s at_r at_s. (so.each k r s at_r at_s).same }

-- the place of a run stays when another is put
pub still_there : (r t : Run) (z : ℤ) (now new : List PhaseRoute) → AreEach (IsPutIfOwn r z) now new → HasPlaceOf now t → HasPlaceOf new t
still_there r t z now new puts is =
    let u = some_read new is.index (omega (arith, slice_get_within now is.index is.route is.of_route, puts.count)) in
    let put = puts.each is.index is.route u.0 is.of_route u.1 in
    cases_same {P = HasPlaceOf new t} is.route.edge r.edge
    (λ e. let p = put.own e in record {
      index = is.index;
      route = u.0;
      of_route = u.1;
      edge = p.same.edge ∙ is.edge;
      low = is.low;
      high = omega (arith, is.high, (at_one (r.place - 1) z is.route u.0 p).count);
    })
    (λ ne. let same = put.others ne in record {
      index = is.index;
      route = is.route;
      of_route = u.1 ∙ ap Some same;
      edge = is.edge;
      low = is.low;
      high = is.high;
    })

pub puts_same : (r : Run) (z : ℤ) (now new : List PhaseRoute) → AreEach (IsPutIfOwn r z) now new → AreEach IsSameButRuns now new
puts_same r z now new puts = record {
  count = puts.count;
  each = λ k s u at_s at_u. let put = puts.each k s u at_s at_u in
      cases_same {P = IsSameButRuns s u} s.edge r.edge (λ e. (put.own e).same) (λ ne. subst (IsSameButRuns s) (sym (put.others ne)) (same_runs s));
}

pub carries_none : (b : RunBundle) (solution : Solution) (old : List PhaseRoute) → CarriesOn b solution [] old old
carries_none b solution old way found solutions place done before at_b at_s good rise own so = subst (λ ds. AreEach (IsPutSoFar way found solutions ds) before old) (sym (append-nil done)) so

pub carries_more : (b : RunBundle) (solution : Solution) (old now new : List PhaseRoute) (i : ℕ) (r : Run) (z : ℤ) → i < length b.runs.items → r ≡ run_at b.runs.items i →
    IsRoundedDown (int_at solution.pos.items i) (slice_index solution.den.items i) z → CarriesOn b solution (take i b.runs.items) old now → AreEach (IsPutIfOwn r z) now new → CarriesOn b solution (take (i + 1) b.runs.items) old new
carries_more b solution old now new i r z h is down carries puts way found solutions place done before at_b at_s good rise own so =
    let runs = b.runs.items in
    let here : slice_get runs i ≡ Some r = slice_get-get_or runs i no_run h ∙ ap Some (sym is) in
    let next = put_more way found solutions before good rise (done ++ take i runs) now new r z (carries way found solutions place done before at_b at_s good rise own so)
    (all_read (IsRunIn before way) runs i r own here)
    (record { place = place; item = i; bundle = b; solution = solution; of_bundle = at_b; of_solution = at_s; here = here; down = down }) puts in
    let e : (done ++ take i runs) ++ r ∷ [] ≡ done ++ take (i + 1) runs = append_assoc done (take i runs) (r ∷ []) ∙ ap (λ q. done ++ (take i runs ++ q ∷ [])) is ∙ ap (λ rs. done ++ rs) (sym (take_more runs i no_run h)) in
    subst (λ ds. AreEach (IsPutSoFar way found solutions ds) before new) e next

-- a run of the way has a place while others are put
pub place_there : (way : Way) (found : List RunBundle) (solutions : List Solution) (before now : List PhaseRoute) (done : List Run) (r : Run) → All IsPhaseRoute before → AreEach (IsPutSoFar way found solutions done) before now → IsRunIn before way r → HasPlaceOf now r
place_there way found solutions before now done r good so is =
    let t = some_read now is.place (omega (arith, slice_get_within before is.place is.route is.of_route, so.count)) in
    let one = so.each is.place is.route t.0 is.of_route t.1 in
    let in_runs = slice_get_within is.route.runs.items is.index r is.here in
    let place = run_place before is.place is.index is.route r good is.of_route is.here in
    record {
      index = is.place;
      route = t.0;
      of_route = t.1;
      edge = one.same.edge ∙ sym (run_edge before is.place is.index is.route good is.of_route in_runs) ∙ ap (λ (q : Run). q.edge) (run_is is.route.runs.items is.index r is.here);
      low = omega (arith, place);
      high = omega (arith, place, in_runs, one.count);
    }

-- the runs of the bundles before one
abbrev pub runs_before : List RunBundle → ℕ → List Run
runs_before found k = flat_map (λ b. b.runs.items) (take k found)

pub in_all_runs : (found : List RunBundle) (b : RunBundle) (r : Run) → Contains found b → Contains b.runs.items r → Contains (flat_map (λ (q : RunBundle). q.runs.items) found) r
in_all_runs [] b r has own = absurd (omega (arith, has.1))
in_all_runs (q ∷ qs) b r (zero, h, e) own =
    Contains-append_left q.runs.items (flat_map (λ (t : RunBundle). t.runs.items) qs) r (subst (λ (t : RunBundle). Contains t.runs.items r) (sym e) own)
in_all_runs (q ∷ qs) b r (suc k, h, e) own =
    Contains-append_right q.runs.items (flat_map (λ (t : RunBundle). t.runs.items) qs) r (in_all_runs qs b r (k, omega (arith, h), e) own)

-- one route of the list is the other, with its run put
pub put_at : (routes : List PhaseRoute) (i : ℕ) (old new : PhaseRoute) (r : Run) (z : ℤ) → EdgesRise routes → slice_get routes i ≡ Some old → old.edge ≡ r.edge → IsPutTo (r.place - 1) z old new → AreEach (IsPutIfOwn r z) routes (set routes i new)
put_at routes i old new r z rise at_i edge put = record {
  count = length-set routes i new;
  each = λ k s t at_s at_t. cases_same {P = IsPutIfOwn r z s t} k i
      (λ e. let s_is : s ≡ old = same_Some s old (sym at_s ∙ ap (slice_get routes) e ∙ at_i) in
      let t_is : t ≡ new = sym (get_or_from_slice_get (set routes i new) k t new at_t) ∙ ap (λ n. get_or (set routes i new) n new) e ∙ get_or-set_same routes i new new (slice_get_within routes i old at_i) in
      record { own = λ _. subst₂ (IsPutTo (r.place - 1) z) (sym s_is) (sym t_is) put; others = λ ne. absurd (ne (ap (λ (q : PhaseRoute). q.edge) s_is ∙ edge)) })
      (λ ne. let t_is : t ≡ s = sym (get_or_from_slice_get (set routes i new) k t s at_t) ∙ get_or-set_other routes i k new s ne ∙ get_or_from_slice_get routes k s s at_s in
      record { own = λ e. absurd (ne (one_place routes k i s old rise at_s at_i (e ∙ sym edge))); others = λ _. t_is });
}

-- what is found by the edge is the route that has the run
pub found_is : (routes : List PhaseRoute) (r : Run) (i : ℕ) → EdgesRise routes → (is : HasPlaceOf routes r) → i < length routes → ((d : PhaseRoute) → nat_cmp (get_or routes i d).edge r.edge ≡ Equal) → slice_get routes i ≡ Some is.route
found_is routes r i rise is h equal =
    let s = some_read routes i h in
    let edge : (get_or routes i is.route).edge ≡ r.edge = ranked (get_or routes i is.route).edge r.edge Equal (sym (equal is.route)) in
    let own : s.0.edge ≡ is.route.edge = ap (λ (q : PhaseRoute). q.edge) (sym (get_or_from_slice_get routes i s.0 is.route s.1)) ∙ edge ∙ sym is.edge in
    s.1 ∙ ap Some (one_route routes i is.index s.0 is.route rise s.1 is.of_route own)

index_rises : (a b x : ℕ) → a ≤ b → ordering_index (nat_cmp a x) ≤ ordering_index (nat_cmp b x)
index_rises a b x h =
    by_ranked (a < x) (a ≡ x) (x < a) (nat_cmp a x) (ranked a x (nat_cmp a x) refl)
    (λ e l. let z = ap ordering_index e in omega (arith, z))
    (λ e l. by_ranked (b < x) (b ≡ x) (x < b) (nat_cmp b x) (ranked b x (nat_cmp b x) refl)
    (λ f m. absurd (omega (arith, h, l, m)))
    (λ f m. let y = ap ordering_index e in let z = ap ordering_index f in omega (arith, y, z))
    (λ f m. let y = ap ordering_index e in let z = ap ordering_index f in omega (arith, y, z)))
    (λ e l. by_ranked (b < x) (b ≡ x) (x < b) (nat_cmp b x) (ranked b x (nat_cmp b x) refl)
    (λ f m. absurd (omega (arith, h, l, m)))
    (λ f m. absurd (omega (arith, h, l, m)))
    (λ f m. let y = ap ordering_index e in let z = ap ordering_index f in omega (arith, y, z)))

-- and it is found
pub is_found : (routes : List PhaseRoute) (r : Run) (i : ℕ) → EdgesRise routes → HasPlaceOf routes r →
    (IsNonDecreasingBy (λ (q : PhaseRoute). ordering_index (nat_cmp q.edge r.edge)) routes → IsPartitionPoint (λ (q : PhaseRoute). nat_cmp q.edge r.edge ≡ Less) (λ (q : PhaseRoute). nat_cmp q.edge r.edge ≡ Greater) routes i) → ⊥
is_found routes r i rise is parts =
    let rises : IsNonDecreasingBy (λ (q : PhaseRoute). ordering_index (nat_cmp q.edge r.edge)) routes =
    λ j k d h g. index_rises (get_or routes j d).edge (get_or routes k d).edge r.edge
    (cases_same {P = (get_or routes j d).edge ≤ (get_or routes k d).edge} j k
    (λ e. let z = ap (λ n. (get_or routes n d).edge) e in omega (arith, z))
    (λ ne. let l = rise j k d (omega (arith, h, ne)) g in omega (arith, l))) in
    let split = parts rises in
    let k = is.index in
    let in_routes = slice_get_within routes k is.route is.of_route in
    let here : (get_or routes k is.route).edge ≡ r.edge = ap (λ (q : PhaseRoute). q.edge) (get_or_from_slice_get routes k is.route is.route is.of_route) ∙ is.edge in
    let equal : nat_cmp (get_or routes k is.route).edge r.edge ≡ Equal = ap (λ n. nat_cmp n r.edge) here ∙ tied_itself nat_cmp_total r.edge in
    cases_below {P = ⊥} k i
    (λ l. let e : Less ≡ Equal = sym (split.0 k is.route (omega arith) l) ∙ equal in cc)
    (λ l. let e : Greater ≡ Equal = sym (split.1 k is.route l in_routes) ∙ equal in cc)

pub runs_more : (found : List RunBundle) (k : ℕ) (b : RunBundle) → k < length found → b ≡ get_or found k b → runs_before found (k + 1) ≡ runs_before found k ++ b.runs.items
runs_more found k b h is =
    let f = λ (q : RunBundle). q.runs.items in
    ap (flat_map f) (take_more found k b h ∙ ap (λ q. take k found ++ q ∷ []) (sym is)) ∙ flat_map-append f (take k found) (b ∷ []) ∙ ap (λ rs. runs_before found k ++ rs) (append-nil b.runs.items)

pub runs_all : (found : List RunBundle) (k : ℕ) → length found ≤ k → runs_before found k ≡ flat_map (λ (b : RunBundle). b.runs.items) found
runs_all found k h = ap (flat_map (λ (b : RunBundle). b.runs.items)) (take_all k found h)
