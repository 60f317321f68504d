-- The side of a shared path, and the order of its runs.
use Rattle.std.proofs.Common.{◌≡◌, ◌≢◌, ◌↔◌, ℕ, Bool, true, false, Option, Some, None, List, [], ◌∷◌, ◌++◌, All, get_or, inl, inr, refl, sym, ap, ◌∙◌, subst}
use Rattle.std.specs.declared.cmp.Ordering.{Ordering}
use Rattle.std.specs.declared.cmp.Ordering.TheVariants.{Less, Equal, Greater}
use Rattle.std.specs.Ordering.{ordering_then, nat_cmp, int_cmp}
use Rattle.std.specs.Cmp.Lexicographic.{slice_cmp}
use Rattle.std.proofs.lemmas.Cmp.{int_cmp_total, tied_itself}
use Rattle.std.proofs.lemmas.List.Elements.{All-cons, All-nil, All-head, All-tail}
use Rattle.plane_geom.specs.declared.point.Dir.{Dir}
use Rattle.plane_geom.specs.Along.{way_of, rising}
use Rattle.plane_geom.specs.Point.{opposite}
use Rattle.segment_order.specs.declared.side.Side.{Side}
use Rattle.segment_order.specs.declared.side.Side.TheVariants.{Left, Right}
use Rattle.segment_order.specs.declared.run.Run.{Run}
use Rattle.segment_order.specs.declared.ray.Entry.{Entry}
use Rattle.segment_order.specs.declared.ray.Entry.TheVariants.{Near, Stop, Far}
use Rattle.segment_order.specs.Run.{AreRunsOf, run_at}
use Rattle.segment_order.specs.Side.{near_side}
use Rattle.segment_order.specs.Ray.{ray, entry_cmp, EndsAtOnlyStop}
use Rattle.segment_order.specs.Order.{compare_keys, key_of}
use Rattle.segment_order.proofs.Stops.{stops}
use Rattle.shared_paths.specs.declared.path.End.{End}
use Rattle.shared_paths.specs.declared.path.End.TheVariants.{Tie, Parts}
use Rattle.shared_paths.specs.Pairs.{Pair, IsPair, GoesOn, first_of, first_entry, outward, next_pair}
use Rattle.shared_paths.specs.Paths.{RunOn, agreed, end_at, end_by, last_of, other_side, seen_ahead, side_of}
use Rattle.shared_paths.specs.Laws.{KeepSides}
use Rattle.shared_paths.proofs.Rays.Orders.{stops_at_once, tied}
use Rattle.shared_paths.proofs.Rays.Dirs.{back_again, near_behind, other_again, rising_of}
use Rattle.shared_paths.proofs.Rays.Keeps.{hand_at, hand_by}
use Rattle.shared_paths.proofs.AlongPaths.Steps.{step_of, hand_kept, hand_kept_back, goes_back}

-- the hand of one who leaves a path on which the first route is at the end, ahead or back
abbrev pub hand_in : Bool → End → Option Side
hand_in ahead Tie = None
hand_in ahead (Parts side) = Some (seen_ahead ahead side)

twice : (ahead : Bool) (side : Side) → side ≡ seen_ahead ahead (seen_ahead ahead side)
twice true side = refl
twice false side = sym (other_again side)

hand_of_end : (o : Ordering) (ahead : Bool) (near : Side) → hand_by o near ≡ hand_in ahead (end_by o ahead near)
hand_of_end Less ahead near = ap Some (twice ahead near)
hand_of_end Equal ahead near = refl
hand_of_end Greater ahead near = ap Some (twice ahead (other_side near))

-- a ray has a first entry
record Begins (es : List Entry) : Type 0 where
  more : List Entry
  so : es ≡ first_of es ∷ more

first_is : (turns : List Entry) → Begins (turns ++ Stop ∷ [])
first_is [] = record { more = []; so = refl }
first_is (t ∷ ts) = record { more = ts ++ Stop ∷ []; so = refl }

begins : (es : List Entry) → EndsAtOnlyStop es → Begins es
begins es ends = subst Begins (sym ends.last) (first_is ends.turns)

then_itself : (o p : Ordering) → (o ≡ Equal → p ≡ Equal) → ordering_then o p ≡ o
then_itself Less p h = refl
then_itself Equal p h = h refl
then_itself Greater p h = refl

no_more : (es more : List Entry) (x : Entry) → es ≡ x ∷ more → es ≡ Stop ∷ [] → more ≡ []
no_more es more x e f = cc

-- the first entry of each ray decides, unless both are stops
first_decides : (xs ys : List Entry) → EndsAtOnlyStop xs → EndsAtOnlyStop ys → (first_of xs ≡ first_of ys → first_of xs ≡ Stop) →
    slice_cmp entry_cmp xs ys ≡ entry_cmp (first_of xs) (first_of ys)
first_decides xs ys one other alike =
    let x = begins xs one in
    let y = begins ys other in
    ap (λ es. slice_cmp entry_cmp es ys) x.so
    ∙ ap (λ es. slice_cmp entry_cmp (first_of xs ∷ x.more) es) y.so
    ∙ then_itself (entry_cmp (first_of xs) (first_of ys)) (slice_cmp entry_cmp x.more y.more) (λ tie.
    let same = tied (first_of xs) (first_of ys) tie in
    let stop = alike same in
    ap (λ es. slice_cmp entry_cmp es y.more) (no_more xs x.more (first_of xs) x.so (stops_at_once xs one stop))
    ∙ ap (λ es. slice_cmp entry_cmp [] es) (no_more ys y.more (first_of ys) y.so (stops_at_once ys other (sym same ∙ stop))))

stop_or : (e : Entry) → (e ≢ Stop → ⊥) → e ≡ Stop
stop_or (Near p) h = absurd (h (λ e. cc))
stop_or Stop h = refl
stop_or (Far p) h = absurd (h (λ e. cc))

-- at a pair that does not go on the end shows on which hand the route is
end_hand : (a b : List Run) (ahead : Bool) (p : Pair) → (GoesOn a b ahead p → ⊥) → hand_at a b p.a p.b (outward a ahead p) ≡ hand_in ahead (end_at a b ahead p)
end_hand a b ahead p ends =
    let d = outward a ahead p in
    ap (λ o. hand_by o (near_side d)) (first_decides (ray a (run_at a p.a) d) (ray b (run_at b p.b) d) (stops (near_side d) d _ _) (stops (near_side d) d _ _)
    (λ same. stop_or (first_entry a p.a d) (λ h. ends (record { same = same; turns = h }))))
    ∙ hand_of_end (entry_cmp (first_entry a p.a d) (first_entry b p.b d)) ahead (near_side d)

-- at the pair the first route is on this hand of one who leaves it, ahead or back
abbrev pub IsOn : List Run → List Run → Bool → Option Side → Pair → Type 0
IsOn a b ahead hand q = hand_at a b q.a q.b (outward a ahead q) ≡ hand

module _ (edge other : ℕ) (a b : List Run) (are : AreRunsOf edge a) (others : AreRunsOf other b) where
  -- ahead
  pub hands_ahead : (p : Pair) (ps : List Pair) → IsPair a b p → All (IsPair a b) ps → RunOn a b p ps →
      All (IsOn a b true (hand_in true (end_at a b true (last_of p ps)))) (p ∷ ps)
  hands_ahead p [] is are_pairs runs = All-cons (IsOn a b true (hand_in true (end_at a b true p))) p [] (end_hand a b true p runs) (All-nil (IsOn a b true (hand_in true (end_at a b true p))))
  hands_ahead p (q ∷ ps) is are_pairs runs =
      let hand = hand_in true (end_at a b true (last_of q ps)) in
      let more = hands_ahead q ps (All-head (IsPair a b) q ps are_pairs) (All-tail (IsPair a b) q ps are_pairs) runs.2 in
      let step = step_of edge other a b are others true p is runs.0 in
      let kept = hand_kept a b _ _ _ _ _ _ step in
      let next = ap (λ (n : Pair). hand_at a b n.a n.b (outward a true n)) (sym runs.1) in
      let there : IsOn a b true hand q = All-head (IsOn a b true hand) q ps more in
      let here : IsOn a b true hand p = kept ∙ next ∙ there in
      All-cons (IsOn a b true hand) p (q ∷ ps) here more

  -- back
  pub hands_back : (hand : Option Side) (p : Pair) (ps : List Pair) → IsPair a b p → All (IsPair a b) ps → RunOn a b p ps →
      IsOn a b false hand p → All (IsOn a b false hand) (p ∷ ps)
  hands_back hand p [] is are_pairs runs here = All-cons (IsOn a b false hand) p [] here (All-nil (IsOn a b false hand))
  hands_back hand p (q ∷ ps) is are_pairs runs here =
      let step = step_of edge other a b are others true p is runs.0 in
      let kept = hand_kept_back a b _ _ _ _ _ _ step is.companions.way is.companions.at in
      let next = ap (λ (n : Pair). hand_at a b n.a n.b (outward a false n)) runs.1 in
      let there : IsOn a b false hand q = next ∙ kept ∙ here in
      All-cons (IsOn a b false hand) p (q ∷ ps) here (hands_back hand q ps (All-head (IsPair a b) q ps are_pairs) (All-tail (IsPair a b) q ps are_pairs) runs.2 there)

-- on which hand the first route is by an order that ties nothing
decided : (o rest : Ordering) (near side : Side) → hand_by o near ≡ Some side → (ordering_then o rest ≡ Less) ↔ (near ≡ side)
decided Less rest near side h = (λ _. cc, λ _. refl)
decided Equal rest near side h = cc
decided Greater rest Left Left h = cc
decided Greater rest Left Right h = (λ e. cc, λ e. cc)
decided Greater rest Right Left h = (λ e. cc, λ e. cc)
decided Greater rest Right Right h = cc

no_hand : (o : Ordering) (near : Side) → hand_by o near ≡ None → o ≡ Equal
no_hand Less near h = cc
no_hand Equal near h = refl
no_hand Greater near h = cc

-- seen ahead and back the hands change
other_same : (s t : Side) → Some (other_side s) ≡ Some (other_side t) → s ≡ t
other_same Left Left e = refl
other_same Left Right e = cc
other_same Right Left e = cc
other_same Right Right e = refl

turned_round : (o : Ordering) (near side : Side) → hand_by o (other_side near) ≡ Some (other_side side) → hand_by o near ≡ Some side
turned_round Less near side h = ap Some (other_same near side h)
turned_round Equal near side h = cc
turned_round Greater near side h = ap Some (other_same (other_side near) side h)

-- what the two ends agree on decides, whichever ray is compared first
pub record Decides (ahead back : Ordering) (near side : Side) : Type 0 where
  pub first : (rest : Ordering) → (ordering_then ahead (ordering_then back rest) ≡ Less) ↔ (near ≡ side)
  pub last : (rest : Ordering) → (ordering_then back (ordering_then ahead rest) ≡ Less) ↔ (near ≡ side)

by_ahead : (o back : Ordering) (near side : Side) → hand_by o near ≡ Some side → back ≡ Equal → Decides o back near side
by_ahead o back near side h tie = record {
  first = λ rest. decided o (ordering_then back rest) near side h;
  last = λ rest. subst (λ p. (ordering_then p (ordering_then o rest) ≡ Less) ↔ (near ≡ side)) (sym tie) (decided o rest near side h);
}

by_back : (ahead o : Ordering) (near side : Side) → hand_by o near ≡ Some side → ahead ≡ Equal → Decides ahead o near side
by_back ahead o near side h tie = record {
  first = λ rest. subst (λ p. (ordering_then p (ordering_then o rest) ≡ Less) ↔ (near ≡ side)) (sym tie) (decided o rest near side h);
  last = λ rest. decided o (ordering_then ahead rest) near side h;
}

by_both : (ahead back : Ordering) (near side : Side) → hand_by ahead near ≡ Some side → hand_by back near ≡ Some side → Decides ahead back near side
by_both ahead back near side h k = record {
  first = λ rest. decided ahead (ordering_then back rest) near side h;
  last = λ rest. decided back (ordering_then ahead rest) near side k;
}

agreed_so : (s t side : Side) → agreed s t ≡ Some side → (s ≡ side) × (t ≡ side)
agreed_so Left Left Left e = (refl, refl)
agreed_so Left Left Right e = cc
agreed_so Left Right side e = cc
agreed_so Right Left side e = cc
agreed_so Right Right Left e = cc
agreed_so Right Right Right e = (refl, refl)

-- the side of the path decides the order of the pair
by_ends : (one two : End) (ahead back : Ordering) (near side : Side) → side_of one two ≡ Some side → hand_by ahead near ≡ hand_in true two →
    hand_by back (other_side near) ≡ hand_in false one → Decides ahead back near side
by_ends Tie Tie ahead back near side e h k = cc
by_ends (Parts s) Tie ahead back near side e h k =
    let same : s ≡ side = cc in
    by_back ahead back near side (turned_round back near side (k ∙ ap (λ t. Some (other_side t)) same)) (no_hand ahead near h)
by_ends Tie (Parts t) ahead back near side e h k =
    let same : t ≡ side = cc in
    by_ahead ahead back near side (h ∙ ap Some same) (no_hand back (other_side near) k)
by_ends (Parts s) (Parts t) ahead back near side e h k =
    let both = agreed_so s t side e in
    by_both ahead back near side (h ∙ ap Some both.1) (turned_round back near side (k ∙ ap (λ t. Some (other_side t)) both.0))

-- the order of a pair of companions, by its two rays
abbrev by_ray : List Run → List Run → Run → Run → Dir → Ordering
by_ray a b r s d = slice_cmp entry_cmp (ray a r d) (ray b s d)

rest_of : Run → Run → Ordering
rest_of r s = ordering_then (nat_cmp r.edge s.edge) (nat_cmp r.place s.place)

order_of : (a b : List Run) (r s : Run) → r.way ≡ s.way → r.at ≡ s.at →
    compare_keys (key_of a r) (key_of b s) ≡ ordering_then (by_ray a b r s (opposite (rising r.way))) (ordering_then (by_ray a b r s (rising r.way)) (rest_of r s))
unfolding rest_of
order_of a b r s way at =
    ap (λ z. ordering_then (int_cmp r.at z)
    (ordering_then (slice_cmp entry_cmp (ray a r (opposite (rising r.way))) (ray b s (opposite (rising s.way))))
    (ordering_then (slice_cmp entry_cmp (ray a r (rising r.way)) (ray b s (rising s.way))) (rest_of r s)))) (sym at)
    ∙ ap (λ o. ordering_then o
    (ordering_then (slice_cmp entry_cmp (ray a r (opposite (rising r.way))) (ray b s (opposite (rising s.way))))
    (ordering_then (slice_cmp entry_cmp (ray a r (rising r.way)) (ray b s (rising s.way))) (rest_of r s)))) (tied_itself int_cmp_total r.at)
    ∙ ap (λ w. ordering_then (slice_cmp entry_cmp (ray a r (opposite (rising r.way))) (ray b s (opposite (rising w))))
    (ordering_then (slice_cmp entry_cmp (ray a r (rising r.way)) (ray b s (rising w))) (rest_of r s))) (sym way)

pair_order : (a b : List Run) (r s : Run) (side : Side) → r.way ≡ s.way → r.at ≡ s.at → r.way ≡ way_of r.heading →
    Decides (by_ray a b r s r.heading) (by_ray a b r s (opposite r.heading)) (near_side r.heading) side →
    (compare_keys (key_of a r) (key_of b s) ≡ Less) ↔ (near_side r.heading ≡ side)
pair_order a b r s side way at of decides =
    let h = r.heading in
    let rest = rest_of r s in
    subst (λ o. (o ≡ Less) ↔ (near_side h ≡ side)) (sym (order_of a b r s way at))
    (elim (rising_of h) as (λ _. (ordering_then (by_ray a b r s (opposite (rising r.way))) (ordering_then (by_ray a b r s (rising r.way)) rest) ≡ Less) ↔ (near_side h ≡ side)) [
      | inl same ↦
          let x : rising r.way ≡ h = ap rising of ∙ same in
          subst (λ d. (ordering_then (by_ray a b r s (opposite d)) (ordering_then (by_ray a b r s d) rest) ≡ Less) ↔ (near_side h ≡ side)) (sym x) (decides.last rest)
      | inr back ↦
          let x : rising r.way ≡ opposite h = ap rising of ∙ back in
          subst (λ d. (ordering_then (by_ray a b r s (opposite d)) (ordering_then (by_ray a b r s d) rest) ≡ Less) ↔ (near_side h ≡ side)) (sym x)
          (subst (λ d. (ordering_then (by_ray a b r s d) (ordering_then (by_ray a b r s (opposite h)) rest) ≡ Less) ↔ (near_side h ≡ side)) (sym (back_again h)) (decides.first rest))
    ])

-- two routes keep their side along a shared path
pub keep_sides : KeepSides
keep_sides one other a b first others side is_a is_b apart shared sided = λ k d l.
    let p = get_or (first ∷ others) k d in
    let pairs : All (IsPair a b) (first ∷ others) = All-cons (IsPair a b) first others shared.first_is shared.pairs in
    let is : IsPair a b p = pairs k d l in
    let r = run_at a p.a in
    let s = run_at b p.b in
    let two = end_at a b true (last_of first others) in
    let back = end_at a b false first in
    let ends_back : GoesOn a b false first → ⊥ = λ goes.
    let it = goes_back one other a b is_a is_b first shared.first_is goes in
    shared.begins (next_pair a b false first) it.pair it.goes it.returns in
    let on_ahead : IsOn a b true (hand_in true two) p = hands_ahead one other a b is_a.runs is_b.runs first others shared.first_is shared.pairs shared.runs_on k d l in
    let on_back : IsOn a b false (hand_in false back) p =
    hands_back one other a b is_a.runs is_b.runs (hand_in false back) first others shared.first_is shared.pairs shared.runs_on (end_hand a b false first ends_back) k d l in
    pair_order a b r s side is.companions.way is.companions.at (is_a.runs.each p.a is.of_a).way
    (by_ends back two (by_ray a b r s r.heading) (by_ray a b r s (opposite r.heading)) (near_side r.heading) side sided on_ahead
    (ap (λ near. hand_by (by_ray a b r s (opposite r.heading)) near) (sym (near_behind r.heading)) ∙ on_back))
