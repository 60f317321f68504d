-- The runs of the other way follow, one after another.
use Rattle.std.proofs.Common.{◌≡◌, ℕ, ◌+◌, ◌-◌, ◌<◌, ◌≤◌, ℤ, pos, Option, Some, List, length, get_or, set, inl, inr, refl, sym, ap, subst, subst₂, ◌∙◌, arith, if◌then◌else◌}
use Rattle.std.specs.Prelude.{slice_get}
use Rattle.std.proofs.lemmas.Bool.{cases_Bool}
use Rattle.std.proofs.lemmas.List.{get_or-map, length-set, get_or-set_same, get_or-set_other}
use Rattle.std.proofs.lemmas.Option.{get_or_from_slice_get, slice_get_within, slice_get-get_or, slice_get_cases, slice_get_past}
use Rattle.plane_geom.specs.declared.point.Way.{Way}
use Rattle.plane_geom.specs.Along.{along}
use Rattle.segment_order.specs.declared.run.Run.{Run}
use Rattle.segment_order.specs.Run.{run_at, no_run, start_of_run, end_of_run}
use Rattle.separation_model.specs.Bundle.{int_at}
use Rattle.channel_bundles.specs.declared.route.PhaseRoute.{PhaseRoute}
use Rattle.channel_bundles.specs.Route.{is_way}
use Rattle.channel_bundles.proofs.Trees.{cases_below, cases_same}
use Rattle.nudge_phases.specs.Moved.{corner, moved_run, runs_way, stretch}
use Rattle.nudge_phases.proofs.MovedRuns.Ends.{stretch_at, stretch_way}
use Rattle.nudge_phases.specs.Steps.{AreEach, HasFollowed, HaveFollowed, coordinates, corner_at}
use Rattle.nudge_phases.proofs.RouteRuns.{run_is, some_read}

-- the run between two neighbours, where those of the way stand
abbrev pub drawn : Way → Run → Option Run → Option Run → Run
drawn way r before after =
    if is_way r.way way then r
    else stretch r.heading r (corner_at way before (along r.way (start_of_run r))) (corner_at way after (along r.way (end_of_run r)))

pub corner_is : (way : Way) (runs : List Run) (n : ℕ) (old : ℤ) → corner way runs (coordinates runs) n old ≡ corner_at way (slice_get runs n) old
corner_is way runs n old = elim (slice_get_cases runs n).1 as (λ _. corner way runs (coordinates runs) n old ≡ corner_at way (slice_get runs n) old) [
  | inl (r, within, here, same) ↦
      let at : int_at (coordinates runs) n ≡ r.at = get_or-map (λ (q : Run). q.at) runs n r (pos 0) within ∙ ap (λ (q : Run). q.at) same in
      ap (λ o. if runs_way way o then int_at (coordinates runs) n else old) here
      ∙ ap (λ z. if is_way r.way way then z else old) at
      ∙ sym (ap (λ o. corner_at way o old) here)
  | inr (past, none) ↦ ap (λ o. if runs_way way o then int_at (coordinates runs) n else old) none ∙ sym (ap (λ o. corner_at way o old) none)
]

abbrev at_z : Run → ℤ → Run
at_z r z = record r { at = z }

pub moved_is : (way : Way) (runs : List Run) (k : ℕ) → k < length runs → moved_run way runs (coordinates runs) k ≡ drawn way (run_at runs k) (slice_get runs (k - 1)) (slice_get runs (k + 1))
moved_is way runs k h =
    let r = run_at runs k in
    let own : at_z r (int_at (coordinates runs) k) ≡ r = ap (at_z r) (get_or-map (λ (q : Run). q.at) runs k no_run (pos 0) h) in
    let from = along r.way (start_of_run r) in
    let to = along r.way (end_of_run r) in
    ap (λ q. if is_way r.way way then q else stretch r.heading r (corner way runs (coordinates runs) (k - 1) from) (corner way runs (coordinates runs) (k + 1) to)) own
    ∙ ap (λ z. if is_way r.way way then r else stretch r.heading r z (corner way runs (coordinates runs) (k + 1) to)) (corner_is way runs (k - 1) from)
    ∙ ap (λ z. if is_way r.way way then r else stretch r.heading r (corner_at way (slice_get runs (k - 1)) from) z) (corner_is way runs (k + 1) to)

-- a drawn run keeps its line
drawn_at : (way : Way) (r : Run) (before after : Option Run) → (drawn way r before after).at ≡ r.at
drawn_at way r before after =
    let s = stretch r.heading r (corner_at way before (along r.way (start_of_run r))) (corner_at way after (along r.way (end_of_run r))) in
    elim (cases_Bool (is_way r.way way)) as (λ _. (drawn way r before after).at ≡ r.at) [
      | inl own ↦ ap (λ b. (let q : Run = if b then r else s in q.at)) own
      | inr other ↦ ap (λ b. (let q : Run = if b then r else s in q.at)) other ∙ stretch_at r.heading r _ _
    ]

drawn_way : (way : Way) (r : Run) (before after : Option Run) → (drawn way r before after).way ≡ r.way
drawn_way way r before after =
    let s = stretch r.heading r (corner_at way before (along r.way (start_of_run r))) (corner_at way after (along r.way (end_of_run r))) in
    elim (cases_Bool (is_way r.way way)) as (λ _. (drawn way r before after).way ≡ r.way) [
      | inl own ↦ ap (λ b. (let q : Run = if b then r else s in q.way)) own
      | inr other ↦ ap (λ b. (let q : Run = if b then r else s in q.way)) other ∙ stretch_way r.heading r _ _
    ]

-- the runs before k have followed
pub record IsFollowing (way : Way) (before now : List Run) (k : ℕ) : Type 0 where
  pub count : length now ≡ length before
  pub done : (j : ℕ) → j < k → j < length before → run_at now j ≡ moved_run way before (coordinates before) j
  pub ahead : (j : ℕ) → k ≤ j → run_at now j ≡ run_at before j

pub following_begins : (way : Way) (runs : List Run) → IsFollowing way runs runs 0
following_begins way runs = record { count = refl; done = λ j h g. absurd (omega arith); ahead = λ j h. refl }

module _ (way : Way) (before now : List Run) (k : ℕ) (is : IsFollowing way before now k) where
  -- all runs stand on the lines on which they stood
  same_line : (j : ℕ) → j < length before → ((run_at now j).way ≡ (run_at before j).way) × ((run_at now j).at ≡ (run_at before j).at)
  same_line j h = cases_below {P = ((run_at now j).way ≡ (run_at before j).way) × ((run_at now j).at ≡ (run_at before j).at)} j k
      (λ l. let e = is.done j l h ∙ moved_is way before j h in (
        ap (λ (q : Run). q.way) e ∙ drawn_way way (run_at before j) (slice_get before (j - 1)) (slice_get before (j + 1)),
        ap (λ (q : Run). q.at) e ∙ drawn_at way (run_at before j) (slice_get before (j - 1)) (slice_get before (j + 1)),
      ))
      (λ l. let e = is.ahead j l in (ap (λ (q : Run). q.way) e, ap (λ (q : Run). q.at) e))

  same_corner : (n : ℕ) (old : ℤ) → corner_at way (slice_get now n) old ≡ corner_at way (slice_get before n) old
  same_corner n old = cases_below {P = corner_at way (slice_get now n) old ≡ corner_at way (slice_get before n) old} n (length before)
      (λ l. let r = some_read now n (omega (arith, l, is.count)) in
      let s = some_read before n l in
      let line = same_line n l in
      let r_is = run_is now n r.0 r.1 in
      let s_is = run_is before n s.0 s.1 in
      let way_is : r.0.way ≡ s.0.way = ap (λ (q : Run). q.way) (sym r_is) ∙ line.0 ∙ ap (λ (q : Run). q.way) s_is in
      let at_is : r.0.at ≡ s.0.at = ap (λ (q : Run). q.at) (sym r_is) ∙ line.1 ∙ ap (λ (q : Run). q.at) s_is in
      ap (λ o. corner_at way o old) r.1
      ∙ ap (λ w. if is_way w way then r.0.at else old) way_is
      ∙ ap (λ z. if is_way s.0.way way then z else old) at_is
      ∙ sym (ap (λ o. corner_at way o old) s.1))
      (λ l. ap (λ o. corner_at way o old) (slice_get_past now n (omega (arith, l, is.count)) ∙ sym (slice_get_past before n l)))

  same_moved : k < length before → moved_run way now (coordinates now) k ≡ moved_run way before (coordinates before) k
  same_moved h =
      let r = run_at before k in
      let from = along r.way (start_of_run r) in
      let to = along r.way (end_of_run r) in
      moved_is way now k (omega (arith, h, is.count))
      ∙ ap (λ q. drawn way q (slice_get now (k - 1)) (slice_get now (k + 1))) (is.ahead k (omega arith))
      ∙ ap (λ z. if is_way r.way way then r else stretch r.heading r z (corner_at way (slice_get now (k + 1)) to)) (same_corner (k - 1) from)
      ∙ ap (λ z. if is_way r.way way then r else stretch r.heading r (corner_at way (slice_get before (k - 1)) from) z) (same_corner (k + 1) to)
      ∙ sym (moved_is way before k h)

  pub following_more : (new : List Run) (r : Run) → k < length before → new ≡ set now k r → r ≡ moved_run way now (coordinates now) k → IsFollowing way before new (k + 1)
  following_more new r h e r_is = record {
    count = ap length e ∙ length-set now k r ∙ is.count;
    done = λ j l g. cases_same {P = run_at new j ≡ moved_run way before (coordinates before) j} j k
        (λ same. subst (λ n. run_at new n ≡ moved_run way before (coordinates before) n) (sym same)
        (ap (λ xs. run_at xs k) e ∙ get_or-set_same now k r no_run (omega (arith, h, is.count)) ∙ r_is ∙ same_moved h))
        (λ ne. ap (λ xs. run_at xs j) e ∙ get_or-set_other now k j r no_run ne ∙ is.done j (cases_below {P = j < k} j k (λ l2. l2) (λ l2. absurd (ne (omega (arith, l, l2))))) g);
    ahead = λ j l. ap (λ xs. run_at xs j) e ∙ get_or-set_other now k j r no_run (λ same. omega (arith, l, same)) ∙ is.ahead j (omega arith);
  }

pub following_ends : (way : Way) (before now : List Run) (k : ℕ) → IsFollowing way before now k → length before ≤ k → HaveFollowed way before now
following_ends way before now k is h = record { count = is.count; runs = λ j g. is.done j (omega (arith, g, h)) g }

-- the routes before k have followed
pub record AreFollowing (way : Way) (before now : List PhaseRoute) (k : ℕ) : Type 0 where
  pub count : length now ≡ length before
  pub done : (j : ℕ) (r s : PhaseRoute) → j < k → slice_get before j ≡ Some r → slice_get now j ≡ Some s → HasFollowed way r s
  pub ahead : (j : ℕ) (d : PhaseRoute) → k ≤ j → get_or now j d ≡ get_or before j d

pub all_begin : (way : Way) (routes : List PhaseRoute) → AreFollowing way routes routes 0
all_begin way routes = record { count = refl; done = λ j r s h e f. absurd (omega arith); ahead = λ j d h. refl }

pub all_more : (way : Way) (before now new : List PhaseRoute) (k : ℕ) (r s : PhaseRoute) → AreFollowing way before now k → k < length before → r ≡ get_or now k r → new ≡ set now k s → HasFollowed way r s → AreFollowing way before new (k + 1)
all_more way before now new k r s is h r_is e followed = record {
  count = ap length e ∙ length-set now k s ∙ is.count;
  done = λ j t u l at_t at_u.
      let u_is = get_or_from_slice_get new j u u at_u in
      cases_same {P = HasFollowed way t u} j k
      (λ same. let t_is : t ≡ r = sym (get_or_from_slice_get before j t r at_t) ∙ sym (is.ahead j r (omega (arith, same))) ∙ ap (λ n. get_or now n r) same ∙ sym r_is in
      let s_is : u ≡ s = sym u_is ∙ ap (λ xs. get_or xs j u) e ∙ ap (λ n. get_or (set now k s) n u) same ∙ get_or-set_same now k s u (omega (arith, h, is.count)) in
      subst₂ (HasFollowed way) (sym t_is) (sym s_is) followed)
      (λ ne. let was : get_or now j u ≡ u = sym (get_or-set_other now k j s u ne) ∙ ap (λ xs. get_or xs j u) (sym e) ∙ u_is in
      is.done j t u (omega (arith, l, ne)) at_t (slice_get-get_or now j u (omega (arith, slice_get_within before j t at_t, is.count)) ∙ ap Some was));
  ahead = λ j d l. ap (λ xs. get_or xs j d) e ∙ get_or-set_other now k j s d (λ same. omega (arith, l, same)) ∙ is.ahead j d (omega arith);
}

pub all_end : (way : Way) (before now : List PhaseRoute) (k : ℕ) → AreFollowing way before now k → length before ≤ k → AreEach (HasFollowed way) before now
all_end way before now k is h = record { count = is.count; each = λ j r s at_r at_s. is.done j r s (omega (arith, slice_get_within before j r at_r, h)) at_r at_s }
