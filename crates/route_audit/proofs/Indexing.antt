-- An index leads to the row of a place, if there is one.
use Rattle.std.proofs.Common.{◌≡◌, ◌≢◌, ℕ, ◌+◌, ◌*◌, ◌<◌, ◌≤◌, ◌/◌, true, false, pos, None, Some, Option, List, [], ◌∷◌, ◌++◌, length, get_or}
use Rattle.std.proofs.Common.{take, sym, ap}
use Rattle.std.proofs.Common.{subst, ◌∙◌, arith, inl, inr, length-append}
use Rattle.std.specs.Prelude.{IfSome, IsSome, is_some}
use Rattle.std.specs.FinMap as map
use Rattle.std.proofs.Math.ListN.{get_or-append, length-set}
use Rattle.std.proofs.Math.Seq.{get_or-append_seam}
use Rattle.std.proofs.lemmas.Bool.{cases_Bool, cases_lt}
use Rattle.std.proofs.lemmas.List.{get_or-set_other, get_or-set_same, get_or-take, get_or_default, length-take-le}
use Rattle.std.proofs.lemmas.Nat.{div-mul-add, mul-add-lt}
use Rattle.plane_geom.specs.declared.point.Dir.TheVariants.{East}
use Rattle.line_arena.specs.Arena.{Arena, IsArena, StandsAt}
use Rattle.line_arena.proofs.Arenas.ArenaLaws.{one_crossing, one_point}
use Rattle.proof_model.specs.declared.proof.LabelRow.{LabelRow}
use Rattle.proof_model.specs.Labels.{is_before, is_row_of, label_of}
use Rattle.proof_model.specs.Places.{Place}
use Rattle.proof_model.proofs.LeastLabels.{no_other_row, place_in, row_itself}
use Rattle.proof_model.proofs.OneList.{of_place}
use Rattle.route_audit.specs.declared.labels.RowIndex.{RowIndex}
use Rattle.route_audit.specs.Index.{AreIndexed, Pushes, crossing_in, slot_of}
use Rattle.route_audit.proofs.Rising.{Rises, no_label}

-- slots of different stages or crossings differ
one_slot : (places s c t d : ℕ) → c < places → d < places → s * places + c ≡ t * places + d → (s ≡ t) × (c ≡ d)
one_slot places s c t d lc ld e =
    let same : s ≡ t = sym (div-mul-add s places c lc) ∙ ap (λ n. n / places) e ∙ div-mul-add t places d ld in
    let scaled : s * places ≡ t * places = ap (λ n. n * places) same in
    (same, omega (arith, e, scaled))

module _ (a : Arena) (arena : IsArena a) (last : ℕ) (rows : List LabelRow) where
  -- each slot of a stage and a crossing is there
  pub has_slot : (n : ℕ) (t : RowIndex) → AreIndexed a last rows n t → (stage c : ℕ) → stage ≤ last → c < a.places → slot_of t stage c < length t.slots.items
  has_slot n t indexed stage c within few =
      let below = mul-add-lt stage t.places c (last + 1) (omega (arith, within)) (omega (arith, few, indexed.places)) in
      omega (arith, below, indexed.room)

  -- a row of the place stands where its slot says
  only_row : (n : ℕ) (t : RowIndex) → AreIndexed a last rows n t → (x : Place) (c : ℕ) → StandsAt a c x.at → (k : ℕ) (d : LabelRow) → k < n →
      is_row_of (get_or rows k d) x ≡ true → get_or t.slots.items (slot_of t x.stage c) 0 ≡ k
  only_row n t indexed x c at k d within is =
      let r = get_or rows k d in
      let here : place_in r x.heading ≡ x = of_place r x is in
      let point : r.at ≡ x.at = ap (λ (y : Place). y.at) here in
      let stage : r.stage ≡ x.stage = ap (λ (y : Place). y.stage) here in
      let crossing : crossing_in t k ≡ c =
      one_crossing a (crossing_in t k) c x.at arena (subst (StandsAt a (crossing_in t k)) point (indexed.stand k d within)) at in
      subst (λ e. get_or t.slots.items (slot_of t x.stage e) 0 ≡ k) crossing
      (subst (λ s. get_or t.slots.items (slot_of t s (crossing_in t k)) 0 ≡ k) stage (indexed.found k d within))

  -- where the slot leads to no row of the place, the place has no label
  pub no_row : (t : RowIndex) → AreIndexed a last rows (length rows) t → (x : Place) (c : ℕ) → StandsAt a c x.at →
      ((d : LabelRow) → get_or t.slots.items (slot_of t x.stage c) 0 < length rows →
      is_row_of (get_or rows (get_or t.slots.items (slot_of t x.stage c) 0) d) x ≡ false) →
      label_of rows x ≡ None
  no_row t indexed x c at other = no_label rows x each
    where
      each : (k : ℕ) (d : LabelRow) → k < length rows → is_row_of (get_or rows k d) x ≡ false
      each k d within = elim (cases_Bool (is_row_of (get_or rows k d) x)) as (λ _. is_row_of (get_or rows k d) x ≡ false) [
        | inl is ↦ (
            let here = only_row (length rows) t indexed x c at k d within is in
            subst (λ m. is_row_of (get_or rows m d) x ≡ false) here (other d (omega (arith, here, within))))
        | inr apart ↦ apart
      ]

  -- one row more
  module _ (n : ℕ) (t u : RowIndex) (indexed : AreIndexed a last rows n t) (within : n < length rows) (rise : Rises (take (n + 1) rows))
      (e : LabelRow) (c : ℕ) (at : StandsAt a c (get_or rows n e).at) (few : c < a.places) (stage : (get_or rows n e).stage ≤ last)
      (pushes : Pushes t u n (get_or rows n e).stage c) where
    abbrev r : LabelRow
    r = get_or rows n e

    same_row : (d : LabelRow) → get_or rows n d ≡ r
    same_row d = get_or_default rows n d e within

    before : (k : ℕ) (d : LabelRow) → k < n → is_before (get_or rows k d) r ≡ true
    before k d less =
        let long : length (take (n + 1) rows) ≡ n + 1 = length-take-le (n + 1) rows (omega (arith, within)) in
        let at_k = get_or-take (n + 1) rows k d (omega (arith, less)) in
        let at_n = get_or-take (n + 1) rows n d (omega arith) in
        subst (λ q. is_before (get_or rows k d) q ≡ true) (same_row d)
        (subst (λ q. is_before q (get_or rows n d) ≡ true) at_k (subst (λ q. is_before (get_or (take (n + 1) rows) k d) q ≡ true) at_n
        (rise k n d less (omega (arith, long)))))

    old_crossing : (k : ℕ) → k < n → crossing_in u k ≡ crossing_in t k
    old_crossing k less =
        ap (λ (cs : List ℕ). get_or cs k 0) pushes.crossings ∙ get_or-append t.crossings.items (c ∷ []) 0 k (omega (arith, less, indexed.as_long))

    new_crossing : crossing_in u n ≡ c
    new_crossing =
        ap (λ (cs : List ℕ). get_or cs n 0) pushes.crossings
        ∙ subst (λ m. get_or (t.crossings.items ++ c ∷ []) m 0 ≡ c) indexed.as_long (get_or-append_seam t.crossings.items c [] 0)

    other_slot : (k : ℕ) (d : LabelRow) → k < n → slot_of t (get_or rows k d).stage (crossing_in t k) ≢ slot_of t r.stage c
    other_slot k d less same =
        let q = get_or rows k d in
        let both = one_slot t.places q.stage (crossing_in t k) r.stage c (indexed.small k less) (omega (arith, few, indexed.places)) same in
        let point : q.at ≡ r.at = one_point a c q.at r.at arena (subst (λ e. StandsAt a e q.at) both.1 (indexed.stand k d less)) at in
        let no : is_row_of q (record { stage = r.stage; at = r.at; heading = East }) ≡ false = no_other_row q r East (before k d less) in
        let it : is_row_of q (record { stage = r.stage; at = r.at; heading = East }) ≡ true =
        subst (λ p. is_row_of q (record { stage = r.stage; at = p; heading = East }) ≡ true) point
        (subst (λ s. is_row_of q (record { stage = s; at = q.at; heading = East }) ≡ true) both.0 (row_itself q East)) in
        let never : true ≡ false = sym it ∙ no in cc

    slot_there : slot_of t r.stage c < length t.slots.items
    slot_there = has_slot n t indexed r.stage c stage few

    old_found : (k : ℕ) (d : LabelRow) → k < n → get_or u.slots.items (slot_of t (get_or rows k d).stage (crossing_in t k)) 0 ≡ k
    old_found k d less =
        ap (λ (ss : List ℕ). get_or ss (slot_of t (get_or rows k d).stage (crossing_in t k)) 0) pushes.slots
        ∙ get_or-set_other t.slots.items (slot_of t r.stage c) (slot_of t (get_or rows k d).stage (crossing_in t k)) n 0 (other_slot k d less)
        ∙ indexed.found k d less

    new_found : get_or u.slots.items (slot_of t r.stage c) 0 ≡ n
    new_found = ap (λ (ss : List ℕ). get_or ss (slot_of t r.stage c) 0) pushes.slots ∙ get_or-set_same t.slots.items (slot_of t r.stage c) n 0 slot_there

    pub indexed_more : AreIndexed a last rows (n + 1) u
    indexed_more = record {
      places = pushes.places ∙ indexed.places;
      room = omega (arith, ap length pushes.slots, length-set t.slots.items (slot_of t r.stage c) n, ap (λ m. (last + 1) * m) pushes.places, indexed.room);
      as_long = ap length pushes.crossings ∙ length-append t.crossings.items (c ∷ []) ∙ ap (λ m. m + 1) indexed.as_long;
      stand = λ k d less. elim (cases_lt k n) as (λ _. StandsAt a (crossing_in u k) (get_or rows k d).at) [
        | inl old ↦ subst (λ e. StandsAt a e (get_or rows k d).at) (sym (old_crossing k old)) (indexed.stand k d old)
        | inr new ↦ (
            let here : n ≡ k = omega (arith, new, less) in
            subst (λ m. StandsAt a (crossing_in u m) (get_or rows m d).at) here
            (subst (λ q. StandsAt a (crossing_in u n) q.at) (sym (same_row d)) (subst (λ e. StandsAt a e r.at) (sym new_crossing) at)))
      ];
      small = λ k less. elim (cases_lt k n) as (λ _. crossing_in u k < u.places) [
        | inl old ↦ omega (arith, old_crossing k old, indexed.small k old, pushes.places)
        | inr new ↦ (
            let here : n ≡ k = omega (arith, new, less) in
            subst (λ m. crossing_in u m < u.places) here (omega (arith, new_crossing, few, pushes.places, indexed.places)))
      ];
      found = λ k d less. elim (cases_lt k n) as (λ _. get_or u.slots.items (slot_of u (get_or rows k d).stage (crossing_in u k)) 0 ≡ k) [
        | inl old ↦
            subst (λ p. get_or u.slots.items ((get_or rows k d).stage * p + crossing_in u k) 0 ≡ k) (sym pushes.places)
            (subst (λ e. get_or u.slots.items (slot_of t (get_or rows k d).stage e) 0 ≡ k) (sym (old_crossing k old)) (old_found k d old))
        | inr new ↦ (
            let here : n ≡ k = omega (arith, new, less) in
            subst (λ m. get_or u.slots.items (slot_of u (get_or rows m d).stage (crossing_in u m)) 0 ≡ m) here
            (subst (λ p. get_or u.slots.items ((get_or rows n d).stage * p + crossing_in u n) 0 ≡ n) (sym pushes.places)
            (subst (λ q. get_or u.slots.items (slot_of t q.stage (crossing_in u n)) 0 ≡ n) (sym (same_row d))
            (subst (λ e. get_or u.slots.items (slot_of t r.stage e) 0 ≡ n) (sym new_crossing) new_found))))
      ];
    }

-- the crossing of the last row is there
pub last_live : (a : Arena) (last : ℕ) (rows : List LabelRow) (n : ℕ) (t : RowIndex) → AreIndexed a last rows n t → (o : Option ℕ) →
    IfSome o (λ c. (k : ℕ) × (k < length t.crossings.items) × (c ≡ crossing_in t k)) → IfSome o (λ c. IsSome (map.get a.crossings c))
last_live a last rows n t indexed None is = tt
last_live a last rows n t indexed (Some c) is =
    let d : LabelRow = record { stage = 0; at = record { x = pos 0; y = pos 0 }; east = None; south = None; west = None; north = None } in
    ap is_some (subst (λ e. StandsAt a e (get_or rows is.0 d).at) (sym is.2) (indexed.stand is.0 d (omega (arith, is.1, indexed.as_long)))).is
