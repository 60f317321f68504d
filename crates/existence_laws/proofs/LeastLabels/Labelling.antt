-- Each connector of a valid scene has a least proof: a row for each place to which a walk comes.
use Rattle.std.proofs.Common.{◌≡◌, ◌≢◌, inl, inr, ℕ, zero, suc, ◌<◌, ◌<ℤ◌, true, false, List, [], ◌∷◌, ◌++◌, length, Option, Some, None, refl, sym, ap, ◌∙◌, subst, arith, if◌then◌else◌}
use Rattle.std.specs.Prelude.{AllPairs, Contains, IsSome, IsTrue}
use Rattle.std.specs.List.{AllByRecursion as Each}
use Rattle.std.proofs.lemmas.Bool.{cases_lt}
use Rattle.std.proofs.lemmas.Int.{ints}
use Rattle.std.proofs.lemmas.List.Elements.{All-contains_itself, All-from_recursion, recursion_from_All}
use Rattle.std.proofs.lemmas.List.Kept.{AllPairs-cons}
use Rattle.plane_geom.specs.declared.point.Point.{Point}
use Rattle.plane_geom.specs.declared.point.Dir.{Dir}
use Rattle.plane_geom.specs.declared.point.Dir.TheVariants.{East, South, West, North}
use Rattle.plane_geom.specs.declared.floor.Floor.{Floor}
use Rattle.plane_geom.specs.declared.rect.Solid.{Solid}
use Rattle.plane_geom.specs.Point.{IsCoordinate}
use Rattle.walk_model.specs.declared.route.Route.{Route}
use Rattle.walk_model.specs.declared.task.Task.{Task}
use Rattle.walk_model.specs.Answers.{IsAnswer}
use Rattle.scene_model.specs.declared.edge.Edge.{Edge}
use Rattle.scene_model.specs.Scene.{Scene, connectors}
use Rattle.scene_model.specs.Valid.{IsValid}
use Rattle.scene_model.specs.Routing.{floor_of, solids, task_of}
use Rattle.scene_model.proofs.Editing.Entries.{each_weaker}
use Rattle.scene_model.proofs.ForRouting.Floors.{floors_fit, floors_hold_tasks}
use Rattle.proof_model.specs.declared.proof.Claim.{Claim}
use Rattle.proof_model.specs.declared.proof.Claim.TheVariants.{Cost, Cut}
use Rattle.proof_model.specs.declared.proof.LabelRow.{LabelRow}
use Rattle.proof_model.specs.declared.proof.Proof.{Proof}
use Rattle.proof_model.specs.Labels.{is_before, is_row_of, label_in, label_of}
use Rattle.proof_model.specs.LeastLabels.{AreLeastLabels, IsLeastProof, IsRightClaim}
use Rattle.proof_model.specs.Places.{Place}
use Rattle.proof_model.specs.Rules.{Suffices}
use Rattle.proof_model.proofs.LeastLabels.{place_in, row_itself}
use Rattle.existence_laws.specs.Audits.{HaveLeastProofs}
use Rattle.existence_laws.proofs.Answering.Answered.{partners, some_answer}
use Rattle.existence_laws.proofs.Auditing.Audits.{labelled, some_decided}
use Rattle.existence_laws.proofs.Deciding.Counting.{below, each_append, each_below}
use Rattle.existence_laws.proofs.Auditing.Places.{some_dir, stands}
use Rattle.existence_laws.proofs.LeastLabels.Reaching.{InRange, comes_in_range, coordinate, label_at, numbered}

-- ---- lists of rows that rise

-- each row stands before all later ones
abbrev Rises : List LabelRow → Type 0
Rises [] = Unit {0}
Rises (r ∷ rs) = Each (λ q. IsTrue (is_before r q)) rs × Rises rs

abbrev AreBefore : List LabelRow → List LabelRow → Type 0
AreBefore rs qs = Each (λ r. Each (λ q. IsTrue (is_before r q)) qs) rs

rises_append : (rs qs : List LabelRow) → Rises rs → Rises qs → AreBefore rs qs → Rises (rs ++ qs)
rises_append [] qs h k before = k
rises_append (r ∷ rs) qs h k before = (each_append (λ q. IsTrue (is_before r q)) rs qs h.0 before.0, rises_append rs qs h.1 k before.1)

rises_below : (part : ℕ → List LabelRow) (n : ℕ) → ((i : ℕ) → i < n → Rises (part i)) → ((i j : ℕ) → i < j → AreBefore (part i) (part j)) → Rises (below n part)
unfolding below
rises_below part zero each before = tt
rises_below part (suc n) each before =
    rises_append (below n part) (part n) (rises_below part n (λ i l. each i (omega (arith, l))) before) (each n (omega arith))
    (each_below (λ r. Each (λ q. IsTrue (is_before r q)) (part n)) part n (λ i l. before i n l))

all_pairs : (rs : List LabelRow) → Rises rs → AllPairs (λ a b. IsTrue (is_before a b)) rs
all_pairs [] h = λ i j d l within. absurd (omega (arith, within))
all_pairs (r ∷ rs) h = AllPairs-cons (λ a b. IsTrue (is_before a b)) r rs (All-from_recursion (λ q. IsTrue (is_before r q)) rs h.0) (all_pairs rs h.1)

before_x : (a b : LabelRow) → a.stage ≡ b.stage → a.at.y ≡ b.at.y → a.at.x <ℤ b.at.x → is_before a b ≡ true
before_x a b s y x = grind (arith, ints, s, y, x)

before_y : (a b : LabelRow) → a.stage ≡ b.stage → a.at.y <ℤ b.at.y → is_before a b ≡ true
before_y a b s y = grind (arith, ints, s, y)

before_stage : (a b : LabelRow) → a.stage < b.stage → is_before a b ≡ true
before_stage a b s = grind (arith, ints, s)

-- ---- the label of a place in parts of a list

abbrev Misses : Place → LabelRow → Type 0
Misses z r = is_row_of r z ≡ false

miss_x : (r : LabelRow) (z : Place) → r.at.x ≢ z.at.x → is_row_of r z ≡ false
miss_x r z other = grind (arith, ints, other)

miss_y : (r : LabelRow) (z : Place) → r.at.y ≢ z.at.y → is_row_of r z ≡ false
miss_y r z other = grind (arith, ints, other)

miss_stage : (r : LabelRow) (z : Place) → r.stage ≢ z.stage → is_row_of r z ≡ false
miss_stage r z other = grind (arith, ints, other)

label_front : (rs qs : List LabelRow) (z : Place) → Each (Misses z) rs → label_of (rs ++ qs) z ≡ label_of qs z
label_front [] qs z none = refl
label_front (r ∷ rs) qs z none = ap (λ b. if b then label_in r z.heading else label_of (rs ++ qs) z) none.0 ∙ label_front rs qs z none.1

label_none : (rs : List LabelRow) (z : Place) → Each (Misses z) rs → label_of rs z ≡ None
label_none [] z none = refl
label_none (r ∷ rs) z none = ap (λ b. if b then label_in r z.heading else label_of rs z) none.0 ∙ label_none rs z none.1

label_back : (rs qs : List LabelRow) (z : Place) → Each (Misses z) qs → label_of (rs ++ qs) z ≡ label_of rs z
label_back [] qs z none = label_none qs z none
label_back (r ∷ rs) qs z none = ap (λ o. if is_row_of r z then label_in r z.heading else o) (label_back rs qs z none)

label_below : (part : ℕ → List LabelRow) (n i : ℕ) (z : Place) → i < n → ((j : ℕ) → j ≢ i → Each (Misses z) (part j)) → label_of (below n part) z ≡ label_of (part i) z
unfolding below
label_below part zero i z l miss = absurd (omega (arith, l))
label_below part (suc n) i z l miss = elim (cases_lt i n) as (λ _. label_of (below n part ++ part n) z ≡ label_of (part i) z) [
  | inl less ↦ label_back (below n part) (part n) z (miss n (λ e. omega (arith, e, less))) ∙ label_below part n i z less miss
  | inr last ↦ (let e : n ≡ i = omega (arith, l, last) in
      label_front (below n part) (part n) z (each_below (Misses z) part n (λ j m. miss j (λ same. omega (arith, same, m, e)))) ∙ ap (λ k. label_of (part k) z) e)
]

-- ---- the rows

kept_row : (r : LabelRow) → Dec ((h : Dir) × IsSome (label_in r h)) → List LabelRow
kept_row r (yes some) = r ∷ []
kept_row r (no none) = []

kept_each : (P : LabelRow → Type 0) (r : LabelRow) (d : Dec ((h : Dir) × IsSome (label_in r h))) → P r → Each P (kept_row r d)
unfolding kept_row
kept_each P r (yes some) p = (p, tt)
kept_each P r (no none) p = tt

kept_some : (r : LabelRow) (d : Dec ((h : Dir) × IsSome (label_in r h))) → Each (λ q. (h : Dir) × IsSome (label_in q h)) (kept_row r d)
unfolding kept_row
kept_some r (yes some) = (some, tt)
kept_some r (no none) = tt

kept_rises : (r : LabelRow) (d : Dec ((h : Dir) × IsSome (label_in r h))) → Rises (kept_row r d)
unfolding kept_row
kept_rises r (yes some) = (tt, tt)
kept_rises r (no none) = tt

none_there : (o : Option ℕ) → (IsSome o → ⊥) → None ≡ o
none_there None not = refl
none_there (Some n) not = absurd (not refl)

kept_label : (r : LabelRow) (h : Dir) (d : Dec ((g : Dir) × IsSome (label_in r g))) → label_of (kept_row r d) (place_in r h) ≡ label_in r h
unfolding kept_row
kept_label r h (yes some) = ap (λ b. if b then label_in r h else None) (row_itself r h)
kept_label r h (no none) = none_there (label_in r h) (λ is. none (h, is))

each_has : (P : LabelRow → Type 0) (rs : List LabelRow) (r : LabelRow) → Each P rs → Contains rs r → P r
each_has P [] r each (k, l, e) = absurd (omega (arith, l))
each_has P (q ∷ rs) r each (zero, l, e) = subst P e each.0
each_has P (q ∷ rs) r each (suc k, l, e) = each_has P rs r each.1 (k, omega (arith, l), e)

module _ (floor : Floor) (task : Task) (claim : Claim) where
  row_at : ℕ → Point → LabelRow
  row_at stage at = record {
    stage = stage;
    at = at;
    east = (label_at floor task claim (stands stage at East)).0;
    south = (label_at floor task claim (stands stage at South)).0;
    west = (label_at floor task claim (stands stage at West)).0;
    north = (label_at floor task claim (stands stage at North)).0;
  }

  in_row : (stage : ℕ) (at : Point) (h : Dir) → label_in (row_at stage at) h ≡ (label_at floor task claim (stands stage at h)).0
  unfolding row_at
  in_row stage at East = refl
  in_row stage at South = refl
  in_row stage at West = refl
  in_row stage at North = refl

  abbrev point : ℕ → ℕ → Point
  point j i = record { x = coordinate i; y = coordinate j }

  kept : (r : LabelRow) → Dec ((h : Dir) × IsSome (label_in r h))
  kept r = some_dir (λ h. IsSome (label_in r h)) (λ h. some_decided (label_in r h))

  cell : ℕ → ℕ → ℕ → List LabelRow
  cell stage j i = kept_row (row_at stage (point j i)) (kept (row_at stage (point j i)))

  line : ℕ → ℕ → List LabelRow
  line stage j = below 4000000001 (cell stage j)

  page : ℕ → List LabelRow
  page stage = below 4000000001 (line stage)

  rows : List LabelRow
  rows = below (suc (length task.via)) page

  -- where the rows of each part are
  cell_each : (P : LabelRow → Type 0) (stage j i : ℕ) → P (row_at stage (point j i)) → Each P (cell stage j i)
  unfolding cell
  cell_each P stage j i p = kept_each P (row_at stage (point j i)) (kept (row_at stage (point j i))) p

  line_each : (P : LabelRow → Type 0) (stage j : ℕ) → ((i : ℕ) → i < 4000000001 → P (row_at stage (point j i))) → Each P (line stage j)
  unfolding line
  line_each P stage j each = each_below P (cell stage j) 4000000001 (λ i l. cell_each P stage j i (each i l))

  page_each : (P : LabelRow → Type 0) (stage : ℕ) → ((j i : ℕ) → j < 4000000001 → i < 4000000001 → P (row_at stage (point j i))) → Each P (page stage)
  unfolding page
  page_each P stage each = each_below P (line stage) 4000000001 (λ j l. line_each P stage j (λ i m. each j i l m))

  rows_each : (P : LabelRow → Type 0) → ((stage j i : ℕ) → stage < suc (length task.via) → j < 4000000001 → i < 4000000001 → P (row_at stage (point j i))) → Each P rows
  unfolding rows
  rows_each P each = each_below P page (suc (length task.via)) (λ stage k. page_each P stage (λ j i l m. each stage j i k l m))

  -- the rows rise
  line_rises : (stage j : ℕ) → Rises (line stage j)
  unfolding line cell row_at
  line_rises stage j = rises_below (cell stage j) 4000000001 (λ i l. kept_rises (row_at stage (point j i)) (kept (row_at stage (point j i))))
      (λ i k l. cell_each (λ r. Each (λ q. IsTrue (is_before r q)) (cell stage j k)) stage j i
      (cell_each (λ q. IsTrue (is_before (row_at stage (point j i)) q)) stage j k
      (before_x (row_at stage (point j i)) (row_at stage (point j k)) refl refl (omega (arith, ints, l)))))

  page_rises : (stage : ℕ) → Rises (page stage)
  unfolding page row_at
  page_rises stage = rises_below (line stage) 4000000001 (λ j l. line_rises stage j)
      (λ j k l. line_each (λ r. Each (λ q. IsTrue (is_before r q)) (line stage k)) stage j (λ i m.
      line_each (λ q. IsTrue (is_before (row_at stage (point j i)) q)) stage k (λ i' m'.
      before_y (row_at stage (point j i)) (row_at stage (point k i')) refl (omega (arith, ints, l)))))

  rows_rise : Rises rows
  unfolding rows row_at
  rows_rise = rises_below page (suc (length task.via)) (λ stage l. page_rises stage)
      (λ s k l. page_each (λ r. Each (λ q. IsTrue (is_before r q)) (page k)) s (λ j i m n.
      page_each (λ q. IsTrue (is_before (row_at s (point j i)) q)) k (λ j' i' m' n'.
      before_stage (row_at s (point j i)) (row_at k (point j' i')) l)))

  -- the label of a place in range
  cell_label : (stage j i : ℕ) (h : Dir) → label_of (cell stage j i) (stands stage (point j i) h) ≡ (label_at floor task claim (stands stage (point j i) h)).0
  unfolding cell row_at
  cell_label stage j i h = kept_label (row_at stage (point j i)) h (kept (row_at stage (point j i))) ∙ in_row stage (point j i) h

  exact_at : (stage j i : ℕ) (h : Dir) → stage < suc (length task.via) → j < 4000000001 → i < 4000000001 → label_of rows (stands stage (point j i) h) ≡ (label_at floor task claim (stands stage (point j i) h)).0
  unfolding rows page line row_at
  exact_at stage j i h k l m =
      let z = stands stage (point j i) h in
      label_below page (suc (length task.via)) stage z k (λ s other. page_each (Misses z) s (λ j' i' l' m'. miss_stage (row_at s (point j' i')) z other))
      ∙ label_below (line stage) 4000000001 j z l (λ j' other. line_each (Misses z) stage j' (λ i' m'. miss_y (row_at stage (point j' i')) z (λ e. other (omega (arith, ints, e)))))
      ∙ label_below (cell stage j) 4000000001 i z m (λ i' other. cell_each (Misses z) stage j i' (miss_x (row_at stage (point j i')) z (λ e. other (omega (arith, ints, e)))))
      ∙ cell_label stage j i h

  exact : (z : Place) → InRange floor task z → label_of rows z ≡ (label_at floor task claim z).0
  exact z r =
      let on = r.at in
      let a = numbered z.at.x on.x in
      let b = numbered z.at.y on.y in
      let same : stands z.stage (point b.0 a.0) z.heading ≡ z = λ i. record { stage = z.stage; at = record { x = a.2 i; y = b.2 i }; heading = z.heading } in
      subst (λ y. label_of rows y ≡ (label_at floor task claim y).0) same (exact_at z.stage b.0 a.0 z.heading r.stage b.1 a.1)

  on_sheet : (i : ℕ) → i < 4000000001 → IsCoordinate (coordinate i)
  on_sheet i l = record { low = omega (arith, ints, l); high = omega (arith, ints, l) }

  labelled_in_range : (z : Place) (label : ℕ) → label_of rows z ≡ Some label → InRange floor task z
  unfolding row_at
  labelled_in_range z label e =
      let row = labelled rows z label e in
      let each : Each (λ r. InRange floor task (place_in r z.heading)) rows =
      rows_each (λ r. InRange floor task (place_in r z.heading)) (λ stage j i k l m. record { at = record { x = on_sheet i m; y = on_sheet j l }; stage = k }) in
      subst (InRange floor task) row.2 (each_has (λ r. InRange floor task (place_in r z.heading)) rows row.0 each row.1)

  rows_some : Each (λ r. (h : Dir) × IsSome (label_in r h)) rows
  unfolding rows page line cell
  rows_some = each_below (λ r. (h : Dir) × IsSome (label_in r h)) page (suc (length task.via)) (λ stage k.
      each_below (λ r. (h : Dir) × IsSome (label_in r h)) (line stage) 4000000001 (λ j l.
      each_below (λ r. (h : Dir) × IsSome (label_in r h)) (cell stage j) 4000000001 (λ i m.
      kept_some (row_at stage (point j i)) (kept (row_at stage (point j i))))))

  pub rows_exist : (rows : List LabelRow) × AreLeastLabels floor task claim rows
  rows_exist = (
    rows,
    record {
      rise = all_pairs rows rows_rise;
      some = All-from_recursion (λ r. (h : Dir) × IsSome (label_in r h)) rows rows_some;
      reached = λ z label e. (label_at floor task claim z).1.reached label (sym (exact z (labelled_in_range z label e)) ∙ e);
      least = λ z steps cost comes. subst (λ o. Suffices claim o cost) (sym (exact z (comes_in_range floor task steps z cost comes))) ((label_at floor task claim z).1.least steps cost comes);
    },
  )

-- ---- proofs of connectors

right_claim : (fs : List Solid) (task : Task) (answer : Option Route) → IsAnswer fs task answer → (claim : Claim) × IsRightClaim fs task claim
right_claim fs task None none = (Cut, none)
right_claim fs task (Some r) (t, first, route) = (Cost r.cost r.points, (t, r, first, route, refl, refl))

least_proof : (s : Scene) → IsValid s → (e : Edge) → Contains (connectors s) e → (p : Proof) × IsLeastProof s e p
least_proof s valid e has =
    let on = floors_hold_tasks s e valid has in
    let answer = some_answer (floor_of s) (task_of s e) (floors_fit s valid) on.task.is_task on.floor in
    let claim = right_claim (solids s) (task_of s e) answer.0 answer.1 in
    let labels = rows_exist (floor_of s) (task_of s e) claim.0 in
    (record { edge = e.number; claim = claim.0; rows = labels.0 }, record { edge = refl; claim = claim.1; labels = labels.1 })

pub some_least_proofs : HaveLeastProofs
some_least_proofs s valid =
    let es = connectors s in
    partners (IsLeastProof s) es
    (each_weaker (Contains es) (λ e. (p : Proof) × IsLeastProof s e p) (least_proof s valid) es (recursion_from_All (Contains es) es (All-contains_itself es)))
