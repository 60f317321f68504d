-- Proofs prove a scene, or a rule fails first: the rules are decided.
use Rattle.std.proofs.Common.{◌≡◌, ◌⊎◌, inl, inr, ℕ, suc, ◌+◌, ◌<◌, Bool, true, false, cond, List, [], ◌∷◌, length, get_or, Option, Some, None, Result, Ok, Err, refl, sym, subst, arith}
use Rattle.std.proofs.Math.Bool.{Bool-discrete}
use Rattle.std.proofs.Math.Decide.{map_dec, dec_le, ℕ_discrete}
use Rattle.std.specs.Prelude.{AllPairs, Contains, IsSome, IsTrue, pos}
use Rattle.std.specs.List.{AllZip}
use Rattle.std.proofs.lemmas.Option.{none-some, same_Some}
use Rattle.std.proofs.lemmas.List.{get_or_default}
use Rattle.plane_geom.specs.declared.point.Point.{Point}
use Rattle.plane_geom.specs.declared.point.Dir.{Dir}
use Rattle.plane_geom.specs.declared.floor.Floor.{Floor}
use Rattle.plane_geom.specs.Point.{PointIsOnSheet, forward}
use Rattle.walk_model.specs.declared.task.Choice.{Choice}
use Rattle.walk_model.specs.declared.task.Task.{Task}
use Rattle.walk_model.specs.Choice.{stub_length}
use Rattle.route_check.specs.declared.verdict.Breach.{Breach}
use Rattle.route_check.specs.Verdict.{IsLeastCost, IsVerdict}
use Rattle.scene_model.specs.declared.edge.Edge.{Edge}
use Rattle.scene_model.specs.Scene.{Scene, connectors}
use Rattle.scene_model.specs.Routing.{floor_of, task_of}
use Rattle.proof_model.specs.declared.proof.Claim.{Claim}
use Rattle.proof_model.specs.declared.proof.Claim.TheVariants.{Cost, Cut}
use Rattle.proof_model.specs.declared.proof.LabelRow.{LabelRow}
use Rattle.proof_model.specs.declared.proof.Proof.{Proof}
use Rattle.proof_model.specs.Labels.{is_before, is_row_of, label_in, label_of}
use Rattle.proof_model.specs.Places.{IsMove, Place}
use Rattle.proof_model.specs.Rules.{AreEntriesFound, AreMovesFound, AreRows, BreaksFirst, IsFound, IsLabelFor, IsRow, IsShown, MayAllEnd, MayEnd, Proves, Suffices, by_endings, by_entries, by_line, by_moves, by_rows, most_label}
use Rattle.proof_model.specs.Scenes.{FailsFirst, IsProofOf, by_edge, by_rule}
use Rattle.proof_model.proofs.LeastLabels.{place_in}
use Rattle.proof_model.proofs.OneList.{of_place}
use Rattle.existence_laws.specs.Audits.{ScenesAreAudited}
use Rattle.existence_laws.proofs.Deciding.Decided.{both, denied, some_below, some_in, settled}
use Rattle.existence_laws.proofs.Auditing.Floors.{all_decided, coordinate_decided, crossing_decided}
use Rattle.existence_laws.proofs.Auditing.Places.{Ends, Enters, Moves, all_dirs, end_cost, ended, ending_by, ends_decided, entered, enters_decided, entry_by, move_by, move_cost, moved, moves_decided, some_dir, stands}
use Rattle.existence_laws.proofs.Answering.Verdicts.{some_verdict}

-- of each label
label_all : (P : ℕ → Type 0) → ((n : ℕ) → Dec (P n)) → (o : Option ℕ) → Dec ((label : ℕ) → o ≡ Some label → P label)
label_all P each None = yes (λ label e. absurd (none-some _ e))
label_all P each (Some n) = map_dec (λ p label e. subst P (same_Some _ _ e) p) (λ all. all n refl) (each n)

label_some : (P : ℕ → Type 0) → ((n : ℕ) → Dec (P n)) → (o : Option ℕ) → Dec ((label : ℕ) × (o ≡ Some label) × P label)
label_some P each None = no (λ h. none-some _ h.1)
label_some P each (Some n) = map_dec (λ p. (n, refl, p)) (λ h. subst P (same_Some _ _ (sym h.1)) h.2) (each n)

pub some_decided : (o : Option ℕ) → Dec (IsSome o)
some_decided None = no (λ h. let wrong : false ≡ true = h in cc)
some_decided (Some n) = yes refl

-- a label is that of a row
pub labelled : (rows : List LabelRow) (x : Place) (label : ℕ) → label_of rows x ≡ Some label → (r : LabelRow) × Contains rows r × (place_in r x.heading ≡ x)
labelled [] x label e = absurd (none-some _ e)
labelled (r ∷ rs) x label e = by_row (is_row_of r x) refl e (labelled rs x label)
  where
    by_row : (b : Bool) → is_row_of r x ≡ b → cond b (label_in r x.heading) (label_of rs x) ≡ Some label → (label_of rs x ≡ Some label → (q : LabelRow) × Contains rs q × (place_in q x.heading ≡ x))
        → (q : LabelRow) × Contains (r ∷ rs) q × (place_in q x.heading ≡ x)
    by_row true is e later = (r, (0, omega arith, refl), of_place r x is)
    by_row false is e later = let h = later e in let has = h.1 in (h.0, (suc has.0, (let l = has.1 in omega (arith, l)), has.2), h.2)

suffices_decided : (claim : Claim) (o : Option ℕ) (cost : ℕ) → Dec (Suffices claim o cost)
suffices_decided (Cost most points) o cost = dec_le _ cost
suffices_decided Cut o cost = some_decided o

end_decided : (claim : Claim) (cost : ℕ) → Dec (MayEnd claim cost)
end_decided (Cost least points) cost = dec_le least cost
end_decided Cut cost = no (λ h. h)

label_for : (claim : Claim) (label : ℕ) → Dec (IsLabelFor claim label)
label_for (Cost cost points) label = dec_le (suc label) cost
label_for Cut label = ℕ_discrete label 0

no_row : LabelRow
no_row = record { stage = 0; at = record { x = pos 0; y = pos 0 }; east = None; south = None; west = None; north = None }

rise_decided : (rows : List LabelRow) → Dec (AllPairs (λ a b. IsTrue (is_before a b)) rows)
rise_decided rows = map_dec
    (λ none i j d less within.
    let left : get_or rows i no_row ≡ get_or rows i d = get_or_default rows i no_row d (omega (arith, less, within)) in
    let right : get_or rows j no_row ≡ get_or rows j d = get_or_default rows j no_row d within in
    subst (λ a. is_before a (get_or rows j d) ≡ true) left (subst (λ b. is_before (get_or rows i no_row) b ≡ true) right
    (settled (Bool-discrete (is_before (get_or rows i no_row) (get_or rows j no_row)) true) (λ other. none (j, within, (i, less, other))))))
    (λ rise. λ h. h.2.2 (rise h.2.0 h.0 no_row h.2.1 h.1))
    (denied (some_below (length rows) (λ j. (i : ℕ) × (i < j) × (is_before (get_or rows i no_row) (get_or rows j no_row) ≡ true → ⊥))
    (λ j. some_below j (λ i. is_before (get_or rows i no_row) (get_or rows j no_row) ≡ true → ⊥) (λ i. denied (Bool-discrete (is_before (get_or rows i no_row) (get_or rows j no_row)) true)))))

-- a line costs least
least_decided : (floor : Floor) (task : Task) (points : List Point) (cost : ℕ) → (verdict : Result ℕ Breach) × IsVerdict floor.solids task points verdict → Dec (IsLeastCost floor.solids task points cost)
least_decided floor task points cost (Err breach, is) = no (λ l. is.0 l.line)
least_decided floor task points cost (Ok least, is) = map_dec
    (λ same. subst (IsLeastCost floor.solids task points) same is)
    (λ l.
    let here = is.least l.line in
    let there = l.least is.line in
    let reached = l.reached in
    let least_reached = is.reached in omega (arith, here, there, reached, least_reached))
    (ℕ_discrete least cost)

module _ (floor : Floor) (task : Task) (claim : Claim) (rows : List LabelRow) where
  row_decided : (r : LabelRow) → Dec (IsRow floor task claim r)
  row_decided r = map_dec
      (λ h. record { crossing = h.0.0; stage = h.0.1; some = h.1.0; right = h.1.1.0; small = h.1.1.1 })
      (λ h. ((h.crossing, h.stage), (h.some, (h.right, h.small))))
      (both (both (crossing_decided floor r.at) (dec_le r.stage (length task.via)))
      (both (some_dir (λ h. IsSome (label_in r h)) (λ h. some_decided (label_in r h)))
      (both (all_dirs (λ h. (label : ℕ) → label_in r h ≡ Some label → IsLabelFor claim label) (λ h. label_all (IsLabelFor claim) (label_for claim) (label_in r h)))
      (all_dirs (λ h. (label : ℕ) → label_in r h ≡ Some label → label < most_label) (λ h. label_all (λ n. n < most_label) (λ n. dec_le (suc n) most_label) (label_in r h))))))

  rows_decided : Dec (AreRows floor task claim rows)
  rows_decided = map_dec (λ h. record { rise = h.0; each = h.1 }) (λ h. (h.rise, h.each)) (both (rise_decided rows) (all_decided (IsRow floor task claim) row_decided rows))

  shown_by : (c : Claim) → Dec (IsShown floor task c)
  shown_by Cut = yes tt
  shown_by (Cost cost points) = map_dec
      (λ h. record { polyline = record { within = h.0.0; few = h.0.1 }; reached = h.1.0; small = h.1.1 })
      (λ h. ((h.polyline.within, h.polyline.few), (h.reached, h.small)))
      (both (both (all_decided PointIsOnSheet (λ p. map_dec (λ h. record { x = h.0; y = h.1 }) (λ h. (h.x, h.y)) (both (coordinate_decided p.x) (coordinate_decided p.y))) points) (dec_le (length points) 40000000))
      (both (least_decided floor task points cost (some_verdict floor.solids task points)) (dec_le (suc cost) most_label)))

  found_decided : (x : Place) (cost : ℕ) → Dec (IsFound claim rows x cost)
  found_decided x cost = suffices_decided claim (label_of rows x) cost

  -- an entry that is not found
  BadEntry : Choice → ℕ → Type 0
  BadEntry c stage = Enters floor task c stage × (IsFound claim rows (stands stage c.port c.dir) (stub_length c + c.cost) → ⊥)

  entries_decided : Dec (AreEntriesFound floor task claim rows)
  unfolding BadEntry
  entries_decided = map_dec
      (λ none x cost entry. entered floor task (IsFound claim rows)
      (λ c stage has within enters. settled (found_decided (stands stage c.port c.dir) (stub_length c + c.cost)) (λ other. none (c, has, (stage, within, (enters, other))))) x cost entry)
      (λ all. λ h. let bad = h.2.2 in bad.1 (all (stands h.2.0 h.0.port h.0.dir) (stub_length h.0 + h.0.cost) (entry_by floor task h.0 h.2.0 h.1 bad.0)))
      (denied (some_in _ (λ c. some_below (suc (length task.via)) (BadEntry c) (λ stage. both (enters_decided floor task c stage) (denied (found_decided (stands stage c.port c.dir) (stub_length c + c.cost))))) task.starts))

  -- a move that is not found
  BadMove : Place → Dir → ℕ → ℕ → Type 0
  BadMove x d n stage = Moves floor task x d n stage
      × ((label : ℕ) × (label_of rows x ≡ Some label) × (IsFound claim rows (stands stage (forward d n x.at) d) (label + move_cost floor task x d n) → ⊥))

  bad_move_decided : (x : Place) (d : Dir) (n stage : ℕ) → Dec (BadMove x d n stage)
  unfolding BadMove
  bad_move_decided x d n stage =
      both (moves_decided floor task x d n stage)
      (label_some _ (λ label. denied (found_decided (stands stage (forward d n x.at) d) (label + move_cost floor task x d n))) (label_of rows x))

  BadFrom : Place → Type 0
  BadFrom x = (d : Dir) × ((n : ℕ) × (n < 8000000001) × ((stage : ℕ) × (stage < suc (length task.via)) × BadMove x d n stage))

  bad_from_decided : (x : Place) → Dec (BadFrom x)
  unfolding BadFrom
  bad_from_decided x = some_dir _ (λ d. some_below 8000000001 _ (λ n. some_below (suc (length task.via)) (BadMove x d n) (bad_move_decided x d n)))

  no_bad_from : (x : Place) (label : ℕ) → label_of rows x ≡ Some label → (BadFrom x → ⊥) → (cost : ℕ) (y : Place) → IsMove floor task x cost y → IsFound claim rows y (label + cost)
  unfolding BadFrom BadMove
  no_bad_from x label e none cost y move = moved floor task x (λ c z. IsFound claim rows z (label + c))
      (λ d n stage few within moves. settled (found_decided (stands stage (forward d n x.at) d) (label + move_cost floor task x d n)) (λ other. none (d, (n, few, (stage, within, (moves, (label, e, other))))))) cost y move

  moves_all_decided : Dec (AreMovesFound floor task claim rows)
  unfolding BadFrom BadMove
  moves_all_decided = map_dec
      (λ none x y label cost e move.
      let row = labelled rows x label e in
      no_bad_from x label e (λ bad. none (row.0, row.1, (x.heading, subst BadFrom (sym row.2) bad))) cost y move)
      (λ all. λ h.
      let x = place_in h.0 h.2.0 in
      let bad = h.2.1 in
      let d = bad.0 in
      let n = bad.1.0 in
      let stage = bad.1.2.0 in
      let move = bad.1.2.2 in
      let label = move.1 in
      label.2 (all x (stands stage (forward d n x.at) d) label.0 (move_cost floor task x d n) label.1 (move_by floor task x d n stage move.0)))
      (denied (some_in _ (λ r. some_dir _ (λ h. bad_from_decided (place_in r h))) rows))

  -- an ending that costs too little
  BadEnd : Place → Type 0
  BadEnd x = (c : Choice) × Contains task.ends c × (Ends floor task x c × ((label : ℕ) × (label_of rows x ≡ Some label) × (MayEnd claim (label + end_cost floor task x c) → ⊥)))

  bad_end_decided : (x : Place) → Dec (BadEnd x)
  unfolding BadEnd
  bad_end_decided x = some_in _ (λ c. both (ends_decided floor task x c) (label_some _ (λ label. denied (end_decided claim (label + end_cost floor task x c))) (label_of rows x))) task.ends

  endings_decided : Dec (MayAllEnd floor task claim rows)
  unfolding BadEnd
  endings_decided = map_dec
      (λ none x label cost e ending.
      let row = labelled rows x label e in
      ended floor task x (λ c. MayEnd claim (label + c))
      (λ c has ends. settled (end_decided claim (label + end_cost floor task x c)) (λ other. none (row.0, row.1, (x.heading, subst BadEnd (sym row.2) (c, has, (ends, (label, e, other))))))) cost ending)
      (λ all. λ h.
      let x = place_in h.0 h.2.0 in
      let bad = h.2.1 in
      let label = bad.2.1 in
      label.2 (all x label.0 (end_cost floor task x bad.0) label.1 (ending_by floor task x bad.0 bad.1 bad.2.0)))
      (denied (some_in _ (λ r. some_dir _ (λ h. bad_end_decided (place_in r h))) rows))

  -- the rules hold, or one of them fails first
  Ruled : Type 0
  Ruled = Proves floor task claim rows ⊎ ((rule : ℕ) × BreaksFirst floor task claim rows rule)

  by_all : AreRows floor task claim rows → IsShown floor task claim → AreEntriesFound floor task claim rows → AreMovesFound floor task claim rows → Dec (MayAllEnd floor task claim rows) → Ruled
  unfolding Ruled
  by_all right shown entries moves (yes endings) = inl (record { right_rows = right; shown = shown; entries = entries; moves = moves; endings = endings })
  by_all right shown entries moves (no not) = inr (6, by_endings right shown entries moves not refl)

  by_moves_decided : AreRows floor task claim rows → IsShown floor task claim → AreEntriesFound floor task claim rows → Dec (AreMovesFound floor task claim rows) → Ruled
  unfolding Ruled
  by_moves_decided right shown entries (yes moves) = by_all right shown entries moves endings_decided
  by_moves_decided right shown entries (no not) = inr (5, by_moves right shown entries not refl)

  by_entries_decided : AreRows floor task claim rows → IsShown floor task claim → Dec (AreEntriesFound floor task claim rows) → Ruled
  unfolding Ruled
  by_entries_decided right shown (yes entries) = by_moves_decided right shown entries moves_all_decided
  by_entries_decided right shown (no not) = inr (4, by_entries right shown not refl)

  by_shown : AreRows floor task claim rows → Dec (IsShown floor task claim) → Ruled
  unfolding Ruled
  by_shown right (yes shown) = by_entries_decided right shown entries_decided
  by_shown right (no not) = inr (3, by_line right not refl)

  by_rows_decided : Dec (AreRows floor task claim rows) → Ruled
  unfolding Ruled
  by_rows_decided (yes right) = by_shown right (shown_by claim)
  by_rows_decided (no not) = inr (2, by_rows not refl)

  pub ruled : Proves floor task claim rows ⊎ ((rule : ℕ) × BreaksFirst floor task claim rows rule)
  unfolding Ruled
  ruled = by_rows_decided rows_decided

-- one connector after the other
module _ (s : Scene) where
  Audited : List Edge → List Proof → Type 0
  Audited es ps = AllZip (IsProofOf s) es ps ⊎ ((edge : ℕ) × (rule : ℕ) × FailsFirst s es ps edge rule)

  by_rest : (e : Edge) (es : List Edge) (p : Proof) (ps : List Proof) → IsProofOf s e p → Audited es ps → Audited (e ∷ es) (p ∷ ps)
  unfolding Audited
  by_rest e es p ps proof (inl rest) = inl (proof, rest)
  by_rest e es p ps proof (inr (edge, rule, later)) = inr (edge, rule, inr (proof, later))

  by_rules : (e : Edge) (es : List Edge) (p : Proof) (ps : List Proof) → p.edge ≡ e.number → Proves (floor_of s) (task_of s e) p.claim p.rows ⊎ ((rule : ℕ) × BreaksFirst (floor_of s) (task_of s e) p.claim p.rows rule)
      → Audited es ps → Audited (e ∷ es) (p ∷ ps)
  unfolding Audited
  by_rules e es p ps same (inl proves) rest = by_rest e es p ps (record { edge = same; proves = proves }) rest
  by_rules e es p ps same (inr (rule, breaks)) rest = inr (e.number, rule, inl (refl, by_rule same breaks))

  by_number : (e : Edge) (es : List Edge) (p : Proof) (ps : List Proof) → Dec (p.edge ≡ e.number) → Audited es ps → Audited (e ∷ es) (p ∷ ps)
  unfolding Audited
  by_number e es p ps (yes same) rest = by_rules e es p ps same (ruled (floor_of s) (task_of s e) p.claim p.rows) rest
  by_number e es p ps (no other) rest = inr (e.number, 1, inl (refl, by_edge other refl))

  audited : (es : List Edge) (ps : List Proof) → Audited es ps
  unfolding Audited
  audited [] [] = inl tt
  audited [] (p ∷ ps) = inr (0, 1, (refl, refl))
  audited (e ∷ es) [] = inr (e.number, 1, (refl, refl))
  audited (e ∷ es) (p ∷ ps) = by_number e es p ps (ℕ_discrete p.edge e.number) (audited es ps)

pub some_audit : ScenesAreAudited
unfolding Audited
some_audit s proofs = audited s (connectors s) proofs
