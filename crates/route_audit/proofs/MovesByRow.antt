-- Moves from labelled places are those from the rows.
use Rattle.std.proofs.Common.{◌≡◌, ℕ, suc, ◌<◌, None, Some, List, [], ◌∷◌, get_or, refl, sym, ap, subst, ◌∙◌, inl, inr, All, AllPairs, length, arith, cond}
use Rattle.std.specs.Prelude.{IsTrue}
use Rattle.std.proofs.lemmas.Bool.{cases_Bool}
use Rattle.plane_geom.specs.declared.point.Dir.{Dir}
use Rattle.plane_geom.specs.declared.floor.Floor.{Floor}
use Rattle.walk_model.specs.declared.task.Task.{Task}
use Rattle.proof_model.specs.declared.proof.Claim.{Claim}
use Rattle.proof_model.specs.declared.proof.LabelRow.{LabelRow}
use Rattle.proof_model.specs.Labels.{is_before, is_row_of, label_in, label_of}
use Rattle.proof_model.specs.Places.{Place, IsMove}
use Rattle.proof_model.specs.Rules.{AreMovesFound, AreRows, most_label}
use Rattle.proof_model.proofs.LeastLabels.{label_found}
use Rattle.proof_model.proofs.OneList.{of_place}
use Rattle.route_audit.specs.Moves.{AreMovesInFound, row_place}

-- the row of which a label is
record IsLabelOf (rows : List LabelRow) (x : Place) (v : ℕ) : Type 0 where
  place : ℕ
  within : place < length rows
  here : (d : LabelRow) → row_place (get_or rows place d) x.heading ≡ x
  label : (d : LabelRow) → label_in (get_or rows place d) x.heading ≡ Some v

row_of_label : (rows : List LabelRow) (x : Place) (v : ℕ) → label_of rows x ≡ Some v → IsLabelOf rows x v
row_of_label [] x v is = absurd (let both : None ≡ Some v = is in cc)
row_of_label (r ∷ rs) x v is = elim (cases_Bool (is_row_of r x)) as (λ _. IsLabelOf (r ∷ rs) x v) [
  | inl it ↦ record {
    place = 0;
    within = omega arith;
    here = λ d. of_place r x it;
    label = λ d. sym (ap (λ b. cond b (label_in r x.heading) (label_of rs x)) it) ∙ is;
  }
  | inr other ↦ (
      let rest = row_of_label rs x v (sym (ap (λ b. cond b (label_in r x.heading) (label_of rs x)) other) ∙ is) in
      record { place = suc rest.place; within = omega (arith, rest.within); here = rest.here; label = rest.label })
]

module _ (floor : Floor) (task : Task) (claim : Claim) (rows : List LabelRow) where
  pub all_moves : All (λ r. (d : Dir) → AreMovesInFound floor task claim rows r d) rows → AreMovesFound floor task claim rows
  all_moves all x y label cost is m =
      let l = row_of_label rows x label is in
      let d : LabelRow = record { stage = 0; at = x.at; east = None; south = None; west = None; north = None } in
      all l.place d l.within y.heading x.heading label cost y (l.label d) refl (subst (λ z. IsMove floor task z cost y) (sym (l.here d)) m)

  pub each_move : AllPairs (λ a b. IsTrue (is_before a b)) rows → AreMovesFound floor task claim rows → All (λ r. (d : Dir) →
      AreMovesInFound floor task claim rows r d) rows
  each_move rise found k e within d h label cost y is turned m = found _ y label cost (label_found rows rise k e within h ∙ is) m

  -- labels of rows for a claim are small
  pub small_labels : AreRows floor task claim rows → (x : Place) (label : ℕ) → label_of rows x ≡ Some label → label < most_label
  small_labels are x label is =
      let l = row_of_label rows x label is in
      let d : LabelRow = record { stage = 0; at = x.at; east = None; south = None; west = None; north = None } in
      (are.each l.place d l.within).small x.heading label (l.label d)
