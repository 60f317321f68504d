-- A row of a table is written.
use Rattle.std.proofs.Common.{◌≡◌, ◌≢◌, ◌⊎◌, ℕ, ◌+◌, ◌*◌, ◌/◌, ◌<◌, Bool, true, false, nat_lt, if◌then◌else◌, List, length, get_or, refl, sym, ap, ◌∙◌, inl, inr, arith}
use Rattle.std.proofs.Math.ListN.{set}
use Rattle.std.proofs.lemmas.Bool.{cases_eq, lt-ltb, ltb-true}
use Rattle.std.proofs.lemmas.List.{get_or-set_other, get_or-set_same, get_or_read}
use Rattle.std.proofs.lemmas.Nat.{div-mul-add}
use Rattle.plane_geom.specs.declared.point.Dir.{Dir}
use Rattle.plane_geom.specs.declared.point.Dir.TheVariants.{East, South, West, North}
use Rattle.move_model.specs.declared.place.Place.{Place}
use Rattle.proof_search.specs.declared.label.Label.{Label}
use Rattle.proof_search.specs.declared.label.Label.TheVariants.{Absent}
use Rattle.proof_search.specs.declared.label.Row.{Row}
use Rattle.proof_search.specs.Labels.{empty_row, label_in, with_label}

-- the label at a heading of a row that was given one there
pub label_same : (r : Row) (h : Dir) (l : Label) → label_in (with_label r h l) h ≡ l
label_same r East l = refl
label_same r South l = refl
label_same r West l = refl
label_same r North l = refl

label_other : (r : Row) (h d : Dir) (l : Label) → (d ≡ h → ⊥) → label_in (with_label r h l) d ≡ label_in r d
label_other r East East l apart = absurd (apart refl)
label_other r East South l apart = refl
label_other r East West l apart = refl
label_other r East North l apart = refl
label_other r South East l apart = refl
label_other r South South l apart = absurd (apart refl)
label_other r South West l apart = refl
label_other r South North l apart = refl
label_other r West East l apart = refl
label_other r West South l apart = refl
label_other r West West l apart = absurd (apart refl)
label_other r West North l apart = refl
label_other r North East l apart = refl
label_other r North South l apart = refl
label_other r North West l apart = refl
label_other r North North l apart = absurd (apart refl)

if_same : (b : Bool) (l m : Label) → (b ≡ true → l ≡ m) → (if b then l else Absent) ≡ (if b then m else Absent)
if_same true l m h = h refl
if_same false l m h = refl

if_true : (b : Bool) (l : Label) → b ≡ true → (if b then l else Absent) ≡ l
if_true b l e = ap (λ (c : Bool). if c then l else Absent) e

-- rows of different places differ
one_row : (places s c t d : ℕ) → c < places → d < places → s * places + c ≡ t * places + d → (s ≡ t) × (c ≡ d)
one_row places s c t d lc ld e =
    let same : s ≡ t = sym (div-mul-add s places c lc) ∙ ap (λ n. n / places) e ∙ div-mul-add t places d ld in
    let scaled : s * places ≡ t * places = ap (λ n. n * places) same in
    (same, omega (arith, e, scaled))

-- the label of a place in rows
abbrev pub label_among : ℕ → List Row → Place → Label
label_among places rows y = if nat_lt y.crossing places then label_in (get_or rows (y.stage * places + y.crossing) empty_row) y.heading else Absent

-- the row of a place is given a label
pub put_changed : (places : ℕ) (rows : List Row) (x : Place) (label : Label) (row : Row) → x.crossing < places → x.stage * places + x.crossing < length rows
    → label_among places (set rows (x.stage * places + x.crossing) (with_label row x.heading label)) x ≡ label
put_changed places rows x label row fits lt =
    if_true (nat_lt x.crossing places) _ (lt-ltb x.crossing places fits)
    ∙ ap (λ (r : Row). label_in r x.heading) (get_or-set_same rows (x.stage * places + x.crossing) (with_label row x.heading label) empty_row lt)
    ∙ label_same row x.heading label

pub put_others : (places : ℕ) (rows : List Row) (x : Place) (label : Label) (row : Row) → x.crossing < places → x.stage * places + x.crossing < length rows
    → row ≡ get_or rows (x.stage * places + x.crossing) empty_row → (y : Place) → y ≢ x
    → label_among places (set rows (x.stage * places + x.crossing) (with_label row x.heading label)) y ≡ label_among places rows y
put_others places rows x label row fits lt is y ne =
    if_same (nat_lt y.crossing places) _ _ (λ test. by_row (ltb-true y.crossing places test) (cases_eq (y.stage * places + y.crossing) (x.stage * places + x.crossing)))
  where
    by_row : y.crossing < places → (y.stage * places + y.crossing ≡ x.stage * places + x.crossing) ⊎ (y.stage * places + y.crossing ≡ x.stage * places + x.crossing → ⊥)
        → label_in (get_or (set rows (x.stage * places + x.crossing) (with_label row x.heading label)) (y.stage * places + y.crossing) empty_row) y.heading
        ≡ label_in (get_or rows (y.stage * places + y.crossing) empty_row) y.heading
    by_row fits_y (inl same) =
        let both = one_row places y.stage y.crossing x.stage x.crossing fits_y fits same in
        let apart : y.heading ≡ x.heading → ⊥ = λ (h : y.heading ≡ x.heading). ne (λ i. record { crossing = both.1 i; stage = both.0 i; heading = h i }) in
        ap (λ (k : ℕ). label_in (get_or (set rows (x.stage * places + x.crossing) (with_label row x.heading label)) k empty_row) y.heading) same
        ∙ ap (λ (r : Row). label_in r y.heading) (get_or-set_same rows (x.stage * places + x.crossing) (with_label row x.heading label) empty_row lt)
        ∙ label_other row x.heading y.heading label apart
        ∙ ap (λ (r : Row). label_in r y.heading) is
        ∙ ap (λ (k : ℕ). label_in (get_or rows k empty_row) y.heading) (sym same)
    by_row fits_y (inr other) = ap (λ (r : Row). label_in r y.heading) (get_or-set_other rows (x.stage * places + x.crossing) (y.stage * places + y.crossing) _ empty_row other)

-- what is written to the row of a place changes the label of that place alone
module _ (old_places places : ℕ) (old_rows rows : List Row) (x : Place) (label : Label) (row written : Row) (at : ℕ)
    (same_places : places ≡ old_places) (same_rows : rows ≡ old_rows) (stands : at ≡ x.stage * old_places + x.crossing)
    (writes : written ≡ with_label row x.heading label) (read : row ≡ get_or rows at row)
    (fits : x.crossing < old_places) (lt : x.stage * old_places + x.crossing < length old_rows) where
  is_row : row ≡ get_or old_rows (x.stage * old_places + x.crossing) empty_row
  is_row =
      let within : at < length rows = omega (arith, stands, lt, ap length same_rows) in
      get_or_read rows at row within read empty_row ∙ (λ i. get_or (same_rows i) (stands i) empty_row)

  pub written_rows : set rows at written ≡ set old_rows (x.stage * old_places + x.crossing) (with_label (get_or old_rows (x.stage * old_places + x.crossing) empty_row) x.heading label)
  written_rows = (λ i. set (same_rows i) (stands i) (writes i)) ∙ ap (λ (r : Row). set old_rows (x.stage * old_places + x.crossing) (with_label r x.heading label)) is_row

  same_label : (y : Place) → label_among places (set rows at written) y ≡ label_among old_places (set old_rows (x.stage * old_places + x.crossing) (with_label row x.heading label)) y
  same_label y = λ i. label_among (same_places i) (set (same_rows i) (stands i) (writes i)) y

  pub written_here : label_among places (set rows at written) x ≡ label
  written_here = same_label x ∙ put_changed old_places old_rows x label row fits lt

  pub written_others : (y : Place) → y ≢ x → label_among places (set rows at written) y ≡ label_among old_places old_rows y
  written_others y ne =
      same_label y ∙ put_others old_places old_rows x label row fits lt is_row y ne
