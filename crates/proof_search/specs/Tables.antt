-- The contents of a table of labels.
use Rattle.std.specs.Prelude.{ℕ, ◌≡◌, ◌≢◌, ◌+◌, ◌*◌, ◌<◌, nat_lt, if◌then◌else◌, All, length, slice_index_or, slice_set}
use Rattle.move_model.specs.declared.place.Place.{Place}
use Rattle.proof_search.specs.declared.label.Label.{Label}
use Rattle.proof_search.specs.declared.label.Label.TheVariants.{Absent}
use Rattle.proof_search.specs.declared.table.Table.{Table}
use Rattle.proof_search.specs.Labels.{empty_row, label_in, with_label}

-- the index of the row of the place
abbrev pub row_of : Table → Place → ℕ
row_of t x = x.stage * t.places + x.crossing

-- the label of the place
abbrev pub label_of : Table → Place → Label
label_of t x = if nat_lt x.crossing t.places then label_in (slice_index_or t.rows.items (row_of t x) empty_row) x.heading else Absent

-- the table has a row for the place
pub record HasRow (t : Table) (x : Place) : Type 0 where
  pub crossing : x.crossing < t.places
  pub stage : row_of t x < length t.rows.items

-- no row has a label
abbrev pub IsClear : Table → Type 0
IsClear t = All (λ r. r ≡ empty_row) t.rows.items

-- both tables have rows for the same places
pub record SameRooms (old new : Table) : Type 0 where
  pub places : new.places ≡ old.places
  pub rows : length new.rows.items ≡ length old.rows.items

-- only this one of all labels has changed
pub record Puts (old new : Table) (x : Place) (label : Label) : Type 0 where
  pub rooms : SameRooms old new
  pub changed : label_of new x ≡ label
  pub written : new.rows.items ≡ slice_set old.rows.items (row_of old x) (with_label (slice_index_or old.rows.items (row_of old x) empty_row) x.heading label)
  pub others : (y : Place) → y ≢ x → label_of new y ≡ label_of old y
