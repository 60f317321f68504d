-- What an index of rows says. No public clause cites this module.
use Rattle.std.specs.Prelude.{ℕ, ◌≡◌, ◌+◌, ◌*◌, ◌<◌, ◌≤◌, List, [], ◌∷◌, ◌++◌, AllPairs, IsTrue, length, slice_index, slice_index_or, slice_set}
use Rattle.line_arena.specs.Arena.{Arena, StandsAt}
use Rattle.proof_model.specs.declared.proof.LabelRow.{LabelRow}
use Rattle.proof_model.specs.Labels.{is_before}
use Rattle.route_audit.specs.declared.labels.RowIndex.{RowIndex}
use Rattle.route_audit.specs.declared.labels.Labels.{Labels}

-- where the place of the row of the crossing in the stage stands
abbrev pub slot_of : RowIndex → ℕ → ℕ → ℕ
slot_of t stage crossing = stage * t.places + crossing

-- the crossing of the row at the place
abbrev pub crossing_in : RowIndex → ℕ → ℕ
crossing_in t k = slice_index t.crossings.items k

-- of the first n rows each has its crossing beside it, and its place in the slot of its stage and crossing
pub record AreIndexed (a : Arena) (last : ℕ) (rows : List LabelRow) (n : ℕ) (t : RowIndex) : Type 0 where
  pub places : t.places ≡ a.places
  pub room : (last + 1) * t.places ≤ length t.slots.items
  pub as_long : length t.crossings.items ≡ n
  pub stand : (k : ℕ) (d : LabelRow) → k < n → StandsAt a (crossing_in t k) (slice_index_or rows k d).at
  pub small : (k : ℕ) → k < n → crossing_in t k < t.places
  pub found : (k : ℕ) (d : LabelRow) → k < n → slice_index t.slots.items (slot_of t (slice_index_or rows k d).stage (crossing_in t k)) ≡ k

-- the rows rise, and the index is that of all of them
pub record AreLabels (a : Arena) (last : ℕ) (l : Labels) : Type 0 where
  pub rise : AllPairs (λ r s. IsTrue (is_before r s)) l.rows.now
  pub indexed : AreIndexed a last l.rows.now (length l.rows.now) l.index.now

-- one row more is indexed: it is at the place, of the crossing in the stage
pub record Pushes (old new : RowIndex) (place stage crossing : ℕ) : Type 0 where
  pub places : new.places ≡ old.places
  pub slots : new.slots.items ≡ slice_set old.slots.items (slot_of old stage crossing) place
  pub crossings : new.crossings.items ≡ old.crossings.items ++ crossing ∷ []
