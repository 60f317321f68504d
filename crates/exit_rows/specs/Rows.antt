-- What lines keep, by stage and heading.
use Rattle.std.specs.Prelude.{ℕ, ◌≡◌, ◌⊎◌, ◌+◌, ◌*◌, ◌<◌, nat_lt, if◌then◌else◌, List, [], ◌∷◌, ◌++◌, Contains, All, length, slice_get, slice_set, Option, Some, None, Vec}
use Rattle.std.specs.declared.alloc.Global.{Global}
use Rattle.plane_geom.specs.declared.point.Dir.{Dir}
use Rattle.plane_geom.specs.declared.point.Dir.TheVariants.{East, South, West, North}
use Rattle.exit_rows.specs.declared.exit.Kept.{Kept}
use Rattle.exit_rows.specs.declared.rows.Rows.{Rows}

-- the number of the heading among the two of its line
abbrev pub side : Dir → ℕ
side East = 1
side South = 1
side West = 0
side North = 0

-- the index of the row of the line in the stage, for the heading
abbrev pub row_of : Rows → ℕ → ℕ → Dir → ℕ
row_of t k l d = (k * t.lines + l) * 2 + side d

-- the exits of a row, if there is one
abbrev pub exits_in : Option (Vec Kept Global) → List Kept
exits_in None = []
exits_in (Some row) = row.items

-- the exits that the line keeps in the stage, for the heading
abbrev pub kept_in : Rows → ℕ → ℕ → Dir → List Kept
kept_in t k l d = if nat_lt l t.lines then exits_in (slice_get t.rows.items (row_of t k l d)) else []

-- there are rows for the line in the stage
pub record HasRow (t : Rows) (k l : ℕ) : Type 0 where
  pub line : l < t.lines
  pub row : (k * t.lines + l) * 2 + 1 < length t.rows.items

-- a row with an exit is marked, and each mark is the index of a row
pub record IsMarked (t : Rows) : Type 0 where
  pub rows : (k : ℕ) (d : Vec Kept Global) → slice_get t.rows.items k ≡ Some d → (d.items ≡ []) ⊎ Contains t.marked.items k
  pub marks : All (λ k. k < length t.rows.items) t.marked.items

-- no exit is kept, and no row is marked
pub record IsClear (t : Rows) : Type 0 where
  pub rows : All (λ (row : Vec Kept Global). row.items ≡ []) t.rows.items
  pub marks : t.marked.items ≡ []

-- both have rows for the same lines and stages
pub record SameRooms (old new : Rows) : Type 0 where
  pub lines : new.lines ≡ old.lines
  pub rows : length new.rows.items ≡ length old.rows.items

-- both keep the same exits
abbrev pub SameKept : Rows → Rows → Type 0
SameKept old new = (k l : ℕ) (d : Dir) → kept_in new k l d ≡ kept_in old k l d

-- the row is that of the line in the stage for the heading
pub record IsRow (k l : ℕ) (d : Dir) (j m : ℕ) (h : Dir) : Type 0 where
  pub stage : j ≡ k
  pub line : m ≡ l
  pub heading : side h ≡ side d

-- the line keeps one more exit, and that is all
pub record Keeps (old new : Rows) (k l : ℕ) (d : Dir) (e : Kept) : Type 0 where
  pub rooms : SameRooms old new
  pub here : kept_in new k l d ≡ kept_in old k l d ++ e ∷ []
  pub each : (j m : ℕ) (h : Dir) → (kept_in new j m h ≡ kept_in old j m h) ⊎ (IsRow k l d j m h × (kept_in new j m h ≡ kept_in old j m h ++ e ∷ []))
  pub row : Vec Kept Global
  pub written : new.rows.items ≡ slice_set old.rows.items (row_of old k l d) row
  pub more : row.items ≡ kept_in old k l d ++ e ∷ []
