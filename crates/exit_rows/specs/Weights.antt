-- An upper bound on how many more exits lines may keep.
use Rattle.std.specs.Prelude.{ℕ, zero, suc, ◌≡◌, ◌+◌, ◌*◌, ◌==◌, min, negsuc, if◌then◌else◌, List, All, fold, sum_by, Option, Some, None, Vec}
use Rattle.std.specs.declared.alloc.Global.{Global}
use Rattle.std.specs.Int.{int_gap}
use Rattle.plane_geom.specs.declared.point.Dir.{Dir}
use Rattle.plane_geom.specs.declared.point.Dir.TheVariants.{East, South, West, North}
use Rattle.move_model.specs.declared.ahead.Ahead.{Ahead}
use Rattle.exit_rows.specs.declared.exit.Kept.{Kept}
use Rattle.exit_rows.specs.declared.rows.Rows.{Rows}

-- the rank of what is ahead: of two that are small, the lesser has the lesser rank
abbrev pub rank : Ahead → ℕ
rank v = v.cost * 43285938432024003289603 + v.runs * 13158408000000001 + int_gap (negsuc 6579203999999999) v.lean

-- nothing small has this rank or a greater one
abbrev pub most_rank : ℕ
most_rank = 300000000000000001 * 43285938432024003289603

-- the number of where a walk goes on after an exit
abbrev pub next_number : Option Dir → ℕ
next_number None = 0
next_number (Some East) = 1
next_number (Some South) = 2
next_number (Some West) = 3
next_number (Some North) = 4

-- the number of the crossing at which the exit stands, and of where a walk goes on after it
abbrev pub slot_of : Kept → ℕ
slot_of e = e.crossing * 5 + next_number e.next

-- the least rank of the exits with this number; `most_rank` if there is none
abbrev pub least_rank : List Kept → ℕ → ℕ
least_rank row n = fold (λ least e. if slot_of e == n then min least (rank e.ahead) else least) most_rank row

-- the sum of the first n values of the function
abbrev pub sum_below : ℕ → (ℕ → ℕ) → ℕ
sum_below zero f = 0
sum_below (suc n) f = sum_below n f + f n

-- the sum of the least ranks at all crossings with numbers below this one
abbrev pub row_weight : ℕ → List Kept → ℕ
row_weight places row = sum_below (places * 5) (least_rank row)

-- the same of all rows
abbrev pub rows_weight : ℕ → Rows → ℕ
rows_weight places t = sum_by (λ (row : Vec Kept Global). row_weight places row.items) t.rows.items

-- those of the exits that stand at the crossing of this one count from where it counts
abbrev pub CountAlike : List Kept → Kept → Type 0
CountAlike row e = All (λ o. o.crossing ≡ e.crossing → (o.at ≡ e.at) × (o.from ≡ e.from)) row
