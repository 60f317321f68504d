-- A label that falls weighs less.
use Rattle.std.proofs.Common.{◌≡◌, ℕ, ◌+◌, ◌<◌, ◌≤◌, List, Some, length, get_or, refl, arith}
use Rattle.std.proofs.Math.ListN.{set}
use Rattle.std.specs.Prelude.{sum_by}
use Rattle.std.proofs.lemmas.List.Sums.{sum_by-set}
use Rattle.plane_geom.specs.declared.point.Dir.{Dir}
use Rattle.plane_geom.specs.declared.point.Dir.TheVariants.{East, South, West, North}
use Rattle.proof_search.specs.Labels.{empty_row, label_in, with_label}
use Rattle.proof_search.specs.declared.label.Label.{Label}
use Rattle.proof_search.specs.declared.label.Label.TheVariants.{Absent, Open, Closed}
use Rattle.proof_search.specs.declared.label.Row.{Row}
use Rattle.proof_search.specs.declared.scope.Scope.{Scope}
use Rattle.proof_search.specs.Scopes.{most_of}
use Rattle.proof_search.specs.Search.{cost_in, label_weight, row_weight}

-- a label that falls, or is given for the first time
pub lighter_label : (s : Scope) (l : Label) (v : ℕ) → v < most_of s → ((w : ℕ) → cost_in l ≡ Some w → v < w) → v + 1 ≤ label_weight s l
lighter_label s Absent v small less = omega (arith, small)
lighter_label s (Open w) v small less = omega (arith, less w.cost refl)
lighter_label s (Closed w) v small less = omega (arith, less w.cost refl)

lighter_row : (s : Scope) (r : Row) (h : Dir) (l : Label) (n : ℕ) → label_weight s l + n ≤ label_weight s (label_in r h)
    → row_weight s (with_label r h l) + n ≤ row_weight s r
lighter_row s r East l n less = omega (arith, less)
lighter_row s r South l n less = omega (arith, less)
lighter_row s r West l n less = omega (arith, less)
lighter_row s r North l n less = omega (arith, less)

-- so do the rows of a table
pub lighter_rows : (s : Scope) (rows : List Row) (k : ℕ) (h : Dir) (l : Label) (n : ℕ) → k < length rows
    → label_weight s l + n ≤ label_weight s (label_in (get_or rows k empty_row) h)
    → sum_by (row_weight s) (set rows k (with_label (get_or rows k empty_row) h l)) + n ≤ sum_by (row_weight s) rows
lighter_rows s rows k h l n lt less =
    let all = sum_by-set (row_weight s) rows k (with_label (get_or rows k empty_row) h l) empty_row lt in
    let row = lighter_row s (get_or rows k empty_row) h l n less in
    omega (arith, all, row)
