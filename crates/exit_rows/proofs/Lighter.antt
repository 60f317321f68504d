-- Each exit that is kept and is not late makes all rows weigh less.
use Rattle.std.proofs.Common.{◌≡◌, ℕ, ◌+◌, ◌<◌, ◌≤◌, [], ◌∷◌, ◌++◌, length, get_or, ap, arith}
use Rattle.std.specs.Prelude.{All, sum_by}
use Rattle.std.proofs.Math.ListN.{set}
use Rattle.std.proofs.lemmas.List.{get_or_default}
use Rattle.std.proofs.lemmas.List.Sums.{sum_by-set}
use Rattle.plane_geom.specs.declared.point.Dir.{Dir}
use Rattle.plane_geom.specs.declared.point.Dir.TheVariants.{East, South, West, North}
use Rattle.exit_rows.specs.declared.exit.Kept.{Kept}
use Rattle.exit_rows.specs.declared.rows.Rows.{Rows}
use Rattle.exit_rows.specs.Exits.{IsLate, IsSmallAhead}
use Rattle.exit_rows.specs.Rows.{HasRow, Keeps, kept_in, row_of}
use Rattle.exit_rows.specs.Weights.{CountAlike, row_weight, rows_weight}
use Rattle.exit_rows.proofs.Written.{Row, row_is}
use Rattle.exit_rows.proofs.Weights.{row_lighter}

within : (t : Rows) (k l : ℕ) (d : Dir) → HasRow t k l → row_of t k l d < length t.rows.items
within t k l East h = omega (arith, h.row)
within t k l South h = omega (arith, h.row)
within t k l West h = omega (arith, h.row)
within t k l North h = omega (arith, h.row)

pub rows_lighter : (places : ℕ) (old new : Rows) (k l : ℕ) (d : Dir) (e : Kept) → HasRow old k l → Keeps old new k l d e → e.crossing < places → IsSmallAhead e.ahead →
    All (λ o. IsSmallAhead o.ahead) (kept_in old k l d) → CountAlike (kept_in old k l d) e → (IsLate (kept_in old k l d) e → ⊥) →
    rows_weight places new + 1 ≤ rows_weight places old
rows_lighter places old new k l d e has keeps lt small smalls alike late =
    let rows = old.rows.items in
    let at = row_of old k l d in
    let fits = within old k l d has in
    let was = get_or rows at keeps.row in
    let weight : Row → ℕ = λ row. row_weight places row.items in
    let sum = sum_by-set weight rows at keeps.row keeps.row fits in
    let written : rows_weight places new ≡ sum_by weight (set rows at keeps.row) = ap (sum_by weight) keeps.written in
    let less = row_lighter places (kept_in old k l d) e lt small smalls alike late in
    let now : weight keeps.row ≡ row_weight places (kept_in old k l d ++ e ∷ []) = ap (row_weight places) keeps.more in
    let before : row_weight places (kept_in old k l d) ≡ weight was =
    ap (row_weight places) (row_is old.lines rows l at was has.line fits (get_or_default rows at keeps.row was fits)) in
    omega (arith, sum, written, less, now, before)
