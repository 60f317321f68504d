-- What is ahead along a line by an exit that the line keeps, and which of its exits stands for another.
use Rattle.std.specs.Prelude.{◌≡◌, ◌≢◌, ◌⊎◌, ◌*◌, ◌≤◌, ◌&&◌, ℤ, ◌≤ℤ◌, ◌<ℤ◌, int_le, int_lt, unsigned_abs, if◌then◌else◌, List, Any, fold, Option, Some, None, Bool}
use Rattle.std.specs.Int.{int_gap, int_max}
use Rattle.std.specs.Ordering.{is_lt}
use Rattle.std.specs.declared.cmp.Ordering.TheVariants.{Less, Greater}
use Rattle.plane_geom.specs.Point.{IsCoordinate}
use Rattle.move_model.specs.declared.ahead.Ahead.{Ahead}
use Rattle.move_model.specs.Ahead.{ahead_cmp, with_steps}
use Rattle.exit_rows.specs.declared.exit.Kept.{Kept}

-- what is ahead is within the bounds of a first walk
pub record IsSmallAhead (v : Ahead) : Type 0 where
  pub cost : v.cost ≤ 300000000000000000
  pub runs : v.runs ≤ 3289602
  pub lean : unsigned_abs v.lean ≤ 2000000000 * v.runs

-- the exit counts and stands on the sheet, and what is ahead of it is small
pub record IsSmallKept (e : Kept) : Type 0 where
  pub from : IsCoordinate e.from
  pub at : IsCoordinate e.at
  pub ahead : IsSmallAhead e.ahead

-- the exit counts for a point of its line that is so far on
pub record CountsAt (e : Kept) (z : ℤ) : Type 0 where
  pub from : e.from ≤ℤ z
  pub before : z <ℤ e.at

-- what is ahead by the exit from the point of its line that is so far on, and no further than the exit
abbrev pub ahead_at : Kept → ℤ → Ahead
ahead_at e z = with_steps (int_gap z e.at) e.ahead

-- the same, if the exit counts there
abbrev pub counted_at : Kept → ℤ → Option Ahead
counted_at e z = if int_le e.from z && int_lt z e.at then Some (ahead_at e z) else None

-- the lesser of what is ahead by the two, if either counts
abbrev pub lesser : Option Ahead → Option Ahead → Option Ahead
lesser None w = w
lesser (Some v) None = Some v
lesser (Some v) (Some w) = if is_lt (ahead_cmp w v) then Some w else Some v

-- the least that is ahead of the point that is so far on, by those of the exits that count there
abbrev pub least_at : List Kept → ℤ → Option Ahead
least_at row z = fold (λ least e. lesser least (counted_at e z)) None row

-- the one exit stands for the other: it is no nearer, counts from no further on, and has less ahead there, or as much and goes on alike
pub record StandsFor (o e : Kept) : Type 0 where
  pub at : e.at ≤ℤ o.at
  pub from : o.from ≤ℤ e.from
  pub no_more : ahead_cmp (ahead_at o e.at) e.ahead ≢ Greater
  pub alike : (ahead_cmp (ahead_at o e.at) e.ahead ≡ Less) ⊎ (o.next ≡ e.next)

-- one of the exits stands for this one
abbrev pub IsLate : List Kept → Kept → Type 0
IsLate row e = Any (λ o. StandsFor o e) row

-- one of the exits has less ahead of the point that is so far on
abbrev pub IsUndercut : List Kept → Kept → ℤ → Type 0
IsUndercut row e z = Any (λ o. CountsAt o z × (ahead_cmp (ahead_at o z) (ahead_at e z) ≡ Less)) row

-- whether the one exit is nearer than the other, counts from no further on, and has less ahead
abbrev pub undercuts : Kept → Kept → Bool
undercuts o e = int_le o.from e.from && int_lt o.at e.at && is_lt (ahead_cmp o.ahead (ahead_at e o.at))

-- how far on the exit is undercut by nearer ones: up to the furthest of them
abbrev pub stop_of : List Kept → Kept → ℤ
stop_of row e = fold (λ stop o. if undercuts o e then int_max stop o.at else stop) e.from row
