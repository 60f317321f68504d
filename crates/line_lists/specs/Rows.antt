-- The stops of a horizontal line when it has come. No public clause cites this module.
use Rattle.std.specs.Prelude.{◌≡◌, ◌⊎◌, ℕ, List, ◌++◌, All, slice_index_or}
use Rattle.plane_geom.specs.declared.point.Dir.TheVariants.{North}
use Rattle.plane_geom.specs.declared.floor.Line.{Line}
use Rattle.line_arena.specs.Arena.{Arena, IsNearest, IsOn, LiesFurther}
use Rattle.line_lists.specs.declared.stop.Numbers.{Numbers}
use Rattle.line_lists.specs.declared.stop.Stop.{Stop}
use Rattle.line_lists.specs.Lists.{AreStopsOf}
use Rattle.line_lists.specs.Numbers.{no_numbers}

-- the numbers of the lines of the crossing
abbrev pub numbers_at : List Numbers → ℕ → Numbers
numbers_at numbers c = slice_index_or numbers c no_numbers

-- no crossing lies further north
abbrev pub IsNorthmost : Arena → ℕ → Type 0
IsNorthmost a c = (k : ℕ) → LiesFurther a North c k → ⊥

-- the number is that of the vertical line of the nearest crossing to the north, or of the crossing itself where there is none
abbrev pub IsColumnAt : Arena → List Numbers → ℕ → ℕ → Type 0
IsColumnAt a numbers c n =
    ((k : ℕ) × IsNearest a North c k × (n ≡ (numbers_at numbers k).vertical))
    ⊎ (IsNorthmost a c × (n ≡ (numbers_at numbers c).vertical))

-- the crossings of the line became the stops, each with the number of the line across, and the crossings have both numbers
pub record HasRowCome (a : Arena) (id : ℕ) (line : Line) (n : ℕ) (old new : List Stop) (was now : List Numbers) : Type 0 where
  pub more : List Stop
  pub stops : new ≡ old ++ more
  pub are : AreStopsOf a id line more
  pub columns : All (λ s. IsColumnAt a was s.crossing s.across) more
  pub here : All (λ s. numbers_at now s.crossing ≡ record { vertical = s.across; horizontal = n }) more
  pub others : (c : ℕ) → (IsOn a id c → ⊥) → numbers_at now c ≡ numbers_at was c

-- the first crossing of the line, if it has one, has the number as that of its vertical line, and no others changed
pub record IsToldFirst (a : Arena) (id n : ℕ) (was now : List Numbers) : Type 0 where
  pub here : (c : ℕ) → IsOn a id c → IsNorthmost a c → (numbers_at now c).vertical ≡ n
  pub others : (c : ℕ) → (IsOn a id c → ⊥) → numbers_at now c ≡ numbers_at was c
