-- The widest gap of a bundle.
use Rattle.std.specs.Prelude.{ℕ, ℤ, pos, ◌≤ℤ◌, ◌<ℤ◌, List, length, replicate}
use Rattle.separation_model.specs.declared.bundle.Bundle.{Bundle}
use Rattle.separation_model.specs.Bundle.{MeetsBundle}

-- whole positions meet the bundle with the gap
pub record HasPositions (b : Bundle) (gap : ℤ) : Type 0 where
  pub places : List ℤ
  pub meets : MeetsBundle b gap (replicate (length b.items.items) 1) places

-- the largest gap from 0 to the wanted one that some whole positions meet; with a larger one no fractions do
pub record IsWidestGap (b : Bundle) (gap : ℤ) : Type 0 where
  pub low : pos 0 ≤ℤ gap
  pub high : gap ≤ℤ b.wanted
  pub positions : HasPositions b gap
  pub widest : (wider : ℤ) (den : List ℕ) (nums : List ℤ) → gap <ℤ wider → wider ≤ℤ b.wanted → MeetsBundle b wider den nums → ⊥

-- a gap from 0 to the widest one
pub record IsGap (b : Bundle) (gap : ℤ) : Type 0 where
  pub low : pos 0 ≤ℤ gap
  pub widest : ℤ
  pub is_widest : IsWidestGap b widest
  pub not_above : gap ≤ℤ widest
