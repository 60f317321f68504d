-- The history, and the number of steps that it keeps.
use Rattle.std.specs.Prelude.{ℕ, List}
use Rattle.undo_log.specs.declared.step.Step.{Step}

-- the greatest number of steps
abbrev pub most_steps : ℕ
most_steps = 100

-- the past steps, the latest first, and the future ones, the next first
pub record Log (C : Type 0) : Type 0 where
  pub past : List (Step C)
  pub future : List (Step C)
