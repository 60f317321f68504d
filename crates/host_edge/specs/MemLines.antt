-- Input in memory.
use Rattle.std.specs.Prelude.{ℕ, List}

-- input in memory: the bytes that are left, the numbers of the calls that fail, and how many calls and faults there were
pub record MemLinesState : Type 0 where
  pub bytes : List ℕ
  pub fails : List ℕ
  pub calls : ℕ
  pub faults : ℕ
