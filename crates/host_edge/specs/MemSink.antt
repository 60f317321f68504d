-- A sink in memory.
use Rattle.std.specs.Prelude.{ℕ, List}

-- a sink in memory: the bytes it holds, the greatest number of bytes for a call, the numbers of the calls that fail, and the counts of calls and faults
pub record MemSinkState : Type 0 where
  pub held : List ℕ
  pub most : ℕ
  pub fails : List ℕ
  pub calls : ℕ
  pub faults : ℕ
