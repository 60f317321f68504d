-- Notes of reads.
use Rattle.std.specs.Prelude.{ℕ, Bool, List, count_by}

-- one read: the name and the limit that it was asked for, the number of bytes that it took, and whether it failed
pub record Note : Type 0 where
  pub name : List ℕ
  pub limit : ℕ
  pub taken : ℕ
  pub failed : Bool

-- the number of faults of a folder with these notes: of its failed reads
abbrev pub fault_count : List Note → ℕ
fault_count notes = count_by (λ note. note.failed) notes
