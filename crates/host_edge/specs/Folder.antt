-- The files that a folder exposes, and the note that each result adds.
use Rattle.std.specs.Prelude.{◌≡◌, ℕ, ◌<◌, ◌≤◌, Bool, true, false, List, [], ◌∷◌, ◌++◌, Option, option_map, find, bytes_eq, Result, Ok, Err, Vec, vec_len}
use Rattle.host_edge.specs.declared.folder.FolderFault.{FolderFault}
use Rattle.host_edge.specs.declared.folder.FolderFault.TheVariants.{Failed, TooLong, Memory}
use Rattle.std.specs.declared.alloc.Global.{Global}
use Rattle.host_edge.specs.Note.{Note}

-- the files that a folder exposes, each as its name and its bytes
abbrev pub ExposedFiles : Type 0
ExposedFiles = List (List ℕ × List ℕ)

-- the bytes of the first file with this name
abbrev pub file_named : ExposedFiles → List ℕ → Option (List ℕ)
file_named files name = option_map (λ file. file.1) (find (λ file. bytes_eq file.0 name) files)

-- one note was added, of a read of this name under this limit
abbrev pub GainsNote : List Note → List Note → List ℕ → ℕ → ℕ → Bool → Type 0
GainsNote old new name limit taken failed =
    new ≡ old ++ record { name = name; limit = limit; taken = taken; failed = failed } ∷ []

-- the read with this result adds its note; the lines exclude one another, so `Failed` means a failed note, and `TooLong` one that took more than the limit
abbrev pub RecordsRead : List Note → List Note → List ℕ → ℕ → Result (Vec ℕ Global) FolderFault → Type 0
RecordsRead old new name limit (Ok bytes) = (vec_len bytes ≤ limit) × GainsNote old new name limit (vec_len bytes) false
RecordsRead old new name limit (Err Failed) = (taken : ℕ) × GainsNote old new name limit taken true
RecordsRead old new name limit (Err (TooLong answered)) =
    (answered ≡ limit) × ((taken : ℕ) × (limit < taken) × GainsNote old new name limit taken false)
RecordsRead old new name limit (Err Memory) = new ≡ old
