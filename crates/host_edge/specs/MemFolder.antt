-- A folder in memory, and the note of its next read.
use Rattle.std.specs.Prelude.{ℕ, ◌+◌, min, ◌||◌, if◌then◌else◌, List, [], length, is_none, unwrap_or, string_bytes}
use Rattle.host_edge.specs.declared.mem_folder.NamedFile.{NamedFile}
use Rattle.host_edge.specs.Count.{is_listed}
use Rattle.host_edge.specs.Folder.{ExposedFiles, file_named}
use Rattle.host_edge.specs.Note.{Note}

-- a folder in memory: its files, the numbers of the calls that fail, and the notes so far
pub record MemFolderState : Type 0 where
  pub files : ExposedFiles
  pub fails : List ℕ
  pub notes : List Note

-- a file as a folder exposes it
abbrev pub exposed_file : NamedFile → List ℕ × List ℕ
exposed_file file = (string_bytes file.name, file.bytes.items)

-- the note of the next read: it fails if the call is in the list or the file does not exist, and it takes one byte more than the limit if the file has more
abbrev pub next_note : MemFolderState → List ℕ → ℕ → Note
next_note folder name limit =
    let file = file_named folder.files name in
    let failed = is_listed folder.fails (length folder.notes + 1) || is_none file in
    let taken = if failed then 0 else min (length (unwrap_or file [])) (limit + 1) in
    record { name = name; limit = limit; taken = taken; failed = failed }
