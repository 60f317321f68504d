-- An exposed file is found where the file itself is.
use Rattle.std.proofs.Common.{◌≡◌, ℕ, true, false, cond, List, [], ◌∷◌, map, Option, None, Some, refl, string_bytes}
use Rattle.std.specs.Prelude.{find, option_map, option_copied, bytes_eq}
use Rattle.std.specs.Borrow.{Bor}
use Rattle.host_edge.specs.declared.mem_folder.NamedFile.{NamedFile}
use Rattle.host_edge.specs.Folder.{file_named}
use Rattle.host_edge.specs.MemFolder.{exposed_file}

-- an exposed file is found where the file itself is
file_named-map : (files : List NamedFile) (name : List ℕ) → file_named (map exposed_file files) name ≡ option_map (λ file. file.bytes.items) (find (λ file. bytes_eq (string_bytes file.name) name) files)
file_named-map [] name = refl
file_named-map (file ∷ files) name =
    elim (bytes_eq (string_bytes file.name) name) as
    (λ b. option_map (λ f. f.1) (cond b (Some (exposed_file file)) (find (λ f. bytes_eq f.0 name) (map exposed_file files)))
    ≡ option_map (λ f. f.bytes.items) (cond b (Some file) (find (λ f. bytes_eq (string_bytes f.name) name) files)))
    [ true ↦ refl | false ↦ file_named-map files name ]

-- what a search among the files finds is the exposed file
pub file_named-found : (files : List NamedFile) (name : List ℕ) (found : Option (Bor NamedFile)) → option_copied found ≡ find (λ file. bytes_eq (string_bytes file.name) name) files → file_named (map exposed_file files) name ≡ option_map (λ file. file.now.bytes.items) found
file_named-found files name None h = rw (← h) at (file_named-map files name)
file_named-found files name (Some file) h = rw (← h) at (file_named-map files name)
