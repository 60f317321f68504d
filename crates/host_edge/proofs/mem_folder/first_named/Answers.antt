-- The first file with the name.
use Rattle.std.proofs.Common.{rules, tests, string_bytes, bytes_eq}
use Rattle.std.proofs.lemmas.Iterator.{YieldsList-from_slice}
use Rattle.std.proofs.lemmas.Iterator.Search.{find_from_yields_List}
use Rattle.host_edge.proofs.FolderLemmas.{file_named-found}
use Rattle.host_edge.proofs.mem_folder.first_named.Goals as goal

pub returns : goal.returns
returns c =
    let files = c.args.files.now in
    let name = c.args.name.now in
    file_named-found files name c.find.result
    (find_from_yields_List (λ file. bytes_eq (string_bytes file.name) name) _ _ c.find.result c.find.ensures.ran
    (YieldsList-from_slice files cc) (λ x b q k. search (rules, tests)))
