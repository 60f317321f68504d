-- Runs that stop early: what they end with, and what goes on.
use Rattle.std.proofs.Common.{◌≡◌, ◌≢◌, inl, inr, ℕ, ◌<◌, false, List, [], ◌∷◌, ◌++◌, length, Option, Some, None, Result, Ok, Err, refl, sym, ap, subst, ◌∙◌, arith, append-nil, append_assoc}
use Rattle.std.specs.Prelude.{IfOk, IfErr, IsErrAnd, slice_get}
use Rattle.std.proofs.lemmas.Option.{none-some, same_Some}
use Rattle.std.specs.declared.alloc.AllocError.{AllocError}
use Rattle.host_edge.specs.Folder.{ExposedFiles}
use Rattle.host_edge.specs.Note.{Note}
use Rattle.gml_text.specs.Tree.{Pairs}
use Rattle.gml_text.specs.Parse.{IsDocument, IsSyntaxAt, IsTooDeepAt, ParsesAs}
use Rattle.gml_text.specs.declared.fault.GmlFault.{GmlFault}
use Rattle.gml_text.specs.declared.fault.GmlFault.TheVariants as gml
use Rattle.gml_text.specs.declared.tree.Doc.{Doc}
use Rattle.scene_model.specs.declared.edit.Command.{Command}
use Rattle.scene_model.specs.Scene.{Scene}
use Rattle.diagram_read.specs.declared.fault.DiagramFault.{DiagramFault}
use Rattle.diagram_read.specs.Scene.{scene_of}
use Rattle.edit_script.specs.Script.{commands}
use Rattle.report_text.specs.Faults.{gml_fault_line}
use Rattle.reroute_app.specs.declared.stop.Stop.{Stop}
use Rattle.reroute_app.specs.declared.stop.Stop.TheVariants.{Ended, Memory}
use Rattle.report_text.specs.declared.status.Status.TheVariants.{Diagram}
use Rattle.command_words.specs.Words.{Form, form_of}
use Rattle.reroute_app.specs.Hint.{gml_hint}
use Rattle.report_text.specs.Outcome.{Outcome, hinted, unsearched}
use Rattle.reroute_app.specs.Reads.{HasRead, ReadsFile, Course, Ends}
use Rattle.reroute_app.specs.Reads.ReadsFile.{fails, is_too_long, goes_on}
use Rattle.reroute_app.specs.Diagram.{most_bytes, HasDiagram, TakesScene, TakesTree, TakesDiagram, ReadsDiagram, most_script_bytes, ReadsScript, ReadsSmall, UnlessLarge}
use Rattle.form_certificate.specs.Sizes.{too_large}
use Rattle.diagram_read.specs.declared.fault.Part.{Part}
use Rattle.reroute_app.specs.Run.{IsFormOutcome, IsOutcome, files_of, AreNotesOf, ReadsFirstAsDiagram, ReadsInOrder, ReadsOnWith}
use Rattle.reroute_app.proofs.Courses.{note}
use Rattle.reroute_app.specs.View.{StopsAt, Comes, NotesOne, NotesTwo, answer_in, never, never_two, never_three, HasBoth, HasSmall}
use Rattle.reroute_app.specs.View.NotesTwo.{of_diagram, of_both}

pub stops_as : (P Q : Outcome → Type 0) → ((o : Outcome) → P o → Q o) → (s : Stop) → StopsAt P s → StopsAt Q s
stops_as P Q weaker (Ended made) is = weaker made is
stops_as P Q weaker Memory is = tt

-- the fault of bytes that are not valid GML is that of their reading
pub read_with : (bytes : List ℕ) (fault : GmlFault) (r : Result Doc GmlFault) → r ≡ Err fault → fault ≢ gml.Memory
    → ((at : ℕ) → r ≡ Err (gml.Syntax at) → IsSyntaxAt bytes at) → ((at : ℕ) → r ≡ Err (gml.TooDeep at) → IsTooDeepAt bytes at) → ParsesAs bytes (Err fault)
read_with bytes (gml.Syntax at) r is known syntax too_deep = syntax at is
read_with bytes (gml.TooDeep at) r is known syntax too_deep = too_deep at is
read_with bytes gml.Memory r is known syntax too_deep = absurd (known refl)

-- so it is the end of a diagram
pub no_document_ends : (bytes : List ℕ) (notes : List Note) (fault : GmlFault) (o : Outcome) → ParsesAs bytes (Err fault) → o ≡ hinted (unsearched Diagram (gml_fault_line fault)) (gml_hint bytes fault) → TakesDiagram never_two bytes notes notes o
no_document_ends bytes notes fault o reads is = (Err fault, reads, (refl, is))

scene_as : (r : Result Scene DiagramFault) (tree : Pairs) (old new : List Note) (o : Outcome) → TakesScene never r old new o → TakesScene (never_two tree) r old new o
scene_as (Ok s) tree old new o is = absurd is
scene_as (Err fault) tree old new o is = is

-- a tree that has a fault is the end of a diagram
pub no_scene_ends : (bytes : List ℕ) (tree : Pairs) (notes : List Note) (o : Outcome) → IsDocument tree bytes → TakesScene never (scene_of tree) notes notes o → TakesDiagram never_two bytes notes notes o
no_scene_ends bytes tree notes o document is = (Ok tree, document, scene_as (scene_of tree) tree notes notes o is)

module _ (next other : List ℕ → Course) (on : (bytes : List ℕ) (old new : List Note) (o : Outcome) → next bytes old new o → other bytes old new o) where
  -- a course that reads a file leads where another does that goes on as it does
  pub file_as : (files : Option ExposedFiles) (name : List ℕ) (limit : ℕ) (old new : List Note) (o : Outcome) → ReadsFile files name limit next old new o → ReadsFile files name limit other old new o
  file_as files name limit old new o (fails failed is) = fails failed is
  file_as files name limit old new o (is_too_long more is) = is_too_long more is
  file_as files name limit old new o (goes_on bytes middle read later) = goes_on bytes middle read (on bytes middle new o later)

module _ (next other : Pairs → Scene → Course) (on : (tree : Pairs) (s : Scene) (old new : List Note) (o : Outcome) → next tree s old new o → other tree s old new o) where
  takes_as : (r : Result Scene DiagramFault) (tree : Pairs) (old new : List Note) (o : Outcome) → TakesScene (next tree) r old new o → TakesScene (other tree) r old new o
  takes_as (Ok s) tree old new o is = on tree s old new o is
  takes_as (Err fault) tree old new o is = is

  tree_as : (bytes : List ℕ) (r : Result Pairs GmlFault) (old new : List Note) (o : Outcome) → TakesTree next bytes r old new o → TakesTree other bytes r old new o
  tree_as bytes (Ok tree) old new o is = takes_as (scene_of tree) tree old new o is
  tree_as bytes (Err fault) old new o is = is

  -- and so does one that reads a diagram
  pub diagram_as : (files : Option ExposedFiles) (name : List ℕ) (old new : List Note) (o : Outcome) → ReadsDiagram files name next old new o → ReadsDiagram files name other old new o
  diagram_as files name =
      file_as (TakesDiagram next) (TakesDiagram other) (λ bytes old new o is. (is.0, is.1, tree_as bytes is.0 old new o is.2)) files name most_bytes

-- a file that is not read is the end, whatever would go on
pub file_ends : (files : Option ExposedFiles) (name : List ℕ) (limit : ℕ) (next : List ℕ → Course) (old new : List Note) (o : Outcome) → ReadsFile files name limit never old new o → ReadsFile files name limit next old new o
file_ends files name limit next = file_as never next (λ bytes old new o is. absurd is) files name limit

-- a diagram that is not read is the end, whatever would go on
pub diagram_ends : (files : Option ExposedFiles) (name : List ℕ) (next : Pairs → Scene → Course) (old new : List Note) (o : Outcome) → ReadsDiagram files name never_two old new o → ReadsDiagram files name next old new o
diagram_ends files name next = diagram_as never_two next (λ tree s old new o is. absurd is) files name

-- where diagram and script are not both read, that is the end, whatever would go on
pub script_ends : (files : Option ExposedFiles) (diagram script : List ℕ) (next : Pairs → Scene → List (ℕ × Command) → Course) (old new : List Note) (o : Outcome)
    → ReadsScript files diagram script never_three old new o → ReadsScript files diagram script next old new o
script_ends files diagram script next =
    diagram_as (λ tree s. ReadsFile files script most_script_bytes (λ bytes. never_three tree s (commands bytes))) (λ tree s. ReadsFile files script most_script_bytes (λ bytes. next tree s (commands bytes)))
    (λ tree s. file_as (λ bytes. never_three tree s (commands bytes)) (λ bytes. next tree s (commands bytes)) (λ bytes old new o is. absurd is) files script most_script_bytes)
    files diagram

-- a diagram that is read goes on
pub diagram_goes_on : (files : Option ExposedFiles) (name : List ℕ) (next : Pairs → Scene → Course) (old middle new : List Note) (o : Outcome) (tree : Pairs) (scene : Scene)
    → HasDiagram files name old middle tree scene → next tree scene middle new o → ReadsDiagram files name next old new o
diagram_goes_on files name next old middle new o tree scene has later =
    goes_on has.bytes middle has.read
    (Ok tree, has.diagram.document, subst (λ (r : Result Scene DiagramFault). TakesScene (next tree) r middle new o) (sym has.diagram.is_scene) later)

-- diagram and script that are read go on
pub script_goes_on : (files : Option ExposedFiles) (diagram script : List ℕ) (P : Pairs → Scene → List (ℕ × Command) → Outcome → Type 0) (old new : List Note) (tree : Pairs) (scene : Scene)
    (list given : List (ℕ × Command)) (o : Outcome) → HasBoth files diagram script old new tree scene list → given ≡ list → P tree scene given o
    → ReadsScript files diagram script (λ tree s commands. Ends (P tree s commands)) old new o
script_goes_on files diagram script P old new tree scene list given o has same is =
    let read = has.has_commands in
    diagram_goes_on files diagram (λ tree s. ReadsFile files script most_script_bytes (λ bytes. Ends (P tree s (commands bytes)))) old has.middle new o tree scene has.has_diagram
    (goes_on read.bytes new read.read (refl, subst (λ (cs : List (ℕ × Command)). P tree scene cs o) (same ∙ read.are_commands) is))

-- a stop that is passed
pub stop_on : {T : Type 0} (P : Outcome → Type 0) (s : Stop) (r : Result T Stop) → StopsAt P s → IsErrAnd r (λ e. e ≡ s) → IfErr r (StopsAt P)
stop_on P s (Ok x) is passed = tt
stop_on P s (Err e) is passed = subst (StopsAt P) (sym passed) is

-- the same where what is answered is a whole outcome
pub comes_on : (P : Outcome → Type 0) (s : Stop) (r : Result Outcome Stop) → StopsAt P s → IsErrAnd r (λ e. e ≡ s) → Comes P r
comes_on P s (Ok x) is passed = absurd passed
comes_on P s (Err e) is passed = subst (StopsAt P) (sym passed) is

-- the result of a stopped read of a script, after a diagram
pub script_unread : (files : Option ExposedFiles) (diagram script : List ℕ) (old middle new : List Note) (tree : Pairs) (scene : Scene) → HasDiagram files diagram old middle tree scene → (s : Stop)
    → StopsAt (ReadsFile files script most_script_bytes never middle new) s → StopsAt (ReadsScript files diagram script never_three old new) s
script_unread files diagram script old middle new tree scene has s is =
    stops_as (ReadsFile files script most_script_bytes never middle new) (ReadsScript files diagram script never_three old new)
    (λ o stopped.
    diagram_goes_on files diagram (λ tree s. ReadsFile files script most_script_bytes (λ bytes. never_three tree s (commands bytes))) old middle new o tree scene has
    (file_ends files script most_script_bytes (λ bytes. never_three tree scene (commands bytes)) middle new o stopped)) s is

-- ---- scenes that are small enough to have a certificate

large_as : (part : Option Part) (next other : Course) (old new : List Note) (o : Outcome) → (next old new o → other old new o) → UnlessLarge part next old new o → UnlessLarge part other old new o
large_as None next other old new o on is = on is
large_as (Some part) next other old new o on is = is

-- what goes on with a small scene goes on
pub small_goes_on : (files : Option ExposedFiles) (name : List ℕ) (next : Scene → Course) (old middle new : List Note) (o : Outcome) (tree : Pairs) (scene : Scene)
    → HasSmall files name old middle tree scene → next scene middle new o → ReadsSmall files name next old new o
small_goes_on files name next old middle new o tree scene is later =
    diagram_goes_on files name (λ tree s. UnlessLarge (too_large s) (next s)) old middle new o tree scene is.has
    (subst (λ (part : Option Part). UnlessLarge part (next scene) middle new o) (sym is.small) later)

-- a diagram that is not read, or too large, is the end, whatever would go on
pub small_ends : (files : Option ExposedFiles) (name : List ℕ) (next : Scene → Course) (old new : List Note) (o : Outcome) → ReadsSmall files name never old new o → ReadsSmall files name next old new o
small_ends files name next =
    diagram_as (λ tree s. UnlessLarge (too_large s) (never s)) (λ tree s. UnlessLarge (too_large s) (next s))
    (λ tree s old new o is. large_as (too_large s) (never s) (next s) old new o (λ gone. absurd gone) is) files name

-- where the diagram is not read, or too large, the run stops
pub small_stops : (files : Option ExposedFiles) (name : List ℕ) (next : Scene → Course) (old new : List Note) (s : Stop) (r : Result Outcome Stop)
    → StopsAt (ReadsSmall files name never old new) s → IsErrAnd r (λ e. e ≡ s) → Comes (ReadsSmall files name next old new) r
small_stops files name next old new s r stopped passed =
    comes_on (ReadsSmall files name next old new) s r
    (stops_as (ReadsSmall files name never old new) (ReadsSmall files name next old new) (small_ends files name next old new) s stopped) passed

-- and so it does where the second file is not read
pub second_stops : (files : Option ExposedFiles) (name second : List ℕ) (limit : ℕ) (next : Scene → List ℕ → Course) (old middle new : List Note) (tree : Pairs) (scene : Scene) (s : Stop) (r : Result Outcome Stop)
    → HasSmall files name old middle tree scene → StopsAt (ReadsFile files second limit never middle new) s → IsErrAnd r (λ e. e ≡ s)
    → Comes (ReadsSmall files name (λ s. ReadsFile files second limit (next s)) old new) r
second_stops files name second limit next old middle new tree scene s r is stopped passed =
    comes_on (ReadsSmall files name (λ s. ReadsFile files second limit (next s)) old new) s r
    (stops_as (ReadsFile files second limit never middle new) (ReadsSmall files name (λ s. ReadsFile files second limit (next s)) old new)
    (λ o end. small_goes_on files name (λ s. ReadsFile files second limit (next s)) old middle new o tree scene is (file_ends files second limit (next scene) middle new o end)) s stopped) passed

-- the result of a scene that is too large
pub large_stops : (files : Option ExposedFiles) (name : List ℕ) (old new : List Note) (tree : Pairs) (scene : Scene) → HasDiagram files name old new tree scene → (s : Stop)
    → StopsAt (UnlessLarge (too_large scene) (never scene) new new) s → StopsAt (ReadsSmall files name never old new) s
large_stops files name old new tree scene has s is =
    stops_as (UnlessLarge (too_large scene) (never scene) new new) (ReadsSmall files name never old new)
    (λ o large. diagram_goes_on files name (λ tree s. UnlessLarge (too_large s) (never s)) old new new o tree scene has large) s is

-- and the result of a diagram that is not read
pub unread_stops : (files : Option ExposedFiles) (name : List ℕ) (old new : List Note) (s : Stop) → StopsAt (ReadsDiagram files name never_two old new) s → StopsAt (ReadsSmall files name never old new) s
unread_stops files name old new s is =
    stops_as (ReadsDiagram files name never_two old new) (ReadsSmall files name never old new) (diagram_ends files name (λ tree s. UnlessLarge (too_large s) (never s)) old new) s is

-- where the diagram is not read, the run stops
pub diagram_stops : (files : Option ExposedFiles) (name : List ℕ) (next : Pairs → Scene → Course) (old new : List Note) (s : Stop) (r : Result Outcome Stop)
    → StopsAt (ReadsDiagram files name never_two old new) s → IsErrAnd r (λ e. e ≡ s) → Comes (ReadsDiagram files name next old new) r
diagram_stops files name next old new s r stopped passed =
    comes_on (ReadsDiagram files name next old new) s r
    (stops_as (ReadsDiagram files name never_two old new) (ReadsDiagram files name next old new) (diagram_ends files name next old new) s stopped) passed

-- and so it does where diagram and script are not both read
pub script_stops : (files : Option ExposedFiles) (diagram script : List ℕ) (next : Pairs → Scene → List (ℕ × Command) → Course) (old new : List Note) (s : Stop) (r : Result Outcome Stop)
    → StopsAt (ReadsScript files diagram script never_three old new) s → IsErrAnd r (λ e. e ≡ s) → Comes (ReadsScript files diagram script next old new) r
script_stops files diagram script next old new s r stopped passed =
    comes_on (ReadsScript files diagram script next old new) s r
    (stops_as (ReadsScript files diagram script never_three old new) (ReadsScript files diagram script next old new) (script_ends files diagram script next old new) s stopped) passed

-- the result of a stopped read of a file, where a diagram was asked for
pub file_stops : (files : Option ExposedFiles) (name : List ℕ) (old new : List Note) (s : Stop) → StopsAt (ReadsFile files name most_bytes never old new) s → StopsAt (ReadsDiagram files name never_two old new) s
file_stops files name old new s is = stops_as _ _ (file_ends files name most_bytes (TakesDiagram never_two) old new) s is

-- and the result for bytes that are not a valid diagram
pub bytes_stop : {T : Type 0} (files : Option ExposedFiles) (name bytes : List ℕ) (old new : List Note) (r : Result T Stop) → HasRead files name most_bytes old new bytes
    → IfErr r (StopsAt (TakesDiagram never_two bytes new new)) → IfErr r (StopsAt (ReadsDiagram files name never_two old new))
bytes_stop files name bytes old new (Ok x) read is = tt
bytes_stop files name bytes old new (Err s) read is = stops_as (TakesDiagram never_two bytes new new) (ReadsDiagram files name never_two old new) (λ o later. goes_on bytes new read later) s is

answer_comes : (P : Outcome → Type 0) (r : Result Outcome Stop) (made : Outcome) → Comes P r → answer_in r ≡ Some made → P made
answer_comes P (Ok m) made comes is = subst P (same_Some m made is) comes
answer_comes P (Err (Ended m)) made comes is = subst P (same_Some m made is) comes
answer_comes P (Err Memory) made comes is = absurd (none-some made is)

-- the outcome of the subcommand is the outcome of the arguments that ask for it
pub words_come : (words : List (List ℕ)) (form : Option Form) (files : Option ExposedFiles) (old new : List Note) (r : Result Outcome Stop) (a : Result Outcome AllocError) → form ≡ form_of words
    → Comes (IsFormOutcome form files old new) r → IfOk a (λ o. answer_in r ≡ Some o) → IfOk a (λ o. IsOutcome words files old new o)
words_come words form files old new r (Err e) same comes is = tt
words_come words form files old new r (Ok made) same comes is =
    subst (λ (f : Option Form). IsFormOutcome f files old new made) same (answer_comes (IsFormOutcome form files old new) r made comes is)

-- where no file is named, none is read
pub none_in_order : (words : List (List ℕ)) (files : Option ExposedFiles) (old : List Note) → ReadsInOrder words files old old
none_in_order words files old = record { gained = []; grown = sym (append-nil old); in_order = tt; second = λ two. absurd (omega (arith, two)) }

module _ (words : List (List ℕ)) (form : Option Form) (files : Option ExposedFiles) (old new : List Note) (same : form ≡ form_of words) where
  -- notes of the files that the subcommand names are of those that the arguments name
  in_order : (gained : List Note) → new ≡ old ++ gained → AreNotesOf (files_of form) gained → (1 < length gained → ReadsFirstAsDiagram files form old gained) → ReadsInOrder words files old new
  in_order gained grown are second = record {
    gained = gained;
    grown = grown;
    in_order = subst (λ (f : Option Form). AreNotesOf (files_of f) gained) same are;
    second = λ two. subst (λ (f : Option Form). ReadsFirstAsDiagram files f old gained) same (second two);
  }

  -- one note of the diagram alone
  alone : (name : List ℕ) → ((n : Note) → n.name ≡ name → n.limit ≡ most_bytes → AreNotesOf (files_of form) (n ∷ [])) → NotesOne name most_bytes old new → ReadsInOrder words files old new
  alone name first (inl none) = in_order [] (none ∙ sym (append-nil old)) tt (λ two. absurd (omega (arith, two)))
  alone name first (inr one) =
      let n = note name most_bytes one.0 one.1 in
      in_order (n ∷ []) one.2 (first n refl refl) (λ two. absurd (omega (arith, two)))

  -- the one note that was added, if one was, is of the file that the subcommand names
  pub one_in_order : (name : List ℕ) (rest : List (List ℕ × ℕ)) → files_of form ≡ (name, most_bytes) ∷ rest → NotesOne name most_bytes old new → ReadsInOrder words files old new
  one_in_order name rest is notes =
      alone name (λ n named limited. subst (λ (fs : List (List ℕ × ℕ)). AreNotesOf fs (n ∷ [])) (sym is) (named, limited, tt)) notes

  -- the notes that were added, if there were any, are of the diagram, and of the second file after a diagram that meets the condition
  pub two_in_order : (diagram second : List ℕ) (limit : ℕ) (Fits : Scene → Type 0) → files_of form ≡ (diagram, most_bytes) ∷ (second, limit) ∷ []
      → ((s : Scene) → Fits s → ReadsOnWith form s) → NotesTwo files diagram second limit Fits old new → ReadsInOrder words files old new
  two_in_order diagram second limit Fits is on (of_diagram notes) = one_in_order diagram ((second, limit) ∷ []) is notes
  two_in_order diagram second limit Fits is on (of_both middle tree scene has fits (inl none)) =
      one_in_order diagram ((second, limit) ∷ []) is (inr (length has.bytes, false, none ∙ has.read.noted))
  two_in_order diagram second limit Fits is on (of_both middle tree scene has fits (inr one)) =
      let first = note diagram most_bytes (length has.bytes) false in
      let last = note second limit one.0 one.1 in
      in_order (first ∷ last ∷ [])
      (one.2 ∙ ap (λ (ns : List Note). ns ++ last ∷ []) has.read.noted ∙ append_assoc old (first ∷ []) (last ∷ []))
      (subst (λ (fs : List (List ℕ × ℕ)). AreNotesOf fs (first ∷ last ∷ [])) (sym is) (refl, refl, (refl, refl, tt)))
      (λ two. record {
        first = (diagram, most_bytes);
        is_first = ap (λ (fs : List (List ℕ × ℕ)). slice_get fs 0) is;
        bytes = has.bytes;
        middle = middle;
        read = has.read;
        rest = last ∷ [];
        joined = sym (ap (λ (ns : List Note). ns ++ last ∷ []) has.read.noted ∙ append_assoc old (first ∷ []) (last ∷ []));
        tree = tree;
        scene = scene;
        diagram = has.diagram;
        reads_on = on scene fits;
      })
