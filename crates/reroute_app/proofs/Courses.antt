-- Courses only add notes, and lead to one outcome.
use Rattle.std.proofs.Common.{◌≡◌, ℕ, Bool, true, false, List, [], ◌∷◌, ◌++◌, length, Option, Some, None, Result, Ok, Err, refl, sym, ap, subst, ◌∙◌, append_assoc, append-nil, arith, true≢false}
use Rattle.std.specs.Prelude.{IsSome, IfSome}
use Rattle.std.proofs.lemmas.List.{append_cancel_left}
use Rattle.std.proofs.lemmas.Option.{same_Some}
use Rattle.host_edge.specs.Folder.{ExposedFiles, file_named, GainsNote}
use Rattle.host_edge.specs.Note.{Note}
use Rattle.gml_text.specs.Tree.{Pairs}
use Rattle.gml_text.specs.declared.fault.GmlFault.{GmlFault}
use Rattle.gml_text.proofs.Parsing.{reads_once}
use Rattle.scene_model.specs.Scene.{Scene}
use Rattle.diagram_read.specs.declared.fault.DiagramFault.{DiagramFault}
use Rattle.diagram_read.specs.Scene.{scene_of}
use Rattle.report_text.specs.Outcome.{Outcome}
use Rattle.reroute_app.specs.Reads.{ReadsFile, Course, Ends, EndsWith}
use Rattle.reroute_app.specs.Reads.ReadsFile.{fails, is_too_long, goes_on}
use Rattle.reroute_app.specs.Diagram.{most_bytes, TakesScene, TakesTree, TakesDiagram, ReadsDiagram}

-- some notes were added
abbrev pub Grows : List Note → List Note → Type 0
Grows old new = (more : List Note) × (new ≡ old ++ more)

pub grows_not : (old new : List Note) → new ≡ old → Grows old new
grows_not old new same = ([], same ∙ sym (append-nil old))

pub record IsCourse (course : Course) : Type 0 where
  pub grows : (old new : List Note) (o : Outcome) → course old new o → Grows old new
  pub one : (old new : List Note) (a b : Outcome) → course old new a → course old new b → a ≡ b

-- what a run of one read of a file has to do with the first note that it gained
pub record IsFirst (old new : List Note) (first : Note) : Type 0 where
  pub more : List Note
  pub gained : new ≡ old ++ first ∷ more

head_same : (a b : Note) (ms ns : List Note) → ◌≡◌ {A = List Note} (a ∷ ms) (b ∷ ns) → a ≡ b
head_same a b ms ns e = cc

pub one_first : (old new : List Note) (m n : Note) → IsFirst old new m → IsFirst old new n → m ≡ n
one_first old new m n a b = head_same m n a.more b.more (append_cancel_left old (m ∷ a.more) (n ∷ b.more) (sym a.gained ∙ b.gained))

abbrev pub note : List ℕ → ℕ → ℕ → Bool → Note
note name limit taken failed = record { name = name; limit = limit; taken = taken; failed = failed }

pub first_of_one : (old new : List Note) (name : List ℕ) (limit taken : ℕ) (failed : Bool) → GainsNote old new name limit taken failed → IsFirst old new (note name limit taken failed)
first_of_one old new name limit taken failed noted = record { more = []; gained = noted }

pub first_of_more : (old middle new : List Note) (name : List ℕ) (limit taken : ℕ) (failed : Bool) → GainsNote old middle name limit taken failed → Grows middle new
    → IsFirst old new (note name limit taken failed)
first_of_more old middle new name limit taken failed noted later = record {
  more = later.0;
  gained = later.1 ∙ ap (λ (ns : List Note). ns ++ later.0) noted ∙ append_assoc old (note name limit taken failed ∷ []) later.0;
}

pub course_ends : (P : Outcome → Type 0) → ((a b : Outcome) → P a → P b → a ≡ b) → IsCourse (Ends P)
course_ends P one = record {
  grows = λ old new o is. grows_not old new is.0;
  one = λ old new a b p q. one a b p.1 q.1;
}

pub course_ends_with : (o : Outcome) → IsCourse (EndsWith o)
course_ends_with o = course_ends (λ a. a ≡ o) (λ a b p q. p ∙ sym q)

-- ---- reading

pub exposed_once : (files : Option ExposedFiles) (name : List ℕ) (bs cs : List ℕ) → IsSome files → IfSome files (λ named. file_named named name ≡ Some bs) → IfSome files (λ named. file_named named name ≡ Some cs) → bs ≡ cs
exposed_once None name bs cs some p q = absurd (true≢false (sym some))
exposed_once (Some named) name bs cs some p q = same_Some bs cs (sym p ∙ q)

module _ (files : Option ExposedFiles) (name : List ℕ) (limit : ℕ) (next : List ℕ → Course) (some : IsSome files) (good : (bytes : List ℕ) → IsCourse (next bytes)) where
  file_grows : (old new : List Note) (o : Outcome) → ReadsFile files name limit next old new o → Grows old new
  file_grows old new o (fails failed is) = (note name limit failed.taken true ∷ [], failed.noted)
  file_grows old new o (is_too_long more is) = (note name limit more.taken false ∷ [], more.noted)
  file_grows old new o (goes_on bytes middle read later) =
      let first = first_of_more old middle new name limit (length bytes) false read.noted ((good bytes).grows middle new o later) in
      (note name limit (length bytes) false ∷ first.more, first.gained)

  file_once : (old new : List Note) (a b : Outcome) → ReadsFile files name limit next old new a → ReadsFile files name limit next old new b → a ≡ b
  file_once old new a b (fails f p) (fails g q) = p ∙ sym q
  file_once old new a b (fails f p) (is_too_long g q) =
      let same = one_first old new _ _ (first_of_one old new name limit f.taken true f.noted) (first_of_one old new name limit g.taken false g.noted) in
      let differ = ap (λ (n : Note). n.failed) same in absurd cc
  file_once old new a b (fails f p) (goes_on bytes middle read later) =
      let same = one_first old new _ _ (first_of_one old new name limit f.taken true f.noted) (first_of_more old middle new name limit (length bytes) false read.noted ((good bytes).grows middle new b later)) in
      let differ = ap (λ (n : Note). n.failed) same in absurd cc
  file_once old new a b (is_too_long f p) (fails g q) =
      let same = one_first old new _ _ (first_of_one old new name limit f.taken false f.noted) (first_of_one old new name limit g.taken true g.noted) in
      let differ = ap (λ (n : Note). n.failed) same in absurd cc
  file_once old new a b (is_too_long f p) (is_too_long g q) = p ∙ sym q
  file_once old new a b (is_too_long f p) (goes_on bytes middle read later) =
      let same = one_first old new _ _ (first_of_one old new name limit f.taken false f.noted) (first_of_more old middle new name limit (length bytes) false read.noted ((good bytes).grows middle new b later)) in
      let taken = ap (λ (n : Note). n.taken) same in
      let more = f.more in
      let short = read.short in
      absurd (omega (arith, taken, more, short))
  file_once old new a b (goes_on bytes middle read later) (fails g q) =
      let same = one_first old new _ _ (first_of_more old middle new name limit (length bytes) false read.noted ((good bytes).grows middle new a later)) (first_of_one old new name limit g.taken true g.noted) in
      let differ = ap (λ (n : Note). n.failed) same in absurd cc
  file_once old new a b (goes_on bytes middle read later) (is_too_long g q) =
      let same = one_first old new _ _ (first_of_more old middle new name limit (length bytes) false read.noted ((good bytes).grows middle new a later)) (first_of_one old new name limit g.taken false g.noted) in
      let taken = ap (λ (n : Note). n.taken) same in
      let more = g.more in
      let short = read.short in
      absurd (omega (arith, taken, more, short))
  file_once old new a b (goes_on bs middle read later) (goes_on cs other reads latest) =
      let bytes = exposed_once files name bs cs some read.exposed reads.exposed in
      let same = one_first old new _ _ (first_of_more old middle new name limit (length bs) false read.noted ((good bs).grows middle new a later)) (first_of_more old other new name limit (length cs) false reads.noted ((good cs).grows other new b latest)) in
      let middles : middle ≡ other = read.noted ∙ ap (λ (n : Note). old ++ n ∷ []) same ∙ sym reads.noted in
      (good cs).one other new a b (subst (λ (m : List Note). next cs m new a) middles (subst (λ (xs : List ℕ). next xs middle new a) bytes later)) latest

  pub course_file : IsCourse (ReadsFile files name limit next)
  course_file = record { grows = file_grows; one = file_once }

-- ---- diagrams

course_tree : (next : Pairs → Scene → Course) → ((tree : Pairs) (s : Scene) → scene_of tree ≡ Ok s → IsCourse (next tree s)) → (bytes : List ℕ) (r : Result Pairs GmlFault) → IsCourse (TakesTree next bytes r)
course_tree next good bytes (Ok tree) = by (scene_of tree) refl
  where
    by : (r : Result Scene DiagramFault) → scene_of tree ≡ r → IsCourse (TakesScene (next tree) r)
    by (Ok s) is = good tree s is
    by (Err fault) is = course_ends_with _
course_tree next good bytes (Err fault) = course_ends_with _

course_bytes : (next : Pairs → Scene → Course) → ((tree : Pairs) (s : Scene) → scene_of tree ≡ Ok s → IsCourse (next tree s)) → (bytes : List ℕ) → IsCourse (TakesDiagram next bytes)
course_bytes next good bytes = record {
  grows = λ old new o is. (course_tree next good bytes is.0).grows old new o is.2;
  one = λ old new a b p q.
      let same = reads_once bytes p.0 q.0 p.1 q.1 in
      (course_tree next good bytes q.0).one old new a b (subst (λ (r : Result Pairs GmlFault). TakesTree next bytes r old new a) same p.2) q.2;
}

pub course_diagram : (files : Option ExposedFiles) (name : List ℕ) (next : Pairs → Scene → Course) → IsSome files → ((tree : Pairs) (s : Scene) → scene_of tree ≡ Ok s → IsCourse (next tree s)) → IsCourse (ReadsDiagram files name next)
course_diagram files name next some good = course_file files name most_bytes (TakesDiagram next) some (course_bytes next good)
