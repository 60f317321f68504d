-- An outcome has one status, and its cause.
use Rattle.std.proofs.Common.{◌≡◌, ◌↔◌, ◌⊎◌, inl, inr, ℕ, suc, ◌≤◌, Bool, true, false, List, [], ◌∷◌, ◌++◌, length, Option, Some, None, Result, Ok, Err, All, refl, sym, ap, subst, ◌∙◌, arith, append-nil, append_assoc, length-append, true≢false}
use Rattle.std.specs.Prelude.{◌||◌, IsSome, Any}
use Rattle.std.specs.List.{list_any, AllZip}
use Rattle.std.proofs.lemmas.List.Elements.{All-nil, All-cons}
use Rattle.std.proofs.lemmas.List.{append_cancel_left}
use Rattle.host_edge.specs.Folder.{ExposedFiles}
use Rattle.host_edge.specs.Note.{Note}
use Rattle.plane_geom.specs.declared.point.Point.{Point}
use Rattle.gml_text.specs.Tree.{Pairs}
use Rattle.gml_text.specs.Parse.{ParsesAs}
use Rattle.gml_text.specs.declared.fault.GmlFault.{GmlFault}
use Rattle.gml_text.proofs.Parsing.{reads_once}
use Rattle.scene_model.specs.declared.edge.Edge.{Edge}
use Rattle.scene_model.specs.declared.edit.Command.{Command}
use Rattle.scene_model.specs.Scene.{Scene, is_loop}
use Rattle.scene_model.specs.Routing.{solids, task_of}
use Rattle.scene_model.specs.World.{opened}
use Rattle.route_check.specs.declared.verdict.Breach.{Breach}
use Rattle.route_check.specs.Verdict.{IsLegalLine, IsVerdict}
use Rattle.diagram_read.specs.declared.fault.DiagramFault.{DiagramFault}
use Rattle.diagram_read.specs.Scene.{scene_of}
use Rattle.diagram_read.specs.Lines.{line_of}
use Rattle.edit_script.specs.Script.{commands}
use Rattle.report_text.specs.declared.finding.Finding.{Finding}
use Rattle.report_text.specs.declared.finding.Finding.TheVariants.{Judged}
use Rattle.report_text.specs.declared.finding.EdgeFinding.{EdgeFinding}
use Rattle.script_replay.specs.Replies.{AreReplies, HaveOneListOfReplies, world_after}
use Rattle.form_check.specs.Checks.{IsFinding, IsFindingOf, IsLineFinding, first_line_fault, is_breach, SaysFindings, ChecksUnless, Checks, check_status}
use Rattle.form_route.specs.Report.{has_refusal, script_status}
use Rattle.form_preview.specs.Proposes.{ComeToOne, Proposes, Previews}
use Rattle.diagram_read.specs.declared.fault.Part.{Part}
use Rattle.form_certificate.specs.Sizes.{too_large}
use Rattle.form_certificate.specs.Auditing.{Audits, HaveOneAudit, AuditsCertificate, audit_status}
use Rattle.command_words.specs.Words.{Form, check, route, make, preview, shared, prove, audit, form_of}
use Rattle.report_text.specs.declared.status.Status.{Status}
use Rattle.report_text.specs.declared.status.Status.TheVariants as status
use Rattle.report_text.specs.Status.{IsOutputWritten}
use Rattle.report_text.specs.Outcome.{Outcome}
use Rattle.reroute_app.specs.Reads.{HasRead, HasFailed, HasMore, ReadsFile, Course, Ends}
use Rattle.reroute_app.specs.Reads.ReadsFile.{fails, is_too_long, goes_on}
use Rattle.reroute_app.specs.Diagram.{most_bytes, IsDiagram, HasDiagram, TakesScene, TakesTree, ReadsDiagram, most_script_bytes, most_certificate_bytes, UnlessLarge}
use Rattle.form_route.specs.Routes.{Replays}
use Rattle.form_shared.specs.Shares.{ListsPaths}
use Rattle.form_certificate.specs.Proving.{WritesCertificate}
use Rattle.reroute_app.specs.Run.{IsFormOutcome}
use Rattle.reroute_app.specs.Causes.{GainsLast, LastFailed, LastTookMore, HasReadDiagram, IsNoDiagram, HasNoLine, IsTooLarge, IsRefusedBy, FindsNoDiagram, FindsLines, HasBadLine, HasNoBadLine, FindsBadLine, FindsLegalLines, HasReadBoth, FindsReplay, FindsPreviews, FindsShared, FindsSmall, FindsAudit, FindsNoProof, FindsRefusal, FindsNothing}
use Rattle.reroute_app.specs.Causes.FindsNothing.{lines_are_legal, nothing_is_refused, is_made, no_proposal_is_refused, is_shared, has_certificate, is_proved}
use Rattle.reroute_app.proofs.Courses.{note, exposed_once}

-- ---- one edge

breach_is : (s : Scene) (e : Edge) (points : List Point) (v : Result ℕ Breach) → IsVerdict (solids s) (task_of s e) points v → is_breach (Judged v) ≡ true
    → IsLegalLine (solids s) (task_of s e) points → ⊥
breach_is s e points (Ok cost) is breach = absurd cc
breach_is s e points (Err b) is breach = is.0

legal_is : (s : Scene) (e : Edge) (points : List Point) (v : Result ℕ Breach) → IsVerdict (solids s) (task_of s e) points v → is_breach (Judged v) ≡ false
    → IsLegalLine (solids s) (task_of s e) points
legal_is s e points (Ok cost) is none = is.line
legal_is s e points (Err b) is none = absurd cc

bad_line : (tree : Pairs) (s : Scene) (e : Edge) (f : Finding) (r : Result (Option (List Point)) DiagramFault) → is_loop e ≡ false → line_of tree e ≡ r → IsLineFinding s e r f → is_breach f ≡ true
    → HasBadLine tree s e
bad_line tree s e f (Ok None) connector line is breach = (let e = ap is_breach is in absurd cc)
bad_line tree s e f (Ok (Some points)) connector line is breach =
    record { connector = connector; points = points; line = line; bad = breach_is s e points is.verdict is.is_verdict (sym (ap is_breach is.finding) ∙ breach) }
bad_line tree s e f (Err fault) connector line is breach = absurd is

bad_edge : (tree : Pairs) (s : Scene) (e : Edge) (f : EdgeFinding) → IsFinding tree s e f → is_breach f.finding ≡ true → HasBadLine tree s e
bad_edge tree s e f is breach = by (is_loop e) refl is.finding
  where
    by : (b : Bool) → is_loop e ≡ b → IsFindingOf b s e (line_of tree e) f.finding → HasBadLine tree s e
    by true loop found = (let e = ap is_breach found in absurd cc)
    by false connector found = bad_line tree s e f.finding (line_of tree e) connector refl found breach

legal_line : (s : Scene) (e : Edge) (f : Finding) (r : Result (Option (List Point)) DiagramFault) (points : List Point) → IsLineFinding s e r f → is_breach f ≡ false → r ≡ Ok (Some points)
    → IsLegalLine (solids s) (task_of s e) points
legal_line s e f (Ok None) points is none line = absurd cc
legal_line s e f (Ok (Some ps)) points is none line =
    let legal = legal_is s e ps is.verdict is.is_verdict (sym (ap is_breach is.finding) ∙ none) in
    let same : ps ≡ points = cc in
    subst (IsLegalLine (solids s) (task_of s e)) same legal
legal_line s e f (Err fault) points is none line = absurd is

legal_edge : (tree : Pairs) (s : Scene) (e : Edge) (f : EdgeFinding) → IsFinding tree s e f → is_breach f.finding ≡ false → HasNoBadLine tree s e
legal_edge tree s e f is none connector points line = by (is_loop e) connector is.finding
  where
    by : (b : Bool) → b ≡ false → IsFindingOf b s e (line_of tree e) f.finding → IsLegalLine (solids s) (task_of s e) points
    by true loop found = absurd cc
    by false connector found = legal_line s e f.finding (line_of tree e) points found none line

-- ---- all edges

later_bad : (tree : Pairs) (s : Scene) (e : Edge) (es : List Edge) → Any (HasBadLine tree s) es → Any (HasBadLine tree s) (e ∷ es)
later_bad tree s e es bad = (suc bad.0, bad.1, omega (arith, bad.2), bad.3, bad.4)

bad_by : (b : Bool) (tree : Pairs) (s : Scene) (e : Edge) (es : List Edge) (f : EdgeFinding) (some : Bool) → is_breach f.finding ≡ b → IsFinding tree s e f → (some ≡ true → Any (HasBadLine tree s) es)
    → (b || some) ≡ true → Any (HasBadLine tree s) (e ∷ es)
bad_by true tree s e es f some breach is later any = (0, e, omega arith, refl, bad_edge tree s e f is breach)
bad_by false tree s e es f some none is later any = later_bad tree s e es (later any)

bad_found : (tree : Pairs) (s : Scene) (es : List Edge) (fs : List EdgeFinding) → AllZip (IsFinding tree s) es fs → list_any (λ f. is_breach f.finding) fs ≡ true → Any (HasBadLine tree s) es
bad_found tree s [] [] zipped any = absurd cc
bad_found tree s [] (f ∷ fs) zipped any = absurd zipped
bad_found tree s (e ∷ es) [] zipped any = absurd zipped
bad_found tree s (e ∷ es) (f ∷ fs) zipped any =
    bad_by (is_breach f.finding) tree s e es f (list_any (λ f. is_breach f.finding) fs) refl zipped.0 (bad_found tree s es fs zipped.1) any

legal_by : (b : Bool) (tree : Pairs) (s : Scene) (e : Edge) (es : List Edge) (f : EdgeFinding) (some : Bool) → is_breach f.finding ≡ b → IsFinding tree s e f → (some ≡ false → All (HasNoBadLine tree s) es)
    → (b || some) ≡ false → All (HasNoBadLine tree s) (e ∷ es)
legal_by true tree s e es f some breach is later none = absurd cc
legal_by false tree s e es f some here is later none = All-cons (HasNoBadLine tree s) e es (legal_edge tree s e f is here) (later none)

legal_found : (tree : Pairs) (s : Scene) (es : List Edge) (fs : List EdgeFinding) → AllZip (IsFinding tree s) es fs → list_any (λ f. is_breach f.finding) fs ≡ false → All (HasNoBadLine tree s) es
legal_found tree s [] fs zipped any = All-nil (HasNoBadLine tree s)
legal_found tree s (e ∷ es) [] zipped any = absurd zipped
legal_found tree s (e ∷ es) (f ∷ fs) zipped any =
    legal_by (is_breach f.finding) tree s e es f (list_any (λ f. is_breach f.finding) fs) refl zipped.0 (legal_found tree s es fs zipped.1) any

not_both : (tree : Pairs) (s : Scene) (es : List Edge) → Any (HasBadLine tree s) es → All (HasNoBadLine tree s) es → ⊥
not_both tree s es bad legal =
    let line = bad.4 in
    line.bad (subst (HasNoBadLine tree s) bad.3 (legal bad.0 bad.1 bad.2) line.connector line.points line.line)

-- ---- one diagram

pub record SameDiagram (t u : Pairs) (s v : Scene) : Type 0 where
  pub tree : t ≡ u
  pub scene : s ≡ v

same_diagram : (bytes : List ℕ) (t u : Pairs) (s v : Scene) → IsDiagram bytes t s → IsDiagram bytes u v → SameDiagram t u s v
same_diagram bytes t u s v a b =
    let trees : t ≡ u = (let e = reads_once bytes (Ok t) (Ok u) a.document b.document in cc) in
    let scenes : s ≡ v = (let e = sym a.is_scene ∙ ap scene_of trees ∙ b.is_scene in cc) in
    record { tree = trees; scene = scenes }

not_refused : (bytes : List ℕ) (tree : Pairs) (scene : Scene) → IsNoDiagram bytes ⊎ HasNoLine bytes → IsDiagram bytes tree scene → first_line_fault tree scene.edges ≡ None → ⊥
not_refused bytes tree scene (inl none) is lines = none tree scene is
not_refused bytes tree scene (inr other) is lines =
    let same = same_diagram bytes other.tree tree other.scene scene other.diagram is in
    let gone : first_line_fault other.tree other.scene.edges ≡ None = rw (same.tree, same.scene) lines in
    true≢false (sym (subst IsSome gone other.fault))

no_scene : (bytes : List ℕ) (tree : Pairs) (fault : DiagramFault) → ParsesAs bytes (Ok tree) → scene_of tree ≡ Err fault → IsNoDiagram bytes
no_scene bytes tree fault reads is t s other =
    let same : t ≡ tree = (let e = reads_once bytes (Ok t) (Ok tree) other.document reads in cc) in
    let e = sym other.is_scene ∙ ap scene_of same ∙ is in
    absurd cc

no_document : (bytes : List ℕ) (fault : GmlFault) → ParsesAs bytes (Err fault) → IsNoDiagram bytes
no_document bytes fault reads t s other = (let e = reads_once bytes (Ok t) (Err fault) other.document reads in absurd cc)

-- ---- the last note

last_same : (xs ys : List Note) (m n : Note) → xs ++ m ∷ [] ≡ ys ++ n ∷ [] → m ≡ n
last_same [] [] m n e = cc
last_same [] (y ∷ ys) m n e = (let long = simp length-append at (ap length e) in absurd (omega (arith, long)))
last_same (x ∷ xs) [] m n e = (let long = simp length-append at (ap length e) in absurd (omega (arith, long)))
last_same (x ∷ xs) (y ∷ ys) m n e = last_same xs ys m n (let both = e in cc)

one_last : (old new : List Note) (m n : Note) → GainsLast old new m → GainsLast old new n → m ≡ n
one_last old new m n a b = last_same a.front b.front m n (append_cancel_left old (a.front ++ m ∷ []) (b.front ++ n ∷ []) (sym a.gained ∙ b.gained))

no_last : (old new : List Note) (last : Note) → new ≡ old → GainsLast old new last → ⊥
no_last old new last same gains =
    let e : old ++ (gains.front ++ last ∷ []) ≡ old ++ [] = sym gains.gained ∙ same ∙ sym (append-nil old) in
    let f = append_cancel_left old (gains.front ++ last ∷ []) [] e in
    let long = simp length-append at (ap length f) in
    absurd (omega (arith, long))

gains_one : (old new : List Note) (n : Note) → new ≡ old ++ n ∷ [] → GainsLast old new n
gains_one old new n noted = record { front = []; gained = noted }

-- what is added after a note is added after those before it
gains_after : (old middle new : List Note) (n last : Note) → middle ≡ old ++ n ∷ [] → GainsLast middle new last → GainsLast old new last
gains_after old middle new n last noted gains = record {
  front = n ∷ gains.front;
  gained = gains.gained ∙ ap (λ (ns : List Note). ns ++ (gains.front ++ last ∷ [])) noted ∙ append_assoc old (n ∷ []) (gains.front ++ last ∷ []);
}

failed_last : (name : List ℕ) (limit : ℕ) (old new : List Note) → HasFailed name limit old new → LastFailed old new
failed_last name limit old new failed = (note name limit failed.taken true, gains_one old new _ failed.noted, refl)

more_last : (files : Option ExposedFiles) (name : List ℕ) (limit : ℕ) (old new : List Note) → HasMore files name limit old new → LastTookMore old new
more_last files name limit old new more = (note name limit more.taken false, gains_one old new _ more.noted, refl, more.more)

-- the last read did not fail, and took no more than its limit
record IsLastWhole (old new : List Note) : Type 0 where
  pub last : Note
  pub gains : GainsLast old new last
  pub not_failed : last.failed ≡ false
  pub short : last.taken ≤ last.limit

whole_last : (files : Option ExposedFiles) (name : List ℕ) (limit : ℕ) (old new : List Note) (bytes : List ℕ) → HasRead files name limit old new bytes → IsLastWhole old new
whole_last files name limit old new bytes read = record { last = note name limit (length bytes) false; gains = gains_one old new _ read.noted; not_failed = refl; short = read.short }

whole_after : (old middle new : List Note) (n : Note) → middle ≡ old ++ n ∷ [] → IsLastWhole middle new → IsLastWhole old new
whole_after old middle new n noted whole = record { last = whole.last; gains = gains_after old middle new n whole.last noted whole.gains; not_failed = whole.not_failed; short = whole.short }

whole_failed : (old new : List Note) → IsLastWhole old new → LastFailed old new → ⊥
whole_failed old new whole last =
    let same = ap (λ (n : Note). n.failed) (one_last old new whole.last last.0 whole.gains last.1) in
    let was = whole.not_failed in
    let is = last.2 in
    absurd cc

whole_more : (old new : List Note) → IsLastWhole old new → LastTookMore old new → ⊥
whole_more old new whole last =
    let same = one_last old new whole.last last.0 whole.gains last.1 in
    let took = ap (λ (n : Note). n.taken) same in
    let most = ap (λ (n : Note). n.limit) same in
    let short = whole.short in
    let more = last.3 in
    absurd (omega (arith, took, most, more, short))

failed_more : (old new : List Note) → LastFailed old new → LastTookMore old new → ⊥
failed_more old new failed more =
    let same = ap (λ (n : Note). n.failed) (one_last old new failed.0 more.0 failed.1 more.1) in
    let was = failed.2 in
    let is = more.2 in
    absurd cc

-- ---- what is found of files that were read whole

same_named : (files : Option ExposedFiles) (m n bs cs : List ℕ) (limit : ℕ) (a b c d : List Note) → IsSome files → m ≡ n → HasRead files m limit a b bs → HasRead files n limit c d cs → bs ≡ cs
same_named files m n bs cs limit a b c d some same p q = exposed_once files n bs cs some (subst (λ (name : List ℕ). HasRead files name limit a b bs) same p).exposed q.exposed

-- an exposed file is one diagram
same_read : (files : Option ExposedFiles) (m n : List ℕ) (a b c d : List Note) (t u : Pairs) (s v : Scene) → IsSome files → m ≡ n → HasDiagram files m a b t s → HasDiagram files n c d u v → SameDiagram t u s v
same_read files m n a b c d t u s v some same p q =
    let bytes = same_named files m n p.bytes q.bytes most_bytes a b c d some same p.read q.read in
    same_diagram q.bytes t u s v (subst (λ (bs : List ℕ). IsDiagram bs t s) bytes p.diagram) q.diagram

-- two files that were read are one scene and one list of bytes
record AreSameBoth (s v : Scene) (bs cs : List ℕ) : Type 0 where
  pub scene : s ≡ v
  pub bytes : bs ≡ cs

same_both : (files : Option ExposedFiles) (d e m n : List ℕ) (limit : ℕ) (old new : List Note) (t u : Pairs) (s v : Scene) (bs cs : List ℕ) → IsSome files → d ≡ e → m ≡ n
    → HasReadBoth files d m limit old new t s bs → HasReadBoth files e n limit old new u v cs → AreSameBoth s v bs cs
same_both files d e m n limit old new t u s v bs cs some diagrams seconds p q =
    let first = same_read files d e old p.middle old q.middle t u s v some diagrams p.first q.first in
    record { scene = first.scene; bytes = same_named files m n bs cs limit p.middle new q.middle new some seconds p.read q.read }

both_whole : (files : Option ExposedFiles) (diagram second : List ℕ) (limit : ℕ) (old new : List Note) (t : Pairs) (s : Scene) (bs : List ℕ) → HasReadBoth files diagram second limit old new t s bs → IsLastWhole old new
both_whole files diagram second limit old new t s bs read = whole_after old read.middle new _ read.first.read.noted (whole_last files second limit read.middle new bs read.read)

-- what a subcommand reads as its diagram
named_diagram : (form : Option Form) (files : Option ExposedFiles) (old new : List Note) (bytes : List ℕ) → HasReadDiagram form files old new bytes → (name : List ℕ) × HasRead files name most_bytes old new bytes
named_diagram None files old new bytes read = absurd read
named_diagram (Some (check diagram)) files old new bytes read = (diagram, read)
named_diagram (Some (route diagram script workers count)) files old new bytes read = (diagram, read)
named_diagram (Some (make seed)) files old new bytes read = absurd read
named_diagram (Some (preview diagram script workers)) files old new bytes read = (diagram, read)
named_diagram (Some (shared diagram)) files old new bytes read = (diagram, read)
named_diagram (Some (prove diagram)) files old new bytes read = (diagram, read)
named_diagram (Some (audit diagram certificate)) files old new bytes read = (diagram, read)

-- the subcommand names files
abbrev HasFiles : Option Form → Type 0
HasFiles None = ⊥
HasFiles (Some (make seed)) = ⊥
HasFiles other = Unit {0}

read_files : (form : Option Form) (files : Option ExposedFiles) (old new : List Note) (bytes : List ℕ) → HasReadDiagram form files old new bytes → HasFiles form
read_files None files old new bytes read = absurd read
read_files (Some (make seed)) files old new bytes read = absurd read
read_files other files old new bytes read = tt

module _ (words : List (List ℕ)) (files : Option ExposedFiles) (old new : List Note) where
  -- what is found where all that was read was read whole
  data Found : Type 0 where
    no_diagram : FindsNoDiagram words files old new → Found
    line_is_bad : FindsBadLine words files old new → Found
    legal_lines : FindsLegalLines words files old new → Found
    replay : (refused : Bool) → FindsReplay words files old new refused → Found
    previews : (refused : Bool) → FindsPreviews words files old new refused → Found
    shared_paths : FindsShared words files old new → Found
    certificate : FindsSmall words files old new → Found
    verdict : (proved : Bool) → FindsAudit words files old new proved → Found

  -- the status that it has
  abbrev status_found : Found → Status
  status_found (no_diagram none) = status.Diagram
  status_found (line_is_bad bad) = status.BadLine
  status_found (legal_lines legal) = status.Done
  status_found (replay refused found) = script_status refused
  status_found (previews refused found) = script_status refused
  status_found (shared_paths found) = status.Done
  status_found (certificate found) = status.Done
  status_found (verdict proved found) = audit_status proved

  -- the subcommand of the arguments, where a diagram is found
  abbrev FormFound : Found → Type 0
  FormFound (no_diagram none) = Unit {0}
  FormFound (line_is_bad bad) = form_of words ≡ Some (check bad.found.name)
  FormFound (legal_lines legal) = form_of words ≡ Some (check legal.found.name)
  FormFound (replay refused found) = form_of words ≡ Some (route found.diagram found.script found.workers found.count)
  FormFound (previews refused found) = form_of words ≡ Some (preview found.diagram found.script found.workers)
  FormFound (shared_paths found) = form_of words ≡ Some (shared found.diagram)
  FormFound (certificate found) = form_of words ≡ Some (prove found.diagram)
  FormFound (verdict proved found) = form_of words ≡ Some (audit found.diagram found.certificate)

  form_found : (f : Found) → FormFound f
  form_found (no_diagram none) = tt
  form_found (line_is_bad bad) = bad.found.form
  form_found (legal_lines legal) = legal.found.form
  form_found (replay refused found) = found.form
  form_found (previews refused found) = found.form
  form_found (shared_paths found) = found.form
  form_found (certificate found) = found.form
  form_found (verdict proved found) = found.form

  has_files : (form : Option Form) → form_of words ≡ form → HasFiles form → HasFiles (form_of words)
  has_files form f has = subst HasFiles (sym f) has

  files_found : (f : Found) → HasFiles (form_of words)
  files_found (no_diagram none) = read_files (form_of words) files old new none.bytes none.read
  files_found (line_is_bad bad) = has_files _ bad.found.form tt
  files_found (legal_lines legal) = has_files _ legal.found.form tt
  files_found (replay refused found) = has_files _ found.form tt
  files_found (previews refused found) = has_files _ found.form tt
  files_found (shared_paths found) = has_files _ found.form tt
  files_found (certificate found) = has_files _ found.form tt
  files_found (verdict proved found) = has_files _ found.form tt

  lines_whole : (tree : Pairs) (scene : Scene) → FindsLines words files old new tree scene → IsLastWhole old new
  lines_whole tree scene found = whole_last files found.name most_bytes old new found.bytes found.read

  whole_found : (f : Found) → IsLastWhole old new
  whole_found (no_diagram none) = (let named = named_diagram (form_of words) files old new none.bytes none.read in whole_last files named.0 most_bytes old new none.bytes named.1)
  whole_found (line_is_bad bad) = lines_whole bad.tree bad.scene bad.found
  whole_found (legal_lines legal) = lines_whole legal.tree legal.scene legal.found
  whole_found (replay refused found) = both_whole files found.diagram found.script most_script_bytes old new found.tree found.scene found.bytes found.read
  whole_found (previews refused found) = both_whole files found.diagram found.script most_script_bytes old new found.tree found.scene found.bytes found.read
  whole_found (shared_paths found) = whole_last files found.diagram most_bytes old new found.read.bytes found.read.read
  whole_found (certificate found) = whole_last files found.diagram most_bytes old new found.read.bytes found.read.read
  whole_found (verdict proved found) = both_whole files found.diagram found.certificate most_certificate_bytes old new found.tree found.scene found.bytes found.read

  -- ---- a diagram that is refused is nothing else

  -- one note is not two
  diagram_not_both : (diagram second : List ℕ) (limit : ℕ) (t : Pairs) (s : Scene) (bs : List ℕ) → FindsNoDiagram words files old new → HasReadBoth files diagram second limit old new t s bs → ⊥
  diagram_not_both diagram second limit t s bs none both =
      let named = named_diagram (form_of words) files old new none.bytes none.read in
      let one = simp length-append at (ap length named.1.noted) in
      let first = simp length-append at (ap length both.first.read.noted) in
      let last = simp length-append at (ap length both.read.noted) in
      absurd (omega (arith, one, first, last))

  diagram_not_lines : (tree : Pairs) (scene : Scene) → IsSome files → FindsNoDiagram words files old new → FindsLines words files old new tree scene → ⊥
  diagram_not_lines tree scene some none found =
      let read = subst (λ (g : Option Form). HasReadDiagram g files old new none.bytes) found.form none.read in
      let refused = subst (λ (g : Option Form). IsRefusedBy g none.bytes) found.form none.refused in
      let same = same_named files found.name found.name found.bytes none.bytes most_bytes old new old new some refl found.read read in
      not_refused none.bytes tree scene refused (subst (λ (bs : List ℕ). IsDiagram bs tree scene) same found.diagram) found.lines

  diagram_not_shared : IsSome files → FindsNoDiagram words files old new → FindsShared words files old new → ⊥
  diagram_not_shared some none found =
      let read = subst (λ (g : Option Form). HasReadDiagram g files old new none.bytes) found.form none.read in
      let refused = subst (λ (g : Option Form). IsRefusedBy g none.bytes) found.form none.refused in
      let same = same_named files found.diagram found.diagram found.read.bytes none.bytes most_bytes old new old new some refl found.read.read read in
      refused found.tree found.scene (subst (λ (bs : List ℕ). IsDiagram bs found.tree found.scene) same found.read.diagram)

  not_too_large : (bytes : List ℕ) (tree : Pairs) (scene : Scene) → IsNoDiagram bytes ⊎ IsTooLarge bytes → IsDiagram bytes tree scene → too_large scene ≡ None → ⊥
  not_too_large bytes tree scene (inl none) is small = none tree scene is
  not_too_large bytes tree scene (inr other) is small =
      let same = same_diagram bytes other.tree tree other.scene scene other.diagram is in
      let gone : too_large other.scene ≡ None = ap too_large same.scene ∙ small in
      true≢false (sym (subst IsSome gone other.large))

  diagram_not_small : IsSome files → FindsNoDiagram words files old new → FindsSmall words files old new → ⊥
  diagram_not_small some none found =
      let read = subst (λ (g : Option Form). HasReadDiagram g files old new none.bytes) found.form none.read in
      let refused = subst (λ (g : Option Form). IsRefusedBy g none.bytes) found.form none.refused in
      let same = same_named files found.diagram found.diagram found.read.bytes none.bytes most_bytes old new old new some refl found.read.read read in
      not_too_large none.bytes found.tree found.scene refused (subst (λ (bs : List ℕ). IsDiagram bs found.tree found.scene) same found.read.diagram) found.small

  only_no_diagram : IsSome files → FindsNoDiagram words files old new → (f : Found) → status.Diagram ≡ status_found f
  only_no_diagram some none (no_diagram other) = refl
  only_no_diagram some none (line_is_bad bad) = absurd (diagram_not_lines bad.tree bad.scene some none bad.found)
  only_no_diagram some none (legal_lines legal) = absurd (diagram_not_lines legal.tree legal.scene some none legal.found)
  only_no_diagram some none (replay refused found) = absurd (diagram_not_both found.diagram found.script most_script_bytes found.tree found.scene found.bytes none found.read)
  only_no_diagram some none (previews refused found) = absurd (diagram_not_both found.diagram found.script most_script_bytes found.tree found.scene found.bytes none found.read)
  only_no_diagram some none (shared_paths found) = absurd (diagram_not_shared some none found)
  only_no_diagram some none (certificate found) = absurd (diagram_not_small some none found)
  only_no_diagram some none (verdict proved found) = absurd (diagram_not_both found.diagram found.certificate most_certificate_bytes found.tree found.scene found.bytes none found.read)

  -- ---- one subcommand has one verdict

  same_lines : (t u : Pairs) (s v : Scene) → IsSome files → FindsLines words files old new t s → FindsLines words files old new u v → SameDiagram t u s v
  same_lines t u s v some a b =
      let forms = sym a.form ∙ b.form in
      let names : a.name ≡ b.name = cc in
      let same = same_named files a.name b.name a.bytes b.bytes most_bytes old new old new some names a.read b.read in
      same_diagram b.bytes t u s v (subst (λ (bs : List ℕ). IsDiagram bs t s) same a.diagram) b.diagram

  bad_not_legal : IsSome files → FindsBadLine words files old new → FindsLegalLines words files old new → ⊥
  bad_not_legal some bad legal =
      let same = same_lines bad.tree legal.tree bad.scene legal.scene some bad.found legal.found in
      let all : All (HasNoBadLine bad.tree bad.scene) bad.scene.edges = rw (same.tree, same.scene) legal.legal in
      not_both bad.tree bad.scene bad.scene.edges bad.bad all

  one_replay : HaveOneListOfReplies → IsSome files → (b c : Bool) → FindsReplay words files old new b → FindsReplay words files old new c → b ≡ c
  one_replay law some b c p q =
      let forms = sym p.form ∙ q.form in
      let diagrams : p.diagram ≡ q.diagram = cc in
      let scripts : p.script ≡ q.script = cc in
      let same = same_both files p.diagram q.diagram p.script q.script most_script_bytes old new p.tree q.tree p.scene q.scene p.bytes q.bytes some diagrams scripts p.read q.read in
      let list : commands p.bytes ≡ commands q.bytes = ap commands same.bytes in
      let replies : p.replies ≡ q.replies = law (opened q.scene) (commands q.bytes) p.replies q.replies
      (subst (λ (cs : List (ℕ × Command)). AreReplies (opened q.scene) cs p.replies) list (subst (λ (s : Scene). AreReplies (opened s) (commands p.bytes) p.replies) same.scene p.are_replies))
      q.are_replies in
      sym p.refusal ∙ (λ i. has_refusal (replies i) (world_after (same.scene i) (list i))) ∙ q.refusal

  one_preview : ComeToOne → IsSome files → (b c : Bool) → FindsPreviews words files old new b → FindsPreviews words files old new c → b ≡ c
  one_preview law some b c p q =
      let forms = sym p.form ∙ q.form in
      let diagrams : p.diagram ≡ q.diagram = cc in
      let scripts : p.script ≡ q.script = cc in
      let same = same_both files p.diagram q.diagram p.script q.script most_script_bytes old new p.tree q.tree p.scene q.scene p.bytes q.bytes some diagrams scripts p.read q.read in
      (law q.scene (commands q.bytes) p.text q.text b c
      (subst (λ (bs : List ℕ). Proposes q.scene (commands bs) p.text b) same.bytes (subst (λ (s : Scene). Proposes s (commands p.bytes) p.text b) same.scene p.proposes))
      q.proposes).same_verdict

  one_verdict : HaveOneAudit → IsSome files → (b c : Bool) → FindsAudit words files old new b → FindsAudit words files old new c → b ≡ c
  one_verdict law some b c p q =
      let forms = sym p.form ∙ q.form in
      let diagrams : p.diagram ≡ q.diagram = cc in
      let seconds : p.certificate ≡ q.certificate = cc in
      let same = same_both files p.diagram q.diagram p.certificate q.certificate most_certificate_bytes old new p.tree q.tree p.scene q.scene p.bytes q.bytes some diagrams seconds p.read q.read in
      (law q.scene q.bytes p.text q.text b c
      (subst (λ (bs : List ℕ). Audits q.scene bs p.text b) same.bytes (subst (λ (s : Scene). Audits s p.bytes p.text b) same.scene p.audits))
      q.audits).same_verdict

  module _ (replies : HaveOneListOfReplies) (proposals : ComeToOne) (audits : HaveOneAudit) (some : IsSome files) where
    one_found : (f g : Found) → status_found f ≡ status_found g
    one_found (no_diagram none) g = only_no_diagram some none g
    one_found f (no_diagram none) = sym (only_no_diagram some none f)
    one_found (line_is_bad a) (line_is_bad b) = refl
    one_found (line_is_bad a) (legal_lines b) = absurd (bad_not_legal some a b)
    one_found (legal_lines a) (line_is_bad b) = absurd (bad_not_legal some b a)
    one_found (legal_lines a) (legal_lines b) = refl
    one_found (replay b p) (replay c q) = ap script_status (one_replay replies some b c p q)
    one_found (previews b p) (previews c q) = ap script_status (one_preview proposals some b c p q)
    one_found (shared_paths a) (shared_paths b) = refl
    one_found (certificate a) (certificate b) = refl
    one_found (verdict b p) (verdict c q) = ap audit_status (one_verdict audits some b c p q)
    one_found f g = (let a = form_found f in let b = form_found g in cc)

-- ---- how a run ends

module _ (words : List (List ℕ)) (files : Option ExposedFiles) (old new : List Note) where
  -- how a run with this status ends, and why
  data Ending (s : Status) : Type 0 where
    by_words : form_of words ≡ None → new ≡ old → s ≡ status.Words → Ending s
    by_fault : HasFiles (form_of words) → LastFailed old new → s ≡ status.ReadFault → Ending s
    by_length : HasFiles (form_of words) → LastTookMore old new → s ≡ status.TooLong → Ending s
    by_make : (seed : ℕ) → form_of words ≡ Some (make seed) → new ≡ old → s ≡ status.Done → Ending s
    by_finding : (f : Found words files old new) → s ≡ status_found words files old new f → Ending s

  module _ (o : Outcome) where
    read_status : (p : Outcome) → o ≡ p → o.status ≡ p.status
    read_status p is = ap (λ (q : Outcome). q.status) is

    finds_none : (form : Option Form) (bytes : List ℕ) → form_of words ≡ form → HasReadDiagram form files old new bytes → IsRefusedBy form bytes → FindsNoDiagram words files old new
    finds_none form bytes f read refused = record {
      bytes = bytes;
      read = subst (λ (g : Option Form). HasReadDiagram g files old new bytes) (sym f) read;
      refused = subst (λ (g : Option Form). IsRefusedBy g bytes) (sym f) refused;
    }

    end_said : (tree : Pairs) (scene : Scene) → FindsLines words files old new tree scene → SaysFindings tree scene o → Ending o.status
    end_said tree scene found said = by said.breach refl
      where
        by : (b : Bool) → said.breach ≡ b → Ending o.status
        by true is =
            let any = sym said.checks.verdict ∙ is in
            by_finding (line_is_bad (record { tree = tree; scene = scene; found = found; bad = bad_found tree scene scene.edges said.checks.findings said.checks.found any }))
            (read_status _ said.outcome ∙ ap check_status is)
        by false is =
            let none = sym said.checks.verdict ∙ is in
            by_finding (legal_lines (record { tree = tree; scene = scene; found = found; legal = legal_found tree scene scene.edges said.checks.findings said.checks.found none }))
            (read_status _ said.outcome ∙ ap check_status is)

    end_checks : (name bytes : List ℕ) (tree : Pairs) (scene : Scene) (r : Option DiagramFault) → form_of words ≡ Some (check name) → HasRead files name most_bytes old new bytes → IsDiagram bytes tree scene
        → first_line_fault tree scene.edges ≡ r → ChecksUnless tree scene r o → Ending o.status
    end_checks name bytes tree scene None f read is lines said = end_said tree scene (record { name = name; form = f; bytes = bytes; read = read; diagram = is; lines = lines }) said
    end_checks name bytes tree scene (Some fault) f read is lines said =
        by_finding (no_diagram (finds_none (Some (check name)) bytes f read (inr (record { tree = tree; scene = scene; diagram = is; fault = subst IsSome (sym lines) refl })))) (read_status _ said)

    -- where a read of a diagram ends, whatever it leads to
    module _ (form : Option Form) (name : List ℕ) (f : form_of words ≡ form) (has : HasFiles form) (next : Pairs → Scene → Course)
        (refuses : (bytes : List ℕ) → HasRead files name most_bytes old new bytes → IsNoDiagram bytes → FindsNoDiagram words files old new)
        (goes : (middle : List Note) (tree : Pairs) (scene : Scene) → HasDiagram files name old middle tree scene → next tree scene middle new o → Ending o.status) where
      read_to_end : (bytes : List ℕ) (middle : List Note) → new ≡ middle → HasRead files name most_bytes old middle bytes → HasRead files name most_bytes old new bytes
      read_to_end bytes middle same read = subst (λ (ns : List Note). HasRead files name most_bytes old ns bytes) (sym same) read

      end_scene : (bytes : List ℕ) (middle : List Note) (tree : Pairs) (r : Result Scene DiagramFault) → HasRead files name most_bytes old middle bytes → ParsesAs bytes (Ok tree) → scene_of tree ≡ r
          → TakesScene (next tree) r middle new o → Ending o.status
      end_scene bytes middle tree (Ok scene) read reads is later = goes middle tree scene (record { bytes = bytes; read = read; diagram = record { document = reads; is_scene = is } }) later
      end_scene bytes middle tree (Err fault) read reads is later =
          by_finding (no_diagram (refuses bytes (read_to_end bytes middle later.0 read) (no_scene bytes tree fault reads is))) (read_status _ later.1)

      end_tree : (bytes : List ℕ) (middle : List Note) (r : Result Pairs GmlFault) → HasRead files name most_bytes old middle bytes → ParsesAs bytes r → TakesTree next bytes r middle new o → Ending o.status
      end_tree bytes middle (Ok tree) read reads later = end_scene bytes middle tree (scene_of tree) read reads refl later
      end_tree bytes middle (Err fault) read reads later =
          by_finding (no_diagram (refuses bytes (read_to_end bytes middle later.0 read) (no_document bytes fault reads))) (read_status _ later.1)

      end_diagram : ReadsDiagram files name next old new o → Ending o.status
      end_diagram (fails failed is) = by_fault (has_files words files old new form f has) (failed_last name most_bytes old new failed) (read_status _ is)
      end_diagram (is_too_long more is) = by_length (has_files words files old new form f has) (more_last files name most_bytes old new more) (read_status _ is)
      end_diagram (goes_on bytes middle read later) = end_tree bytes middle later.0 read later.1 later.2

    -- where a read of a second file ends
    module _ (form : Option Form) (diagram second : List ℕ) (limit : ℕ) (f : form_of words ≡ form) (has : HasFiles form) (P : List ℕ → Outcome → Type 0) (tree : Pairs) (scene : Scene)
        (goes : (bytes : List ℕ) → HasReadBoth files diagram second limit old new tree scene bytes → P bytes o → Ending o.status) where
      end_second : (middle : List Note) → HasDiagram files diagram old middle tree scene → ReadsFile files second limit (λ bytes. Ends (P bytes)) middle new o → Ending o.status
      end_second middle read (fails failed said) =
          let last = failed_last second limit middle new failed in
          by_fault (has_files words files old new form f has) (last.0, gains_after old middle new _ last.0 read.read.noted last.1, last.2) (read_status _ said)
      end_second middle read (is_too_long more said) =
          let last = more_last files second limit middle new more in
          by_length (has_files words files old new form f has) (last.0, gains_after old middle new _ last.0 read.read.noted last.1, last.2, last.3) (read_status _ said)
      end_second middle read (goes_on bytes last second_read later) =
          goes bytes (record { middle = middle; first = read; read = subst (λ (ns : List Note). HasRead files second limit middle ns bytes) (sym later.0) second_read }) later.1

    end_replay : (diagram script : List ℕ) (workers : ℕ) (count : Bool) (tree : Pairs) (scene : Scene) (bytes : List ℕ) → form_of words ≡ Some (route diagram script workers count)
        → HasReadBoth files diagram script most_script_bytes old new tree scene bytes → Replays tree scene (commands bytes) count o → Ending o.status
    end_replay diagram script workers count tree scene bytes f read said =
        by_finding (replay said.refused (record {
          diagram = diagram;
          script = script;
          workers = workers;
          count = count;
          form = f;
          tree = tree;
          scene = scene;
          bytes = bytes;
          read = read;
          replies = said.routes.replies;
          are_replies = said.routes.are_replies;
          refusal = sym said.routes.is_refused;
        })) (read_status _ said.outcome)

    end_previews : (diagram script : List ℕ) (workers : ℕ) (tree : Pairs) (scene : Scene) (bytes : List ℕ) → form_of words ≡ Some (preview diagram script workers)
        → HasReadBoth files diagram script most_script_bytes old new tree scene bytes → Previews scene (commands bytes) o → Ending o.status
    end_previews diagram script workers tree scene bytes f read said =
        by_finding (previews said.refused (record {
          diagram = diagram;
          script = script;
          workers = workers;
          form = f;
          tree = tree;
          scene = scene;
          bytes = bytes;
          read = read;
          text = said.text;
          proposes = said.proposes;
        })) (read_status _ said.outcome)

    to_end : (name : List ℕ) (middle : List Note) (tree : Pairs) (scene : Scene) → new ≡ middle → HasDiagram files name old middle tree scene → HasDiagram files name old new tree scene
    to_end name middle tree scene same read = subst (λ (ns : List Note). HasDiagram files name old ns tree scene) (sym same) read

    end_large : (form : Option Form) (name : List ℕ) (middle : List Note) (tree : Pairs) (scene : Scene) (part : Part) → form_of words ≡ form
        → ((bytes : List ℕ) → HasRead files name most_bytes old new bytes → HasReadDiagram form files old new bytes) → ((bytes : List ℕ) → IsTooLarge bytes → IsRefusedBy form bytes)
        → HasDiagram files name old middle tree scene → too_large scene ≡ Some part → UnlessLarge (Some part) (λ a b c. ⊥) middle new o → Ending o.status
    end_large form name middle tree scene part f named refused read large later =
        by_finding (no_diagram (finds_none form read.bytes f (named read.bytes (subst (λ (ns : List Note). HasRead files name most_bytes old ns read.bytes) (sym later.0) read.read))
        (refused read.bytes (record { tree = tree; scene = scene; diagram = read.diagram; large = subst IsSome (sym large) refl })))) (read_status _ later.1)

    end_prove : (diagram : List ℕ) (middle : List Note) (tree : Pairs) (scene : Scene) (part : Option Part) → form_of words ≡ Some (prove diagram) → HasDiagram files diagram old middle tree scene
        → too_large scene ≡ part → UnlessLarge part (Ends (WritesCertificate scene)) middle new o → Ending o.status
    end_prove diagram middle tree scene None f read small later =
        by_finding (certificate (record { diagram = diagram; form = f; tree = tree; scene = scene; read = to_end diagram middle tree scene later.0 read; small = small })) (read_status _ later.1.outcome)
    end_prove diagram middle tree scene (Some part) f read large later =
        end_large (Some (prove diagram)) diagram middle tree scene part f (λ bytes read. read) (λ bytes large. inr large) read large later

    end_audit : (diagram second : List ℕ) (middle : List Note) (tree : Pairs) (scene : Scene) (part : Option Part) → form_of words ≡ Some (audit diagram second) → HasDiagram files diagram old middle tree scene
        → too_large scene ≡ part → UnlessLarge part (ReadsFile files second most_certificate_bytes (λ bytes. Ends (AuditsCertificate scene bytes))) middle new o → Ending o.status
    end_audit diagram second middle tree scene None f read small later =
        end_second (Some (audit diagram second)) diagram second most_certificate_bytes f tt (AuditsCertificate scene) tree scene
        (λ bytes both said.
        by_finding (verdict said.proved (record {
          diagram = diagram;
          certificate = second;
          form = f;
          tree = tree;
          scene = scene;
          small = small;
          bytes = bytes;
          read = both;
          text = said.text;
          audits = said.audits;
        })) (read_status _ said.outcome)) middle read later
    end_audit diagram second middle tree scene (Some part) f read large later =
        end_large (Some (audit diagram second)) diagram middle tree scene part f (λ bytes read. read) (λ bytes large. inr large) read large later

    ending_of : (form : Option Form) → form_of words ≡ form → IsFormOutcome form files old new o → Ending o.status
    ending_of None f is = by_words f is.0 (read_status _ is.1)
    ending_of (Some (check diagram)) f is =
        end_diagram (Some (check diagram)) diagram f tt (λ tree s. Ends (Checks tree s)) (λ bytes read none. finds_none (Some (check diagram)) bytes f read (inl none))
        (λ middle tree scene read later.
        let has = to_end diagram middle tree scene later.0 read in
        end_checks diagram has.bytes tree scene (first_line_fault tree scene.edges) f has.read has.diagram refl later.1)
        is
    ending_of (Some (route diagram script workers count)) f is =
        end_diagram (Some (route diagram script workers count)) diagram f tt (λ tree s. ReadsFile files script most_script_bytes (λ bytes. Ends (Replays tree s (commands bytes) count)))
        (λ bytes read none. finds_none (Some (route diagram script workers count)) bytes f read none)
        (λ middle tree scene read later.
        end_second (Some (route diagram script workers count)) diagram script most_script_bytes f tt (λ bytes. Replays tree scene (commands bytes) count) tree scene
        (λ bytes both said. end_replay diagram script workers count tree scene bytes f both said) middle read later)
        is
    ending_of (Some (make seed)) f is = by_make seed f is.0 (read_status _ is.1.outcome)
    ending_of (Some (preview diagram script workers)) f is =
        end_diagram (Some (preview diagram script workers)) diagram f tt (λ tree s. ReadsFile files script most_script_bytes (λ bytes. Ends (Previews s (commands bytes))))
        (λ bytes read none. finds_none (Some (preview diagram script workers)) bytes f read none)
        (λ middle tree scene read later.
        end_second (Some (preview diagram script workers)) diagram script most_script_bytes f tt (λ bytes. Previews scene (commands bytes)) tree scene
        (λ bytes both said. end_previews diagram script workers tree scene bytes f both said) middle read later)
        is
    ending_of (Some (shared diagram)) f is =
        end_diagram (Some (shared diagram)) diagram f tt (λ tree s. Ends (ListsPaths s)) (λ bytes read none. finds_none (Some (shared diagram)) bytes f read none)
        (λ middle tree scene read later.
        by_finding (shared_paths (record { diagram = diagram; form = f; tree = tree; scene = scene; read = to_end diagram middle tree scene later.0 read })) (read_status _ later.1.outcome))
        is
    ending_of (Some (prove diagram)) f is =
        end_diagram (Some (prove diagram)) diagram f tt (λ tree s. UnlessLarge (too_large s) (Ends (WritesCertificate s)))
        (λ bytes read none. finds_none (Some (prove diagram)) bytes f read (inl none))
        (λ middle tree scene read later. end_prove diagram middle tree scene (too_large scene) f read refl later)
        is
    ending_of (Some (audit diagram second)) f is =
        end_diagram (Some (audit diagram second)) diagram f tt
        (λ tree s. UnlessLarge (too_large s) (ReadsFile files second most_certificate_bytes (λ bytes. Ends (AuditsCertificate s bytes))))
        (λ bytes read none. finds_none (Some (audit diagram second)) bytes f read (inl none))
        (λ middle tree scene read later. end_audit diagram second middle tree scene (too_large scene) f read refl later)
        is

  -- ---- the statuses

  -- the cause of a status
  abbrev Cause : Status → Type 0
  Cause status.Words = form_of words ≡ None
  Cause status.ReadFault = LastFailed old new
  Cause status.TooLong = LastTookMore old new
  Cause status.Diagram = FindsNoDiagram words files old new
  Cause status.Refused = FindsRefusal words files old new
  Cause status.BadLine = FindsBadLine words files old new
  Cause status.AuditNo = FindsNoProof words files old new
  Cause status.Done = FindsNothing words files old new
  Cause status.WriteFault = ⊥
  Cause status.NoMemory = ⊥

  -- what has to be known where the cause speaks of bytes
  abbrev Needs : Status → Type 0
  Needs status.Words = Unit {0}
  Needs status.ReadFault = Unit {0}
  Needs status.TooLong = Unit {0}
  Needs other = IsSome files

  -- what is found is the cause of its status
  cause_found : (f : Found words files old new) → Cause (status_found words files old new f)
  cause_found (no_diagram none) = none
  cause_found (line_is_bad bad) = bad
  cause_found (legal_lines legal) = lines_are_legal legal
  cause_found (replay true found) = inl found
  cause_found (replay false found) = nothing_is_refused found
  cause_found (previews true found) = inr found
  cause_found (previews false found) = no_proposal_is_refused found
  cause_found (shared_paths found) = is_shared found
  cause_found (certificate found) = has_certificate found
  cause_found (verdict true found) = is_proved found
  cause_found (verdict false found) = found

  gives : (s : Status) → Ending s → Cause s
  gives s (by_words none same e) = subst Cause (sym e) none
  gives s (by_fault has last e) = subst Cause (sym e) last
  gives s (by_length has last e) = subst Cause (sym e) last
  gives s (by_make seed f same e) = subst Cause (sym e) (is_made seed f)
  gives s (by_finding f e) = subst Cause (sym e) (cause_found f)

  -- what a cause says of the arguments, of the notes, or of what was found
  data Reason (s : Status) : Type 0 where
    no_form : form_of words ≡ None → s ≡ status.Words → Reason s
    last_failed : LastFailed old new → s ≡ status.ReadFault → Reason s
    last_took_more : LastTookMore old new → s ≡ status.TooLong → Reason s
    made : (seed : ℕ) → form_of words ≡ Some (make seed) → s ≡ status.Done → Reason s
    finding : IsSome files → (f : Found words files old new) → s ≡ status_found words files old new f → Reason s

  reason_of : (s : Status) → Needs s → Cause s → Reason s
  reason_of status.Words some none = no_form none refl
  reason_of status.ReadFault some last = last_failed last refl
  reason_of status.TooLong some last = last_took_more last refl
  reason_of status.Diagram some none = finding some (no_diagram none) refl
  reason_of status.Refused some (inl found) = finding some (replay true found) refl
  reason_of status.Refused some (inr found) = finding some (previews true found) refl
  reason_of status.BadLine some bad = finding some (line_is_bad bad) refl
  reason_of status.AuditNo some found = finding some (verdict false found) refl
  reason_of status.Done some (lines_are_legal legal) = finding some (legal_lines legal) refl
  reason_of status.Done some (nothing_is_refused found) = finding some (replay false found) refl
  reason_of status.Done some (is_made seed f) = made seed f refl
  reason_of status.Done some (no_proposal_is_refused found) = finding some (previews false found) refl
  reason_of status.Done some (is_shared found) = finding some (shared_paths found) refl
  reason_of status.Done some (has_certificate found) = finding some (certificate found) refl
  reason_of status.Done some (is_proved found) = finding some (verdict true found) refl
  reason_of status.WriteFault some cause = absurd cause
  reason_of status.NoMemory some cause = absurd cause

  -- of an ending and a reason the statuses are one
  module _ (replies : HaveOneListOfReplies) (proposals : ComeToOne) (audits : HaveOneAudit) where
    one_status : (s t : Status) → Ending s → Reason t → s ≡ t
    one_status s t (by_words none same e) (no_form other d) = e ∙ sym d
    one_status s t (by_words none same e) (last_failed last d) = absurd (no_last old new last.0 same last.1)
    one_status s t (by_words none same e) (last_took_more last d) = absurd (no_last old new last.0 same last.1)
    one_status s t (by_words none same e) (made seed f d) = cc
    one_status s t (by_words none same e) (finding some f d) = absurd (subst HasFiles none (files_found words files old new f))
    one_status s t (by_fault has last e) (no_form none d) = absurd (subst HasFiles none has)
    one_status s t (by_fault has last e) (last_failed other d) = e ∙ sym d
    one_status s t (by_fault has last e) (last_took_more more d) = absurd (failed_more old new last more)
    one_status s t (by_fault has last e) (made seed f d) = absurd (subst HasFiles f has)
    one_status s t (by_fault has last e) (finding some f d) = absurd (whole_failed old new (whole_found words files old new f) last)
    one_status s t (by_length has last e) (no_form none d) = absurd (subst HasFiles none has)
    one_status s t (by_length has last e) (last_failed failed d) = absurd (failed_more old new failed last)
    one_status s t (by_length has last e) (last_took_more other d) = e ∙ sym d
    one_status s t (by_length has last e) (made seed f d) = absurd (subst HasFiles f has)
    one_status s t (by_length has last e) (finding some f d) = absurd (whole_more old new (whole_found words files old new f) last)
    one_status s t (by_make seed f same e) (no_form none d) = cc
    one_status s t (by_make seed f same e) (last_failed last d) = absurd (no_last old new last.0 same last.1)
    one_status s t (by_make seed f same e) (last_took_more last d) = absurd (no_last old new last.0 same last.1)
    one_status s t (by_make seed f same e) (made other g d) = e ∙ sym d
    one_status s t (by_make seed f same e) (finding some g d) = absurd (subst HasFiles f (files_found words files old new g))
    one_status s t (by_finding f e) (no_form none d) = absurd (subst HasFiles none (files_found words files old new f))
    one_status s t (by_finding f e) (last_failed last d) = absurd (whole_failed old new (whole_found words files old new f) last)
    one_status s t (by_finding f e) (last_took_more last d) = absurd (whole_more old new (whole_found words files old new f) last)
    one_status s t (by_finding f e) (made seed g d) = absurd (subst HasFiles g (files_found words files old new f))
    one_status s t (by_finding f e) (finding some g d) = e ∙ one_found words files old new replies proposals audits some f g ∙ sym d

    module _ (o value : Outcome) (same : o ≡ value) (is_value : IsFormOutcome (form_of words) files old new value) where
      is : IsFormOutcome (form_of words) files old new o
      is = subst (IsFormOutcome (form_of words) files old new) (sym same) is_value

      -- an outcome has a status exactly where the cause of it holds
      pub exact : (s : Status) → Needs s → (o.status ≡ s) ↔ Cause s
      exact s some =
          let ending = ending_of o (form_of words) refl is in
          (λ e. subst Cause e (gives o.status ending), λ cause. one_status o.status s ending (reason_of s some cause))

      -- a run that ends with an outcome's status ends with none of the two that no outcome has
      pub outcome_written : IsOutputWritten o.status
      outcome_written =
          let cause = gives o.status (ending_of o (form_of words) refl is) in
          (λ e. subst Cause e cause, λ e. subst Cause e cause)
