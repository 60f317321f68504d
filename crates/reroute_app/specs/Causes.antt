-- The causes of the statuses.
use Rattle.std.specs.Prelude.{◌≡◌, ◌⊎◌, ℕ, ◌<◌, Bool, true, false, List, [], ◌∷◌, ◌++◌, Option, Some, None, Ok, Any, All, IsSome}
use Rattle.host_edge.specs.Folder.{ExposedFiles}
use Rattle.host_edge.specs.Note.{Note}
use Rattle.plane_geom.specs.declared.point.Point.{Point}
use Rattle.gml_text.specs.Tree.{Pairs}
use Rattle.scene_model.specs.declared.edge.Edge.{Edge}
use Rattle.scene_model.specs.Scene.{Scene, is_loop}
use Rattle.scene_model.specs.Routing.{solids, task_of}
use Rattle.scene_model.specs.World.{opened}
use Rattle.route_check.specs.Verdict.{IsLegalLine}
use Rattle.diagram_read.specs.Lines.{line_of}
use Rattle.edit_script.specs.Script.{commands}
use Rattle.report_text.specs.declared.reply.LineReply.{LineReply}
use Rattle.script_replay.specs.Replies.{AreReplies, world_after}
use Rattle.form_route.specs.Report.{has_refusal}
use Rattle.command_words.specs.Words.{Form, check, route, make, preview, shared, prove, audit, form_of}
use Rattle.form_check.specs.Checks.{first_line_fault}
use Rattle.form_preview.specs.Proposes.{Proposes}
use Rattle.form_certificate.specs.Sizes.{too_large}
use Rattle.form_certificate.specs.Auditing.{Audits, HasTrueClaims}
use Rattle.reroute_app.specs.Reads.{HasRead}
use Rattle.reroute_app.specs.Diagram.{most_bytes, IsDiagram, HasDiagram, most_script_bytes, most_certificate_bytes}

-- this is the last note that was added
pub record GainsLast (old new : List Note) (last : Note) : Type 0 where
  pub front : List Note
  pub gained : new ≡ old ++ (front ++ last ∷ [])

-- the last read failed
abbrev pub LastFailed : List Note → List Note → Type 0
LastFailed old new = (last : Note) × GainsLast old new last × (last.failed ≡ true)

-- the last read did not fail, and took more than its limit
abbrev pub LastTookMore : List Note → List Note → Type 0
LastTookMore old new = (last : Note) × GainsLast old new last × (last.failed ≡ false) × (last.limit < last.taken)

-- the diagram that the arguments name was read, and has these bytes
abbrev pub HasReadDiagram : Option Form → Option ExposedFiles → List Note → List Note → List ℕ → Type 0
HasReadDiagram None files old new bytes = ⊥
HasReadDiagram (Some (check diagram)) files old new bytes = HasRead files diagram most_bytes old new bytes
HasReadDiagram (Some (route diagram script workers count)) files old new bytes = HasRead files diagram most_bytes old new bytes
HasReadDiagram (Some (make seed)) files old new bytes = ⊥
HasReadDiagram (Some (preview diagram script workers)) files old new bytes = HasRead files diagram most_bytes old new bytes
HasReadDiagram (Some (shared diagram)) files old new bytes = HasRead files diagram most_bytes old new bytes
HasReadDiagram (Some (prove diagram)) files old new bytes = HasRead files diagram most_bytes old new bytes
HasReadDiagram (Some (audit diagram certificate)) files old new bytes = HasRead files diagram most_bytes old new bytes

-- the bytes are not a valid diagram
abbrev pub IsNoDiagram : List ℕ → Type 0
IsNoDiagram bytes = (tree : Pairs) (scene : Scene) → IsDiagram bytes tree scene → ⊥

-- a line that the diagram draws for a connector cannot be read
pub record HasNoLine (bytes : List ℕ) : Type 0 where
  pub tree : Pairs
  pub scene : Scene
  pub diagram : IsDiagram bytes tree scene
  pub fault : IsSome (first_line_fault tree scene.edges)

-- the bytes are a diagram of a scene that is too large to have a certificate
pub record IsTooLarge (bytes : List ℕ) : Type 0 where
  pub tree : Pairs
  pub scene : Scene
  pub diagram : IsDiagram bytes tree scene
  pub large : IsSome (too_large scene)

-- why the subcommand refuses the bytes: a check reads the lines too, and certificates need a small scene
abbrev pub IsRefusedBy : Option Form → List ℕ → Type 0
IsRefusedBy None bytes = ⊥
IsRefusedBy (Some (check diagram)) bytes = IsNoDiagram bytes ⊎ HasNoLine bytes
IsRefusedBy (Some (route diagram script workers count)) bytes = IsNoDiagram bytes
IsRefusedBy (Some (make seed)) bytes = ⊥
IsRefusedBy (Some (preview diagram script workers)) bytes = IsNoDiagram bytes
IsRefusedBy (Some (shared diagram)) bytes = IsNoDiagram bytes
IsRefusedBy (Some (prove diagram)) bytes = IsNoDiagram bytes ⊎ IsTooLarge bytes
IsRefusedBy (Some (audit diagram certificate)) bytes = IsNoDiagram bytes ⊎ IsTooLarge bytes

-- the diagram was read, and is refused
pub record FindsNoDiagram (words : List (List ℕ)) (files : Option ExposedFiles) (old new : List Note) : Type 0 where
  pub bytes : List ℕ
  pub read : HasReadDiagram (form_of words) files old new bytes
  pub refused : IsRefusedBy (form_of words) bytes

-- the diagram that is to be checked was read, and all its lines were
pub record FindsLines (words : List (List ℕ)) (files : Option ExposedFiles) (old new : List Note) (tree : Pairs) (scene : Scene) : Type 0 where
  pub name : List ℕ
  pub form : form_of words ≡ Some (check name)
  pub bytes : List ℕ
  pub read : HasRead files name most_bytes old new bytes
  pub diagram : IsDiagram bytes tree scene
  pub lines : first_line_fault tree scene.edges ≡ None

-- the edge is a connector, and has a line that is not legal
pub record HasBadLine (tree : Pairs) (s : Scene) (e : Edge) : Type 0 where
  pub connector : is_loop e ≡ false
  pub points : List Point
  pub line : line_of tree e ≡ Ok (Some points)
  pub bad : IsLegalLine (solids s) (task_of s e) points → ⊥

-- the line of the edge is legal, if it is a connector and has one
abbrev pub HasNoBadLine : Pairs → Scene → Edge → Type 0
HasNoBadLine tree s e =
    is_loop e ≡ false → (points : List Point) → line_of tree e ≡ Ok (Some points) → IsLegalLine (solids s) (task_of s e) points

-- the line of an edge of the diagram is not legal
pub record FindsBadLine (words : List (List ℕ)) (files : Option ExposedFiles) (old new : List Note) : Type 0 where
  pub tree : Pairs
  pub scene : Scene
  pub found : FindsLines words files old new tree scene
  pub bad : Any (HasBadLine tree scene) scene.edges

-- all lines of the diagram are legal
pub record FindsLegalLines (words : List (List ℕ)) (files : Option ExposedFiles) (old new : List Note) : Type 0 where
  pub tree : Pairs
  pub scene : Scene
  pub found : FindsLines words files old new tree scene
  pub legal : All (HasNoBadLine tree scene) scene.edges

-- a diagram was read and then a second file, which has these bytes
pub record HasReadBoth (files : Option ExposedFiles) (diagram second : List ℕ) (limit : ℕ) (old new : List Note) (tree : Pairs) (scene : Scene)
    (bytes : List ℕ) : Type 0 where
  pub middle : List Note
  pub first : HasDiagram files diagram old middle tree scene
  pub read : HasRead files second limit middle new bytes

-- diagram and script were read, and `refused` says whether a command of the script, or its end, is refused
pub record FindsReplay (words : List (List ℕ)) (files : Option ExposedFiles) (old new : List Note) (refused : Bool) : Type 0 where
  pub diagram : List ℕ
  pub script : List ℕ
  pub workers : ℕ
  pub count : Bool
  pub form : form_of words ≡ Some (route diagram script workers count)
  pub tree : Pairs
  pub scene : Scene
  pub bytes : List ℕ
  pub read : HasReadBoth files diagram script most_script_bytes old new tree scene bytes
  pub replies : List LineReply
  pub are_replies : AreReplies (opened scene) (commands bytes) replies
  pub refusal : has_refusal replies (world_after scene (commands bytes)) ≡ refused

-- diagram and script were read, and this says whether a proposal of the script, a line of it or its end is refused
pub record FindsPreviews (words : List (List ℕ)) (files : Option ExposedFiles) (old new : List Note) (refused : Bool) : Type 0 where
  pub diagram : List ℕ
  pub script : List ℕ
  pub workers : ℕ
  pub form : form_of words ≡ Some (preview diagram script workers)
  pub tree : Pairs
  pub scene : Scene
  pub bytes : List ℕ
  pub read : HasReadBoth files diagram script most_script_bytes old new tree scene bytes
  pub text : List ℕ
  pub proposes : Proposes scene (commands bytes) text refused

-- the diagram whose shared paths are asked for was read
pub record FindsShared (words : List (List ℕ)) (files : Option ExposedFiles) (old new : List Note) : Type 0 where
  pub diagram : List ℕ
  pub form : form_of words ≡ Some (shared diagram)
  pub tree : Pairs
  pub scene : Scene
  pub read : HasDiagram files diagram old new tree scene

-- the diagram that is to have a certificate was read, and is small enough
pub record FindsSmall (words : List (List ℕ)) (files : Option ExposedFiles) (old new : List Note) : Type 0 where
  pub diagram : List ℕ
  pub form : form_of words ≡ Some (prove diagram)
  pub tree : Pairs
  pub scene : Scene
  pub read : HasDiagram files diagram old new tree scene
  pub small : too_large scene ≡ None

-- diagram and certificate were read, and this says whether the certificate proves the scene
pub record FindsAudit (words : List (List ℕ)) (files : Option ExposedFiles) (old new : List Note) (proved : Bool) : Type 0 where
  pub diagram : List ℕ
  pub certificate : List ℕ
  pub form : form_of words ≡ Some (audit diagram certificate)
  pub tree : Pairs
  pub scene : Scene
  pub small : too_large scene ≡ None
  pub bytes : List ℕ
  pub read : HasReadBoth files diagram certificate most_certificate_bytes old new tree scene bytes
  pub text : List ℕ
  pub audits : Audits scene bytes text proved

-- the file is not a certificate, or does not prove the scene
abbrev pub FindsNoProof : List (List ℕ) → Option ExposedFiles → List Note → List Note → Type 0
FindsNoProof words files old new = FindsAudit words files old new false

-- diagram and certificate were read, and each claim of the certificate is true of the scene
pub record FindsTrueClaims (files : Option ExposedFiles) (diagram certificate : List ℕ) (old new : List Note) : Type 0 where
  pub tree : Pairs
  pub scene : Scene
  pub bytes : List ℕ
  pub read : HasReadBoth files diagram certificate most_certificate_bytes old new tree scene bytes
  pub claims : HasTrueClaims scene bytes

-- where the arguments ask for an audit, the certificate claims what is true
abbrev pub ClaimsAreTrue : List (List ℕ) → Option ExposedFiles → List Note → List Note → Type 0
ClaimsAreTrue words files old new =
    (diagram certificate : List ℕ) → form_of words ≡ Some (audit diagram certificate) → FindsTrueClaims files diagram certificate old new

-- something is refused
abbrev pub FindsRefusal : List (List ℕ) → Option ExposedFiles → List Note → List Note → Type 0
FindsRefusal words files old new = FindsReplay words files old new true ⊎ FindsPreviews words files old new true

-- there is no cause for any other status
pub data FindsNothing (words : List (List ℕ)) (files : Option ExposedFiles) (old new : List Note) : Type 0 where
  lines_are_legal : FindsLegalLines words files old new → FindsNothing words files old new
  nothing_is_refused : FindsReplay words files old new false → FindsNothing words files old new
  is_made : (seed : ℕ) → form_of words ≡ Some (make seed) → FindsNothing words files old new
  no_proposal_is_refused : FindsPreviews words files old new false → FindsNothing words files old new
  is_shared : FindsShared words files old new → FindsNothing words files old new
  has_certificate : FindsSmall words files old new → FindsNothing words files old new
  is_proved : FindsAudit words files old new true → FindsNothing words files old new
