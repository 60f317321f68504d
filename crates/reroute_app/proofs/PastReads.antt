-- A run whose status no read gives has read its files.
use Rattle.std.proofs.Common.{◌≡◌, ℕ, List, Option, Result, Ok, Err, refl, subst}
use Rattle.host_edge.specs.Folder.{ExposedFiles}
use Rattle.host_edge.specs.Note.{Note}
use Rattle.gml_text.specs.Tree.{Pairs}
use Rattle.gml_text.specs.Parse.{ParsesAs}
use Rattle.gml_text.specs.declared.fault.GmlFault.{GmlFault}
use Rattle.scene_model.specs.Scene.{Scene}
use Rattle.diagram_read.specs.declared.fault.DiagramFault.{DiagramFault}
use Rattle.diagram_read.specs.Scene.{scene_of}
use Rattle.report_text.specs.declared.status.Status.{Status}
use Rattle.report_text.specs.declared.status.Status.TheVariants.{Diagram, ReadFault, TooLong}
use Rattle.report_text.specs.Outcome.{Outcome}
use Rattle.reroute_app.specs.Reads.{HasRead, ReadsFile, Course}
use Rattle.reroute_app.specs.Reads.ReadsFile.{fails, is_too_long, goes_on}
use Rattle.reroute_app.specs.Diagram.{most_bytes, HasDiagram, ReadsDiagram, TakesDiagram, TakesScene, TakesTree}

-- no read of a file ends with this status
abbrev pub IsPastReads : Status → Type 0
IsPastReads ReadFault = ⊥
IsPastReads TooLong = ⊥
IsPastReads Diagram = ⊥
IsPastReads other = Unit {0}

-- the file was read, and the course went on with its bytes
pub record WentOn (files : Option ExposedFiles) (name : List ℕ) (limit : ℕ) (next : List ℕ → Course) (old new : List Note) (o : Outcome) : Type 0 where
  pub bytes : List ℕ
  pub middle : List Note
  pub read : HasRead files name limit old middle bytes
  pub later : next bytes middle new o

-- the diagram was read, and the course went on with its tree and its scene
pub record WentOnWith (files : Option ExposedFiles) (name : List ℕ) (next : Pairs → Scene → Course) (old new : List Note) (o : Outcome) : Type 0 where
  pub middle : List Note
  pub tree : Pairs
  pub scene : Scene
  pub has : HasDiagram files name old middle tree scene
  pub later : next tree scene middle new o

pub past_too : (o p : Outcome) → IsPastReads o.status → o ≡ p → IsPastReads p.status
past_too o p past is = subst (λ (q : Outcome). IsPastReads q.status) is past

module _ (files : Option ExposedFiles) (name : List ℕ) (old new : List Note) (o : Outcome) (past : IsPastReads o.status) where
  pub file_read : (limit : ℕ) (next : List ℕ → Course) → ReadsFile files name limit next old new o → WentOn files name limit next old new o
  file_read limit next (fails failed is) = absurd (past_too o _ past is)
  file_read limit next (is_too_long more is) = absurd (past_too o _ past is)
  file_read limit next (goes_on bytes middle read later) = record { bytes = bytes; middle = middle; read = read; later = later }

  module _ (next : Pairs → Scene → Course) (bytes : List ℕ) (middle : List Note) (read : HasRead files name most_bytes old middle bytes) where
    scene_read : (tree : Pairs) (r : Result Scene DiagramFault) → ParsesAs bytes (Ok tree) → scene_of tree ≡ r → TakesScene (next tree) r middle new o → WentOnWith files name next old new o
    scene_read tree (Ok s) parses is later = record {
      middle = middle;
      tree = tree;
      scene = s;
      has = record { bytes = bytes; read = read; diagram = record { document = parses; is_scene = is } };
      later = later;
    }
    scene_read tree (Err fault) parses is later = absurd (past_too o _ past later.1)

    tree_read : (r : Result Pairs GmlFault) → ParsesAs bytes r → TakesTree next bytes r middle new o → WentOnWith files name next old new o
    tree_read (Ok tree) parses later = scene_read tree (scene_of tree) parses refl later
    tree_read (Err fault) parses later = absurd (past_too o _ past later.1)

  pub diagram_read : (next : Pairs → Scene → Course) → ReadsDiagram files name next old new o → WentOnWith files name next old new o
  diagram_read next reads =
      let on = file_read most_bytes (TakesDiagram next) reads in
      tree_read next on.bytes on.middle on.read on.later.0 on.later.1 on.later.2
