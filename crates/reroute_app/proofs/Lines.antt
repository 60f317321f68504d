-- The lines that a run writes are legal and keep every separation.
use Rattle.std.proofs.Common.{◌≡◌, ◌⊎◌, inl, inr, ℕ, Bool, List, Option, Some, sym, ap, subst}
use Rattle.host_edge.specs.Folder.{ExposedFiles}
use Rattle.host_edge.specs.Note.{Note}
use Rattle.edit_script.specs.Script.{commands}
use Rattle.edit_script.proofs.Directed.{have_directions}
use Rattle.form_route.specs.Routes.{Routes, Replays}
use Rattle.form_route.specs.Written.{WrittenLinesAreLegal, WrittenLinesKeepApart}
use Rattle.command_words.specs.Words.{Form, route}
use Rattle.report_text.specs.declared.status.Status.{Status}
use Rattle.report_text.specs.declared.status.Status.TheVariants.{Done, Refused}
use Rattle.report_text.specs.Outcome.{Outcome}
use Rattle.reroute_app.specs.Reads.{HasRead, ReadsFile, Ends}
use Rattle.reroute_app.specs.Diagram.{most_script_bytes}
use Rattle.reroute_app.specs.Run.{IsFormOutcome}
use Rattle.reroute_app.specs.Lines.{RunsWriteGoodLines, WritesLines}
use Rattle.reroute_app.proofs.PastReads.{IsPastReads, diagram_read, file_read}
use Rattle.reroute_app.proofs.ReadScenes.{scene_valid}

past_reads : (s : Status) → (s ≡ Done) ⊎ (s ≡ Refused) → IsPastReads s
past_reads s (inl is) = subst IsPastReads (sym is) tt
past_reads s (inr is) = subst IsPastReads (sym is) tt

module _ (legal : WrittenLinesAreLegal) (apart : WrittenLinesKeepApart) where
  written : (files : Option ExposedFiles) (diagram script : List ℕ) (workers : ℕ) (count : Bool) (old new : List Note) (o : Outcome) → IsPastReads o.status
      → IsFormOutcome (Some (route diagram script workers count)) files old new o → WritesLines files diagram script count old new o.text
  written files diagram script workers count old new o past is =
      let first = diagram_read files diagram old new o past (λ tree s. ReadsFile files script most_script_bytes (λ bytes. Ends (Replays tree s (commands bytes) count))) is in
      let second = file_read files script first.middle new o past most_script_bytes (λ bytes. Ends (Replays first.tree first.scene (commands bytes) count)) first.later in
      let made = second.later.1 in
      let routes : Routes first.tree first.scene (commands second.bytes) count o.text made.refused made.searched made.unrouted =
      subst (λ (text : List ℕ). Routes first.tree first.scene (commands second.bytes) count text made.refused made.searched made.unrouted) (sym (ap (λ (q : Outcome). q.text) made.outcome)) made.routes in
      let valid = scene_valid first.tree first.scene first.has.diagram.is_scene in
      let directed = have_directions second.bytes in
      record {
        tree = first.tree;
        scene = first.scene;
        bytes = second.bytes;
        read = record {
          middle = first.middle;
          first = first.has;
          read = subst (λ (ns : List Note). HasRead files script most_script_bytes first.middle ns second.bytes) (sym second.later.0) second.read;
        };
        refused = made.refused;
        searched = made.searched;
        unrouted = made.unrouted;
        routes = routes;
        legal = legal first.tree first.scene (commands second.bytes) count o.text made.refused made.searched made.unrouted valid directed routes;
        apart = apart first.tree first.scene (commands second.bytes) count o.text made.refused made.searched made.unrouted valid directed routes;
      }

  pub runs_write_good_lines : RunsWriteGoodLines
  runs_write_good_lines words files old new diagram script workers count o form is ends =
      written files diagram script workers count old new o (past_reads o.status ends) (subst (λ (f : Option Form). IsFormOutcome f files old new o) form is)
