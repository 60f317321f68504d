-- A diagram or a certificate that is not read is the end, and what is read is audited.
use Rattle.std.proofs.Common.{ℕ, List, refl, subst}
use Rattle.std.specs.Prelude.{Option}
use Rattle.host_edge.specs.Folder.{ExposedFiles}
use Rattle.gml_text.specs.View.{tree}
use Rattle.scene_model.specs.Scene.{Scene}
use Rattle.form_certificate.specs.Auditing.{AuditsCertificate}
use Rattle.reroute_app.specs.Diagram.{most_certificate_bytes}
use Rattle.reroute_app.specs.Reads.{HasRead, ReadsFile, Course, Ends}
use Rattle.reroute_app.specs.Reads.ReadsFile.{goes_on}
use Rattle.reroute_app.specs.View.{StopsAt, never}
use Rattle.reroute_app.specs.View.NotesTwo.{of_both}
use Rattle.reroute_app.proofs.Stops.{second_stops, small_goes_on, small_stops}
use Rattle.reroute_app.proofs.form.audit_files.Goals as goal

abbrev next : Scene → List ℕ → Course
next s bytes = Ends (AuditsCertificate s bytes)

pub returns-in_err-read-clause-outcome : goal.returns-in_err-read-clause-outcome
returns-in_err-read-clause-outcome g c =
    let files = g.F.Folder.files c.args.folder.now in
    small_stops files c.args.diagram.now (λ s. ReadsFile files c.args.certificate.now most_certificate_bytes (next s)) (g.F.Folder.notes c.args.folder.now) (g.F.Folder.notes c.read_small.new.folder)
    c.in_err-read.field-0.0 c.from_residual.result c.in_err-read.ensures.stopped c.from_residual.ensures.1

pub returns-in_err-bytes-clause-outcome : goal.returns-in_err-bytes-clause-outcome
returns-in_err-bytes-clause-outcome g c =
    let files = g.F.Folder.files c.args.folder.now in
    let middle = g.F.Folder.notes c.read_small.new.folder in
    let new = g.F.Folder.notes c.read_certificate.new.folder in
    let d = c.in_ok-read.read in
    second_stops files c.args.diagram.now c.args.certificate.now most_certificate_bytes next (g.F.Folder.notes c.args.folder.now) middle new (tree d.doc) d.scene c.in_err-bytes.field-0.0
    c.from_residual-in_err-bytes.result c.in_ok-read.ensures.read
    (subst (λ (exposed : Option ExposedFiles). StopsAt (ReadsFile exposed c.args.certificate.now most_certificate_bytes never middle new) c.in_err-bytes.field-0.0) c.read_small.ensures.files_kept c.in_err-bytes.ensures.stopped)
    c.from_residual-in_err-bytes.ensures.1

pub returns-in_err-bytes-clause-notes : goal.returns-in_err-bytes-clause-notes
returns-in_err-bytes-clause-notes g c =
    let is = c.in_ok-read.ensures.read in
    of_both (g.F.Folder.notes c.read_small.new.folder) (tree c.in_ok-read.read.doc) c.in_ok-read.read.scene is.has is.small c.read_certificate.ensures.notes

pub returns-in_err-audit_certificate-clause-notes : goal.returns-in_err-audit_certificate-clause-notes
returns-in_err-audit_certificate-clause-notes g c =
    let is = c.in_ok-read.ensures.read in
    of_both (g.F.Folder.notes c.read_small.new.folder) (tree c.in_ok-read.read.doc) c.in_ok-read.read.scene is.has is.small c.read_certificate.ensures.notes

pub returns-clause-outcome : goal.returns-clause-outcome
returns-clause-outcome g c =
    let files = g.F.Folder.files c.args.folder.now in
    let middle = g.F.Folder.notes c.read_small.new.folder in
    let new = g.F.Folder.notes c.read_certificate.new.folder in
    let d = c.in_ok-read.read in
    let bytes = c.in_ok-bytes.bytes.items in
    let o = c.in_ok-audit_certificate.field-0 in
    small_goes_on files c.args.diagram.now (λ s. ReadsFile files c.args.certificate.now most_certificate_bytes (next s)) (g.F.Folder.notes c.args.folder.now) middle new o (tree d.doc) d.scene
    c.in_ok-read.ensures.read
    (goes_on bytes new
    (subst (λ (exposed : Option ExposedFiles). HasRead exposed c.args.certificate.now most_certificate_bytes middle new bytes) c.read_small.ensures.files_kept c.in_ok-bytes.ensures.read)
    (refl, subst (λ (bs : List ℕ). AuditsCertificate d.scene bs o) c.deref.ensures.value c.in_ok-audit_certificate.ensures))

pub returns-clause-notes : goal.returns-clause-notes
returns-clause-notes g c =
    let is = c.in_ok-read.ensures.read in
    of_both (g.F.Folder.notes c.read_small.new.folder) (tree c.in_ok-read.read.doc) c.in_ok-read.read.scene is.has is.small c.read_certificate.ensures.notes
