-- A diagram that is not read, or too large, is the end, and one that is small enough has a certificate.
use Rattle.std.proofs.Common.{refl}
use Rattle.gml_text.specs.View.{tree}
use Rattle.reroute_app.specs.Reads.{Ends}
use Rattle.form_certificate.specs.Proving.{WritesCertificate}
use Rattle.reroute_app.proofs.Stops.{small_goes_on, small_stops}
use Rattle.reroute_app.proofs.form.prove_file.Goals as goal

pub returns-in_err-diagram-clause-outcome : goal.returns-in_err-diagram-clause-outcome
returns-in_err-diagram-clause-outcome g c =
    small_stops (g.F.Folder.files c.args.folder.now) c.args.name.now (λ s. Ends (WritesCertificate s)) (g.F.Folder.notes c.args.folder.now) (g.F.Folder.notes c.read_small.new.folder)
    c.in_err-diagram.field-0.0 c.from_residual.result c.in_err-diagram.ensures.stopped c.from_residual.ensures.1

pub returns-clause-outcome : goal.returns-clause-outcome
returns-clause-outcome g c =
    let new = g.F.Folder.notes c.read_small.new.folder in
    let d = c.in_ok-diagram.diagram in
    small_goes_on (g.F.Folder.files c.args.folder.now) c.args.name.now (λ s. Ends (WritesCertificate s)) (g.F.Folder.notes c.args.folder.now) new new c.in_ok-certificate_of.field-0 (tree d.doc) d.scene
    c.in_ok-diagram.ensures.read (refl, c.in_ok-certificate_of.ensures)
