-- The arguments that were collected are those that the run ended with.
use Rattle.std.proofs.Common.{IfOk, map, string_bytes, subst, sym}
use Rattle.reroute_app.specs.Exit.{WritesAndTells}
use Rattle.report_text.specs.Status.{IsOutputWritten}
use Rattle.reroute_app.proofs.exit.exit_of.Goals as goal

pub returns-in-Ok-clause-whole : goal.returns-in-Ok-clause-whole
returns-in-Ok-clause-whole g c =
    subst (λ r. IfOk r (λ a. IsOutputWritten c.ended.result.status → WritesAndTells (map string_bytes a.items) (g.F.Folder.files c.args.folder.now)
    (g.F.Folder.notes c.args.folder.now) (g.F.Folder.notes c.ended.new.folder) (g.O.Sink.held c.args.out.now) (g.O.Sink.held c.ended.new.out) c.ended.result.status c.ended.result.hint)) (sym c.in-Ok.is)
    (subst (λ words. IsOutputWritten c.ended.result.status → WritesAndTells (map string_bytes words) (g.F.Folder.files c.args.folder.now)
    (g.F.Folder.notes c.args.folder.now) (g.F.Folder.notes c.ended.new.folder) (g.O.Sink.held c.args.out.now) (g.O.Sink.held c.ended.new.out) c.ended.result.status c.ended.result.hint) c.deref.ensures.value c.ended.ensures.whole)
