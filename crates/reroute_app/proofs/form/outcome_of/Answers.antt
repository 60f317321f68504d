-- The outcome of the subcommand is that of the arguments.
use Rattle.std.proofs.Common.{◌≡◌, [], refl, Some}
use Rattle.std.specs.Prelude.{map, string_bytes}
use Rattle.command_words.specs.Words.{audit, check, form_of, preview, prove, route, shared}
use Rattle.reroute_app.specs.Diagram.{most_script_bytes, most_certificate_bytes}
use Rattle.reroute_app.specs.View.{AnyScene, IsSmall}
use Rattle.reroute_app.proofs.Crews.{IsCrew, crew_of, same_form}
use Rattle.reroute_app.proofs.Stops.{words_come, one_in_order, two_in_order}
use Rattle.reroute_app.proofs.form.outcome_of.Given as given
use Rattle.reroute_app.proofs.form.outcome_of.Goals as goal
use Rattle.reroute_app.proofs.form.outcome_of.Goals.{In-Some-Audit, In-Some-Check, In-Some-Preview, In-Some-Prove, In-Some-Route, In-Some-Shared}

-- the arguments ask for this check
asks_check : (g : given.Over) (c : In-Some-Check g) → Some (check c.in-Some-Check.diagram.now) ≡ form_of (map string_bytes c.args.words.now)
asks_check g c =
    let r = c.in-Some-Check in
    same_form (map string_bytes c.args.words.now) c.in_ok-read_words.field-0 r.field-0 _ r.is r.field-0-is c.in_ok-read_words.ensures

-- the arguments ask for this route, and so for one to four workers
asks_route : (g : given.Over) (c : In-Some-Route g) → let r = c.in-Some-Route in Some (route r.diagram.now r.script.now r.workers r.count) ≡ form_of (map string_bytes c.args.words.now)
asks_route g c =
    let r = c.in-Some-Route in
    same_form (map string_bytes c.args.words.now) c.in_ok-read_words.field-0 r.field-0 _ r.is r.field-0-is c.in_ok-read_words.ensures

route_crew : (g : given.Over) (c : In-Some-Route g) → IsCrew c.in-Some-Route.workers
route_crew g c = crew_of (map string_bytes c.args.words.now) _ (asks_route g c)

-- the arguments ask for this preview, and so for one to four workers
asks_preview : (g : given.Over) (c : In-Some-Preview g) → let r = c.in-Some-Preview in Some (preview r.diagram.now r.script.now r.workers) ≡ form_of (map string_bytes c.args.words.now)
asks_preview g c =
    let r = c.in-Some-Preview in
    same_form (map string_bytes c.args.words.now) c.in_ok-read_words.field-0 r.field-0 _ r.is r.field-0-is c.in_ok-read_words.ensures

preview_crew : (g : given.Over) (c : In-Some-Preview g) → IsCrew c.in-Some-Preview.workers
preview_crew g c = crew_of (map string_bytes c.args.words.now) _ (asks_preview g c)

-- the arguments ask for these shared paths
asks_shared : (g : given.Over) (c : In-Some-Shared g) → Some (shared c.in-Some-Shared.diagram.now) ≡ form_of (map string_bytes c.args.words.now)
asks_shared g c =
    let r = c.in-Some-Shared in
    same_form (map string_bytes c.args.words.now) c.in_ok-read_words.field-0 r.field-0 _ r.is r.field-0-is c.in_ok-read_words.ensures

-- the arguments ask for this certificate
asks_prove : (g : given.Over) (c : In-Some-Prove g) → Some (prove c.in-Some-Prove.diagram.now) ≡ form_of (map string_bytes c.args.words.now)
asks_prove g c =
    let r = c.in-Some-Prove in
    same_form (map string_bytes c.args.words.now) c.in_ok-read_words.field-0 r.field-0 _ r.is r.field-0-is c.in_ok-read_words.ensures

-- the arguments ask for this audit
asks_audit : (g : given.Over) (c : In-Some-Audit g) → let r = c.in-Some-Audit in Some (audit r.diagram.now r.certificate.now) ≡ form_of (map string_bytes c.args.words.now)
asks_audit g c =
    let r = c.in-Some-Audit in
    same_form (map string_bytes c.args.words.now) c.in_ok-read_words.field-0 r.field-0 _ r.is r.field-0-is c.in_ok-read_words.ensures

pub replay_files-requires-clause-some : goal.replay_files-requires-clause-some
replay_files-requires-clause-some g c κs within = (route_crew g (goal.at.replay_files-requires-clause-some g c).In-Some-Route).some

pub replay_files-requires-clause-few_workers : goal.replay_files-requires-clause-few_workers
replay_files-requires-clause-few_workers g c κs within = (route_crew g (goal.at.replay_files-requires-clause-few_workers g c).In-Some-Route).few

pub preview_files-requires-clause-some : goal.preview_files-requires-clause-some
preview_files-requires-clause-some g c κs within = (preview_crew g (goal.at.preview_files-requires-clause-some g c).In-Some-Preview).some

pub preview_files-requires-clause-few_workers : goal.preview_files-requires-clause-few_workers
preview_files-requires-clause-few_workers g c κs within = (preview_crew g (goal.at.preview_files-requires-clause-few_workers g c).In-Some-Preview).few

pub returns-in-Some-Check-clause-outcome : goal.returns-in-Some-Check-clause-outcome
returns-in-Some-Check-clause-outcome g c =
    words_come (map string_bytes c.args.words.now) (Some (check c.in-Some-Check.diagram.now)) (g.F.Folder.files c.args.folder.now) (g.F.Folder.notes c.args.folder.now) (g.F.Folder.notes c.check_file.new.folder)
    c.check_file.result c.answer_of.result (asks_check g (goal.at.returns-in-Some-Check-clause-outcome g c).In-Some-Check) c.check_file.ensures.outcome c.answer_of.ensures

pub returns-in-Some-Check-clause-notes : goal.returns-in-Some-Check-clause-notes
returns-in-Some-Check-clause-notes g c =
    let diagram = c.in-Some-Check.diagram.now in
    one_in_order (map string_bytes c.args.words.now) (Some (check diagram)) (g.F.Folder.files c.args.folder.now) (g.F.Folder.notes c.args.folder.now) (g.F.Folder.notes c.check_file.new.folder)
    (asks_check g (goal.at.returns-in-Some-Check-clause-notes g c).In-Some-Check) diagram [] refl c.check_file.ensures.notes

pub returns-in-Some-Route-clause-outcome : goal.returns-in-Some-Route-clause-outcome
returns-in-Some-Route-clause-outcome g c =
    let r = c.in-Some-Route in
    words_come (map string_bytes c.args.words.now) (Some (route r.diagram.now r.script.now r.workers r.count)) (g.F.Folder.files c.args.folder.now) (g.F.Folder.notes c.args.folder.now) (g.F.Folder.notes c.replay_files.new.folder)
    c.replay_files.result c.answer_of-in-Some-Route.result (asks_route g (goal.at.returns-in-Some-Route-clause-outcome g c).In-Some-Route) c.replay_files.ensures.outcome c.answer_of-in-Some-Route.ensures

pub returns-in-Some-Route-clause-notes : goal.returns-in-Some-Route-clause-notes
returns-in-Some-Route-clause-notes g c =
    let r = c.in-Some-Route in
    two_in_order (map string_bytes c.args.words.now) (Some (route r.diagram.now r.script.now r.workers r.count)) (g.F.Folder.files c.args.folder.now) (g.F.Folder.notes c.args.folder.now) (g.F.Folder.notes c.replay_files.new.folder)
    (asks_route g (goal.at.returns-in-Some-Route-clause-notes g c).In-Some-Route) r.diagram.now r.script.now most_script_bytes AnyScene refl (λ s any. tt) c.replay_files.ensures.notes

pub returns-in-Some-Preview-clause-outcome : goal.returns-in-Some-Preview-clause-outcome
returns-in-Some-Preview-clause-outcome g c =
    let r = c.in-Some-Preview in
    words_come (map string_bytes c.args.words.now) (Some (preview r.diagram.now r.script.now r.workers)) (g.F.Folder.files c.args.folder.now) (g.F.Folder.notes c.args.folder.now) (g.F.Folder.notes c.preview_files.new.folder)
    c.preview_files.result c.answer_of-in-Some-Preview.result (asks_preview g (goal.at.returns-in-Some-Preview-clause-outcome g c).In-Some-Preview) c.preview_files.ensures.outcome c.answer_of-in-Some-Preview.ensures

pub returns-in-Some-Preview-clause-notes : goal.returns-in-Some-Preview-clause-notes
returns-in-Some-Preview-clause-notes g c =
    let r = c.in-Some-Preview in
    two_in_order (map string_bytes c.args.words.now) (Some (preview r.diagram.now r.script.now r.workers)) (g.F.Folder.files c.args.folder.now) (g.F.Folder.notes c.args.folder.now) (g.F.Folder.notes c.preview_files.new.folder)
    (asks_preview g (goal.at.returns-in-Some-Preview-clause-notes g c).In-Some-Preview) r.diagram.now r.script.now most_script_bytes AnyScene refl (λ s any. tt) c.preview_files.ensures.notes

pub returns-in-Some-Shared-clause-outcome : goal.returns-in-Some-Shared-clause-outcome
returns-in-Some-Shared-clause-outcome g c =
    words_come (map string_bytes c.args.words.now) (Some (shared c.in-Some-Shared.diagram.now)) (g.F.Folder.files c.args.folder.now) (g.F.Folder.notes c.args.folder.now) (g.F.Folder.notes c.share_file.new.folder)
    c.share_file.result c.answer_of-in-Some-Shared.result (asks_shared g (goal.at.returns-in-Some-Shared-clause-outcome g c).In-Some-Shared) c.share_file.ensures.outcome c.answer_of-in-Some-Shared.ensures

pub returns-in-Some-Shared-clause-notes : goal.returns-in-Some-Shared-clause-notes
returns-in-Some-Shared-clause-notes g c =
    let diagram = c.in-Some-Shared.diagram.now in
    one_in_order (map string_bytes c.args.words.now) (Some (shared diagram)) (g.F.Folder.files c.args.folder.now) (g.F.Folder.notes c.args.folder.now) (g.F.Folder.notes c.share_file.new.folder)
    (asks_shared g (goal.at.returns-in-Some-Shared-clause-notes g c).In-Some-Shared) diagram [] refl c.share_file.ensures.notes

pub returns-in-Some-Prove-clause-outcome : goal.returns-in-Some-Prove-clause-outcome
returns-in-Some-Prove-clause-outcome g c =
    words_come (map string_bytes c.args.words.now) (Some (prove c.in-Some-Prove.diagram.now)) (g.F.Folder.files c.args.folder.now) (g.F.Folder.notes c.args.folder.now) (g.F.Folder.notes c.prove_file.new.folder)
    c.prove_file.result c.answer_of-in-Some-Prove.result (asks_prove g (goal.at.returns-in-Some-Prove-clause-outcome g c).In-Some-Prove) c.prove_file.ensures.outcome c.answer_of-in-Some-Prove.ensures

pub returns-in-Some-Prove-clause-notes : goal.returns-in-Some-Prove-clause-notes
returns-in-Some-Prove-clause-notes g c =
    let diagram = c.in-Some-Prove.diagram.now in
    one_in_order (map string_bytes c.args.words.now) (Some (prove diagram)) (g.F.Folder.files c.args.folder.now) (g.F.Folder.notes c.args.folder.now) (g.F.Folder.notes c.prove_file.new.folder)
    (asks_prove g (goal.at.returns-in-Some-Prove-clause-notes g c).In-Some-Prove) diagram [] refl c.prove_file.ensures.notes

pub returns-in-Some-Audit-clause-outcome : goal.returns-in-Some-Audit-clause-outcome
returns-in-Some-Audit-clause-outcome g c =
    let r = c.in-Some-Audit in
    words_come (map string_bytes c.args.words.now) (Some (audit r.diagram.now r.certificate.now)) (g.F.Folder.files c.args.folder.now) (g.F.Folder.notes c.args.folder.now) (g.F.Folder.notes c.audit_files.new.folder)
    c.audit_files.result c.answer_of-in-Some-Audit.result (asks_audit g (goal.at.returns-in-Some-Audit-clause-outcome g c).In-Some-Audit) c.audit_files.ensures.outcome c.answer_of-in-Some-Audit.ensures

pub returns-in-Some-Audit-clause-notes : goal.returns-in-Some-Audit-clause-notes
returns-in-Some-Audit-clause-notes g c =
    let r = c.in-Some-Audit in
    two_in_order (map string_bytes c.args.words.now) (Some (audit r.diagram.now r.certificate.now)) (g.F.Folder.files c.args.folder.now) (g.F.Folder.notes c.args.folder.now) (g.F.Folder.notes c.audit_files.new.folder)
    (asks_audit g (goal.at.returns-in-Some-Audit-clause-notes g c).In-Some-Audit) r.diagram.now r.certificate.now most_certificate_bytes IsSmall refl (λ s small. small) c.audit_files.ensures.notes
