-- What `verify` accepts meets the bundle, and so it is on the sheet.
use Rattle.nudge_tests.proofs.certificates.rounded.Goals as goal

pub rounded_down-requires-clause-on_sheet : goal.rounded_down-requires-clause-on_sheet
rounded_down-requires-clause-on_sheet c =
    let s = c.args.solution.now in
    c.met_positions_are_on_sheet.ensures c.args.bundle.now s.gap s c.requires (c.verify.ensures.accepted.0 c.if-not-verify.false).certified.meets
