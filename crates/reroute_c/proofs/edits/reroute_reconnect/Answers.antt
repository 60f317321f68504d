-- The answer is that of the drawing.
use Rattle.std.proofs.Common.{Ok, Err, w64, to_z, of_z, to_z-of_z}
use Rattle.reroute_c.specs.Edits.{end_of}
use Rattle.reroute_c.proofs.Reconnected.{reconnected}
use Rattle.reroute_c.proofs.edits.reroute_reconnect.Goals as goal

pub returns-in-Ok-clause-call : goal.returns-in-Ok-clause-call
returns-in-Ok-clause-call c =
    reconnected c.args.handle.now.drawing c.put.new.self.drawing c.in-Some.drawing c.reconnect-answer.new.self c.args.connector c.end_of.result (end_of c.args.target) (to_z w64 (of_z w64 c.args.id)) c.args.id c.args.class
    (Ok c.in-Ok.next) c.none.result c.in-Some.ensures.was c.put.ensures c.end_of.ensures (to_z-of_z c.ranges.id) c.none.ensures c.in-Ok.ensures

pub returns-in-Err-clause-call : goal.returns-in-Err-clause-call
returns-in-Err-clause-call c =
    reconnected c.args.handle.now.drawing c.put.new.self.drawing c.in-Some.drawing c.reconnect-answer.new.self c.args.connector c.end_of.result (end_of c.args.target) (to_z w64 (of_z w64 c.args.id)) c.args.id c.args.class
    (Err c.in-Err.fault) c.of_call.result c.in-Some.ensures.was c.put.ensures c.end_of.ensures (to_z-of_z c.ranges.id) c.of_call.ensures.fault c.in-Err.ensures
