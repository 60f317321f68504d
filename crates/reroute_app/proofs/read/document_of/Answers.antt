-- Bytes that are not valid GML are the end.
use Rattle.std.proofs.Common.{rules}
use Rattle.reroute_app.proofs.Stops.{read_with, no_document_ends}
use Rattle.reroute_app.proofs.read.document_of.Goals as goal

pub returns-in_ok-no_document-in-Err : goal.returns-in_ok-no_document-in-Err
returns-in_ok-no_document-in-Err c = record {
  ok = tt;
  stopped = λ notes.
      no_document_ends c.args.bytes.now notes c.in-Err.fault c.in_ok-no_document-in-Err.field-0
      (let h = c.in-Err in read_with c.args.bytes.now c.in-Err.fault c.parse.result c.in-Err.is (λ memory. search rules) c.parse.ensures.syntax c.parse.ensures.too_deep)
      c.in_ok-no_document-in-Err.ensures;
}
