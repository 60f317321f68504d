-- The clauses of `run` leave no other end.
use Rattle.std.specs.Prelude.{map, string_bytes}
use Rattle.reroute_app.proofs.Completeness.{completes}
use Rattle.reroute_app.proofs.complete.run_to_completion.Goals as goal

pub returns : goal.returns
returns g c = record {
  complete = completes (map string_bytes c.args.words.now) _ _ _ _ _ _ _ _ (record {
    output = c.run.ensures.output;
    no_form = c.run.ensures.words;
    read_fault = c.run.ensures.read_fault;
    diagram = c.run.ensures.diagram;
    refused = c.run.ensures.refused;
    bad_line = c.run.ensures.bad_line;
    audit_no = c.run.ensures.audit_no;
    done = c.run.ensures.done;
    write_fault = c.run.ensures.write_fault;
  });
}
