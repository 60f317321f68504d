-- The raw route is that of the edge's own choices. At these answers mutants of this function are refused.
use Rattle.std.proofs.Common.{rules}
use Rattle.nudge_phases.proofs.raw.raw_route.Goals as goal

pub returns : goal.returns
returns c = record {
  edge = c.unwrap-edge.result.now;
  is_edge = search rules;
  start = c.unwrap-start.result;
  is_start = search rules;
  end = c.unwrap-end.result;
  is_end = search rules;
  of_edge = search rules;
  runs = search rules;
  source = search rules;
  target = search rules;
  via = search rules;
  weight = search rules;
}
