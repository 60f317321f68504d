-- The stops of a line are those of its run.
use Rattle.std.proofs.Common.{◌≡◌, ◌<◌, ◌∙◌, length, slice_range, sym, ap, subst, arith}
use Rattle.std.proofs.lemmas.List.{get_or_default}
use Rattle.line_lists.specs.Columns.{no_run, run_at}
use Rattle.line_lists.specs.Lists.{Lists, stops_of}
use Rattle.line_lists.proofs.Finished.{stops_there}
use Rattle.line_lists.proofs.lists.LineLists.stops.Goals as goal

pub returns : goal.returns
returns c =
    let p = c.self.inside.parts in
    let line = c.args.line in
    let lt : line < length p.lines.items = subst (λ (l : Lists). line < length l.lines) (sym c.self.view_is) c.requires in
    let many = c.self.invariant.runs in
    let run : c.index-run.result.now ≡ run_at p.runs.items line = c.index-run.ensures ∙ get_or_default p.runs.items line c.index-run.result.now no_run (omega (arith, lt, many)) in
    (λ i. slice_range (c.deref.ensures.value i) (run i).begin (run i).end) ∙ sym (stops_there p line lt) ∙ ap (λ (l : Lists). stops_of l line) c.self.view_is
