-- The edges so far, each with how it is routed.
use Rattle.std.proofs.Common.{◌≡◌, take, map}
use Rattle.form_route.specs.Report.{routed_by}
use Rattle.form_route.proofs.report.edges_routed.Given as goal

abbrev pub invariant-loop-edge : goal.invariant-loop-edge
invariant-loop-edge l = l.edges.items ≡ map (λ e. record { edge = e.number; routed = routed_by l.book e }) (take l.edge-index l.edge-items)
