-- The lines are the kept lines of the floor, which are apart.
use Rattle.std.proofs.Common.{List, sym, subst}
use Rattle.std.specs.Prelude.{Contains}
use Rattle.plane_geom.specs.declared.floor.Line.{Line}
use Rattle.visibility_graph.specs.Fill.{AreApart, AreLines}
use Rattle.visibility_graph.proofs.KeptList.{kept_apart, stands_for}
use Rattle.visibility_graph.proofs.graph.Graph.build.Goals as goal

pub filled-requires-clause-apart : goal.filled-requires-clause-apart
filled-requires-clause-apart c =
    subst (λ (ls : List Line). AreApart (Contains ls)) (sym c.as_slice.ensures.value) (kept_apart c.in_ok-floor.floor c.in_ok-lines.lines.items c.in_ok-lines.ensures)

pub invariant_of-result : goal.invariant_of-result
invariant_of-result c =
    stands_for c.in_ok-floor.floor c.in_ok-lines.lines.items c.in_ok-lines.ensures c.in_ok-arena.arena
    (subst (AreLines c.in_ok-arena.arena) c.as_slice.ensures.value c.in_ok-arena.ensures.lines) c.in_ok-arena.ensures.complete
