-- The solids that are not near the stub do not meet it.
use Rattle.std.proofs.Common.{get_or}
use Rattle.std.proofs.lemmas.List.Elements.{All-contains, Contains-get_or}
use Rattle.plane_geom.specs.declared.rect.Solid.{Solid}
use Rattle.plane_geom.specs.Rect.{RectIsOnSheet}
use Rattle.search_problem.proofs.Sorting.{free_near}
use Rattle.search_problem.proofs.stubs.SortedSolids.has_free_stub.Goals as goal

pub is_clear_of-requires-clause-solids : goal.is_clear_of-requires-clause-solids
is_clear_of-requires-clause-solids c = λ k d lt.
    let near = c.near.result.now in
    All-contains (λ (s : Solid). RectIsOnSheet s.rect) c.args.self.now.solids.items (get_or near k d) c.args.self.now.ordered.on_sheet (c.near.ensures.members (get_or near k d) (Contains-get_or near k d lt))

pub returns : goal.returns
returns c =
    let both = free_near c.args.choice.now c.args.self.now.solids.items c.near.result.now c.near.ensures.members c.near.ensures.met in
    (λ yes. both.0 (c.is_clear_of.ensures.0 yes), λ free. c.is_clear_of.ensures.1 (both.1 free))
