-- The tasks may be searched on the graph.
use Rattle.std.proofs.Common.{◌≡◌, sym, ap, subst, ◌∙◌}
use Rattle.std.specs.Prelude.{List, All}
use Rattle.plane_geom.specs.declared.rect.Solid.{Solid}
use Rattle.plane_geom.specs.declared.floor.Floor.{Floor}
use Rattle.par_route.specs.Routes.{MayBeSearched}
use Rattle.route_book.proofs.Answering.Searched.{all_may}
use Rattle.route_book.proofs.search.Searches.asked.Goals as goal

pub returns-clause-solids : goal.returns-clause-solids
returns-clause-solids c = c.as_slice-solids.ensures ∙ ap (λ (f : Floor). f.solids) (c.floor.ensures ∙ c.requires.graph)

pub returns-clause-searched : goal.returns-clause-searched
returns-clause-searched c =
    let s = c.args.self.now.scene.now in
    let floor = c.args.self.now.graph.now.floor in
    let arena = c.arena-arena.result.now in
    let same : c.as_slice-solids.result.now ≡ floor.solids = c.as_slice-solids.ensures ∙ ap (λ (f : Floor). f.solids) c.floor.ensures in
    subst (λ (ss : List Solid). All (MayBeSearched arena ss) c.in_ok-tasks.tasks.items) (sym same)
    (all_may s floor arena c.args.numbers.now c.in_ok-tasks.tasks.items c.requires.valid c.requires.graph c.arena-arena.ensures.stands c.requires.connectors c.in_ok-tasks.ensures)
