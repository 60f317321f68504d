-- What is kept of the task is what a search reads.
use Rattle.std.proofs.Common.{List, All, ◌+◌, length, subst, sym, ap, ◌∙◌}
use Rattle.plane_geom.specs.declared.point.Point.{Point}
use Rattle.search_problem.specs.Bounds.{AreStages}
use Rattle.search_problem.specs.Origins.{AreCovered, IsSmallEntry}
use Rattle.search_problem.specs.declared.origin.Origin.{Origin}
use Rattle.search_problem.proofs.Choices.{entries_small}
use Rattle.search_problem.proofs.SameSolids.{endings_same, entries_same}
use Rattle.search_problem.proofs.problem.Problem.new.Goals as goal

pub all_origins-requires : goal.all_origins-requires
all_origins-requires c =
    subst (All IsSmallEntry) (sym c.deref.ensures.value)
    (entries_small c.args.sorted.now.solids.items c.args.arena.now c.args.task.now (length c.args.task.now.starts) c.in_ok-entries.entries.items c.requires.problem.1.is_task c.in_ok-entries.ensures)

pub returns-clause-ready : goal.returns-clause-ready
returns-clause-ready c =
    let stages = c.in_ok-origins.origins.items in
    let entries = c.in_ok-entries.entries.items in
    record {
      floor = c.requires.problem.0;
      problem = c.requires.problem.1;
      arena = c.laws.ensures.arena;
      entries = entries_same c.args.solids.now c.args.sorted.now.solids.items c.requires.sorted c.args.arena.now c.args.task.now (length c.args.task.now.starts) entries c.in_ok-entries.ensures;
      endings = endings_same c.args.solids.now c.args.sorted.now.solids.items c.requires.sorted c.args.arena.now c.args.task.now (length c.args.task.now.ends) c.in_ok-endings.endings.items c.in_ok-endings.ensures;
      covered = subst (λ (os : List Origin). AreCovered os entries) (sym c.in_ok-origins.ensures.first)
          (subst (AreCovered c.in_ok-first.first.items) c.deref.ensures.value c.in_ok-first.ensures.covered);
      stages = subst (λ (via : List Point). AreStages c.args.task.now.penalty via stages) c.as_slice.ensures c.in_ok-origins.ensures.stages;
      all_stages = c.in_ok-origins.ensures.all ∙ ap (λ (via : List Point). length via + 1) c.as_slice.ensures;
    }
