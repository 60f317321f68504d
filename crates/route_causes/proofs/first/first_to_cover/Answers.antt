-- The point lies in one solid less; in the end in none.
use Rattle.std.proofs.Common.{All, sym, subst, ◌∙◌}
use Rattle.std.proofs.lemmas.Bool.{false≢true}
use Rattle.std.proofs.lemmas.List.{take_all}
use Rattle.std.proofs.lemmas.List.Elements.{All-more}
use Rattle.plane_geom.specs.Rect.{HasInside}
use Rattle.plane_geom.specs.declared.rect.Solid.{Solid}
use Rattle.route_causes.proofs.first.first_to_cover.Goals as goal

pub loop-solid-preserved : goal.loop-solid-preserved
loop-solid-preserved c =
    All-more (λ (s : Solid). HasInside s.rect c.args.point → ⊥) c.args.solids.now c.loop-solid.solid-index _ c.loop-solid-test.true c.loop-solid.invariant
    (λ inside. false≢true (sym c.if-has_inside.false ∙ c.has_inside.ensures.1 inside))

pub returns-clause-free : goal.returns-clause-free
returns-clause-free c = λ _. subst (All (λ (s : Solid). HasInside s.rect c.args.point → ⊥)) (take_all c.loop-solid.solid-index c.args.solids.now c.loop-solid-test.false) c.loop-solid.invariant
