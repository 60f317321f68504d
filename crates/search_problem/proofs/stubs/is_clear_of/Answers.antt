-- One solid more is not met; in the end none is.
use Rattle.std.proofs.Common.{◌≢◌, All, subst, refl}
use Rattle.std.proofs.lemmas.Bool.{false≢true}
use Rattle.std.proofs.lemmas.List.{take_all}
use Rattle.std.proofs.lemmas.List.Elements.{All-more}
use Rattle.plane_geom.specs.Rect.{Meets}
use Rattle.plane_geom.specs.declared.rect.Solid.{Solid}
use Rattle.search_problem.proofs.stubs.is_clear_of.Goals as goal

pub loop-solid-preserved : goal.loop-solid-preserved
loop-solid-preserved c =
    let p = c.args.choice.now in
    All-more (λ (s : Solid). s.node ≢ p.node → Meets s.rect p.pin p.port → ⊥) c.args.solids.now c.loop-solid.solid-index _ c.loop-solid-test.true c.loop-solid.invariant
    (λ apart met. false≢true (c.if-is_met.ensures.1 (apart, met)))

pub returns : goal.returns
returns c =
    let p = c.args.choice.now in (
      λ _. subst (All (λ (s : Solid). s.node ≢ p.node → Meets s.rect p.pin p.port → ⊥)) (take_all c.loop-solid.solid-index c.args.solids.now c.loop-solid-test.false) c.loop-solid.invariant,
      λ _. refl,
    )
