-- The raw routes are as the phases require, and their result is what is promised.
use Rattle.std.proofs.Common.{List, ap, sym, subst, ◌∙◌, rules, w64, FitsSigned}
use Rattle.std.specs.Prelude.{All}
use Rattle.std.proofs.lemmas.Int.{to_z-of_z}
use Rattle.plane_geom.specs.declared.rect.Solid.{Solid}
use Rattle.plane_geom.specs.Floor.{IsSolid}
use Rattle.scene_model.specs.declared.settings.Settings.{Settings}
use Rattle.scene_model.proofs.ForRouting.Floors.{floors_fit}
use Rattle.nudge_phases.specs.Ready.{HasLegalWalk}
use Rattle.nudge_phases.proofs.SceneLines.{apart, edges, legal, made, raw_are, raw_few, raw_legal, raw_rise}
use Rattle.nudge_phases.proofs.nudging.nudge.Goals as goal

pub nudge_routes-requires-clause-solids : goal.nudge_routes-requires-clause-solids
nudge_routes-requires-clause-solids c =
    subst (All IsSolid) (sym (c.as_slice.ensures ∙ c.in_ok-solids.ensures)) (floors_fit c.args.scene.now c.settings-nudge.ensures.valid).solids

pub nudge_routes-requires-clause-raw : goal.nudge_routes-requires-clause-raw
nudge_routes-requires-clause-raw c = raw_are c.args.scene.now c.args.answers.now c.settings-nudge.ensures.valid c.requires c.in_ok-raw.raw.items c.in_ok-raw.ensures

pub nudge_routes-requires-clause-edges : goal.nudge_routes-requires-clause-edges
nudge_routes-requires-clause-edges c = raw_rise c.args.scene.now c.args.answers.now c.settings-nudge.ensures.valid c.requires c.in_ok-raw.raw.items c.in_ok-raw.ensures

pub nudge_routes-requires-clause-legal : goal.nudge_routes-requires-clause-legal
nudge_routes-requires-clause-legal c =
    subst (λ (fs : List Solid). All (HasLegalWalk fs) c.in_ok-raw.raw.items) (sym (c.as_slice.ensures ∙ c.in_ok-solids.ensures))
    (raw_legal c.args.scene.now c.args.answers.now c.settings-nudge.ensures.valid c.requires c.in_ok-raw.raw.items c.in_ok-raw.ensures)

pub nudge_routes-requires-clause-few : goal.nudge_routes-requires-clause-few
nudge_routes-requires-clause-few c = raw_few c.args.scene.now c.args.answers.now c.settings-nudge.ensures.valid c.requires c.in_ok-raw.raw.items c.in_ok-raw.ensures

pub returns-clause-apart : goal.returns-clause-apart
returns-clause-apart c = apart c.args.scene.now c.args.answers.now c.settings-nudge.ensures.valid c.requires c.nudge_routes.result

pub returns-clause-legal : goal.returns-clause-legal
returns-clause-legal c =
    let fits : FitsSigned w64 c.settings-nudge.result.nudge = search rules in
    let s = c.args.scene.now in
    let answers = c.args.answers.now in
    let v = c.settings-nudge.ensures.valid in
    legal s answers v c.requires c.nudge_routes.result
    (made s answers v c.requires c.nudge_routes.result c.as_slice.result.now c.in_ok-raw.raw.items c.settings-nudge.result.nudge
    (c.as_slice.ensures ∙ c.in_ok-solids.ensures) (ap (λ (t : Settings). t.nudge) c.settings-nudge.ensures.value) c.in_ok-raw.ensures
    (simp to_z-of_z at c.nudge_routes.ensures))

pub returns-clause-edges : goal.returns-clause-edges
returns-clause-edges c =
    let fits : FitsSigned w64 c.settings-nudge.result.nudge = search rules in
    let s = c.args.scene.now in
    let answers = c.args.answers.now in
    let v = c.settings-nudge.ensures.valid in
    edges s answers v c.requires c.nudge_routes.result
    (made s answers v c.requires c.nudge_routes.result c.as_slice.result.now c.in_ok-raw.raw.items c.settings-nudge.result.nudge
    (c.as_slice.ensures ∙ c.in_ok-solids.ensures) (ap (λ (t : Settings). t.nudge) c.settings-nudge.ensures.value) c.in_ok-raw.ensures
    (simp to_z-of_z at c.nudge_routes.ensures))
