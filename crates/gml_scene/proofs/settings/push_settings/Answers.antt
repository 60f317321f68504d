-- No router is written where there is one, or where the settings are those to begin with.
use Rattle.std.proofs.Common.{◌≡◌, true, ap, ◌∙◌, rules}
use Rattle.std.specs.Prelude.{pos, codes, if◌then◌else◌}
use Rattle.std.specs.Ordering.{int_eq}
use Rattle.std.proofs.lemmas.Bool.{and_from}
use Rattle.gml_text.specs.Tree.{no_pairs, list}
use Rattle.gml_text.specs.View.{pairs}
use Rattle.scene_model.specs.Scene.{default_settings}
use Rattle.gml_scene.specs.Changes.{one}
use Rattle.gml_scene.specs.Forms.{settings_pairs}
use Rattle.gml_scene.specs.Tree.{settings_eq, router_pairs}
use Rattle.gml_scene.proofs.Walks.{nothing_after}
use Rattle.gml_scene.proofs.settings.push_settings.Goals as goal

pub returns-then-has_router : goal.returns-then-has_router
returns-then-has_router c = nothing_after (pairs c.args.graph.now.items) _ (ap (λ b. if b then no_pairs else router_pairs c.args.settings) c.if-has_router.true)

pub returns-then-settings-3 : goal.returns-then-settings-3
returns-then-settings-3 c =
    let t = c.args.settings in
    let penalty : int_eq t.penalty (pos 50000) ≡ true = search rules in
    let buffer : int_eq t.buffer (pos 4000) ≡ true = search rules in
    let nudge : int_eq t.nudge (pos 4000) ≡ true = search rules in
    let same : settings_eq t default_settings ≡ true = and_from _ _ (and_from _ _ penalty buffer) nudge in
    nothing_after (pairs c.args.graph.now.items) _
    (ap (λ b. if b then no_pairs else router_pairs t) c.if-has_router.false
    ∙ ap (λ b. if b then no_pairs else one (codes "router") (list (settings_pairs t))) same)
