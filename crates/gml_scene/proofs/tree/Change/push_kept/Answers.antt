-- What is kept of one more pair is written.
use Rattle.std.proofs.Common.{take, sym, ap, ◌∙◌}
use Rattle.gml_text.specs.Tree.{◌then◌}
use Rattle.gml_text.specs.View.{content, pairs}
use Rattle.gml_text.proofs.Accepting.{then_assoc, then-none}
use Rattle.gml_scene.specs.Tree.{kept, kept_from}
use Rattle.gml_scene.proofs.Walks.{kept_more}
use Rattle.gml_scene.proofs.tree.Change.push_kept.Goals as goal

pub loop-place-init : goal.loop-place-init
loop-place-init c = sym (then-none (pairs c.args.out.now.items))

pub loop-place-preserved : goal.loop-place-preserved
loop-place-preserved c =
    let was = c.args.self.now.was.now in
    let s = c.args.self.now.scene.now in
    let routes = c.args.self.now.routes.now in
    let out = pairs c.args.out.now.items in
    let i = c.loop-place.place in
    let p = c.index-graph-place.result in
    let done = kept_from was s routes 0 (pairs (take i c.args.graph.now)) in
    let here = kept was s routes i p.key (content p.value) in
    c.in_ok-push_pair.ensures
    ∙ ap (λ ps. ps then here) c.loop-place.invariant
    ∙ then_assoc out done here
    ∙ ap (λ ps. out then ps) (sym (kept_more was s routes c.args.graph.now i p c.loop-place-test.true c.index-graph-place.is))
