-- One edge more; in the end all of them.
use Rattle.std.proofs.Common.{◌≡◌, ◌+◌, List, ◌∷◌, [], ◌++◌, map, take, ap, sym, ◌∙◌}
use Rattle.std.proofs.lemmas.List.{map_more}
use Rattle.scene_model.specs.declared.edge.Edge.{Edge}
use Rattle.scene_store.proofs.Items.{all_items}
use Rattle.report_text.specs.declared.routed.EdgeRouted.{EdgeRouted}
use Rattle.form_route.specs.Report.{routed_by}
use Rattle.form_route.proofs.report.edges_routed.Goals as goal

pub loop-edge-preserved : goal.loop-edge-preserved
loop-edge-preserved c =
    let items : List Edge = c.edges-edge-items.result.now in
    let k = c.loop-edge.edge-index in
    let e : Edge = c.edge-item.result in
    let f : Edge → EdgeRouted = λ d. record { edge = d.number; routed = routed_by c.args.book.now d } in
    let step : map f (take (k + 1) items) ≡ map f (take k items) ++ f e ∷ [] =
    map_more f items k e c.loop-edge-test.true ∙ ap (λ d. map f (take k items) ++ f d ∷ []) (sym c.edge-item.is) in
    let pushed : c.push.new.self.items ≡ c.loop-edge.edges.items ++ f e ∷ [] = c.in_ok-push.ensures.items ∙ (λ i. c.loop-edge.edges.items ++ record { edge = e.number; routed = c.routed_by.ensures i } ∷ []) in
    pushed ∙ ap (λ (rs : List EdgeRouted). rs ++ f e ∷ []) c.loop-edge.invariant ∙ sym step

pub returns : goal.returns
returns c =
    let f : Edge → EdgeRouted = λ d. record { edge = d.number; routed = routed_by c.args.book.now d } in
    let read = c.edges-edge-items in
    let k = c.loop-edge.edge-index in
    let kept : c.loop-edge.edges.items ≡ map f (take k read.result.now) = c.loop-edge.invariant in
    kept ∙ ap (λ (es : List Edge). map f (take k es)) read.ensures.value ∙
    ap (map f) (all_items read.result.now c.args.scene.now.edges k read.ensures.value c.loop-edge-test.false)
