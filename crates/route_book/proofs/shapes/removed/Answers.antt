-- One node more, whose solid went, stays, or is none.
use Rattle.std.proofs.Common.{◌≡◌, ◌+◌, ◌<◌, List, [], ◌∷◌, ◌++◌, take, All, sym, ap, subst, ◌∙◌, arith, true≢false}
use Rattle.std.specs.Prelude.{Contains}
use Rattle.std.specs.List.{flat_map}
use Rattle.std.proofs.lemmas.List.Elements.{All-contains, All-nil, All-push}
use Rattle.plane_geom.specs.declared.rect.Solid.{Solid}
use Rattle.scene_model.specs.declared.node.Node.{Node}
use Rattle.scene_model.specs.declared.settings.Settings.{Settings}
use Rattle.scene_model.specs.Routing.{solid_of, solids}
use Rattle.scene_model.specs.Stale.{IsRemoved}
use Rattle.scene_store.proofs.Items.{all_items, item_at}
use Rattle.route_book.proofs.Touching.Solids.{ListsRemoved, lists_more, lists_same, own_solid}
use Rattle.route_book.proofs.shapes.removed.Goals as goal
use Rattle.route_book.proofs.shapes.removed.Goals.{in-Some+then-not-has_solid+in_ok-push, in-Some+else-not-has_solid, in_default}

pub loop-node-preserved : goal.loop-node-preserved
loop-node-preserved c =
    let old = c.args.old.now in
    let new = c.args.new.now in
    let n = c.node-item.result in
    let i = c.loop-node.node-index in
    let read = c.nodes-node-items in
    let at = item_at read.result.now old.nodes i n read.ensures.value c.loop-node-test.true c.node-item.is in
    let kept = c.loop-node.invariant in
    let settings = sym c.settings-settings.ensures.value in
    elim c.match-solid.branch [
      | in-Some+then-not-has_solid+in_ok-push w ↦
          let x : Solid = w.in-Some.solid in
          let own : solid_of old.settings.buffer n ≡ x ∷ [] = ap (λ (t : Settings). solid_of t.buffer n) settings ∙ sym w.in-Some.ensures in
          let went : IsRemoved old new x = record { was = own_solid old i n x at own; gone = λ has. true≢false (sym (w.has_solid.ensures.1 has) ∙ w.if-not-has_solid.true) } in
          let e : c.match-solid.removed.items ≡ c.loop-node.removed.items ++ x ∷ [] = rw w.removed-is w.in_ok-push.ensures.items in (
            subst (All (IsRemoved old new)) (sym e) (All-push (IsRemoved old new) c.loop-node.removed.items x kept.0 went),
            subst (ListsRemoved old new (take (i + 1) old.nodes)) (sym e) (lists_more old new i n x c.loop-node.removed.items at own kept.1),
          )
      | in-Some+else-not-has_solid w ↦
          let x : Solid = w.in-Some.solid in
          let own : solid_of old.settings.buffer n ≡ x ∷ [] = ap (λ (t : Settings). solid_of t.buffer n) settings ∙ sym w.in-Some.ensures in
          let stays : (s : Solid) → Contains (solid_of old.settings.buffer n) s → Contains (solids new) s = λ s has.
          All-contains (Contains (solids new)) (x ∷ []) s (All-push (Contains (solids new)) [] x (All-nil (Contains (solids new))) (w.has_solid.ensures.0 w.if-not-has_solid.false)) (subst (λ (l : List Solid). Contains l s) own has) in
          (rw w.removed-is kept.0, rw w.removed-is (lists_same old new i n c.loop-node.removed.items at stays kept.1))
      | in_default w ↦
          let none : solid_of old.settings.buffer n ≡ [] = ap (λ (t : Settings). solid_of t.buffer n) settings ∙ sym w.in_default.ensures in
          let stays : (s : Solid) → Contains (solid_of old.settings.buffer n) s → Contains (solids new) s = λ s has.
          let some = subst (λ (l : List Solid). Contains l s) none has in let within : some.0 < 0 = some.1 in absurd (omega (arith, within)) in
          (rw w.removed-is kept.0, rw w.removed-is (lists_same old new i n c.loop-node.removed.items at stays kept.1))
    ]

pub returns : goal.returns
returns c =
    let old = c.args.old.now in
    let kept = c.loop-node.invariant in
    let read = c.nodes-node-items in
    let all = all_items read.result.now old.nodes c.loop-node.node-index read.ensures.value c.loop-node-test.false in
    record {
      each = kept.0;
      all = λ s r. kept.1 s (subst (λ (ns : List Node). Contains (flat_map (solid_of old.settings.buffer) ns) s) (sym all) r.was) r.gone;
    }
