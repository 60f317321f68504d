-- The id, the label, the box and the pins come one after the other.
use Rattle.std.proofs.Common.{◌≡◌, ap, ◌∙◌, rules}
use Rattle.std.specs.Prelude.{codes}
use Rattle.gml_text.specs.Tree.{list, ◌then◌}
use Rattle.gml_text.specs.View.{content, pairs}
use Rattle.gml_text.proofs.Accepting.{then_assoc}
use Rattle.gml_scene.specs.Changes.{all_of, one}
use Rattle.gml_scene.specs.Forms.{id_content, box_pairs, label_pairs, pin_pair, node_pairs}
use Rattle.gml_scene.proofs.PairLists.{content_list}
use Rattle.gml_scene.proofs.Walks.{on_ok}
use Rattle.gml_scene.proofs.forms.push_node.Goals as goal

pub returns : goal.returns
returns c =
    let n = c.args.node.now in
    let pi = one (codes "id") (id_content n.id) in
    let pl = label_pairs c.args.label.now in
    let pg = one (codes "graphics") (list (box_pairs n)) in
    let i : pairs c.push.new.list.items ≡ pairs c.new-inner.result.items then one (codes "id") (content c.in_ok-id_of.field-0) = c.in_ok-push.ensures in
    let l : pairs c.push_label.new.list.items ≡ pairs c.push.new.list.items then pl = c.in_ok-push_label.ensures in
    let g : pairs c.push-2.new.list.items ≡ pairs c.push_label.new.list.items then one (codes "graphics") (content c.in_ok-box_of.field-0) = c.in_ok-push-2.ensures in
    let p : pairs c.push_pins.new.list.items ≡ pairs c.push-2.new.list.items then all_of pin_pair c.as_slice.result.now = c.in_ok-push_pins.ensures in
    let id : content c.in_ok-id_of.field-0 ≡ id_content n.id = search (rules, c.in_ok-id_of.ensures) in
    let first : pairs c.push.new.list.items ≡ pi =
    i ∙ ap (λ v. pairs c.new-inner.result.items then one (codes "id") v) id ∙ ap (λ xs. pairs xs then pi) c.new-inner.ensures.items in
    let second : pairs c.push-2.new.list.items ≡ (pi then pl) then pg =
    g ∙ ap (λ v. pairs c.push_label.new.list.items then one (codes "graphics") v) c.in_ok-box_of.ensures ∙ ap (λ ps. ps then pg) (l ∙ ap (λ ps. ps then pl) first) in
    let third : pairs c.push_pins.new.list.items ≡ node_pairs c.args.label.now n =
    p ∙ ap (λ xs. pairs c.push-2.new.list.items then all_of pin_pair xs) c.as_slice.ensures ∙ ap (λ ps. ps then all_of pin_pair n.pins) second
    ∙ ap (λ ps. pi then ps) (then_assoc pl pg (all_of pin_pair n.pins)) in
    on_ok c.push-3.result (λ h. h ∙ ap (λ v. pairs c.args.list.now.items then one (codes "node") v) (content_list c.push_pins.new.list ∙ ap list third)) c.push-3.ensures
