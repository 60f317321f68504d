-- The four lengths come one after the other.
use Rattle.std.proofs.Common.{◌≡◌, ap, ◌∙◌, rules}
use Rattle.std.specs.Prelude.{codes, pos, ◌*ℤ◌}
use Rattle.gml_text.specs.Tree.{list, ◌then◌}
use Rattle.gml_text.specs.View.{pairs}
use Rattle.gml_scene.specs.Changes.{one}
use Rattle.gml_scene.specs.Forms.{length_content}
use Rattle.gml_scene.proofs.PairLists.{content_list}
use Rattle.gml_scene.proofs.forms.box_of.Goals as goal

pub returns : goal.returns
returns c =
    let n = c.args.node.now in
    let px = one (codes "x") (length_content n.x) in
    let py = one (codes "y") (length_content n.y) in
    let pw = one (codes "w") (length_content (pos 2 *ℤ n.half_w)) in
    let ph = one (codes "h") (length_content (pos 2 *ℤ n.half_h)) in
    let x : pairs c.push_length.new.list.items ≡ pairs c.new-list.result.items then px = search (rules, c.in_ok-push_length.ensures) in
    let y : pairs c.push_length-2.new.list.items ≡ pairs c.push_length.new.list.items then py = search (rules, c.in_ok-push_length-2.ensures) in
    let w : pairs c.push_length-3.new.list.items ≡ pairs c.push_length-2.new.list.items then pw = search (rules, c.in_ok-push_length-3.ensures) in
    let h : pairs c.push_length-4.new.list.items ≡ pairs c.push_length-3.new.list.items then ph = search (rules, c.in_ok-push_length-4.ensures) in
    content_list c.push_length-4.new.list
    ∙ ap list
    (h ∙ ap (λ ps. ps then ph) (w ∙ ap (λ ps. ps then pw) (y ∙ ap (λ ps. ps then py) (x ∙ ap (λ xs. pairs xs then px) c.new-list.ensures.items))))
