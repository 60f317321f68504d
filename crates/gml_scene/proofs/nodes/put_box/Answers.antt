-- The four lengths are put one after the other.
use Rattle.std.proofs.Common.{◌≡◌, ap, ◌∙◌, rules}
use Rattle.std.specs.Prelude.{codes, pos, ◌*ℤ◌, OnOk}
use Rattle.gml_text.specs.View.{pairs}
use Rattle.gml_scene.specs.Nodes.{put_length}
use Rattle.gml_scene.proofs.Walks.{on_ok}
use Rattle.gml_scene.proofs.nodes.put_box.Goals as goal

pub returns : goal.returns
returns c =
    let was = c.args.was.now in
    let n = c.args.node.now in
    let x : pairs c.put_length.new.list.items ≡ put_length (codes "x") was.x n.x (pairs c.args.graphics.now.items) = search (rules, c.in_ok-put_length.ensures) in
    let y : pairs c.put_length-2.new.list.items ≡ put_length (codes "y") was.y n.y (pairs c.put_length.new.list.items) = search (rules, c.in_ok-put_length-2.ensures) in
    let w : pairs c.put_length-3.new.list.items ≡ put_length (codes "w") (pos 2 *ℤ was.half_w) (pos 2 *ℤ n.half_w) (pairs c.put_length-2.new.list.items) = search (rules, c.in_ok-put_length-3.ensures) in
    let three = w ∙ ap (put_length (codes "w") (pos 2 *ℤ was.half_w) (pos 2 *ℤ n.half_w)) (y ∙ ap (put_length (codes "y") was.y n.y) x) in
    let four : OnOk c.put_length-4.result (pairs c.put_length-4.new.list.items ≡ put_length (codes "h") (pos 2 *ℤ was.half_h) (pos 2 *ℤ n.half_h) (pairs c.put_length-3.new.list.items)) = search (rules, c.put_length-4.ensures) in
    on_ok c.put_length-4.result (λ h. h ∙ ap (put_length (codes "h") (pos 2 *ℤ was.half_h) (pos 2 *ℤ n.half_h)) three) four
