-- The changes are those of the given edit.
use Rattle.std.proofs.Common.{rules, ◌≡◌, sym, subst, refl, pos, w64, to_z, of_z}
use Rattle.std.specs.Prelude.{OnOk}
use Rattle.scene_model.specs.declared.edit.Edit.TheVariants.{MoveNode, SizeNode, AddVia}
use Rattle.scene_model.specs.Edits.{changed}
use Rattle.scene_parts.proofs.Replaced.{of_equals}
use Rattle.scene_parts.proofs.parts.Parts.change.Goals as goal

pub returns-in-MoveNode-clause-ok : goal.returns-in-MoveNode-clause-ok
returns-in-MoveNode-clause-ok c =
    let id : to_z w64 (of_z w64 c.in-MoveNode.id) ≡ c.in-MoveNode.id = search rules in
    let x : to_z w64 (of_z w64 c.in-MoveNode.x) ≡ c.in-MoveNode.x = search rules in
    let y : to_z w64 (of_z w64 c.in-MoveNode.y) ≡ c.in-MoveNode.y = search rules in
    subst (λ e. OnOk c.move_node.result (c.move_node.new.self ≡ changed e c.args.self.now)) (sym c.in-MoveNode.is)
    (of_equals (λ i a b. OnOk c.move_node.result (c.move_node.new.self ≡ changed (MoveNode i a b) c.args.self.now)) id x y c.move_node.ensures.ok)

pub returns-in-SizeNode-clause-ok : goal.returns-in-SizeNode-clause-ok
returns-in-SizeNode-clause-ok c =
    let id : to_z w64 (of_z w64 c.in-SizeNode.id) ≡ c.in-SizeNode.id = search rules in
    let w : to_z w64 (of_z w64 c.in-SizeNode.w) ≡ c.in-SizeNode.w = search rules in
    let h : to_z w64 (of_z w64 c.in-SizeNode.h) ≡ c.in-SizeNode.h = search rules in
    subst (λ e. OnOk c.size_node.result (c.size_node.new.self ≡ changed e c.args.self.now)) (sym c.in-SizeNode.is)
    (of_equals (λ i a b. OnOk c.size_node.result (c.size_node.new.self ≡ changed (SizeNode i a b) c.args.self.now)) id w h c.size_node.ensures.ok)

pub returns-in-AddVia-clause-ok : goal.returns-in-AddVia-clause-ok
returns-in-AddVia-clause-ok c =
    let x : to_z w64 (of_z w64 c.in-AddVia.x) ≡ c.in-AddVia.x = search rules in
    let y : to_z w64 (of_z w64 c.in-AddVia.y) ≡ c.in-AddVia.y = search rules in
    subst (λ e. OnOk c.add_via.result (c.add_via.new.self ≡ changed e c.args.self.now)) (sym c.in-AddVia.is)
    (of_equals (λ i a b. OnOk c.add_via.result (c.add_via.new.self ≡ changed (AddVia c.in-AddVia.number c.in-AddVia.place a b) c.args.self.now)) {a = pos 0} {d = pos 0} refl x y c.add_via.ensures.ok)
