-- No edge has the next number, and there is one after it.
use Rattle.std.proofs.Common.{◌≡◌, None, pos, sym, ap, subst, ◌∙◌, int_eq, arith}
use Rattle.std.specs.Prelude.{find}
use Rattle.scene_model.specs.declared.edge.Edge.{Edge}
use Rattle.scene_parts.proofs.Apart.{no_later, next_below}
use Rattle.scene_parts.proofs.parts.Parts.add_edge.Goals as goal

pub push-requires : goal.push-requires
push-requires c =
    let free : find (λ (x : Edge). int_eq (pos x.number) (pos c.self.inside.next_edge)) c.self.inside.edges ≡ None =
    subst (λ s. find (λ x. int_eq (pos x.number) (pos s.next_edge)) s.edges ≡ None) (sym c.self.view_is) (no_later c.args.self.now c.args.self.now.next_edge c.requires.valid (omega arith)) in
    let own : c.new_edge-edge.result.number ≡ c.self.inside.next_edge = ap (λ (e : Edge). e.number) c.new_edge-edge.ensures in
    record { new = ap (λ k. find (λ (x : Edge). int_eq (pos x.number) (pos k)) c.self.inside.edges) own ∙ free }

pub overflow_add-self : goal.overflow_add-self
overflow_add-self c =
    let next = ap (λ s. s.next_edge) c.self.view_is in
    let low = next_below c.args.self.now c.args.from c.args.to c.args.from_class c.args.to_class c.requires.valid c.requires.free in
    omega (arith, next, low)
