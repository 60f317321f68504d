-- No edge has the number.
use Rattle.std.proofs.Common.{◌≡◌, None, pos, sym, subst, int_eq}
use Rattle.std.specs.Prelude.{find}
use Rattle.scene_model.specs.declared.edge.Edge.{Edge}
use Rattle.scene_parts.proofs.Apart.{no_later}
use Rattle.scene_parts.proofs.parts.Parts.push_edge.Goals as goal

pub push-requires : goal.push-requires
push-requires c = record {
  new = subst (λ s. find (λ (x : Edge). int_eq (pos x.number) (pos c.args.edge.number)) s.edges ≡ None) (sym c.self.view_is)
      (no_later c.args.self.now c.args.edge.number c.requires.valid c.requires.next);
}
