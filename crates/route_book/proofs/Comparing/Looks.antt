-- Edges that look the same in two scenes.
use Rattle.std.proofs.Common.{◌≡◌, sym, ap, ◌∙◌}
use Rattle.scene_model.specs.declared.edge.Edge.{Edge}
use Rattle.scene_model.specs.Scene.{Scene}
use Rattle.scene_model.specs.Stale.{Looks, looks, shape}
use Rattle.route_book.specs.Shapes.{AskSame}

pub looks_by : (old new : Scene) (d e : Edge) → AskSame d e → old.settings.buffer ≡ new.settings.buffer → shape old d.from ≡ shape new d.from → shape old d.to ≡ shape new d.to → looks old d ≡ looks new e
looks_by old new d e a buffer source target = λ i. record {
  from = a.from i;
  to = a.to i;
  from_class = a.from_class i;
  to_class = a.to_class i;
  via = a.via i;
  source = (source ∙ ap (shape new) a.from) i;
  target = (target ∙ ap (shape new) a.to) i;
  buffer = buffer i;
}

pub same_target : (old new : Scene) (d e : Edge) → looks old d ≡ looks new e → shape old d.to ≡ shape new d.to
same_target old new d e same = ap (λ (l : Looks). l.target) same ∙ ap (shape new) (sym (ap (λ (l : Looks). l.to) same))
