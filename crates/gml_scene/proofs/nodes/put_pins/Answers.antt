-- Pins are written anew where they are not as they were.
use Rattle.std.proofs.Common.{◌≡◌, sym, ap, ◌∙◌}
use Rattle.std.specs.Prelude.{codes, if◌then◌else◌}
use Rattle.std.specs.Cmp.Lexicographic.{pointwise}
use Rattle.gml_text.specs.Tree.{◌then◌}
use Rattle.gml_text.specs.View.{pairs}
use Rattle.gml_scene.specs.Changes.{all_of, without}
use Rattle.gml_scene.specs.Forms.{pin_pair}
use Rattle.gml_scene.specs.Nodes.{pin_eq}
use Rattle.gml_scene.proofs.Walks.{on_ok}
use Rattle.gml_scene.proofs.nodes.put_pins.Goals as goal

pub returns-then-eq : goal.returns-then-eq
returns-then-eq c =
    let same : c.eq.result ≡ pointwise pin_eq c.args.was.now c.args.pins.now = c.eq.ensures in
    let ps = pairs c.args.list.now.items in
    sym (ap (λ b. if b then ps else without (codes "pin") ps then all_of pin_pair c.args.pins.now) (sym same ∙ c.if-eq.true))

pub returns : goal.returns
returns c =
    let same : c.eq.result ≡ pointwise pin_eq c.args.was.now c.args.pins.now = c.eq.ensures in
    let ps = pairs c.args.list.now.items in
    on_ok c.push_pins.result
    (λ h. h
    ∙ ap (λ qs. qs then all_of pin_pair c.args.pins.now) c.remove_all.ensures.pairs
    ∙ sym (ap (λ b. if b then ps else without (codes "pin") ps then all_of pin_pair c.args.pins.now) (sym same ∙ c.if-eq.false)))
    c.push_pins.ensures
