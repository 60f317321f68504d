-- The ends, the label, the classes, the checkpoints and the line come one after the other.
use Rattle.std.proofs.Common.{◌≡◌, ap, ◌∙◌, rules}
use Rattle.std.specs.Prelude.{codes, option_map}
use Rattle.gml_text.specs.Tree.{list, ◌then◌}
use Rattle.gml_text.specs.View.{content, pairs}
use Rattle.gml_text.proofs.Accepting.{then_assoc}
use Rattle.gml_scene.specs.Changes.{all_of, one}
use Rattle.gml_scene.specs.Forms.{class_pairs, edge_pairs, id_content, label_pairs, line_pairs, via_pair}
use Rattle.gml_scene.proofs.PairLists.{content_list}
use Rattle.gml_scene.proofs.Walks.{more_after, on_ok, one_after}
use Rattle.gml_scene.proofs.forms.push_edge.Goals as goal

pub returns : goal.returns
returns c =
    let e = c.args.edge.now in
    let source = one (codes "source") (id_content e.from) in
    let target = one (codes "target") (id_content e.to) in
    let label = label_pairs c.args.label.now in
    let from = class_pairs (codes "sourcePin") e.from_class in
    let to = class_pairs (codes "targetPin") e.to_class in
    let vias = all_of via_pair e.via in
    let line = line_pairs (option_map (λ l. l.now) c.args.line) in
    let is_source : content c.in_ok-id_of.field-0 ≡ id_content e.from = search (rules, c.in_ok-id_of.ensures) in
    let is_target : content c.in_ok-id_of-2.field-0 ≡ id_content e.to = search (rules, c.in_ok-id_of-2.ensures) in
    let first : pairs c.push.new.list.items ≡ source =
    one_after (pairs c.push.new.list.items) (pairs c.new-inner.result.items) _ (codes "source") (content c.in_ok-id_of.field-0) (id_content e.from) c.in_ok-push.ensures is_source
    (ap pairs c.new-inner.ensures.items) in
    let second : pairs c.push-2.new.list.items ≡ source then target =
    one_after (pairs c.push-2.new.list.items) (pairs c.push.new.list.items) source (codes "target") (content c.in_ok-id_of-2.field-0) (id_content e.to) c.in_ok-push-2.ensures is_target first in
    let third : pairs c.push_label.new.list.items ≡ (source then target) then label = more_after _ _ (source then target) label c.in_ok-push_label.ensures second in
    let fourth : pairs c.push_class.new.list.items ≡ ((source then target) then label) then from = more_after _ _ ((source then target) then label) from c.in_ok-push_class.ensures third in
    let fifth : pairs c.push_class-2.new.list.items ≡ (((source then target) then label) then from) then to =
    more_after _ _ (((source then target) then label) then from) to c.in_ok-push_class-2.ensures fourth in
    let passed : pairs c.push_via.new.list.items ≡ pairs c.push_class-2.new.list.items then vias =
    c.in_ok-push_via.ensures ∙ ap (λ ps. pairs c.push_class-2.new.list.items then all_of via_pair ps) c.as_slice.ensures in
    let sixth : pairs c.push_via.new.list.items ≡ ((((source then target) then label) then from) then to) then vias =
    more_after _ _ ((((source then target) then label) then from) then to) vias passed fifth in
    let all : pairs c.push_line.new.list.items ≡ edge_pairs c.args.label.now (option_map (λ l. l.now) c.args.line) e =
    more_after _ _ (((((source then target) then label) then from) then to) then vias) line c.in_ok-push_line.ensures sixth
    ∙ ap (λ ps. source then (target then ps))
    (then_assoc ((label then from) then to) vias line ∙ then_assoc (label then from) to (vias then line) ∙ then_assoc label from (to then (vias then line))) in
    on_ok c.push-3.result (λ h. h ∙ ap (λ v. pairs c.args.list.now.items then one (codes "edge") v) (content_list c.push_line.new.list ∙ ap list all)) c.push-3.ensures
