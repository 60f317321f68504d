-- No cost is written where it is 0.
use Rattle.std.proofs.Common.{◌≡◌, true, ap, rules}
use Rattle.std.specs.Prelude.{pos, codes, if◌then◌else◌}
use Rattle.std.specs.Ordering.{int_eq}
use Rattle.gml_text.specs.Tree.{no_pairs}
use Rattle.gml_text.specs.View.{pairs}
use Rattle.gml_scene.specs.Changes.{one}
use Rattle.gml_scene.specs.Forms.{length_content, cost_pairs}
use Rattle.gml_scene.proofs.Walks.{nothing_after}
use Rattle.gml_scene.proofs.forms.push_cost.Goals as goal

pub returns-then-cost-eq0 : goal.returns-then-cost-eq0
returns-then-cost-eq0 c =
    let none : int_eq c.args.cost (pos 0) ≡ true = search rules in
    nothing_after (pairs c.args.list.now.items) (cost_pairs c.args.cost) (ap (λ b. if b then no_pairs else one (codes "cost") (length_content c.args.cost)) none)
