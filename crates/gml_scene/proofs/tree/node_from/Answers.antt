-- What holds of all nodes holds of the one that is found.
use Rattle.std.proofs.Common.{rules, tests}
use Rattle.std.proofs.lemmas.Iterator.{YieldsList-from_slice}
use Rattle.std.proofs.lemmas.Iterator.Search.{find_from_yields_List}
use Rattle.scene_model.specs.Valid.{IsNode}
use Rattle.gml_scene.specs.Tree.{is_at}
use Rattle.gml_scene.proofs.Places.{held_found}
use Rattle.gml_scene.proofs.tree.node_from.Goals as goal

pub returns-clause-node : goal.returns-clause-node
returns-clause-node c =
    let nodes = c.args.scene.now.nodes in
    held_found (λ n. is_at c.args.place n.origin) IsNode nodes c.find.result
    (find_from_yields_List (λ n. is_at c.args.place n.origin) _ _ c.find.result c.find.ensures.ran (YieldsList-from_slice nodes cc) (λ x b q k. search (rules, tests)))
    c.nodes.ensures.valid.nodes
