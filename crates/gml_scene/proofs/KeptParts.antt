-- Lists of nodes and edges that are gone, and what is not new.
use Rattle.std.proofs.Common.{◌≡◌, List, Option, Some, None, ℕ, true, false, refl}
use Rattle.std.specs.Prelude.{is_none, is_some}
use Rattle.std.proofs.lemmas.Bool.{false≢true}
use Rattle.gml_text.specs.Tree.{Pairs, no_pairs}
use Rattle.walk_model.specs.declared.route.WrittenRoute.{WrittenRoute}
use Rattle.scene_model.specs.declared.node.Node.{Node}
use Rattle.scene_model.specs.declared.edge.Edge.{Edge}
use Rattle.gml_scene.specs.Tree.{kept_node, kept_edge}

pub node_gone : (key : List ℕ) (inner : Pairs) (was : Option Node) → kept_node key inner was None ≡ no_pairs
node_gone key inner (Some was) = refl
node_gone key inner None = refl

pub edge_gone : (key : List ℕ) (inner : Pairs) (routes : List WrittenRoute) (was : Option Edge) → kept_edge key inner routes was None ≡ no_pairs
edge_gone key inner routes (Some was) = refl
edge_gone key inner routes None = refl

-- what has an origin is not new
pub not_new : (origin : Option ℕ) → is_some origin ≡ true → is_none origin ≡ false
not_new None is = absurd (false≢true is)
not_new (Some place) is = refl
