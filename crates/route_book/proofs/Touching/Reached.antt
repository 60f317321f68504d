-- What a connector reaches, by its nodes, and by boxes of solids.
use Rattle.std.proofs.Common.{◌≡◌, ℕ, Some, List, sym, subst, ◌∙◌, arith}
use Rattle.std.specs.Prelude.{All, Contains}
use Rattle.std.proofs.lemmas.Int.{ints}
use Rattle.std.proofs.lemmas.Option.{same_Some}
use Rattle.std.proofs.lemmas.List.Elements.{All-contains, All-weaker}
use Rattle.plane_geom.specs.declared.rect.Rect.{Rect}
use Rattle.plane_geom.specs.declared.rect.Solid.{Solid}
use Rattle.plane_geom.specs.Floor.{IsSolid}
use Rattle.scene_model.specs.declared.node.Node.{Node}
use Rattle.scene_model.specs.declared.edge.Edge.{Edge}
use Rattle.scene_model.specs.Scene.{Scene, node_with, edge_with}
use Rattle.scene_model.specs.Valid.{IsValid}
use Rattle.scene_model.specs.Routing.{pins_of_class, solids}
use Rattle.scene_model.specs.Stale.{IsRemoved, IsWithinReach}
use Rattle.scene_model.proofs.Editing.Edges.{edge_found}
use Rattle.scene_model.proofs.ForRouting.Floors.{floors_fit, is_task}
use Rattle.route_book.specs.Reach.{AreParts, IsBox, IsNear, IsNearBetween}
use Rattle.route_book.specs.Solids.{AreRemoved}
use Rattle.route_book.proofs.Touching.Solids.{node_found}

module _ (s : Scene) (e : Edge) (source target : Node) (at_source : node_with s e.from ≡ Some source) (at_target : node_with s e.to ≡ Some target) where
  pub reached_near : (r : Rect) (cost : ℕ) → IsNearBetween source target e cost r → IsWithinReach s e r cost
  reached_near r cost h =
      let near = h.near.near in
      record {
        source = source;
        target = target;
        start = h.start;
        end = h.near.end;
        is_start = (at_source, h.is_start);
        is_end = (at_target, h.near.is_end);
        by = near.by;
        within = near.within;
        way = near.way;
        is_way = near.is_way;
        reached = near.reached;
      }

  pub near_reached : (r : Rect) (cost : ℕ) → IsWithinReach s e r cost → IsNearBetween source target e cost r
  near_reached r cost x =
      let from : x.source ≡ source = same_Some x.source source (sym x.is_start.0 ∙ at_source) in
      let to : x.target ≡ target = same_Some x.target target (sym x.is_end.0 ∙ at_target) in
      let near : IsNear x.source x.target e cost r x.start x.end = record { by = x.by; within = x.within; way = x.way; is_way = x.is_way; reached = x.reached } in
      record {
        start = x.start;
        is_start = subst (λ (n : Node). Contains (pins_of_class n e.from_class) x.start) from x.is_start.1;
        near = record {
          end = x.end;
          is_end = subst (λ (n : Node). Contains (pins_of_class n e.to_class) x.end) to x.is_end.1;
          near = subst (λ (n : Node). IsNear n target e cost r x.start x.end) from (subst (λ (n : Node). IsNear x.source n e cost r x.start x.end) to near);
        };
      }

  -- the parts of an edge of a valid scene
  pub are_parts : IsValid s → edge_with s e.number ≡ Some e → AreParts source target e
  are_parts v known =
      let edge = edge_found s e.number e v known in
      record {
        is_source = node_found s e.from source v at_source;
        is_target = node_found s e.to target v at_target;
        few_via = edge.few_via;
        via = (is_task s v e edge).via;
      }

box_of_solid : (t : Solid) → IsSolid t → IsBox t.rect
box_of_solid t h = let w = h.wide in let g = h.high in record { on_sheet = h.on_sheet; wide = omega (arith, ints, w); high = omega (arith, ints, g) }

-- the solids that went have points
pub removed_boxes : (old new : Scene) (removed : List Solid) → IsValid old → AreRemoved old new removed → All (λ t. IsBox t.rect) removed
removed_boxes old new removed v are =
    All-weaker (IsRemoved old new) (λ t. IsBox t.rect) (λ t r. box_of_solid t (All-contains IsSolid (solids old) t (floors_fit old v).solids r.was)) removed are.each
