-- A connector of a valid scene has few checkpoints.
use Rattle.std.proofs.Common.{List, ◌≤◌, length, sym, ap, subst, ◌∙◌}
use Rattle.std.specs.Option.{option_copied}
use Rattle.plane_geom.specs.declared.point.Point.{Point}
use Rattle.scene_model.proofs.Editing.Edges.{edge_found}
use Rattle.drawing.proofs.reconnect.reconnection.Goals as goal

pub push_checkpoints-requires : goal.push_checkpoints-requires
push_checkpoints-requires c =
    let edge = edge_found c.args.scene.now c.args.number c.in-Some.edge.now c.valid.ensures (sym c.edge.ensures ∙ ap option_copied c.in-Some.is) in
    subst (λ (via : List Point). length via ≤ 4) (sym c.as_slice.ensures) edge.few_via
