-- The scene as C reads it.
use Rattle.std.specs.Prelude.{◌≡◌, ℕ, ◌*ℤ◌, pos, length, Bool, true, false, Option, None, Some, option_map, option_and_then, slice_get}
use Rattle.plane_geom.specs.declared.point.Point.{Point}
use Rattle.scene_model.specs.declared.edge.Edge.{Edge}
use Rattle.scene_model.specs.declared.node.Node.{Node}
use Rattle.scene_model.specs.declared.pin.Pin.{Pin}
use Rattle.scene_model.specs.Scene.{Scene}
use Rattle.drawing.specs.Drawing.{DrawingState, edited_scene}
use Rattle.reroute_c.specs.declared.scene.BoxInfo.{BoxInfo}
use Rattle.reroute_c.specs.declared.scene.ConnectorInfo.{ConnectorInfo}
use Rattle.reroute_c.specs.declared.scene.PinInfo.{PinInfo}
use Rattle.reroute_c.specs.declared.scene.SettingsInfo.{SettingsInfo}

-- the scene that is read: that of the open transaction, if one is open
abbrev pub read_scene : DrawingState → Scene
read_scene d = edited_scene d.session.world.working d.session.world.present

abbrev pub box_info : Node → BoxInfo
box_info n = record { id = n.id; x = n.x; y = n.y; w = pos 2 *ℤ n.half_w; h = pos 2 *ℤ n.half_h; pins = length n.pins; group = n.group }

abbrev pub pin_info : Pin → PinInfo
pin_info p = record {
  class = p.class;
  dx = p.dx;
  dy = p.dy;
  directions = record { east = p.dirs.east; south = p.dirs.south; west = p.dirs.west; north = p.dirs.north };
}

abbrev pub connector_info : Edge → ConnectorInfo
connector_info e = record { number = e.number; from = e.from; from_class = e.from_class; to = e.to; to_class = e.to_class; checkpoints = length e.via }

abbrev pub settings_info : Scene → SettingsInfo
settings_info s = record { penalty = s.settings.penalty; buffer = s.settings.buffer; nudge = s.settings.nudge }

-- what has a place, from 0, if anything has
abbrev pub box_info_at : Scene → ℕ → Option BoxInfo
box_info_at s place = option_map box_info (slice_get s.nodes place)

abbrev pub pin_info_at : Scene → ℕ → ℕ → Option PinInfo
pin_info_at s of place = option_map pin_info (option_and_then (λ n. slice_get n.pins place) (slice_get s.nodes of))

abbrev pub connector_info_at : Scene → ℕ → Option ConnectorInfo
connector_info_at s place = option_map connector_info (slice_get s.edges place)

abbrev pub checkpoint_at : Scene → ℕ → ℕ → Option Point
checkpoint_at s of place = option_and_then (λ e. slice_get e.via place) (slice_get s.edges of)

-- it is written if there is one; otherwise nothing is
abbrev pub IsWrittenFrom : {X : Type 0} → Option X → Bool → X → X → Type 0
IsWrittenFrom None there old new = (there ≡ false) × (new ≡ old)
IsWrittenFrom (Some x) there old new = (there ≡ true) × (new ≡ x)
