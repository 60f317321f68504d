-- The size of the scenes that have certificates.
use Rattle.std.specs.Prelude.{nat_lt, length, Option, Some, None, if◌then◌else◌}
use Rattle.scene_model.specs.Scene.{Scene, pin_count, via_count}
use Rattle.diagram_read.specs.declared.fault.Part.{Part}
use Rattle.diagram_read.specs.declared.fault.Part.TheVariants.{Node, Pin, Edge, Via}

-- the first part of which the scene has too many to have a certificate
abbrev pub too_large : Scene → Option Part
too_large s =
    if nat_lt 48 (length s.nodes) then Some Node
    else (if nat_lt 48 (pin_count s) then Some Pin
    else (if nat_lt 64 (length s.edges) then Some Edge
    else (if nat_lt 48 (via_count s) then Some Via else None)))
