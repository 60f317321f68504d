-- The lines as C reads them.
use Rattle.std.specs.Prelude.{◌≡◌, ℕ, Bool, true, false, length, Option, None, Some, slice_get, unwrap_or}
use Rattle.plane_geom.specs.declared.point.Point.{Point}
use Rattle.walk_model.specs.declared.route.WrittenRoute.{WrittenRoute}
use Rattle.drawing.specs.Drawing.{DrawingState}
use Rattle.scene_model.specs.declared.fault.SessionFault.{SessionFault}
use Rattle.session_model.specs.State.{State}
use Rattle.drawing.specs.Lines.{IsUnproposed}
use Rattle.reroute_c.specs.declared.fault.Fault.{Fault}
use Rattle.reroute_c.specs.Codes.{call_fault}
use Rattle.reroute_c.specs.declared.lines.Corner.{Corner}
use Rattle.reroute_c.specs.declared.lines.Line.{Line}

-- a preview is refused with this fault
abbrev pub IsUnpreviewed : State → Fault → Type 0
IsUnpreviewed s fault = (why : SessionFault) × IsUnproposed s why × (fault ≡ call_fault why)

-- no line: numbers of connectors begin with 1
abbrev pub no_line : Line
no_line = record { connector = 0; corners = 0; changed = false }

-- the line that was found, if one was, and whether it changed
abbrev pub found_line : Option WrittenRoute → Bool → Line
found_line None changed = no_line
found_line (Some l) changed = record {
  connector = l.edge;
  corners = length l.points;
  changed = changed;
}

-- the line at a place, from 0, of those that were asked for last
abbrev pub line_at : DrawingState → ℕ → Line
line_at d place = found_line (slice_get d.asked.lines place) (unwrap_or (slice_get d.asked.changed place) false)

-- the number of the gone connector at a place, from 0; 0 if there is none
abbrev pub gone_at : DrawingState → ℕ → ℕ
gone_at d place = unwrap_or (slice_get d.asked.gone place) 0

-- the corner at a place of a line, from 0
abbrev pub corner_of : Option WrittenRoute → ℕ → Option Point
corner_of None at = None
corner_of (Some l) at = slice_get l.points at

abbrev pub corner_at : DrawingState → ℕ → ℕ → Option Point
corner_at d place at = corner_of (slice_get d.asked.lines place) at

-- the corner is written if there is one; otherwise nothing is
abbrev pub IsCornerWritten : Option Point → Bool → Corner → Corner → Type 0
IsCornerWritten None there old new = (there ≡ false) × (new ≡ old)
IsCornerWritten (Some p) there old new = (there ≡ true) × (new ≡ record { x = p.x; y = p.y })

-- the cost is written if there is one; otherwise nothing is
abbrev pub IsCost : Option ℕ → Bool → ℕ → ℕ → Type 0
IsCost None there old new = (there ≡ false) × (new ≡ old)
IsCost (Some cost) there old new = (there ≡ true) × (new ≡ cost)
