-- What a handle owns.
use Rattle.std.specs.Prelude.{Option}
use base.Fraction.{full_share}
use base.Fml.{Fml}
use denote.RattleType.{RattleType}
use denote.RawPtr.{Ptr, lies_at, room_at}
use Rattle.std.specs.contracts.option.Option as option
use Rattle.drawing.specs.contracts.drawing.Drawing as drawing
use Rattle.drawing.specs.Drawing.{DrawingState}

-- a drawing or none, as a type of the logic
abbrev pub Held : RattleType
Held = option.the_row drawing.the_row

-- what lies in the caller's room: a drawing, or none
abbrev pub owned : Ptr → Option DrawingState → Fml
owned at held = lies_at Held full_share at held

-- the room by itself
abbrev pub room : Ptr → Fml
room at = room_at Held at
