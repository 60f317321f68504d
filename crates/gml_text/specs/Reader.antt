-- The reader's fields as a state. No public clause cites this module.
use Rattle.std.specs.Prelude.{List, map, reverse}
use Rattle.gml_text.specs.View.{pairs}
use Rattle.gml_text.specs.Reading.{between, Frame, State}
use Rattle.gml_text.specs.Standing.{gap_state}
use Rattle.gml_text.specs.declared.reader.OpenList.{OpenList}
use Rattle.gml_text.specs.declared.reader.Reader.{Reader}

abbrev pub frame_of : OpenList → Frame
frame_of o = record { key = o.key; before = pairs o.before.items }

-- the innermost list is the last in the vector
abbrev pub frames : List OpenList → List Frame
frames lists = reverse (map frame_of lists)

-- the state of a reader between two pairs, as a value
abbrev pub state_of : Reader → State
state_of r = gap_state between (frames r.lists.items) (pairs r.pairs.items)
