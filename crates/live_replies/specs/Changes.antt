-- The lines that changed.
use Rattle.std.specs.Prelude.{ℕ, Bool, if◌then◌else◌, List, [], ◌∷◌, ◌++◌, map}
use Rattle.std.specs.List.{flat_map}
use Rattle.walk_model.specs.declared.route.WrittenRoute.{WrittenRoute}
use Rattle.drawing.specs.Changes.{Asked}
use Rattle.live_replies.specs.Texts.{drawn_text, gone_text}

-- a change of what a client knows: the connector has no line any more, or its line is this one
pub data Change : Type 0 where
  gone : ℕ → Change
  drawn : WrittenRoute → Change

-- the lines that changed, where of each is said whether it did
abbrev pub drawn_of : List WrittenRoute → List Bool → List Change
drawn_of [] changed = []
drawn_of (l ∷ lines) [] = []
drawn_of (l ∷ lines) (c ∷ changed) = if c then drawn l ∷ drawn_of lines changed else drawn_of lines changed

-- the changes: the connectors that are gone, and then the lines that changed
abbrev pub changes : Asked → List Change
changes a = map gone a.gone ++ drawn_of a.lines a.changed

-- a change as a line of a reply, and many of them
abbrev pub change_text : Change → List ℕ
change_text (gone edge) = gone_text edge
change_text (drawn l) = drawn_text l

abbrev pub changes_text : List Change → List ℕ
changes_text cs = flat_map change_text cs
