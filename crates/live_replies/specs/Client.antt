-- What a client knows that applies the changes that are reported to it.
use Rattle.std.specs.Prelude.{◌≡◌, ℕ, ◌==◌, not, List, [], ◌∷◌, filter}
use Rattle.walk_model.specs.declared.route.WrittenRoute.{WrittenRoute}
use Rattle.scene_model.specs.Valid.{IsValid}
use Rattle.session_model.specs.State.{State}
use Rattle.drawing.specs.Changes.{asked_of, line_of}
use Rattle.drawing.specs.Lines.{AreDrawn}
use Rattle.live_replies.specs.Changes.{Change, gone, drawn, changes}

-- these lines without the connector's
abbrev pub without : ℕ → List WrittenRoute → List WrittenRoute
without edge lines = filter (λ l. not (l.edge == edge)) lines

-- what a client knows after a change: a line that is drawn takes the place of an earlier one
abbrev pub with_change : List WrittenRoute → Change → List WrittenRoute
with_change lines (gone edge) = without edge lines
with_change lines (drawn l) = l ∷ without l.edge lines

-- what it knows after many changes
abbrev pub applied : List WrittenRoute → List Change → List WrittenRoute
applied lines [] = lines
applied lines (c ∷ cs) = applied (with_change lines c) cs

-- the client knows these lines: the same line of each connector, and none of one that has none
abbrev pub Knows : List WrittenRoute → List WrittenRoute → Type 0
Knows client lines = (edge : ℕ) → line_of client edge ≡ line_of lines edge

-- the law: a client that knows the lines before, and applies the changes, knows the lines of the session
abbrev pub ChangesKeepClients : Type 0
ChangesKeepClients = (s : State) (client before after : List WrittenRoute) →
    IsValid s.world.present → AreDrawn s.world.present s.book after → Knows client before → Knows (applied client (changes (asked_of before after))) after
