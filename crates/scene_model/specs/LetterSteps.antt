-- Directions read letter by letter. No public clause cites this module.
use Rattle.std.specs.Prelude.{ℕ, ◌==◌, ◌&&◌, true, not, List, [], ◌∷◌, Option, Some, None, option_and_then, if◌then◌else◌}
use Rattle.scene_model.specs.declared.pin.Dirs.{Dirs}

-- the directions with that of the letter added, if it has one that is not among them yet
abbrev pub with_letter : Dirs → ℕ → Option Dirs
with_letter d l =
    if l == 69 && not d.east then Some (record d { east = true })
    else if l == 83 && not d.south then Some (record d { south = true })
    else if l == 87 && not d.west then Some (record d { west = true })
    else if l == 78 && not d.north then Some (record d { north = true }) else None

-- the same for letter after letter
abbrev pub with_letters : Dirs → List ℕ → Option Dirs
with_letters d [] = Some d
with_letters d (l ∷ ls) = option_and_then (λ e. with_letters e ls) (with_letter d l)
