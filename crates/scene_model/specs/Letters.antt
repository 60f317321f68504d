-- Directions as letters.
use Rattle.std.specs.Prelude.{ℕ, ◌==◌, ◌&&◌, Bool, true, not, nat_lt, List, [], ◌∷◌, ◌++◌, length, codes, Option, Some, None, if◌then◌else◌}
use Rattle.std.specs.List.{list_any, list_all}
use Rattle.scene_model.specs.declared.pin.Dirs.{Dirs}

-- the letter is among the letters
abbrev pub has_letter : ℕ → List ℕ → Bool
has_letter letter letters = list_any (λ l. l == letter) letters

-- no letter occurs twice
abbrev pub are_different : List ℕ → Bool
are_different [] = true
are_different (l ∷ ls) = not (has_letter l ls) && are_different ls

-- the directions that are spelled by one to four different letters of E, S, W, N
abbrev pub dirs_of : List ℕ → Option Dirs
dirs_of letters =
    if nat_lt 0 (length letters) && (list_all (λ l. has_letter l (codes "ESWN")) letters && are_different letters)
    then Some (record { east = has_letter 69 letters; south = has_letter 83 letters; west = has_letter 87 letters; north = has_letter 78 letters })
    else None

-- the directions as letters, in the order E, S, W, N
abbrev pub letters : Dirs → List ℕ
letters d =
    (if d.east then codes "E" else []) ++ ((if d.south then codes "S" else []) ++ ((if d.west then codes "W" else []) ++ (if d.north then codes "N" else [])))
