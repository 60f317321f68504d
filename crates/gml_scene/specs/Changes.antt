-- Changes of a list of pairs.
use Rattle.std.specs.Prelude.{ℕ, suc, ◌&&◌, Bool, true, false, List, [], ◌∷◌, bytes_eq, Option, Some, None, option_map, if◌then◌else◌}
use Rattle.gml_text.specs.Tree.{Content, number, text, list, Pairs, no_pairs, pair, ◌then◌}

-- this pair alone
abbrev pub one : List ℕ → Content → Pairs
one key value = pair key value no_pairs

-- the pairs of each, one after the other
abbrev pub all_of : {X : Type 0} → (X → Pairs) → List X → Pairs
all_of f [] = no_pairs
all_of f (x ∷ xs) = f x then all_of f xs

-- the first pair of the key has this value; if there is none, one is appended
abbrev pub put : List ℕ → Content → Pairs → Pairs
put key value no_pairs = one key value
put key value (pair k v rest) = if bytes_eq k key then pair k value rest else pair k v (put key value rest)

-- no pair of the key is left
abbrev pub without : List ℕ → Pairs → Pairs
without key no_pairs = no_pairs
without key (pair k v rest) = if bytes_eq k key then without key rest else pair k v (without key rest)

-- the first pair of the key has this value, and no further one is left; if there is none, one is appended
abbrev pub put_only : List ℕ → Content → Pairs → Pairs
put_only key value no_pairs = one key value
put_only key value (pair k v rest) = if bytes_eq k key then pair k value (without key rest) else pair k v (put_only key value rest)

-- the value is a list
abbrev pub is_list : Content → Bool
is_list (list inner) = true
is_list (number bytes) = false
is_list (text bytes) = false

-- the pairs of a value that is a list are changed
abbrev pub change_inside : (Pairs → Pairs) → Content → Content
change_inside change (list inner) = list (change inner)
change_inside change (number bytes) = number bytes
change_inside change (text bytes) = text bytes

-- the place, from 0, of the first pair of the key whose value is a list
abbrev pub list_place : List ℕ → Pairs → Option ℕ
list_place key no_pairs = None
list_place key (pair k v rest) = if bytes_eq k key && is_list v then Some 0 else option_map suc (list_place key rest)

-- the list in the first pair of the key that has one is changed
abbrev pub change_list : List ℕ → (Pairs → Pairs) → Pairs → Pairs
change_list key change no_pairs = no_pairs
change_list key change (pair k v rest) = if bytes_eq k key && is_list v then pair k (change_inside change v) rest else pair k v (change_list key change rest)
