-- Values under keys, and how values are read.
use Rattle.std.specs.Prelude.{ℕ, suc, ◌||◌, ℤ, pos, int_lt, unsigned_abs, Bool, true, false, List, [], ◌∷◌, length, slice_get, bytes_eq, Option, Some, None, option_and_then, Result, Ok, Err, if◌then◌else◌}
use Rattle.std.specs.List.{filter_map}
use Rattle.fixed_milli.specs.declared.milli.MilliFault.{MilliFault}
use Rattle.fixed_milli.specs.declared.milli.MilliFault.TheVariants.{NotNumber, OutOfRange}
use Rattle.fixed_milli.specs.Value.{read}
use Rattle.fixed_milli.specs.Whole.{read_whole}
use Rattle.gml_text.specs.Tree.{Content, number, text, list, Pairs, no_pairs, pair}

-- the pairs of a value that is a list
abbrev pub as_list : Content → Option Pairs
as_list (number bytes) = None
as_list (text bytes) = None
as_list (list inner) = Some inner

-- the value of the first pair with the key
abbrev pub value_at : List ℕ → Pairs → Option Content
value_at key no_pairs = None
value_at key (pair k value rest) = if bytes_eq k key then Some value else value_at key rest

-- the values of all pairs with the key, in order
abbrev pub values_at : List ℕ → Pairs → List Content
values_at key no_pairs = []
values_at key (pair k value rest) = if bytes_eq k key then value ∷ values_at key rest else values_at key rest

-- the lists among them
abbrev pub lists_at : List ℕ → Pairs → List Pairs
lists_at key pairs = filter_map as_list (values_at key pairs)

-- the first of these
abbrev pub list_at : List ℕ → Pairs → Option Pairs
list_at key pairs = slice_get (lists_at key pairs) 0

-- the values of all pairs, in order
abbrev pub values : Pairs → List Content
values no_pairs = []
values (pair k value rest) = value ∷ values rest

-- a list of the diagram that is a node or an edge: its place among the pairs of the graph, from 0, and its pairs
abbrev pub ListEntry : Type 0
ListEntry = ℕ × Pairs

-- this one first, if it is a list
abbrev pub with_entry : ℕ → Option Pairs → List ListEntry → List ListEntry
with_entry place None entries = entries
with_entry place (Some inner) entries = (place, inner) ∷ entries

-- the lists under the key with their places, of which that of the first pair is this one
abbrev pub entries_from : ℕ → List ℕ → Pairs → List ListEntry
entries_from place key no_pairs = []
entries_from place key (pair k value rest) =
    if bytes_eq k key then with_entry place (as_list value) (entries_from (suc place) key rest) else entries_from (suc place) key rest

-- a value in thousandths
abbrev pub milli_of : Content → Result ℤ MilliFault
milli_of (number bytes) = read bytes
milli_of (text bytes) = Err NotNumber
milli_of (list inner) = Err NotNumber

-- the number of a value; `NotNumber` if the value is missing
abbrev pub number_in : Option Content → Result ℤ MilliFault
number_in None = Err NotNumber
number_in (Some value) = milli_of value

-- the value is not a number, or is missing
abbrev pub is_no_number : Result ℤ MilliFault → Bool
is_no_number (Ok value) = false
is_no_number (Err OutOfRange) = false
is_no_number (Err NotNumber) = true

-- the number, if it is within the range of those that are read
abbrev pub in_range : Result ℤ MilliFault → Option ℤ
in_range (Ok value) = Some value
in_range (Err fault) = None

-- the number under the key, if there is one and it is within the range
abbrev pub exact_at : List ℕ → Pairs → Option ℤ
exact_at key pairs = in_range (number_in (value_at key pairs))

-- an id is a whole number of 1 to 18 digits
abbrev pub id_of : Content → Option ℤ
id_of (number bytes) = read_whole 18 bytes
id_of (text bytes) = None
id_of (list inner) = None

-- at least 0 and at most 65535
abbrev pub in_classes : ℤ → Option ℕ
in_classes value = if int_lt value (pos 0) || int_lt (pos 65535) value then None else Some (unsigned_abs value)

-- a class is a whole number of any number of digits whose value is one of these
abbrev pub class_of : Content → Option ℕ
class_of (number bytes) = option_and_then in_classes (read_whole (length bytes) bytes)
class_of (text bytes) = None
class_of (list inner) = None
