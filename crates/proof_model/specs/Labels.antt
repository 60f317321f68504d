-- Rows of labels, and the label of a place.
use Rattle.std.specs.Prelude.{ℕ, ◌==◌, ◌&&◌, ◌||◌, Bool, int_lt, nat_lt, List, [], ◌∷◌, Option, None, if◌then◌else◌}
use Rattle.std.specs.Ordering.{int_eq}
use Rattle.plane_geom.specs.declared.point.Dir.{Dir}
use Rattle.plane_geom.specs.declared.point.Dir.TheVariants.{East, South, West, North}
use Rattle.proof_model.specs.declared.proof.LabelRow.{LabelRow}
use Rattle.proof_model.specs.Places.{Place}

-- the label of the heading in the row
abbrev pub label_in : LabelRow → Dir → Option ℕ
label_in r East = r.east
label_in r South = r.south
label_in r West = r.west
label_in r North = r.north

-- whether the row is that of the place's crossing and stage
abbrev pub is_row_of : LabelRow → Place → Bool
is_row_of r x = r.stage == x.stage && int_eq r.at.x x.at.x && int_eq r.at.y x.at.y

-- the label of the place, if it has one: that in the first row of its crossing and stage
abbrev pub label_of : List LabelRow → Place → Option ℕ
label_of [] x = None
label_of (r ∷ rs) x = if is_row_of r x then label_in r x.heading else label_of rs x

-- whether the one row stands before the other: by stage, then y, then x
abbrev pub is_before : LabelRow → LabelRow → Bool
is_before a b =
    nat_lt a.stage b.stage
    || (a.stage == b.stage && (int_lt a.at.y b.at.y || (int_eq a.at.y b.at.y && int_lt a.at.x b.at.x)))
