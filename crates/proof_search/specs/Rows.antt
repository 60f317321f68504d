-- The rows of labels that a search writes. No public clause cites this module.
use Rattle.std.specs.Prelude.{ℕ, zero, suc, ◌||◌, Bool, List, [], ◌++◌, map, filter, is_some}
use Rattle.plane_geom.specs.declared.point.Dir.{Dir}
use Rattle.plane_geom.specs.declared.point.Dir.TheVariants.{East, South, West, North}
use Rattle.move_model.specs.declared.place.Place.{Place}
use Rattle.proof_model.specs.declared.proof.LabelRow.{LabelRow}
use Rattle.proof_search.specs.declared.labels.Labels.{Labels}
use Rattle.proof_search.specs.declared.spots.Spot.{Spot}
use Rattle.proof_search.specs.Search.{cost_at}

-- the place at the spot
abbrev pub place_of : ℕ → Spot → Dir → Place
place_of stage s heading = record { crossing = s.crossing; stage = stage; heading = heading }

-- the row of the spot in the stage
abbrev pub row_at : Labels → ℕ → Spot → LabelRow
row_at l stage s = record {
  stage = stage;
  at = s.at;
  east = cost_at l (place_of stage s East);
  south = cost_at l (place_of stage s South);
  west = cost_at l (place_of stage s West);
  north = cost_at l (place_of stage s North);
}

-- whether the row has a label
abbrev pub has_label : LabelRow → Bool
has_label r = is_some r.east || (is_some r.south || (is_some r.west || is_some r.north))

-- the rows of the stage that have labels
abbrev pub rows_in : Labels → ℕ → List Spot → List LabelRow
rows_in l stage spots = filter has_label (map (row_at l stage) spots)

-- the rows of the first stages that have labels
abbrev pub rows_upto : Labels → ℕ → List Spot → List LabelRow
rows_upto l zero spots = []
rows_upto l (suc k) spots = rows_upto l k spots ++ rows_in l k spots
