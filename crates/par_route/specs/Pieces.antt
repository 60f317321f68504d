-- How a list is cut into pieces, and the result of a piece of tasks.
use Rattle.std.specs.Prelude.{◌≡◌, ℕ, ◌+◌, ◌/◌, ◌%◌, ◌<◌, ◌≤◌, List, [], Result, Ok, Err, Option, if◌then◌else◌, nat_lt, length, slice_index_or}
use Rattle.std.specs.List.{flat_map}
use Rattle.std.specs.declared.alloc.AllocError.{AllocError}
use Rattle.plane_geom.specs.declared.rect.Solid.{Solid}
use Rattle.walk_model.specs.declared.task.Task.{Task}
use Rattle.walk_model.specs.declared.route.Route.{Route}
use Rattle.line_arena.specs.Count.{counted_by}
use Rattle.par_route.specs.declared.pieces.Piece.{Piece}
use Rattle.par_route.specs.declared.pieces.Searched.{Searched}
use Rattle.par_route.specs.Routes.{AreAnswers}

-- the items of all pieces, in order
abbrev pub all_items : {T : Type 0} → List (Piece T) → List T
all_items pieces = flat_map (λ p. p.items.now) pieces

-- the number of items in the piece with this place, from 0, of `count` pieces
abbrev pub piece_length : ℕ → ℕ → ℕ → ℕ
piece_length items count place = items / count + (if nat_lt place (items % count) then 1 else 0)

-- the items are cut in order, into `many` pieces with numbers from 1; longer pieces come first, by one item at most
pub record AreCut {T : Type 0} (all : List T) (many : ℕ) (pieces : List (Piece T)) : Type 0 where
  pub count : length pieces ≡ many
  pub items : all_items pieces ≡ all
  pub numbers : (i : ℕ) (d : Piece T) → i < length pieces → (slice_index_or pieces i d).number ≡ i + 1
  pub longer_first : (i j : ℕ) (d : Piece T) → i < j → j < length pieces → length (slice_index_or pieces j d).items.now ≤ length (slice_index_or pieces i d).items.now
  pub even : (i j : ℕ) (d : Piece T) → i < j → j < length pieces → length (slice_index_or pieces i d).items.now ≤ length (slice_index_or pieces j d).items.now + 1

-- the piece has its right answers, and its tally one search for each
pub record IsSearched (solids : List Solid) (piece : Piece Task) (searched : Searched) : Type 0 where
  pub answers : AreAnswers solids piece.items.now searched.answers.items
  pub tally : searched.tally ≡ counted_by (length piece.items.now) 0

-- the result of a piece and the number of its searches, unless out of memory
abbrev pub answers_in : Result Searched AllocError → List (Option Route)
answers_in (Ok s) = s.answers.items
answers_in (Err e) = []

abbrev pub searches_in : Result Searched AllocError → ℕ
searches_in (Ok s) = s.tally
searches_in (Err e) = 0
