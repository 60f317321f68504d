-- Two lists of answers that differ at some places. No public clause cites this module.
use Rattle.std.specs.Prelude.{◌≡◌, ◌≢◌, ℕ, ◌<◌, List, length, slice_index_or}
use Rattle.walk_model.specs.declared.route.Answer.{Answer}

-- the lists differ at most at the places, which rise, and there the other list has the answers that are away
pub record Differ (here there : List Answer) (places : List ℕ) (away : List Answer) : Type 0 where
  pub same_length : length there ≡ length here
  pub many : length away ≡ length places
  pub rising : (i j : ℕ) → i < j → j < length places → slice_index_or places i 0 < slice_index_or places j 0
  pub within : (j : ℕ) → j < length places → slice_index_or places j 0 < length here
  pub at : (j : ℕ) (d : Answer) → j < length places → slice_index_or there (slice_index_or places j 0) d ≡ slice_index_or away j d
  pub others : (i : ℕ) (d : Answer) → ((j : ℕ) → j < length places → slice_index_or places j 0 ≢ i) → slice_index_or there i d ≡ slice_index_or here i d
