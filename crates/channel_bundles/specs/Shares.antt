-- How rules are shared out among classes. No public clause cites this module.
use Rattle.std.specs.Prelude.{◌≡◌, ℕ, ◌<◌, ◌==◌, ℤ, Bool, List, [], ◌++◌, length, map, slice_index, slice_index_or}
use Rattle.std.specs.List.{filter}
use Rattle.separation_model.specs.declared.bundle.Rule.{Rule}
use Rattle.channel_bundles.specs.declared.member.Member.{Member}
use Rattle.channel_bundles.specs.declared.channel.RunBundle.{RunBundle}
use Rattle.channel_bundles.specs.declared.forest.Seat.{Seat}
use Rattle.channel_bundles.specs.Links.{item_of}

-- the seat of the number
abbrev pub seat_at : List Seat → ℕ → Seat
seat_at seats i = slice_index_or seats i (record { class = 0; place = 0 })

-- each of `count` numbers has a seat, which says where it is among the classes
pub record AreSeats (count : ℕ) (classes : List (List ℕ)) (seats : List Seat) : Type 0 where
  pub all : length seats ≡ count
  pub own : (k p : ℕ) → k < length classes → p < length (slice_index_or classes k []) → seat_at seats (slice_index (slice_index_or classes k []) p) ≡ record { class = k; place = p }

-- the ends of the rule are below the count
pub record IsWithin (count : ℕ) (r : Rule) : Type 0 where
  pub left : r.left < count
  pub right : r.right < count

-- whether the rule is one of the class
abbrev pub is_of_class : List Seat → ℕ → Rule → Bool
is_of_class seats k r = (seat_at seats r.left).class == k

-- the rule between the places of its items in their class
abbrev pub own_rule : List Seat → Rule → Rule
own_rule seats r = record { left = (seat_at seats r.left).place; right = (seat_at seats r.right).place; spaced = r.spaced }

-- the rules of the class, in their order
abbrev pub share_of : List Seat → ℕ → List Rule → List Rule
share_of seats k rules = map (own_rule seats) (filter (is_of_class seats k) rules)

-- the bundle has these runs, and these rules
pub record IsBundleWith (nudge : ℤ) (ms : List Member) (own : List Rule) (b : RunBundle) : Type 0 where
  pub items : b.bundle.items.items ≡ map item_of ms
  pub rules : b.bundle.rules.items ≡ own
  pub wanted : b.bundle.wanted ≡ nudge
  pub runs : b.runs.items ≡ map (λ m. m.run) ms

-- the bundle after the rules were added
pub record IsGiven (more : List Rule) (old new : RunBundle) : Type 0 where
  pub items : new.bundle.items.items ≡ old.bundle.items.items
  pub rules : new.bundle.rules.items ≡ old.bundle.rules.items ++ more
  pub wanted : new.bundle.wanted ≡ old.bundle.wanted
  pub runs : new.runs.items ≡ old.runs.items
