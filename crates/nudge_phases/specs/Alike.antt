-- Bundles with the same contents.
use Rattle.std.specs.Prelude.{◌≡◌, ℕ, ◌<◌, List, length, slice_index_or}
use Rattle.channel_bundles.specs.declared.channel.RunBundle.{RunBundle}

-- the bundles have the same items, rules, wanted gap and runs
pub record IsAlike (a b : RunBundle) : Type 0 where
  pub items : a.bundle.items.items ≡ b.bundle.items.items
  pub rules : a.bundle.rules.items ≡ b.bundle.rules.items
  pub wanted : a.bundle.wanted ≡ b.bundle.wanted
  pub runs : a.runs.items ≡ b.runs.items

-- the lists have the same length, and their bundles have the same contents one by one
pub record AreAlike (found others : List RunBundle) : Type 0 where
  pub count : length found ≡ length others
  pub each : (k : ℕ) (d : RunBundle) → k < length found → IsAlike (slice_index_or found k d) (slice_index_or others k d)
