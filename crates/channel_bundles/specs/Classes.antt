-- Numbers that links join, and the classes of them.
use Rattle.std.specs.Prelude.{◌≡◌, ◌↔◌, ◌⊎◌, ℕ, ◌<◌, ◌≤◌, Bool, List, map, length, All, slice_index, Contains, EachIndex}
use Rattle.separation_model.specs.declared.bundle.Rule.{Rule}

-- links lead from the first number to the second, each forward or back
pub data Connected (linked : ℕ → ℕ → Type 0) : ℕ → ℕ → Type 0 where
  same : (i : ℕ) → Connected linked i i
  onward : (i j k : ℕ) → Connected linked i j → linked j k → Connected linked i k
  back : (i j k : ℕ) → Connected linked i j → linked k j → Connected linked i k

-- a rule of the list leads from the first item to the second
pub record HasRule (rules : List Rule) (i j : ℕ) : Type 0 where
  pub spaced : Bool
  pub has : Contains rules (record { left = i; right = j; spaced = spaced })

-- numbers that rise
abbrev pub Rise : List ℕ → Type 0
Rise places = (m n : ℕ) → m < n → n < length places → slice_index places m < slice_index places n

-- the numbers below `count` in their classes: those of a class rise, and the classes by their first numbers
pub record AreClasses (connected : ℕ → ℕ → Type 0) (count : ℕ) (classes : List (List ℕ)) : Type 0 where
  pub within : All (All (λ i. i < count)) classes
  pub some : All (λ places. 0 < length places) classes
  pub rising : All Rise classes
  pub firsts : Rise (map (λ places. slice_index places 0) classes)
  pub whole : (i : ℕ) → i < count → (places : List ℕ) × Contains classes places × Contains places i
  pub linked : (places : List ℕ) (i j : ℕ) → Contains classes places → Contains places i → j < count → (Contains places j ↔ connected i j)

-- a forest, given by the number above each number: itself, or a smaller one
abbrev pub IsForest : List ℕ → Type 0
IsForest above = EachIndex above (λ k. slice_index above k ≤ k)

-- the second number is above the first
abbrev pub LeadsUp : List ℕ → ℕ → ℕ → Type 0
LeadsUp above i j = (i < length above) × (slice_index above i ≡ j)

-- the same, or the two are a and b
abbrev pub LeadsUpOr : List ℕ → ℕ → ℕ → ℕ → ℕ → Type 0
LeadsUpOr above a b i j = LeadsUp above i j ⊎ ((i ≡ a) × (j ≡ b))

-- the number above a number is connected to it by the links
abbrev pub FollowsLinks : (ℕ → ℕ → Type 0) → List ℕ → Type 0
FollowsLinks linked above = (i j : ℕ) → LeadsUp above i j → Connected linked i j

-- each number below `count` has the number of its tree, and each tree its root: the trees are numbered by their roots
pub record AreTreeNumbers (above : List ℕ) (count : ℕ) (roots numbers : List ℕ) : Type 0 where
  pub all : length numbers ≡ count
  pub within : (k : ℕ) → k < count → slice_index numbers k < length roots
  pub up : (k : ℕ) → k < count → slice_index numbers (slice_index above k) ≡ slice_index numbers k
  pub to_root : (k : ℕ) → k < count → Connected (LeadsUp above) k (slice_index roots (slice_index numbers k))
  pub not_before : (k : ℕ) → k < count → slice_index roots (slice_index numbers k) ≤ k
  pub roots_within : (m : ℕ) → m < length roots → slice_index roots m < count
  pub own : (m : ℕ) → m < length roots → slice_index numbers (slice_index roots m) ≡ m
  pub rise : Rise roots
