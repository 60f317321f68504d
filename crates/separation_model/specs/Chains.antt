-- Rules that follow from chains of other rules.
use Rattle.std.specs.Prelude.{◌≡◌, ◌⊎◌, ℕ, ◌<◌, Bool, true, false, List, length, All, Contains}
use Rattle.separation_model.specs.declared.bundle.Rule.{Rule}
use Rattle.separation_model.specs.declared.bundle.Bundle.{Bundle}
use Rattle.separation_model.specs.Bundle.{rule_at}

-- a chain of rules leads from the first item to the second; true: at least one of them is spaced
pub data Leads (rules : List Rule) : ℕ → ℕ → Bool → Type 0 where
  one : (k : ℕ) → k < length rules → Leads rules (rule_at rules k).left (rule_at rules k).right (rule_at rules k).spaced
  weaker : (i j : ℕ) → Leads rules i j true → Leads rules i j false
  first : (i k j : ℕ) (s : Bool) → Leads rules i k s → Leads rules k j false → Leads rules i j s
  last : (i k j : ℕ) (s : Bool) → Leads rules i k false → Leads rules k j s → Leads rules i j s

-- the few are some of all, and lead from the left item of each of all to its right one, with a spaced one if it is spaced
pub record IsReduced (all few : List Rule) : Type 0 where
  pub kept : All (Contains all) few
  pub led : All (λ r. Leads few r.left r.right r.spaced) all

-- the same items and wanted gap, with some of the rules, which stand for all
pub record IsReducedBundle (b few : Bundle) : Type 0 where
  pub items : few.items.items ≡ b.items.items
  pub wanted : few.wanted ≡ b.wanted
  pub rules : IsReduced b.rules.items few.rules.items

-- a spaced rule of all leads from the first item to the second
abbrev pub HasSpaced : List Rule → ℕ → ℕ → Type 0
HasSpaced all i j = Contains all (record { left = i; right = j; spaced = true })

-- a rule has a middle: spaced rules of all, kept or not, lead from its left item to another one, and from there to its right one
pub record HasMiddle (all : List Rule) (r : Rule) : Type 0 where
  pub middle : ℕ
  pub left : HasSpaced all r.left middle
  pub right : HasSpaced all middle r.right

-- the few are some of all, and each of all is kept or has a middle
pub record HaveMiddles (all few : List Rule) : Type 0 where
  pub kept : All (Contains all) few
  pub each : All (λ r. Contains few r ⊎ HasMiddle all r) all
