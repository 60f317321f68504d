-- Few of the links between runs, as rules. No public clause cites this module.
use Rattle.std.specs.Prelude.{◌≡◌, ◌≢◌, ◌⊎◌, ℕ, min, ◌<◌, ◌≤◌, ℤ, ◌≤ℤ◌, Bool, false, true, Option, Some, None, List, [], ◌∷◌, ◌++◌, length, All, AllPairs, Contains, slice_index}
use Rattle.separation_model.specs.declared.bundle.Rule.{Rule}
use Rattle.separation_model.specs.Bundle.{rule_at}
use Rattle.channel_bundles.specs.declared.member.Member.{Member}
use Rattle.channel_bundles.specs.Groups.{AreNext, AreTogether}
use Rattle.channel_bundles.specs.Links.{IsLink, link, member_at}

-- the run may move, covers the range of the other one, and its upper limit is no lower
pub record Hides (m other : Member) : Type 0 where
  pub movable : m.fixed ≡ false
  pub from : m.run.lo ≤ℤ other.run.lo
  pub to : other.run.hi ≤ℤ m.run.hi
  pub high : other.high ≤ℤ m.high

-- the rule stands for a link between the runs
pub record IsLinkRule (nudge : ℤ) (members : List Member) (r : Rule) : Type 0 where
  pub forward : r.left < r.right
  pub within : r.right < length members
  pub linked : link nudge (member_at members r.left) (member_at members r.right) ≡ Some r.spaced

abbrev pub rule_of : ℕ → ℕ → Bool → Rule
rule_of i j spaced = record { left = i; right = j; spaced = spaced }

-- spaced links lead from the run at i to a middle, and from there to the run at j
pub record HasMiddleLink (nudge : ℤ) (members : List Member) (i j : ℕ) : Type 0 where
  pub middle : ℕ
  pub left : IsLinkRule nudge members (rule_of i middle true)
  pub right : IsLinkRule nudge members (rule_of middle j true)

-- the rule is kept, or its ends have a middle
abbrev pub IsKeptOr : ℤ → List Member → List Rule → Rule → Type 0
IsKeptOr nudge members rules r = Contains rules r ⊎ HasMiddleLink nudge members r.left r.right

-- by the left items, and then by the right ones
abbrev pub IsBefore : Rule → Rule → Type 0
IsBefore r s = (r.left < s.left) ⊎ ((r.left ≡ s.left) × (r.right < s.right))

-- rules of links in their order, such that each link is kept or has a middle
pub record AreKept (nudge : ℤ) (members : List Member) (rules : List Rule) : Type 0 where
  pub each : All (IsLinkRule nudge members) rules
  pub rise : AllPairs IsBefore rules
  pub whole : (r : Rule) → IsLinkRule nudge members r → IsKeptOr nudge members rules r

-- new rules of links from the run at the place, appended in their order; each link from it is kept or has a middle
pub record AreKeptFrom (nudge : ℤ) (members : List Member) (old : List Rule) (at : ℕ) (new : List Rule) : Type 0 where
  pub own : List Rule
  pub is : new ≡ old ++ own
  pub left : All (λ r. r.left ≡ at) own
  pub each : All (IsLinkRule nudge members) own
  pub rise : AllPairs (λ r s. r.right < s.right) own
  pub whole : (r : Rule) → IsLinkRule nudge members r → r.left ≡ at → IsKeptOr nudge members own r

-- the spaced rule leads to a run from which a spaced link leads to the later one
pub record LeadsTowards (nudge : ℤ) (members : List Member) (later : ℕ) (r : Rule) : Type 0 where
  pub spaced : r.spaced ≡ true
  pub linked : link nudge (member_at members r.right) (member_at members later) ≡ Some true

-- what became of the link from the run to the later one: there is none, its rule was appended, or a rule from `first` on leads to a middle
pub data IsTried (nudge : ℤ) (members : List Member) (first at later : ℕ) (old new : List Rule) : Type 0 where
  unlinked : link nudge (member_at members at) (member_at members later) ≡ None → new ≡ old → IsTried nudge members first at later old new
  kept : (s : Bool) → link nudge (member_at members at) (member_at members later) ≡ Some s → new ≡ old ++ rule_of at later s ∷ [] → IsTried nudge members first at later old new
  left_out : (k : ℕ) → first ≤ k → k < length old → LeadsTowards nudge members later (rule_at old k) → new ≡ old → IsTried nudge members first at later old new

-- a spaced link leads from the run to the later one, which hides it
pub record IsHidden (nudge : ℤ) (members : List Member) (at later : ℕ) : Type 0 where
  pub linked : link nudge (member_at members at) (member_at members later) ≡ Some true
  pub hides : Hides (member_at members later) (member_at members at)

-- if it is closed, the later run hides the run, and its edge is not the one noted before; the edge noted stays, or becomes that of the later run, which hides it
pub record IsClosing (nudge : ℤ) (members : List Member) (at later : ℕ) (hider : Option ℕ) (closed : Bool) (now : Option ℕ) : Type 0 where
  pub hidden : closed ≡ true → IsHidden nudge members at later
  pub other : closed ≡ true → (edge : ℕ) × (hider ≡ Some edge) × (edge ≢ (member_at members later).run.edge)
  pub kept : (now ≡ hider) ⊎ ((now ≡ Some (member_at members later).run.edge) × IsHidden nudge members at later)

-- the next run of a group to try, now that `later` was tried
pub record IsPast (next : List ℕ) (ahead later result : ℕ) : Type 0 where
  pub moved : ahead ≡ later → result ≡ slice_index next later
  pub same : ahead ≢ later → result ≡ ahead

-- the least of three numbers
abbrev pub nearest : ℕ → ℕ → ℕ → ℕ
nearest channel early late = min (min channel early) late

-- next runs of three kinds of groups: linked runs of different edges share a group of the first kind, those of one edge one of the second or third
pub record LeadOn (nudge : ℤ) (members : List Member) (channel early late : List ℕ) : Type 0 where
  pub channels : List ℕ
  pub earlies : List ℕ
  pub lates : List ℕ
  pub all : length channels ≡ length members
  pub all_early : length earlies ≡ length members
  pub all_late : length lates ≡ length members
  pub is_channel : AreNext channels channel
  pub is_early : AreNext earlies early
  pub is_late : AreNext lates late
  pub apart : (i j : ℕ) → IsLink nudge members i j → (member_at members i).run.edge ≢ (member_at members j).run.edge → AreTogether channels i j
  pub same : (i j : ℕ) → IsLink nudge members i j → (member_at members i).run.edge ≡ (member_at members j).run.edge → AreTogether earlies i j ⊎ AreTogether lates i j
