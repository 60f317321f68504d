-- Groups of runs, by which runs without a link are parted. No public clause cites this module.
use Rattle.std.specs.Prelude.{◌≡◌, ◌≢◌, ℕ, ◌+◌, ◌/◌, ◌<◌, ℤ, pos, ◌+ℤ◌, ◌<ℤ◌, List, length, All, slice_index}
use Rattle.channel_bundles.specs.declared.member.Member.{Member}
use Rattle.channel_bundles.specs.declared.groups.By.{By}
use Rattle.channel_bundles.specs.declared.groups.By.TheVariants.{Limits, Ranges, Edges, Fours, LaterFours}
use Rattle.channel_bundles.specs.declared.groups.Span.{Span}
use Rattle.channel_bundles.specs.Links.{member_at}

-- where what a run takes up begins
abbrev pub begin_of : By → Member → ℤ
begin_of Limits m = m.low
begin_of Ranges m = m.run.lo
begin_of Edges m = pos m.run.edge
begin_of Fours m = pos (m.run.place / 2 / 2)
begin_of LaterFours m = pos ((m.run.place / 2 + 1) / 2)

-- where it ends
abbrev pub end_of : By → ℤ → Member → ℤ
end_of Limits nudge m = (m.high +ℤ nudge) +ℤ pos 1
end_of Ranges nudge m = m.run.hi
end_of Edges nudge m = pos m.run.edge +ℤ pos 1
end_of Fours nudge m = pos (m.run.place / 2 / 2) +ℤ pos 1
end_of LaterFours nudge m = pos ((m.run.place / 2 + 1) / 2) +ℤ pos 1

-- what the run at the place takes up in its group
abbrev pub span_at : By → ℤ → List Member → List ℕ → ℕ → Span
span_at by nudge members groups k = record { group = slice_index groups k; lo = begin_of by (member_at members k); hi = end_of by nudge (member_at members k); place = k }

-- two spans of one group, each of which begins before the other ends
pub record Meet (a b : Span) : Type 0 where
  pub group : a.group ≡ b.group
  pub before : a.lo <ℤ b.hi
  pub behind : b.lo <ℤ a.hi

-- the group and the place are below the number of all runs
pub record IsSpan (count : ℕ) (s : Span) : Type 0 where
  pub group : s.group < count
  pub place : s.place < count

-- the two places are in one group
abbrev pub AreTogether : List ℕ → ℕ → ℕ → Type 0
AreTogether groups i j = slice_index groups i ≡ slice_index groups j

-- each of `count` places has its group, and there are at most so many
pub record AreGroups (count : ℕ) (groups : List ℕ) : Type 0 where
  pub all : length groups ≡ count
  pub within : All (λ g. g < count) groups

-- for each place the next one of its group, otherwise a number past the end
pub record AreNext (groups next : List ℕ) : Type 0 where
  pub count : length next ≡ length groups
  pub after : (i : ℕ) → i < length groups → i < slice_index next i
  pub own : (i : ℕ) → i < length groups → slice_index next i < length groups → AreTogether groups (slice_index next i) i
  pub none : (i j : ℕ) → i < j → j < slice_index next i → j < length groups → slice_index groups j ≢ slice_index groups i
