-- What the labels of a search say, and what they weigh. No public clause cites this module.
use Rattle.std.specs.Prelude.{ℕ, ◌≡◌, ◌≢◌, ◌+◌, ◌*◌, ◌^◌, ◌≤◌, [], length, sum_by, Option, Some, None, IfSome, Contains, All}
use Rattle.std.specs.BinaryHeap.{heap_items}
use Rattle.plane_geom.specs.declared.point.Point.{Point}
use Rattle.plane_geom.specs.declared.point.Dir.{Dir}
use Rattle.plane_geom.specs.declared.floor.Floor.{Floor}
use Rattle.line_arena.specs.Arena.{StandsAt}
use Rattle.walk_model.specs.Cost.{turn}
use Rattle.move_model.specs.declared.place.Place.{Place}
use Rattle.move_model.specs.Problems.{IsProblem}
use Rattle.proof_search.specs.Tables.{IsClear, label_of}
use Rattle.search_problem.specs.declared.ends.Entry.{Entry}
use Rattle.proof_search.specs.declared.label.Label.{Label}
use Rattle.proof_search.specs.declared.label.Label.TheVariants.{Absent, Open, Closed}
use Rattle.proof_search.specs.declared.label.Row.{Row}
use Rattle.search_problem.specs.declared.problem.Problem.{Problem}
use Rattle.proof_model.specs.declared.next.Next.{Next}
use Rattle.proof_model.specs.LeastLabels.{IsLabelReached}
use Rattle.proof_model.specs.Next.{IsNext, IsNoneNext}
use Rattle.proof_model.specs.Places as floors
use Rattle.proof_model.specs.Rules.{Suffices}
use Rattle.proof_search.specs.declared.labels.Labels.{Labels}
use Rattle.proof_search.specs.declared.scope.Scope.{Scope}
use Rattle.proof_search.specs.Scopes.{ComesBy, claim_of, most_of}

-- the place on the floor, whose crossing stands at the point
abbrev pub place_at : Place → Point → floors.Place
place_at x at = record { stage = x.stage; at = at; heading = x.heading }

-- the label of the place
abbrev pub label_at : Labels → Place → Label
label_at l x = label_of l.table x

-- the cost in the label, whether open or closed
abbrev pub cost_in : Label → Option ℕ
cost_in Absent = None
cost_in (Open v) = Some v.cost
cost_in (Closed v) = Some v.cost

abbrev pub cost_at : Labels → Place → Option ℕ
cost_at l x = cost_in (label_at l x)

-- the crossing of the place is there, and no more checkpoints are passed than there are
pub record IsPlace (p : Problem) (x : Place) : Type 0 where
  pub at : Point
  pub here : StandsAt p.arena.now x.crossing at
  pub stage : x.stage ≤ length p.task.now.via

-- on each floor of the problem this holds of the place there
abbrev pub OnFloors : Problem → (Floor → Type 0) → Type 0
OnFloors p holds = (floor : Floor) → IsProblem floor p.arena.now p.solids.now p.task.now → holds floor

-- a walk reaches the place at this cost
pub record IsComing (p : Problem) (s : Scope) (x : Place) (cost : ℕ) : Type 0 where
  pub at : Point
  pub here : StandsAt p.arena.now x.crossing at
  pub stage : x.stage ≤ length p.task.now.via
  pub comes : OnFloors p (λ floor. ComesBy s floor p.task.now (place_at x at) cost)

-- the label of the place is reached
pub record IsReachedAt (p : Problem) (s : Scope) (x : Place) (label : ℕ) : Type 0 where
  pub at : Point
  pub here : StandsAt p.arena.now x.crossing at
  pub stage : x.stage ≤ length p.task.now.via
  pub reached : OnFloors p (λ floor. IsLabelReached floor p.task.now (claim_of s) (place_at x at) label)

-- this was offered to the place: its label says no more, or it needs none
abbrev pub IsOffered : Scope → Labels → Place → ℕ → Type 0
IsOffered s l x cost = Suffices (claim_of s) (cost_at l x) cost

-- this is the next place in the direction, or there is none
abbrev pub IsNextIn : Problem → ℕ → Point → Dir → Option Next → Type 0
IsNextIn p stage at d None = OnFloors p (λ floor. IsNoneNext floor p.task.now stage at d)
IsNextIn p stage at d (Some n) = OnFloors p (λ floor. IsNext floor p.task.now stage at d n)

-- a walk that reached the place, which stands at the point, in the heading and at this cost was offered on to the next place
abbrev pub IsMoveOffered : Problem → Scope → Labels → Point → Dir → ℕ → Dir → Next → Type 0
IsMoveOffered p s l at heading cost d n =
    StandsAt p.arena.now n.place.crossing n.at × IsOffered s l n.place (cost + (n.steps + p.task.now.penalty * turn heading d))

-- the move in the direction, if there is one, was offered
pub record IsPropagatedIn (p : Problem) (s : Scope) (l : Labels) (x : Place) (at : Point) (cost : ℕ) (d : Dir) : Type 0 where
  pub next : Option Next
  pub is_next : IsNextIn p x.stage at d next
  pub offered : IfSome next (IsMoveOffered p s l at x.heading cost d)

-- all moves from the place were offered
abbrev pub IsPropagated : Problem → Scope → Labels → Place → ℕ → Type 0
IsPropagated p s l x cost = (at : Point) → StandsAt p.arena.now x.crossing at → (d : Dir) → IsPropagatedIn p s l x at cost d

-- the place has a candidate
abbrev pub IsQueued : Labels → Place → Type 0
IsQueued l x = (bound : ℕ) × Contains (heap_items l.queue.heap) (record { 0 = record { bound = bound; item = x } })

-- the table has rows for all places
pub record HasRooms (p : Problem) (l : Labels) : Type 0 where
  pub places : l.table.places ≡ p.arena.now.places
  pub rows : (length p.task.now.via + 1) * p.arena.now.places ≤ length l.table.rows.items

-- what holds of the labels between two steps of a search, but that one place may be open and not queued, and one closed and not passed on
pub record IsSearching (p : Problem) (s : Scope) (l : Labels) (unqueued unpropagated : Option Place) : Type 0 where
  pub small : most_of s ≤ 10 ^ 18
  pub reached : (x : Place) (v : ℕ) → cost_at l x ≡ Some v → IsReachedAt p s x v
  pub queued : (x : Place) (v : _) → Some x ≢ unqueued → label_at l x ≡ Open v → IsQueued l x
  pub propagated : (x : Place) (v : _) → Some x ≢ unpropagated → label_at l x ≡ Closed v → IsPropagated p s l x v.cost
  pub candidates : All (λ c. IsPlace p c.0.item) (heap_items l.queue.heap)
  pub rooms : HasRooms p l

-- labels have not risen
abbrev pub Falls : Scope → Labels → Labels → Type 0
Falls s old new = (x : Place) (cost : ℕ) → IsOffered s old x cost → IsOffered s new x cost

-- labels have not risen, and none was closed
pub record Spreads (s : Scope) (old new : Labels) : Type 0 where
  pub falls : Falls s old new
  pub closed : (x : Place) (v : _) → label_at new x ≡ Closed v → label_at old x ≡ Closed v

-- the entry was offered to its place
abbrev pub IsEntryOffered : Scope → Labels → Entry → Type 0
IsEntryOffered s l e = IsOffered s l e.place e.lead

-- what a label weighs: a lesser one weighs less, and none weighs most
abbrev pub label_weight : Scope → Label → ℕ
label_weight s Absent = most_of s
label_weight s (Open v) = v.cost
label_weight s (Closed v) = v.cost

abbrev pub row_weight : Scope → Row → ℕ
row_weight s r = label_weight s r.east + label_weight s r.south + label_weight s r.west + label_weight s r.north

-- what is still to be done at most: each candidate counts, and all that labels may still fall
abbrev pub weight : Scope → Labels → ℕ
weight s l = length (heap_items l.queue.heap) + sum_by (row_weight s) l.table.rows.items

-- all entries were offered, and all moves from labelled places
pub record IsSpread (p : Problem) (s : Scope) (l : Labels) : Type 0 where
  pub searching : IsSearching p s l None None
  pub entries : All (IsEntryOffered s l) p.entries.items
  pub closed : (x : Place) (v : _) → label_at l x ≡ Open v → ⊥

-- there is no label and no candidate
pub record AreNone (l : Labels) : Type 0 where
  pub table : IsClear l.table
  pub queue : heap_items l.queue.heap ≡ []
