-- How the first walk is followed by what is known at places. No public clause cites this module.
use Rattle.std.specs.Prelude.{ℕ, ◌≡◌, ◌⊎◌, ◌-◌, ◌<◌, ◌≤◌, List, length, Option, Some, None, Contains, IfSome}
use Rattle.plane_geom.specs.declared.point.Dir.{Dir}
use Rattle.walk_model.specs.Order.{rank}
use Rattle.move_model.specs.Ahead.{nothing, with_stretch}
use Rattle.move_model.specs.Places.{IsMove}
use Rattle.search_problem.specs.declared.ends.Ending.{Ending}
use Rattle.search_problem.specs.declared.problem.Problem.{Problem}
use Rattle.route_search.specs.Known.{Knowledge}
use Rattle.route_search.specs.declared.follow.Move.{Move}
use Rattle.route_search.specs.declared.follow.Next.{Next}
use Rattle.route_search.specs.declared.follow.Next.TheVariants.{Stop, Go}
use Rattle.route_search.specs.declared.follow.Standing.{Standing}
use Rattle.route_search.specs.declared.follow.Tail.{Tail}

-- the first is shorter, or of the same length with no later choice
pub record IsNoLater (a b : Tail) : Type 0 where
  pub steps : a.steps ≤ b.steps
  pub end : a.steps ≡ b.steps → a.end ≤ b.end

-- there is such a tail if any exists, and it is an earliest one
pub record IsEarliest (P : Tail → Type 0) (best : Option Tail) : Type 0 where
  pub is : IfSome best P
  pub first : (b : Tail) → P b → (a : Tail) × (best ≡ Some a) × IsNoLater a b

-- a walk at this position may end with the stub of the ending, which leads in the direction
pub record MayEnd (p : Problem) (s : Standing) (d : Dir) (e : Ending) : Type 0 where
  pub stage : s.place.stage ≡ length p.task.now.via
  pub crossing : e.crossing ≡ s.place.crossing
  pub dir : e.dir ≡ d
  pub fits : with_stretch p.task.now.penalty s.place.heading (record { from = e.port; dir = d; steps = e.rest }) nothing ≡ s.ahead

-- with the tail the walk may end in the direction: it is the stub that the walk is on, or the stub of one of the endings
abbrev pub IsTailIn : Problem → Standing → Dir → List Ending → Tail → Type 0
IsTailIn p s d endings b =
    ((d ≡ s.place.heading) × (s.tail ≡ Some b))
    ⊎ ((e : Ending) × Contains endings e × MayEnd p s d e × (b ≡ record { steps = e.stub; end = e.choice }))

-- what is known in the direction is what is ahead of the walk here, and the move leads to a place of which is known what gives that
pub record IsMoveIn (p : Problem) (known : Knowledge) (s : Standing) (d : Dir) (m : Move) : Type 0 where
  pub move : IsMove p.arena.now p.task.now.via s.place m.steps m.to
  pub dir : m.to.heading ≡ d
  pub leads : known.towards s.place d ≡ Some s.ahead
  pub is_known : known.ahead m.to ≡ Some m.ahead
  pub fits : with_stretch p.task.now.penalty s.place.heading (record { from = move.begin; dir = d; steps = m.steps }) m.ahead ≡ s.ahead

-- no walk at this position continues in the direction
pub record IsNoneIn (p : Problem) (known : Knowledge) (s : Standing) (d : Dir) : Type 0 where
  pub tails : (b : Tail) → IsTailIn p s d p.endings.items b → ⊥
  pub moves : (m : Move) → IsMoveIn p known s d m → ⊥

-- it ends with the earliest tail, which is no longer than any move
pub record StopsIn (p : Problem) (known : Knowledge) (s : Standing) (d : Dir) (b : Tail) : Type 0 where
  pub tail : IsEarliest (IsTailIn p s d p.endings.items) (Some b)
  pub short : (m : Move) → IsMoveIn p known s d m → b.steps ≤ m.steps

-- what is left of the tail after n steps
abbrev pub left_after : ℕ → Option Tail → Option Tail
left_after n None = None
left_after n (Some b) = Some (record { steps = b.steps - n; end = b.end })

-- it continues by a move, along an earliest tail that is longer, if there is one
pub record GoesIn (p : Problem) (known : Knowledge) (s : Standing) (d : Dir) (after : Standing) : Type 0 where
  pub move : Move
  pub is_move : IsMoveIn p known s d move
  pub best : Option Tail
  pub tail : IsEarliest (IsTailIn p s d p.endings.items) best
  pub long : IfSome best (λ b. move.steps < b.steps)
  pub further : after ≡ record { place = move.to; ahead = move.ahead; tail = left_after move.steps best }

-- the earlier continuation where a walk may end with the tail or take the move, both in one direction
abbrev pub IsJoined : Option Tail → Option Move → Next → Type 0
IsJoined tail step (Stop b) = (tail ≡ Some b) × IfSome step (λ m. b.steps ≤ m.steps)
IsJoined tail step (Go further) =
    (m : Move) × (step ≡ Some m) × IfSome tail (λ b. m.steps < b.steps)
    × (further ≡ record { place = m.to; ahead = m.ahead; tail = left_after m.steps tail })

-- the first continuation in the direction of the walks at this position
abbrev pub IsNextIn : Problem → Knowledge → Standing → Dir → Next → Type 0
IsNextIn p known s d (Stop b) = StopsIn p known s d b
IsNextIn p known s d (Go further) = GoesIn p known s d further

-- and no walk continues in an earlier direction
pub record IsNext (p : Problem) (known : Knowledge) (s : Standing) (d : Dir) (n : Next) : Type 0 where
  pub next : IsNextIn p known s d n
  pub none_before : (e : Dir) → rank e < rank d → IsNoneIn p known s e
