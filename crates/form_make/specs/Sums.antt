-- The sums over the answers of a scene.
use Rattle.std.specs.Prelude.{◌≡◌, ℕ, List, length, filter, Option, None, Some, is_some, is_none}
use Rattle.std.specs.List.{sum_by, AllZip}
use Rattle.walk_model.specs.declared.route.Answer.{Answer}
use Rattle.walk_model.specs.declared.route.Route.{Route}
use Rattle.walk_model.specs.Walk.{Walk}
use Rattle.walk_model.specs.Cost.{bends}
use Rattle.walk_model.specs.Line.{Draws}
use Rattle.form_make.specs.declared.summary.Summary.{Summary}

-- the cost of a route; 0 if there is none
abbrev pub cost_of_route : Option Route → ℕ
cost_of_route None = 0
cost_of_route (Some route) = route.cost

-- a route has this number of bends; 0 if there is no route
abbrev pub HasBends : Option Route → ℕ → Type 0
HasBends None count = count ≡ 0
HasBends (Some route) count = (w : Walk) × Draws route.points w × (count ≡ bends w.steps)

-- the numbers of the connectors with and without a route, the sum of their costs and that of their bends, and the number of searches
pub record SumsUp (answers : List Answer) (searches : ℕ) (s : Summary) : Type 0 where
  pub routed : s.routed ≡ length (filter (λ a. is_some a.route) answers)
  pub unrouted : s.unrouted ≡ length (filter (λ a. is_none a.route) answers)
  pub cost : s.cost ≡ sum_by (λ a. cost_of_route a.route) answers
  pub bend_counts : List ℕ
  pub have_bends : AllZip (λ a count. HasBends a.route count) answers bend_counts
  pub bends : s.bends ≡ sum_by (λ count. count) bend_counts
  pub searched : s.searched ≡ searches
