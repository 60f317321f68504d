-- The model of the changes of a book, and the searches that they count.
use Rattle.std.specs.Prelude.{◌≡◌, ℕ, ◌<◌, List, length, AllPairs}
use Rattle.walk_model.specs.declared.route.Answer.{Answer}
use Rattle.line_arena.specs.Count.{counted_by}
use Rattle.scene_model.specs.Scene.{Scene}
use Rattle.scene_model.specs.Stale.{AreStale}

-- the answers of the present scene, and those of the other scene
pub record Exchange : Type 0 where
  pub here : List Answer
  pub there : List Answer

-- the same with both lists exchanged
abbrev pub turned : Exchange → Exchange
turned e = record { here = e.there; there = e.here }

-- the answers are in the order of their connectors' numbers
abbrev pub AreByRisingEdge : List Answer → Type 0
AreByRisingEdge answers = AllPairs (λ a b. a.edge < b.edge) answers

-- the count rose by the number of stale connectors of the new scene
abbrev pub CountsStale : Scene → List Answer → Scene → ℕ → ℕ → Type 0
CountsStale old answers new before after = (numbers : List ℕ) × AreStale old answers new numbers × (after ≡ counted_by (length numbers) before)
