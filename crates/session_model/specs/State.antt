-- The model of a session.
use Rattle.std.specs.Prelude.{ℕ, List}
use Rattle.walk_model.specs.declared.route.Answer.{Answer}
use Rattle.scene_model.specs.World.{World}

-- its world, the answers of its book, the number of its searches, and the number of lines and crossings that were written into its graph
pub record State : Type 0 where
  pub world : World
  pub book : List Answer
  pub searched : ℕ
  pub written : ℕ
