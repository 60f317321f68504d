-- Which connectors are searched, and the answers that are found. No public clause cites this module.
use Rattle.std.specs.Prelude.{◌≡◌, ◌≢◌, ◌<◌, ℕ, List, AllPairs, Option, IsSomeAnd}
use Rattle.std.specs.Option.{option_or}
use Rattle.walk_model.specs.declared.task.Task.{Task}
use Rattle.walk_model.specs.declared.route.Answer.{Answer}
use Rattle.scene_model.specs.Scene.{Scene, edge_with}
use Rattle.scene_model.specs.Routing.{task_of}
use Rattle.scene_model.specs.Answers.{IsAnswerOf}
use Rattle.scene_model.specs.Stale.{answer_of}

-- the number is that of a connector
abbrev pub IsConnector : Scene → ℕ → Type 0
IsConnector s number = IsSomeAnd (edge_with s number) (λ e. e.from ≢ e.to)

-- the task is that of the connector with the number
abbrev pub IsTaskWith : Scene → ℕ → Task → Type 0
IsTaskWith s number task = IsSomeAnd (edge_with s number) (λ e. task ≡ task_of s e)

-- the answer is right for the connector with the number
abbrev pub IsAnswerWith : Scene → ℕ → Answer → Type 0
IsAnswerWith s number a = IsSomeAnd (edge_with s number) (λ e. IsAnswerOf s e a)

-- the numbers rise
abbrev pub AreRising : List ℕ → Type 0
AreRising numbers = AllPairs (λ m n. m < n) numbers

-- the answer that was found for the connector with the number, or otherwise the one that is kept
abbrev pub newer : List Answer → List Answer → ℕ → Option Answer
newer found kept number = option_or (answer_of found number) (answer_of kept number)
