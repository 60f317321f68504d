-- The scene and the commands that are generated from a seed.
use Rattle.std.specs.Prelude.{ℕ, ◌+◌, ◌*◌, ◌/◌, ◌%◌, ◌==◌, ℤ, pos, ◌-ℤ◌, nat_lt, if◌then◌else◌, List, [], ◌∷◌, flat_map}
use Rattle.scene_model.specs.declared.node.Node.{Node}
use Rattle.scene_model.specs.declared.edge.Edge.{Edge}
use Rattle.scene_model.specs.declared.edit.Edit.{Edit}
use Rattle.scene_model.specs.declared.edit.Edit.TheVariants.{MoveNode}
use Rattle.scene_model.specs.declared.edit.Command.{Command}
use Rattle.scene_model.specs.declared.edit.Command.TheVariants as command
use Rattle.scene_model.specs.Scene.{Scene, default_settings}
use Rattle.scene_model.specs.Edits.{half, new_node, new_edge}
use Rattle.form_make.specs.Draws.{draw, first, state_after}

-- the coordinate of a node on an axis: at most 30 units off its column or row, which are 200 units apart
abbrev pub made_coordinate : ℕ → ℕ → ℤ
made_coordinate line drawn = pos (1000 * (200 * line + drawn)) -ℤ pos 30000

-- a size of 20 to 80 units
abbrev pub made_size : ℕ → ℤ
made_size drawn = pos (1000 * (20 + drawn))

-- the node at the place, counted from 0, which takes four draws
abbrev pub made_node : ℕ → ℕ → Node
made_node seed place = new_node (pos (place + 1))
    (made_coordinate (place % 6) (draw seed (4 * place) 61))
    (made_coordinate (place / 6) (draw seed (4 * place + 1) 61))
    (half (made_size (draw seed (4 * place + 2) 61)))
    (half (made_size (draw seed (4 * place + 3) 61)))

-- the place with the number of the draw among all places except this one
abbrev pub other_place : ℕ → ℕ → ℕ
other_place place drawn = if nat_lt drawn place then drawn else drawn + 1

-- the edge at the place, which takes two draws; `start` is the state after the draws of the nodes
abbrev pub made_edge : ℕ → ℕ → Edge
made_edge start place =
    let from = draw start (2 * place) 36 in
    let to = other_place from (draw start (2 * place + 1) 35) in
    new_edge (place + 1) (pos (from + 1)) (pos (to + 1)) 0 0

-- 36 nodes from 144 draws, and 48 edges from 96 more
abbrev pub made_scene : ℕ → Scene
made_scene seed = record {
  nodes = first 36 (made_node seed);
  edges = first 48 (made_edge (state_after seed 144));
  settings = default_settings;
  next_edge = 49;
}

-- the move of the transaction at the place, which takes three draws; `start` is the state after the draws of the scene
abbrev pub made_move : ℕ → ℕ → Edit
made_move start place = MoveNode (pos (draw start (3 * place) 36 + 1))
    (pos (1000 * draw start (3 * place + 1) 1200))
    (pos (1000 * draw start (3 * place + 2) 1200))

-- an undo follows each third transaction
abbrev pub made_undo : ℕ → List Command
made_undo place = if place % 3 == 2 then command.Undo ∷ [] else []

abbrev pub made_transaction : ℕ → ℕ → List Command
made_transaction start place =
    command.Begin ∷ command.Edit (made_move start place) ∷ command.Commit ∷ made_undo place

-- 12 transactions, from the draws after the 240 of the scene
abbrev pub made_commands : ℕ → List Command
made_commands seed = flat_map (λ commands. commands) (first 12 (made_transaction (state_after seed 240)))
