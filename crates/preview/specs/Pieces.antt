-- The answers to a piece of the proposals. No public clause cites this module.
use Rattle.std.specs.Prelude.{List, [], Result, Ok, Err}
use Rattle.std.specs.declared.alloc.AllocError.{AllocError}
use Rattle.walk_model.specs.declared.route.Answer.{Answer}
use Rattle.scene_model.specs.Scene.{Scene}
use Rattle.par_route.specs.declared.pieces.Piece.{Piece}
use Rattle.preview.specs.declared.answer.Previewed.{Previewed}
use Rattle.preview.specs.declared.proposals.Proposal.{Proposal}
use Rattle.preview.specs.declared.pieces.Answered.{Answered}
use Rattle.preview.specs.Previews.{ArePreviews}

-- the answers to the proposals of the piece
abbrev pub IsAnswered : Scene → List Answer → Piece Proposal → Answered → Type 0
IsAnswered s book piece answered = ArePreviews s book piece.items.now answered.answers.items

-- the answers of a piece, none where it ran out of memory
abbrev pub answers_in : Result Answered AllocError → List Previewed
answers_in (Ok a) = a.answers.items
answers_in (Err e) = []
