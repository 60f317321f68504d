-- The lines of the working scene are those of the session after a commit.
use Rattle.std.proofs.Common.{◌≡◌, List, [], ◌∷◌, Option, None, Some, take, ap}
use Rattle.walk_model.specs.declared.route.Answer.{Answer}
use Rattle.walk_model.specs.declared.route.WrittenRoute.{WrittenRoute}
use Rattle.scene_model.specs.declared.edit.Command.TheVariants.{Commit}
use Rattle.scene_model.specs.Scene.{Scene}
use Rattle.scene_model.specs.World.{taken}
use Rattle.session_model.specs.State.{State}
use Rattle.drawing.specs.Lines.{AreDrawn, AreProposed}

-- a commit is done, and the lines are those of the session after it
pub proposed : (s : State) (working : Scene) (answers : List Answer) (lines : List WrittenRoute) → s.world.working ≡ Some working → AreDrawn working answers lines → AreProposed s lines
proposed s working answers lines is_open drawn = record {
  after = record {
    world = record { past = take 100 (s.world.present ∷ s.world.past); present = working; future = []; working = None };
    book = answers;
    searched = s.searched;
    written = s.written;
  };
  commit = record { ok = ap (λ (w : Option Scene). taken Commit w s.world) is_open; fault = tt; err = tt; right = drawn.are_lines.right };
  drawn = drawn;
}
