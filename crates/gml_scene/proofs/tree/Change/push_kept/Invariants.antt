-- What is kept of the pairs so far is written.
use Rattle.std.proofs.Common.{◌≡◌, take}
use Rattle.gml_text.specs.Tree.{◌then◌}
use Rattle.gml_text.specs.View.{pairs}
use Rattle.gml_scene.specs.Tree.{kept_from}
use Rattle.gml_scene.proofs.tree.Change.push_kept.Given as goal

abbrev pub invariant-loop-place : goal.invariant-loop-place
invariant-loop-place l =
    pairs l.out.items ≡ pairs l.fn.out.items then kept_from l.self.was.now l.self.scene.now l.self.routes.now 0 (pairs (take l.place l.graph))
