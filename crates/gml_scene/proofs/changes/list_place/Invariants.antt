-- No pair so far has the key and a list.
use Rattle.std.proofs.Common.{◌≡◌, ◌+◌, drop}
use Rattle.std.specs.Prelude.{option_map}
use Rattle.gml_text.specs.View.{pairs}
use Rattle.gml_scene.specs.Changes.{list_place}
use Rattle.gml_scene.proofs.changes.list_place.Given as goal

abbrev pub invariant-loop-index : goal.invariant-loop-index
invariant-loop-index l = list_place l.key (pairs l.list) ≡ option_map (λ k. l.index + k) (list_place l.key (pairs (drop l.index l.list)))
