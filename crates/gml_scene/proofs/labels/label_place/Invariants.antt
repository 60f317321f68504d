-- No label so far is the one that is asked for.
use Rattle.std.proofs.Common.{◌≡◌, ◌+◌, drop}
use Rattle.std.specs.Prelude.{option_map}
use Rattle.gml_scene.specs.Labels.{label_place}
use Rattle.gml_scene.proofs.labels.label_place.Given as goal

abbrev pub invariant-loop-place : goal.invariant-loop-place
invariant-loop-place l = label_place l.labels l.number ≡ option_map (λ k. l.place + k) (label_place (drop l.place l.labels) l.number)
