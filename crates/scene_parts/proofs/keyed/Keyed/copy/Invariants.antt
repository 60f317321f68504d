-- The entries so far are copied.
use Rattle.std.specs.Prelude.{◌≡◌, take}
use Rattle.scene_parts.proofs.keyed.Keyed.copy.Given as goal

abbrev pub invariant-loop-entry : goal.invariant-loop-entry
invariant-loop-entry g l = l.copied ≡ take l.entry-index l.entry-items
