-- The choice is at the place that is left among the choices of the pins that are left.
use Rattle.std.specs.Prelude.{◌≡◌, drop, slice_get}
use Rattle.scene_store.proofs.Choosing.{choices_among}
use Rattle.scene_store.proofs.routing.choice_of_class.Given as goal

abbrev pub invariant-loop-pin : goal.invariant-loop-pin
invariant-loop-pin l =
    slice_get (choices_among l.settings.buffer l.node l.class (drop l.pin-index l.pin-items)) l.place
    ≡ slice_get (choices_among l.settings.buffer l.node l.class l.pin-items) l.fn.place
