-- The choice of a pin, by its place and the node's box.
use Rattle.std.proofs.Common.{◌≡◌, refl, arith, w64, to_z, of_z}
use Rattle.std.proofs.lemmas.Int.{ints}
use Rattle.scene_store.proofs.routing.choice.Goals as goal

pub returns : goal.returns
returns c =
    let id : to_z w64 (of_z w64 c.args.node.now.id) ≡ c.args.node.now.id = omega (arith, ints) in
    let cost : to_z w64 (of_z w64 c.args.pin.cost) ≡ c.args.pin.cost = omega (arith, ints) in
    rw (id, c.port.ensures, c.buffered_rect.ensures, c.place_of-place.ensures.place, c.unsigned_abs.ensures.value, cost) refl
