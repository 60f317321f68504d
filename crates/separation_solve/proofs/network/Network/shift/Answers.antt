-- The block has moved: all links are kept, and the sum of squares has fallen.
use Rattle.std.proofs.Common.{unsigned_abs, ap, arith, ◌∙◌}
use Rattle.separation_solve.specs.Reach.{start_of}
use Rattle.separation_solve.proofs.Blocks.Shifted.{IsMove, moved, objective-same}
use Rattle.separation_solve.proofs.network.Network.shift.Goals as goal

pub relist-requires-clause-kept : goal.relist-requires-clause-kept
relist-requires-clause-kept c =
    let move : IsMove c.args.self.now (start_of c.args.block.now) c.args.block.now c.best_place-best.result c.first_contact-place.result c.move_block.new.self.places.items = record {
      sound = c.requires.sound;
      block = c.requires.block;
      aim = c.first_contact-place.ensures.aim;
      not_beyond = c.first_contact-place.ensures.not_beyond;
      best_reduced = c.best_place-best.ensures.aim.reduced;
      mean = c.best_place-best.ensures.mean;
      stays = c.first_contact-place.ensures.stays;
      placed = c.move_block.ensures.placed;
    } in
    (moved c.args.self.now c.move_block.new.self (start_of c.args.block.now) c.args.block.now c.best_place-best.result c.first_contact-place.result move c.move_block.ensures.rest).kept

pub returns-clause-falls : goal.returns-clause-falls
returns-clause-falls c =
    let move : IsMove c.args.self.now (start_of c.args.block.now) c.args.block.now c.best_place-best.result c.first_contact-place.result c.move_block.new.self.places.items = record {
      sound = c.requires.sound;
      block = c.requires.block;
      aim = c.first_contact-place.ensures.aim;
      not_beyond = c.first_contact-place.ensures.not_beyond;
      best_reduced = c.best_place-best.ensures.aim.reduced;
      mean = c.best_place-best.ensures.mean;
      stays = c.first_contact-place.ensures.stays;
      placed = c.move_block.ensures.placed;
    } in
    let falls = (moved c.args.self.now c.move_block.new.self (start_of c.args.block.now) c.args.block.now c.best_place-best.result c.first_contact-place.result move c.move_block.ensures.rest).falls in
    let same = objective-same c.release.new.self c.move_block.new.self (c.release.ensures.bundle.wants ∙ c.relist.ensures.bundle.wants) (c.release.ensures.bundle.weights ∙ c.relist.ensures.bundle.weights)
    (c.release.ensures.places ∙ c.relist.ensures.places) in
    omega (arith, falls, ap unsigned_abs same)
