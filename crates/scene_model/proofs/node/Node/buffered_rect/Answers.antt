-- The box of a node lies on the sheet, before it is grown and after.
use Rattle.std.proofs.Common.{◌≡◌, arith, w64, to_z, of_z}
use Rattle.std.proofs.lemmas.Int.{ints}
use Rattle.scene_model.proofs.ForRouting.Floors.{box_on_sheet, buffered_on_sheet}
use Rattle.scene_model.proofs.node.Node.buffered_rect.Goals as goal

pub grow-requires-clause-within : goal.grow-requires-clause-within
grow-requires-clause-within c = rw c.rect.ensures (box_on_sheet c.args.self.now c.requires.node)

pub grow-requires-clause-grown_within : goal.grow-requires-clause-grown_within
grow-requires-clause-grown_within c =
    let buffer : to_z w64 (of_z w64 c.args.settings.buffer) ≡ c.args.settings.buffer = omega (arith, ints) in
    rw (c.rect.ensures, buffer)
    (buffered_on_sheet c.args.settings.buffer c.args.self.now c.requires.node (record { low = c.requires.settings.buffer; high = c.requires.settings.low_buffer }))
