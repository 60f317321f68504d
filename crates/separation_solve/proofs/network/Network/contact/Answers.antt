-- The place at which a link that leads out would be tight is an aim.
use Rattle.std.proofs.Common.{◌≡◌, pos, ◌+ℤ◌, ◌-ℤ◌, ◌*ℤ◌, FitsSigned, is_some, arith, sym, ap, ◌∙◌}
use Rattle.std.proofs.lemmas.Int.{ints, to_z-of_z}
use mir.Syntax.{w64}
use Rattle.separation_solve.specs.Reach.{start_of}
use Rattle.separation_solve.proofs.Blocks.Mean.{offset_near}
use Rattle.separation_solve.proofs.Blocks.Contacts.{IsRead, contact_is, read_link, read_place, spot_light}
use Rattle.separation_solve.proofs.network.Network.contact.Goals as goal
use Rattle.separation_solve.proofs.network.Network.contact.Goals.{After-index-link}

-- the link that is read is sound
link_read : (c : After-index-link) → IsRead c.args.self.now c.args.index c.index-link.result.now
link_read c = read_link c.args.self.now c.args.index c.index-link.result.now c.requires.sound c.requires.link c.index-link.ensures

pub offset-requires-clause-node : goal.offset-requires-clause-node
offset-requires-clause-node c =
    let read = link_read (goal.at.offset-requires-clause-node c).After-index-link in
    omega (arith, read.ends.from, c.requires.block.reach.nodes)

pub offset-requires-clause-steps : goal.offset-requires-clause-steps
offset-requires-clause-steps c = λ i k e. (c.requires.block.reach.found i k e).0

pub offset-requires-2-clause-node : goal.offset-requires-2-clause-node
offset-requires-2-clause-node c =
    let read = link_read (goal.at.offset-requires-2-clause-node c).After-index-link in
    omega (arith, read.ends.to, c.requires.block.reach.nodes)

pub offset-requires-2-clause-steps : goal.offset-requires-2-clause-steps
offset-requires-2-clause-steps c = λ i k e. (c.requires.block.reach.found i k e).0

pub index-requires : goal.index-requires
index-requires c =
    let read = link_read (goal.at.index-requires c).After-index-link in
    omega (arith, read.ends.to, c.requires.sound.frame.places, c.args.self.now.places.ok.0)

pub overflow_sub-link : goal.overflow_sub-link
overflow_sub-link c =
    let read = link_read (goal.at.overflow_sub-link c).After-index-link in
    omega (arith, ints, read.ends.gap.low, read.ends.gap.high)

pub overflow_sub-link-2 : goal.overflow_sub-link-2
overflow_sub-link-2 c =
    let read = link_read (goal.at.overflow_sub-link-2 c).After-index-link in
    let near = offset_near c.args.self.now (start_of c.args.block.now) c.args.block.now c.index-link.result.now.from c.in_ok-offset.offset c.requires.block.reach (sym c.offset.ensures ∙ c.in_ok-offset.was) in
    omega (arith, ints, read.ends.gap.low, read.ends.gap.high, near.low, near.high)

pub moved-requires : goal.moved-requires
moved-requires c =
    let read = link_read (goal.at.moved-requires c).After-index-link in
    spot_light c.index.result.now (read_place c.args.self.now c.index-link.result.now.to c.index.result.now c.requires.sound (omega (arith, read.ends.to)) c.index.ensures).1

pub returns : goal.returns
returns c =
    let n = c.args.self.now in
    let link = c.index-link.result.now in
    let read = link_read (goal.at.returns c).After-index-link in
    let found = sym c.offset.ensures ∙ c.in_ok-offset.was in
    let near = offset_near n (start_of c.args.block.now) c.args.block.now link.from c.in_ok-offset.offset c.requires.block.reach found in
    let gap : FitsSigned w64 link.gap = omega (arith, ints, read.ends.gap.low, read.ends.gap.high) in
    let back : FitsSigned w64 (pos 0 -ℤ link.gap) = omega (arith, ints, read.ends.gap.low, read.ends.gap.high) in
    let offset : FitsSigned w64 c.in_ok-offset.offset = omega (arith, ints, near.low, near.high) in
    let way : FitsSigned w64 (pos 0 -ℤ link.gap -ℤ c.in_ok-offset.offset) = omega (arith, ints, read.ends.gap.low, read.ends.gap.high, near.low, near.high) in
    let top : c.moved.result.num ≡ c.index.result.now.num +ℤ ((pos 0 -ℤ link.gap -ℤ c.in_ok-offset.offset) *ℤ pos c.index.result.now.den) = c.moved.ensures.num ∙ simp to_z-of_z in
    let outside = ap is_some (sym c.offset-2.ensures) ∙ sym c.is_some.ensures ∙ c.if-is_some.false in
    contact_is n (start_of c.args.block.now) c.args.block.now c.args.index link c.index.result.now c.moved.result c.in_ok-offset.offset c.requires.sound c.requires.block c.requires.link read found outside
    (read_place n link.to c.index.result.now c.requires.sound (omega (arith, read.ends.to)) c.index.ensures).0 top c.moved.ensures.den
