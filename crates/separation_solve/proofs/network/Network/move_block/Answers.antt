-- The members are put to their new places one by one.
use Rattle.std.proofs.Common.{◌≡◌, ◌+◌, FitsSigned, arith, sym, ◌∙◌, subst}
use Rattle.std.proofs.lemmas.Int.{ints, to_z-of_z}
use mir.Syntax.{w64}
use Rattle.separation_solve.specs.declared.network.Network.{Network}
use Rattle.separation_solve.specs.Network.{items_of}
use Rattle.separation_solve.specs.Block.{PlacesBlock}
use Rattle.separation_solve.specs.Reach.{start_of}
use Rattle.separation_solve.proofs.Blocks.Members.{member_is, member_place}
use Rattle.separation_solve.proofs.Blocks.Moving.{SoFarPlaced, placed_member, placed_other}
use Rattle.separation_solve.proofs.network.Network.move_block.Goals as goal
use Rattle.separation_solve.proofs.network.Network.move_block.Goals.{in-Some, in_default}

pub offset-requires-clause-steps : goal.offset-requires-clause-steps
offset-requires-clause-steps c = λ i k e. (c.requires.reach.found i k e).0

pub loop-item-preserved : goal.loop-item-preserved
loop-item-preserved c =
    let so = c.loop-item.invariant in
    let motive = λ (s : Network). SoFarPlaced c.args.self.now c.args.block.now c.args.place (c.loop-item.item + 1) s in
    elim c.match-offset.branch [
      | in-Some w ↦
          let found = sym c.offset.ensures ∙ w.in-Some.is in
          let is = member_is c.args.block.now c.loop-item.item w.in-Some.offset found in
          let at = member_place c.args.self.now (start_of c.args.block.now) c.args.block.now c.loop-item.item c.requires.reach is.0 in
          let narrow : FitsSigned w64 w.in-Some.offset = omega (arith, ints, at.low, at.high, is.1) in
          subst motive (sym w.self-is) (record {
            placed = placed_member c.args.self.now.places.items c.loop-item.self.places.items c.loop-item.item c.args.block.now c.args.place w.moved.result w.in-Some.offset so.placed (omega (arith, so.placed.count, c.requires.sound.frame.places, c.len-item-end.ensures, c.args.self.now.wants.ok.0, c.loop-item-test.true)) found (simp to_z-of_z at w.moved.ensures.num) w.moved.ensures.den;
            rest = record {
              links = so.rest.links;
              tight = so.rest.tight;
              wants = so.rest.wants;
              weights = so.rest.weights;
              mirrored = so.rest.mirrored;
              flow = so.rest.flow;
              excess = so.rest.excess;
            };
          })
      | in_default w ↦ subst motive (sym w.self-is) (record {
        placed = placed_other c.args.self.now.places.items c.loop-item.self.places.items c.loop-item.item c.args.block.now c.args.place so.placed (sym c.offset.ensures ∙ w.in_default.is);
        rest = so.rest;
      })
    ]

pub returns-clause-placed : goal.returns-clause-placed
returns-clause-placed c =
    let all : c.loop-item.item ≡ items_of c.args.self.now = omega (arith, c.len-item-end.ensures, c.args.self.now.wants.ok.0, c.loop-item-test.false, c.loop-item.auto.item-end) in
    subst (λ i. PlacesBlock c.args.self.now.places.items i c.args.block.now c.args.place c.loop-item.self.places.items) all c.loop-item.invariant.placed
