-- Three draws make a move: its node, and where it goes.
use Rattle.std.proofs.Common.{rules, ◌+◌, ◌*◌, w64, to_z, of_z}
use Rattle.std.specs.Prelude.{pos}
use mir.Val.{SFits}
use Rattle.form_make.proofs.Steps.{kept, move_is, third_state}
use Rattle.form_make.proofs.commands.drawn_move.Goals as goal

pub returns-clause-edit : goal.returns-clause-edit
returns-clause-edit c =
    let i : SFits w64 c.node_id-id.result = search rules in
    let x : SFits w64 c.units-x.result = search rules in
    let y : SFits w64 c.units-y.result = search rules in
    move_is c.args.draws.now.state c.below.new.self.state c.below-2.new.self.state c.below-3.new.self.state c.below.result c.below-2.result c.below-3.result
    (to_z w64 (of_z w64 c.node_id-id.result)) (to_z w64 (of_z w64 c.units-x.result)) (to_z w64 (of_z w64 c.units-y.result))
    c.below.ensures.state c.below-2.ensures.state c.below-3.ensures.state
    c.below.ensures.drawn c.below-2.ensures.drawn c.below-3.ensures.drawn
    (kept c.node_id-id.result (pos (c.below.result + 1)) i c.node_id-id.ensures)
    (kept c.units-x.result (pos (1000 * c.below-2.result)) x c.units-x.ensures)
    (kept c.units-y.result (pos (1000 * c.below-3.result)) y c.units-y.ensures)

pub returns-clause-draws : goal.returns-clause-draws
returns-clause-draws c =
    third_state c.args.draws.now.state c.below.new.self.state c.below-2.new.self.state c.below-3.new.self.state
    c.below.ensures.state c.below-2.ensures.state c.below-3.ensures.state
