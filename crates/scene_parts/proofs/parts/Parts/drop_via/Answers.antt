-- The changed edge stands where the old one did.
use Rattle.std.proofs.Common.{rules, ◌-◌, ◌∙◌}
use Rattle.std.specs.Prelude.{remove}
use Rattle.scene_parts.proofs.Replaced.{edge_there, edge_set}
use Rattle.scene_parts.proofs.parts.Parts.drop_via.Goals as goal

pub set_edge-requires-clause-there : goal.set_edge-requires-clause-there
set_edge-requires-clause-there c = edge_there c.args.self.now _ c.in_ok-edge.edge c.in_ok-edge.ensures

pub returns-clause-ok : goal.returns-clause-ok
returns-clause-ok c =
    c.set_edge.ensures ∙ edge_set c.args.self.now c.args.number c.in_ok-edge.edge (λ e. record e { via = remove e.via (c.args.place - 1) }) _ c.requires.valid c.in_ok-edge.ensures (search rules)
