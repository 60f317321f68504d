-- The entry under a key is the one with this id.
use Rattle.std.proofs.Common.{◌∙◌, ap, to_z-of_z}
use Rattle.std.specs.Ordering.{int_eq}
use Rattle.std.specs.Map.{lookup}
use Rattle.scene_parts.proofs.Keys.{get_keyed}
use Rattle.scene_parts.proofs.keyed.Keyed.get.Goals as goal

pub returns : goal.returns
returns g c =
    c.get.ensures.value ∙ ap (λ k. lookup (int_eq k) c.self.inside.table.entries) (to_z-of_z c.ranges.id)
    ∙ get_keyed g.T.Entry.id_of c.args.id c.self.inside.table.entries c.args.self.now c.self.invariant c.self.view_is
