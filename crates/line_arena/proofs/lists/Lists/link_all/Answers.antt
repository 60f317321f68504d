-- A link in one direction changes nothing in the other three.
use Rattle.std.proofs.Common.{◌∙◌, refl, sym}
use Rattle.plane_geom.specs.declared.point.Dir.TheVariants.{East, South, West, North}
use Rattle.line_arena.specs.Lists.{without}
use Rattle.line_arena.proofs.Linking.Kept.{East≢South, East≢West, East≢North, South≢East, South≢West, South≢North, West≢East, West≢South, West≢North, North≢East, North≢South, North≢West, knows_kept, linked_kept}
use Rattle.line_arena.proofs.Linking.Walk.{read_next}
use Rattle.line_arena.proofs.lists.Lists.link_all.Goals as goal

-- the node contains the neighbours
pub link_in-requires-2-clause-before : goal.link_in-requires-2-clause-before
link_in-requires-2-clause-before c =
    let line = c.args.node.now.vertical in
    read_next c.args.self.now line c.args.crossing North (c.requires.node.0, c.args.node.now) c.requires.node.1 c.args.node.now.north refl
    ∙ sym (c.link_in.ensures.own line North)

pub link_in-requires-3-clause-before : goal.link_in-requires-3-clause-before
link_in-requires-3-clause-before c =
    let line = c.args.node.now.horizontal in
    read_next c.args.self.now line c.args.crossing East (c.requires.node.0, c.args.node.now) c.requires.node.1 c.args.node.now.east refl
    ∙ sym (c.link_in-2.ensures.own line East ∙ c.link_in.ensures.own line East)

pub link_in-requires-4-clause-before : goal.link_in-requires-4-clause-before
link_in-requires-4-clause-before c =
    let line = c.args.node.now.vertical in
    read_next c.args.self.now line c.args.crossing South (c.requires.node.0, c.args.node.now) c.requires.node.1 c.args.node.now.south refl
    ∙ sym (c.link_in-3.ensures.own line South ∙ c.link_in-2.ensures.own line South ∙ c.link_in.ensures.own line South)

pub link_in-requires-2-clause-knows : goal.link_in-requires-2-clause-knows
link_in-requires-2-clause-knows c = knows_kept c.args.self.now c.link_in.new.self c.link_in.ensures.places c.args.crossing c.link_in.ensures.own c.requires.knows

pub link_in-requires-2-clause-others : goal.link_in-requires-2-clause-others
link_in-requires-2-clause-others c = linked_kept c.args.self.now c.link_in.new.self c.link_in.ensures.places (without c.args.crossing) South (c.link_in.ensures.other_directions South South≢East) (c.requires.others South)

pub link_in-requires-3-clause-knows : goal.link_in-requires-3-clause-knows
link_in-requires-3-clause-knows c = knows_kept c.link_in.new.self c.link_in-2.new.self c.link_in-2.ensures.places c.args.crossing c.link_in-2.ensures.own (knows_kept c.args.self.now c.link_in.new.self c.link_in.ensures.places c.args.crossing c.link_in.ensures.own c.requires.knows)

pub link_in-requires-3-clause-others : goal.link_in-requires-3-clause-others
link_in-requires-3-clause-others c = linked_kept c.link_in.new.self c.link_in-2.new.self c.link_in-2.ensures.places (without c.args.crossing) West (c.link_in-2.ensures.other_directions West West≢South) (linked_kept c.args.self.now c.link_in.new.self c.link_in.ensures.places (without c.args.crossing) West (c.link_in.ensures.other_directions West West≢East) (c.requires.others West))

pub link_in-requires-4-clause-knows : goal.link_in-requires-4-clause-knows
link_in-requires-4-clause-knows c = knows_kept c.link_in-2.new.self c.link_in-3.new.self c.link_in-3.ensures.places c.args.crossing c.link_in-3.ensures.own (knows_kept c.link_in.new.self c.link_in-2.new.self c.link_in-2.ensures.places c.args.crossing c.link_in-2.ensures.own (knows_kept c.args.self.now c.link_in.new.self c.link_in.ensures.places c.args.crossing c.link_in.ensures.own c.requires.knows))

pub link_in-requires-4-clause-others : goal.link_in-requires-4-clause-others
link_in-requires-4-clause-others c = linked_kept c.link_in-2.new.self c.link_in-3.new.self c.link_in-3.ensures.places (without c.args.crossing) North (c.link_in-3.ensures.other_directions North North≢West) (linked_kept c.link_in.new.self c.link_in-2.new.self c.link_in-2.ensures.places (without c.args.crossing) North (c.link_in-2.ensures.other_directions North North≢South) (linked_kept c.args.self.now c.link_in.new.self c.link_in.ensures.places (without c.args.crossing) North (c.link_in.ensures.other_directions North North≢East) (c.requires.others North)))

pub returns-clause-linked : goal.returns-clause-linked
returns-clause-linked c = elim [
  | East ↦ (linked_kept c.link_in-3.new.self c.link_in-4.new.self c.link_in-4.ensures.places (λ S. S) East (c.link_in-4.ensures.other_directions East East≢North) (linked_kept c.link_in-2.new.self c.link_in-3.new.self c.link_in-3.ensures.places (λ S. S) East (c.link_in-3.ensures.other_directions East East≢West) (linked_kept c.link_in.new.self c.link_in-2.new.self c.link_in-2.ensures.places (λ S. S) East (c.link_in-2.ensures.other_directions East East≢South) c.link_in.ensures.linked)))
  | South ↦ (linked_kept c.link_in-3.new.self c.link_in-4.new.self c.link_in-4.ensures.places (λ S. S) South (c.link_in-4.ensures.other_directions South South≢North) (linked_kept c.link_in-2.new.self c.link_in-3.new.self c.link_in-3.ensures.places (λ S. S) South (c.link_in-3.ensures.other_directions South South≢West) c.link_in-2.ensures.linked))
  | West ↦ (linked_kept c.link_in-3.new.self c.link_in-4.new.self c.link_in-4.ensures.places (λ S. S) West (c.link_in-4.ensures.other_directions West West≢North) c.link_in-3.ensures.linked)
  | North ↦ c.link_in-4.ensures.linked
]
