-- A link that is removed in one direction changes nothing in the other three.
use Rattle.plane_geom.specs.declared.point.Dir.TheVariants.{East, South, West, North}
use Rattle.line_arena.specs.Lists.{without}
use Rattle.line_arena.proofs.Linking.Kept.{East≢South, East≢West, East≢North, South≢East, South≢West, South≢North, West≢East, West≢South, West≢North, North≢East, North≢South, North≢West, knows_kept, linked_kept}
use Rattle.line_arena.proofs.lists.Lists.unlink_all.Goals as goal

pub unlink_in-requires-2-clause-knows : goal.unlink_in-requires-2-clause-knows
unlink_in-requires-2-clause-knows c = knows_kept c.args.self.now c.unlink_in.new.self c.unlink_in.ensures.places c.args.crossing c.unlink_in.ensures.own c.requires.knows

pub unlink_in-requires-2-clause-linked : goal.unlink_in-requires-2-clause-linked
unlink_in-requires-2-clause-linked c = linked_kept c.args.self.now c.unlink_in.new.self c.unlink_in.ensures.places (λ S. S) South (c.unlink_in.ensures.other_directions South South≢East) (c.requires.linked South)

pub unlink_in-requires-3-clause-knows : goal.unlink_in-requires-3-clause-knows
unlink_in-requires-3-clause-knows c = knows_kept c.unlink_in.new.self c.unlink_in-2.new.self c.unlink_in-2.ensures.places c.args.crossing c.unlink_in-2.ensures.own (knows_kept c.args.self.now c.unlink_in.new.self c.unlink_in.ensures.places c.args.crossing c.unlink_in.ensures.own c.requires.knows)

pub unlink_in-requires-3-clause-linked : goal.unlink_in-requires-3-clause-linked
unlink_in-requires-3-clause-linked c = linked_kept c.unlink_in.new.self c.unlink_in-2.new.self c.unlink_in-2.ensures.places (λ S. S) West (c.unlink_in-2.ensures.other_directions West West≢South) (linked_kept c.args.self.now c.unlink_in.new.self c.unlink_in.ensures.places (λ S. S) West (c.unlink_in.ensures.other_directions West West≢East) (c.requires.linked West))

pub unlink_in-requires-4-clause-knows : goal.unlink_in-requires-4-clause-knows
unlink_in-requires-4-clause-knows c = knows_kept c.unlink_in-2.new.self c.unlink_in-3.new.self c.unlink_in-3.ensures.places c.args.crossing c.unlink_in-3.ensures.own (knows_kept c.unlink_in.new.self c.unlink_in-2.new.self c.unlink_in-2.ensures.places c.args.crossing c.unlink_in-2.ensures.own (knows_kept c.args.self.now c.unlink_in.new.self c.unlink_in.ensures.places c.args.crossing c.unlink_in.ensures.own c.requires.knows))

pub unlink_in-requires-4-clause-linked : goal.unlink_in-requires-4-clause-linked
unlink_in-requires-4-clause-linked c = linked_kept c.unlink_in-2.new.self c.unlink_in-3.new.self c.unlink_in-3.ensures.places (λ S. S) North (c.unlink_in-3.ensures.other_directions North North≢West) (linked_kept c.unlink_in.new.self c.unlink_in-2.new.self c.unlink_in-2.ensures.places (λ S. S) North (c.unlink_in-2.ensures.other_directions North North≢South) (linked_kept c.args.self.now c.unlink_in.new.self c.unlink_in.ensures.places (λ S. S) North (c.unlink_in.ensures.other_directions North North≢East) (c.requires.linked North)))

pub returns-clause-others : goal.returns-clause-others
returns-clause-others c = elim [
  | East ↦ (linked_kept c.unlink_in-3.new.self c.unlink_in-4.new.self c.unlink_in-4.ensures.places (without c.args.crossing) East (c.unlink_in-4.ensures.other_directions East East≢North) (linked_kept c.unlink_in-2.new.self c.unlink_in-3.new.self c.unlink_in-3.ensures.places (without c.args.crossing) East (c.unlink_in-3.ensures.other_directions East East≢West) (linked_kept c.unlink_in.new.self c.unlink_in-2.new.self c.unlink_in-2.ensures.places (without c.args.crossing) East (c.unlink_in-2.ensures.other_directions East East≢South) c.unlink_in.ensures.others)))
  | South ↦ (linked_kept c.unlink_in-3.new.self c.unlink_in-4.new.self c.unlink_in-4.ensures.places (without c.args.crossing) South (c.unlink_in-4.ensures.other_directions South South≢North) (linked_kept c.unlink_in-2.new.self c.unlink_in-3.new.self c.unlink_in-3.ensures.places (without c.args.crossing) South (c.unlink_in-3.ensures.other_directions South South≢West) c.unlink_in-2.ensures.others))
  | West ↦ (linked_kept c.unlink_in-3.new.self c.unlink_in-4.new.self c.unlink_in-4.ensures.places (without c.args.crossing) West (c.unlink_in-4.ensures.other_directions West West≢North) c.unlink_in-3.ensures.others)
  | North ↦ c.unlink_in-4.ensures.others
]
