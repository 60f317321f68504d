-- A transaction that is dropped leaves the scenes of the document.
use Rattle.gml_text.specs.View.{tree}
use Rattle.drawing.proofs.Sources.{source_rolled_back}
use Rattle.drawing.proofs.drawing.Drawing.roll_back.Goals as goal

pub invariant_of-self : goal.invariant_of-self
invariant_of-self c = source_rolled_back (tree c.self.inside.doc) c.self.inside.session.world c.give_up.new.self.world c.give_up.ensures.world c.self.invariant
