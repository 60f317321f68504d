-- The call of a command keeps the scenes of the document.
use Rattle.gml_text.specs.View.{tree}
use Rattle.drawing.proofs.Sources.{source_called}
use Rattle.drawing.proofs.drawing.Drawing.run.Goals as goal

pub invariant_of-self : goal.invariant_of-self
invariant_of-self c =
    source_called (tree c.self.inside.doc) c.args.command.now c.run_alone.result c.self.inside.session c.run_alone.new.self c.requires.directed c.run_alone.ensures.call c.self.invariant
