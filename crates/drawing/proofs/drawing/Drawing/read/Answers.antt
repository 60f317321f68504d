-- The scene that is opened comes from its document.
use Rattle.gml_text.specs.View.{tree}
use Rattle.drawing.proofs.Sources.{source_opened}
use Rattle.drawing.proofs.drawing.Drawing.read.Goals as goal

pub on-requires : goal.on-requires
on-requires g c =
    source_opened (tree c.args.doc) c.args.scene c.in_ok-session.session.world c.in_ok-session.ensures.world c.requires.source c.requires.printable c.valid.ensures
