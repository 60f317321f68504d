-- The printed form is a spelling.
use Rattle.std.proofs.Common.{sym, subst, rules}
use Rattle.gml_text.specs.Grammar.{SpellsDocument}
use Rattle.gml_text.specs.View.{tree}
use Rattle.gml_text.proofs.Printing.{printed_is_spelling}
use Rattle.gml_text.proofs.write.print.Goals as goal

pub returns-clause-spelled : goal.returns-clause-spelled
returns-clause-spelled c =
    subst (SpellsDocument (tree c.args.doc.now)) (sym (search rules)) (printed_is_spelling (tree c.args.doc.now) c.requires.grammatical)
