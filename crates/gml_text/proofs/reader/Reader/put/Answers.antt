-- A pair is appended to the others.
use Rattle.std.proofs.Common.{rules}
use Rattle.gml_text.proofs.Views.{pairs-push}
use Rattle.gml_text.specs.declared.tree.Value.{the_lemmas}
use Rattle.gml_text.proofs.reader.Reader.put.Goals as goal

pub returns-clause-ok : goal.returns-clause-ok
returns-clause-ok c = rw (c.in-Ok.ensures.items, pairs-push) (search (rules, the_lemmas))
