-- All bytes are looked at.
use Rattle.std.proofs.Common.{not, rules, tests, sym, ◌∙◌}
use Rattle.std.specs.Prelude.{◌==◌}
use Rattle.std.proofs.lemmas.Iterator.{YieldsList-from_slice}
use Rattle.std.proofs.lemmas.Iterator.Search.{all_from_yields_List}
use Rattle.gml_text.specs.Bytes.{quote}
use Rattle.gml_scene.proofs.labels.lacks_quote.Goals as goal

pub returns : goal.returns
returns c =
    let is = all_from_yields_List (λ b. not (b == quote)) _ _ c.all.result c.all.ensures.ran (YieldsList-from_slice c.args.text.now cc) (λ x b q k. search (rules, tests)) in
    (λ h. sym is ∙ h, λ h. is ∙ h)
