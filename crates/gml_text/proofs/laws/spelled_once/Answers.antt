-- The law that bytes spell one tree.
use Rattle.std.proofs.Common.{sym, ◌∙◌}
use Rattle.std.proofs.lemmas.Option.{same_Some}
use Rattle.gml_text.proofs.Accepting.{spelled_is_accepted}
use Rattle.gml_text.proofs.laws.spelled_once.Goals as goal

pub returns : goal.returns
returns c bytes tree other s t = same_Some tree other (sym (spelled_is_accepted tree bytes s) ∙ spelled_is_accepted other bytes t)
