-- What holds while pairs are passed.
use Rattle.std.proofs.Common.{◌≡◌, ℕ, ◌<◌, Some}
use Rattle.std.specs.Prelude.{slice_get}
use Rattle.gml_text.specs.Tree.{keys}
use Rattle.gml_text.specs.View.{pairs}
use Rattle.gml_text.proofs.search.find.Given as goal

abbrev pub invariant-loop-index : goal.invariant-loop-index
invariant-loop-index l = (k : ℕ) → k < l.index → slice_get (keys (pairs l.list)) k ≡ Some l.key → ⊥
