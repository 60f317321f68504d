-- What is kept of another list of answers. No public clause cites this module.
use Rattle.std.specs.Prelude.{◌≡◌, List}
use Rattle.walk_model.specs.declared.route.Answer.{Answer}
use Rattle.route_book.specs.declared.exchange.Kept.{Kept}
use Rattle.route_book.specs.declared.exchange.Kept.TheVariants.{Whole, Part}
use Rattle.route_book.specs.Differ.{Differ}
use Rattle.route_book.specs.Exchange.{AreByRisingEdge}

-- with it, the one list can be made of the other
abbrev pub IsKept : List Answer → List Answer → Kept → Type 0
IsKept here there (Whole list) = list ≡ there
IsKept here there (Part d) = Differ here there d.places.items d.away.items × AreByRisingEdge here × AreByRisingEdge there
