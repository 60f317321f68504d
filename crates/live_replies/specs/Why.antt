-- What is said of the connectors that have no route.
use Rattle.std.specs.Prelude.{◌≡◌, ℕ, List, ◌++◌, codes, decimal}
use Rattle.std.specs.Fmt.{signed_decimal}
use Rattle.std.specs.List.{flat_map}
use Rattle.report_text.specs.Lines.{line}
use Rattle.session_model.specs.State.{State}
use Rattle.route_causes.specs.Unrouted.{AreUnrouted}
use Rattle.route_causes.specs.declared.cause.Cause.{Cause}
use Rattle.route_causes.specs.declared.cause.Cause.TheVariants.{ClosedEnd, CoveredCheckpoint, Apart}
use Rattle.route_causes.specs.declared.cause.End.TheVariants.{Source, Target}
use Rattle.route_causes.specs.declared.list.Unrouted.{Unrouted}
use Rattle.live_replies.specs.Texts.{ok_line}

-- a cause, with the id of its box last
abbrev pub cause_text : Cause → List ℕ
cause_text (ClosedEnd Source node) = codes " source " ++ signed_decimal node
cause_text (ClosedEnd Target node) = codes " target " ++ signed_decimal node
cause_text (CoveredCheckpoint place node) = (codes " checkpoint " ++ decimal place) ++ codes " " ++ signed_decimal node
cause_text Apart = codes " apart"

-- a connector has no route for this cause
abbrev pub unrouted_text : Unrouted → List ℕ
unrouted_text u = line (codes "why " ++ decimal u.edge ++ cause_text u.cause)

abbrev pub unrouted_texts : List Unrouted → List ℕ
unrouted_texts us = flat_map unrouted_text us

-- the connectors of the present scene that have no route, in order, each with its cause
abbrev pub SaysWhy : State → List ℕ → Type 0
SaysWhy s said = (found : List Unrouted) × AreUnrouted s.world.present s.book found × (said ≡ unrouted_texts found ++ ok_line)
