-- The report of a replay.
use Rattle.std.specs.Prelude.{ℕ, ◌==◌, Bool, true, false, not, ◌||◌, List, ◌++◌, map, Option, Some, None, is_some, option_and_then, if◌then◌else◌}
use Rattle.std.specs.List.{count_by, list_any}
use Rattle.walk_model.specs.declared.route.Answer.{Answer}
use Rattle.walk_model.specs.declared.route.Route.{Route}
use Rattle.scene_model.specs.declared.edge.Edge.{Edge}
use Rattle.scene_model.specs.Scene.{Scene, is_loop}
use Rattle.scene_model.specs.Stale.{answer_of}
use Rattle.scene_model.specs.World.{World}
use Rattle.report_text.specs.declared.reply.Reply.{Reply}
use Rattle.report_text.specs.declared.reply.Reply.TheVariants.{Kept, Searched, Refused}
use Rattle.report_text.specs.declared.reply.LineReply.{LineReply}
use Rattle.report_text.specs.declared.routed.Routed.{Routed}
use Rattle.report_text.specs.declared.routed.Routed.TheVariants.{Loop, NoRoute, Cost}
use Rattle.report_text.specs.declared.routed.EdgeRouted.{EdgeRouted}
use Rattle.report_text.specs.declared.hint.Hint.{Hint}
use Rattle.report_text.specs.declared.hint.Hint.TheVariants.{Nothing}
use Rattle.report_text.specs.declared.hint.Hint.TheVariants as hint
use Rattle.report_text.specs.declared.hint.Unrouted.{Unrouted}
use Rattle.report_text.specs.declared.status.Status.{Status}
use Rattle.report_text.specs.declared.status.Status.TheVariants.{Done}
use Rattle.report_text.specs.declared.status.Status.TheVariants as status
use Rattle.report_text.specs.Replies.{open_line, reply_lines, end_line}
use Rattle.report_text.specs.Routed.{routed_lines}

-- how a connector with this route, if it has one, is routed
abbrev pub reported_route : Option Route → Routed
reported_route None = NoRoute
reported_route (Some route) = Cost route.cost

-- how an edge is routed, by the answers
abbrev pub routed_by : List Answer → Edge → Routed
routed_by answers e = if is_loop e then Loop else reported_route (option_and_then (λ a. a.route) (answer_of answers e.number))

-- how each edge of the scene is routed, in order
abbrev pub edges_routed : Scene → List Answer → List EdgeRouted
edges_routed s answers = map (λ e. record { edge = e.number; routed = routed_by answers e }) s.edges

-- the edge has no route, though it is no loop
abbrev pub is_no_route : Routed → Bool
is_no_route NoRoute = true
is_no_route Loop = false
is_no_route (Cost cost) = false

-- how many connectors of the scene have no route by the answers, and how many connectors it has
abbrev pub unrouted_in : Scene → List Answer → Unrouted
unrouted_in s answers = record {
  without = count_by (λ e. is_no_route (routed_by answers e)) s.edges;
  all = count_by (λ e. not (is_loop e)) s.edges;
}

-- of connectors without a route: how many there are, and of how many
abbrev pub unrouted_hint : Unrouted → Hint
unrouted_hint unrouted = if unrouted.without == 0 then Nothing else hint.Unrouted unrouted

-- the lines for the opening with this number of searches, for the commands, for the end of the script, and for the edges
abbrev pub report : Bool → ℕ → List LineReply → World → List Answer → List ℕ
report count opening replies end answers =
    open_line count opening ++ reply_lines count replies
    ++ end_line (is_some end.working) ++ routed_lines (edges_routed end.present answers)

-- a command was refused
abbrev pub is_refused : Reply → Bool
is_refused (Refused why) = true
is_refused Kept = false
is_refused (Searched searched) = false

-- something was refused: a command, or the end of the script in an open transaction
abbrev pub has_refusal : List LineReply → World → Bool
has_refusal replies end = list_any (λ r. is_refused r.reply) replies || is_some end.working

-- how a script ends in which something was refused, or nothing was
abbrev pub script_status : Bool → Status
script_status true = status.Refused
script_status false = Done
