-- The clap commands for the arguments of each subcommand, and their matches. No public clause cites this module.
use Rattle.std.specs.Prelude.{◌≡◌, ℕ, Bool, true, false, List, [], Option, Some, None, option_map, unwrap_or, codes, if◌then◌else◌}
use Rattle.clap.specs.declared.builder.action.ArgAction.TheVariants.{Append, SetTrue}
use Rattle.clap.specs.declared.parser.matches.ArgMatches.{ArgMatches}
use Rattle.clap.specs.Words.{App, Rule, found_of, matched_of, new_app, new_rule, one_text, raw_values, with_rule}
use Rattle.clap.specs.Simple.{on_top}
use Rattle.command_words.specs.Words.{Said}

-- the arguments that are not options, and the two options
abbrev pub plain_rule : Rule
plain_rule = record (new_rule (codes "plain")) { action = Some Append }

abbrev pub workers_rule : Rule
workers_rule = record (new_rule (codes "workers")) { long = Some (codes "workers"); action = Some Append }

abbrev pub count_rule : Rule
count_rule = record (new_rule (codes "count")) { long = Some (codes "count"); action = Some SetTrue }

-- a command without options, and one with both options
abbrev pub plain_app : List ℕ → App
plain_app name = with_rule (on_top (λ s. record s { disable_help_flag = true }) (new_app name)) plain_rule

abbrev pub route_app : List ℕ → App
route_app name = with_rule (with_rule (plain_app name) workers_rule) count_rule

abbrev pub app_for : Bool → List ℕ → App
app_for false name = plain_app name
app_for true name = route_app name

-- the values of an argument
abbrev pub values_in : ArgMatches → List ℕ → List (List ℕ)
values_in m id = unwrap_or (option_map raw_values (matched_of (found_of m) id)) []

-- the matches have the values of the arguments
pub record Shows (has_options : Bool) (s : Said) (m : ArgMatches) : Type 0 where
  pub plain : values_in m (codes "plain") ≡ s.plain
  pub workers : values_in m (codes "workers") ≡ s.workers
  pub count : has_options ≡ true → one_text (found_of m) (codes "count") ≡ Some (if s.count then codes "true" else codes "false")

-- there are matches if the arguments are valid
abbrev pub AreShown : Bool → Option Said → Option ArgMatches → Type 0
AreShown has_options None None = Unit {0}
AreShown has_options (Some s) (Some m) = Shows has_options s m
AreShown has_options said found = ⊥
