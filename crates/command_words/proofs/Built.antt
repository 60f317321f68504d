-- The commands as clap builds them.
use Rattle.std.proofs.Common.{◌≡◌, Bool, true, false, List, [], ◌∷◌, Some, codes, refl}
use Rattle.clap.specs.declared.builder.value_parser.ValueParser.TheVariants as vp
use Rattle.clap.specs.Walk.{Rule, Text}
use Rattle.clap.specs.Simple.{Shape, built, is_simple, new_shape}
use Rattle.clap.specs.Faults.{is_simple_and_free}
use Rattle.command_words.specs.Commands.{app_for, count_rule, plain_rule, workers_rule}

abbrev pub plain_full : Rule
plain_full = record plain_rule { index = Some 1; range = Some (record { start_inclusive = 1; end_inclusive = 1 }); parser = Some vp.String }

abbrev pub workers_full : Rule
workers_full = record workers_rule { range = Some (record { start_inclusive = 1; end_inclusive = 1 }); parser = Some vp.String }

abbrev pub count_full : Rule
count_full = record count_rule {
  range = Some (record { start_inclusive = 0; end_inclusive = 0 });
  parser = Some vp.Bool;
  defaults = codes "false" ∷ [];
  missing = codes "true" ∷ [];
}

abbrev pub rules_for : Bool → List Rule
rules_for false = plain_full ∷ []
rules_for true = plain_full ∷ workers_full ∷ count_full ∷ []

abbrev pub shape_for : Bool → Text → Shape
shape_for has name = record (new_shape name) { rules = rules_for has; disable_help_flag = true; disable_help_subcommand = true; is_built = true }

pub built_is : (has : Bool) (name : Text) → built (app_for has name) ≡ record { top = shape_for has name; subs = [] }
built_is false name = refl
built_is true name = refl

pub simple_is : (has : Bool) (name : Text) → is_simple (app_for has name) ≡ true
simple_is false name = refl
simple_is true name = refl

pub free_is : (has : Bool) (name : Text) → is_simple_and_free (app_for has name) ≡ true
free_is false name = refl
free_is true name = refl
