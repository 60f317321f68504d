-- The command that is built is the one by which the arguments are read.
use Rattle.std.proofs.Common.{rules, ◌≡◌, ◌∙◌, true, ap, ap₂, sym}
use Rattle.std.proofs.lemmas.Result.{IfOk-weaker}
use Rattle.clap.specs.Words.{app_of, rule_of, with_rule}
use Rattle.clap.specs.Simple.{app_of_fields, on_top}
use Rattle.command_words.specs.Commands.{app_for, count_rule, plain_app, plain_rule, workers_rule}
use Rattle.command_words.proofs.matches.command.Goals as goal

pub returns : goal.returns
returns c =
    let name = c.args.name.now in
    let has : c.args.has_options ≡ true = search rules in
    let plain_is : rule_of c.action-plain.result ≡ plain_rule = search rules in
    let workers_is : rule_of c.action-workers.result ≡ workers_rule = search rules in
    let count_is : rule_of c.action-count.result ≡ count_rule = search rules in
    let quiet_is : app_of c.disable_help_flag.result ≡ on_top (λ s. record s { disable_help_flag = true }) (app_of c.new-2.result) = ap app_of_fields c.disable_help_flag.ensures in
    let bare_is : app_of c.in_ok-bare.bare ≡ plain_app name = c.in_ok-bare.ensures.shape (search rules)
    ∙ ap₂ with_rule (quiet_is ∙ ap (on_top (λ s. record s { disable_help_flag = true })) c.new-2.ensures.app) plain_is in
    let both_is = c.in_ok-arg.ensures.shape (search rules) ∙ ap₂ with_rule bare_is workers_is in
    IfOk-weaker c.arg-3.result _ _ (λ m h. h.shape (search rules) ∙ ap₂ with_rule both_is count_is ∙ ap (λ b. app_for b name) (sym has)) c.arg-3.ensures
