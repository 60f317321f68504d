-- A first argument that is the name of no subcommand.
use Rattle.command_words.proofs.Commands.{no_command}
use Rattle.command_words.proofs.read.read_words.Goals as goal

pub returns-in_default-as_str : goal.returns-in_default-as_str
returns-in_default-as_str c =
    let not = c.in_default-as_str in
    no_command c.args.words.now c.in-Some.command.now c.as_str.result.now c.in-Some.ensures.value c.as_str.ensures.value
    (record {
      check = not.not-check;
      route = not.not-route;
      make = not.not-make;
      preview = not.not-preview;
      shared = not.not-shared;
      prove = not.not-prove;
      audit = not.not-audit;
    })
