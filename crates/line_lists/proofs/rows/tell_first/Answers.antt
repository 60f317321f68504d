-- Where the line has a first crossing, and where it has none.
use Rattle.std.proofs.Common.{arith, refl, sym, subst}
use Rattle.line_arena.specs.Arena.{IsFirst}
use Rattle.line_lists.proofs.Walking.{told_first, told_none}
use Rattle.line_lists.proofs.rows.tell_first.Goals as goal

pub returns-in-Some-clause-told : goal.returns-in-Some-clause-told
returns-in-Some-clause-told c =
    let within = c.index.ensures.within in
    let places = c.requires.places in
    told_first c.args.arena.now c.args.id c.args.line c.requires.is c.requires.way c.args.number c.args.numbers.now c.index.result _
    (subst (IsFirst c.args.arena.now c.args.id) (sym c.index.ensures.number) c.in-Some.ensures.first) (omega (arith, within, places)) refl

pub returns-in_default-clause-told : goal.returns-in_default-clause-told
returns-in_default-clause-told c =
    told_none c.args.arena.now c.args.id c.args.line c.requires.is c.requires.way c.args.number c.args.numbers.now (c.in_default.ensures.absent.0 refl)
