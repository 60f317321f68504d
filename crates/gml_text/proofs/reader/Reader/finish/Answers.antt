-- A document ends where no list is open.
use Rattle.std.proofs.Common.{◌≡◌, ◌<◌, length, refl, arith}
use Rattle.std.proofs.lemmas.Bool.Decides.{nat_tests}
use Rattle.gml_text.specs.Reader.{frames, state_of}
use Rattle.gml_text.specs.View.{pairs}
use Rattle.gml_text.proofs.Standing.{unfinished_there, finished_there, whole-none, whole-all}
use Rattle.gml_text.proofs.Views.{length-frames}
use Rattle.gml_text.proofs.reader.Reader.finish.Goals as goal

pub returns-then-not-is_empty : goal.returns-then-not-is_empty
returns-then-not-is_empty c =
    let r = c.args.self in
    let e = length-frames r.lists.items in
    let some : 0 < length (frames r.lists.items) = grind (arith, nat_tests, e, r.lists.ok.0, c.if-not-is_empty.ensures) in
    unfinished_there c.args.bytes.now (length c.args.bytes.now) (state_of r) refl c.requires.stands (whole-none (frames r.lists.items) (pairs r.pairs.items) some)

pub returns : goal.returns
returns c =
    let r = c.args.self in
    let e = length-frames r.lists.items in
    let none : length (frames r.lists.items) ≡ 0 = grind (arith, nat_tests, e, r.lists.ok.0, c.if-not-is_empty.ensures) in
    finished_there c.args.bytes.now (state_of r) (pairs r.pairs.items) c.requires.stands (whole-all (frames r.lists.items) (pairs r.pairs.items) none)
