-- The innermost list is closed, if there is one.
use Rattle.std.proofs.Common.{◌≡◌, length, Some, sym, ap, ◌∙◌, arith}
use Rattle.gml_text.specs.Reader.{frames, state_of}
use Rattle.gml_text.specs.Reading.{between, in_space}
use Rattle.gml_text.specs.Tree.{list, no_pairs, pair, ◌then◌}
use Rattle.gml_text.specs.View.{pairs}
use Rattle.gml_text.proofs.Standing.{goes, refused_there, closed-none}
use Rattle.gml_text.proofs.Views.{length-frames, few_lists, closed-frames, put_list, same_gap}
use Rattle.gml_text.proofs.reader.Reader.close_list.Goals as goal

pub returns-in_default-clause-goes : goal.returns-in_default-clause-goes
returns-in_default-clause-goes c =
    let r = c.args.self.now in
    let fs = frames r.lists.items in
    let ps = pairs r.pairs.items in
    let e = length-frames r.lists.items in
    let none : length fs ≡ 0 = omega (arith, e, r.lists.ok.0, c.in_default.ensures.cases.0) in
    refused_there c.args.bytes.now c.args.at (state_of r) c.requires.within c.requires.stands
    (ap (in_space between fs ps) c.requires.closes ∙ closed-none fs ps none)

pub returns-clause-goes : goal.returns-clause-goes
returns-clause-goes c =
    let r = c.args.self.now in
    let fs = frames r.lists.items in
    let ps = pairs r.pairs.items in
    let new = c.put.new.self in
    let fewer = c.pop.new.self.items in
    let o = c.in-Some.field-0 in
    let following : pairs new.pairs.items ≡ pairs o.before.items then pair o.key (list ps) no_pairs =
    put_list new.pairs.items c.replace-inner.new.dest.items o.key c.replace-inner.result (pairs o.before.items) ps c.in_ok-put.ensures.ok
    (ap (λ v. pairs v.items) c.replace-inner.ensures.after) (ap (λ v. pairs v.items) c.replace-inner.ensures.value) in
    let same = same_gap (frames new.lists.items) (frames fewer) (pairs new.pairs.items) (pairs o.before.items then pair o.key (list ps) no_pairs)
    (ap (λ v. frames v.items) c.put.ensures.lists) following in (
      omega (arith, c.requires.within),
      goes c.args.bytes.now c.args.at (state_of r) (state_of new) c.requires.within c.requires.stands
          (ap (in_space between fs ps) c.requires.closes ∙ (closed-frames r.lists.items fewer o ps c.in-Some.ensures.items ∙ ap Some (sym same))) (few_lists new),
    )
