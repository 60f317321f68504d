-- A list is opened, unless it is one too many.
use Rattle.std.proofs.Common.{◌<◌, ◌≤◌, length, Some, ap, ◌∙◌, arith}
use Rattle.gml_text.specs.Reader.{frames}
use Rattle.gml_text.specs.Reading.{between, following, in_space, opened}
use Rattle.gml_text.specs.Standing.{gap_state}
use Rattle.gml_text.specs.View.{pairs}
use Rattle.gml_text.proofs.Standing.{goes, too_deep_there}
use Rattle.gml_text.proofs.Views.{length-frames, opened-frames}
use Rattle.gml_text.proofs.reader.Reader.open_list.Goals as goal

pub returns-then-len-ge-MOST_OPEN-clause-goes : goal.returns-then-len-ge-MOST_OPEN-clause-goes
returns-then-len-ge-MOST_OPEN-clause-goes c =
    let r = c.args.self.now in
    let fs = frames r.lists.items in
    let ps = pairs r.pairs.items in
    let e = length-frames r.lists.items in
    let many : 63 < length fs = omega (arith, e, r.lists.ok.0, c.len.ensures, c.if-len-ge-MOST_OPEN.true) in
    too_deep_there c.args.bytes.now c.args.at (gap_state (following c.args.key) fs ps) (opened fs ps c.args.key) c.requires.within c.requires.stands
    (ap (in_space (following c.args.key) fs ps) c.requires.opens) (omega (arith, many))

pub returns-clause-goes : goal.returns-clause-goes
returns-clause-goes c =
    let r = c.args.self.now in
    let fs = frames r.lists.items in
    let ps = pairs r.pairs.items in
    let new = c.push.new.self in
    let e = length-frames new.items in
    let few : length (frames new.items) ≤ 64 = omega (arith, e, new.ok.0, r.lists.ok.0, c.len.ensures, c.if-len-ge-MOST_OPEN.false, c.in-Ok.ensures.len) in
    let empty = ap (λ v. v.items) c.replace-before.ensures.after ∙ c.new.ensures.items in
    let same = opened-frames r.lists.items new.items (record { key = c.args.key; before = c.replace-before.result }) ps c.replace-before.new.dest.items
    c.in-Ok.ensures.items (ap (λ v. pairs v.items) c.replace-before.ensures.value) empty in (
      omega (arith, c.requires.within),
      goes c.args.bytes.now c.args.at (gap_state (following c.args.key) fs ps)
          (gap_state between (frames new.items) (pairs c.replace-before.new.dest.items)) c.requires.within c.requires.stands
          (ap (in_space (following c.args.key) fs ps) c.requires.opens ∙ ap Some same) few,
    )
