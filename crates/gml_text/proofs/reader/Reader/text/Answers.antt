-- A string ends with its quote.
use Rattle.std.proofs.Common.{◌≡◌, ◌+◌, ◌<◌, length, slice_range, refl, sym, ap, subst, arith}
use Rattle.gml_text.specs.Reader.{frames, state_of}
use Rattle.gml_text.specs.Reading.{between}
use Rattle.gml_text.specs.Standing.{Stands, text_state, gap_state}
use Rattle.gml_text.specs.Tree.{text, no_pairs, pair, ◌then◌}
use Rattle.gml_text.specs.View.{pairs}
use Rattle.gml_text.proofs.Standing.{text_begins, text_ends, unfinished_there}
use Rattle.gml_text.proofs.Views.{put_text, same_gap}
use Rattle.gml_text.proofs.reader.Reader.text.Goals as goal

pub returns-then-end-bytes-clause-goes : goal.returns-then-end-bytes-clause-goes
returns-then-end-bytes-clause-goes c =
    let bytes = c.args.bytes.now in
    let fs = frames c.args.self.now.lists.items in
    let ps = pairs c.args.self.now.pairs.items in
    let end = c.text_end-end.result in
    unfinished_there bytes end (text_state c.args.key (slice_range bytes (c.args.at + 1) end) fs ps) c.if-end-bytes.true
    (c.text_end-end.ensures.ends c.args.key fs ps (text_begins bytes c.args.at c.args.key fs ps c.requires.within c.requires.opens c.requires.stands)) refl

pub returns-clause-goes : goal.returns-clause-goes
returns-clause-goes c =
    let bytes = c.args.bytes.now in
    let key = c.args.key in
    let fs = frames c.args.self.now.lists.items in
    let ps = pairs c.args.self.now.pairs.items in
    let end = c.text_end-end.result in
    let inner = slice_range bytes (c.args.at + 1) end in
    let new = c.put.new.self in
    let h : end < length bytes = omega (arith, c.text_end-end.ensures.within, c.if-end-bytes.false) in
    let begun = c.text_end-end.ensures.ends key fs ps (text_begins bytes c.args.at key fs ps c.requires.within c.requires.opens c.requires.stands) in
    let ended = text_ends bytes end key inner fs ps h (c.text_end-end.ensures.stops h) begun in
    let following = put_text new.pairs.items c.args.self.now.pairs.items key c.in_ok-text.text inner c.in_ok-put.ensures.ok c.in_ok-text.ensures.ok in
    let same : state_of new ≡ gap_state between fs (ps then pair key (text inner) no_pairs) =
    same_gap (frames new.lists.items) fs (pairs new.pairs.items) (ps then pair key (text inner) no_pairs) (ap (λ v. frames v.items) c.put.ensures.lists) following in
    (omega (arith, h), subst (Stands bytes (end + 1)) (sym same) ended)
