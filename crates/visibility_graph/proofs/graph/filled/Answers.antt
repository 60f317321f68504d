-- In an empty arena nothing stays, and each put is counted.
use Rattle.std.proofs.Common.{◌≡◌, inl, inr, ◌+◌, ◌≤◌, [], length, ap, ◌∙◌, arith}
use Rattle.std.specs.Prelude.{Contains}
use Rattle.std.specs.FinMap.{len, len-empty}
use Rattle.std.specs.Ordering.{nat_cmp}
use Rattle.plane_geom.specs.declared.floor.Line.{Line}
use Rattle.line_arena.specs.Arena.{Pair}
use Rattle.visibility_graph.specs.Meeting.{coming}
use Rattle.line_arena.specs.Count.{counted_by}
use Rattle.visibility_graph.proofs.Empty.{complete_empty, no_line_in}
use Rattle.visibility_graph.proofs.graph.filled.Goals as goal

pub put_lines-requires : goal.put_lines-requires
put_lines-requires c =
    let arena = c.reserve.new.self in
    let none = c.reserve.ensures.lines ∙ c.new-arena.ensures.lines in
    record {
      lines = λ l. (λ h. absurd (no_line_in arena l none h), λ h. absurd (omega (arith, h.1)));
      complete = complete_empty arena none;
      new_ordered = c.requires.ordered;
      stay_ordered = λ i j d low high. absurd (omega arith);
      strange = λ l h _. absurd (omega (arith, h.1));
      long = c.requires.long;
      apart = λ l m p h k whole on there.
          elim h as (λ _. l ≡ m) [
            | inl x ↦ elim k as (λ _. l ≡ m) [ inl y ↦ c.requires.apart l m p x y whole on there | inr y ↦ absurd (omega (arith, y.1)) ]
            | inr x ↦ absurd (omega (arith, x.1))
          ];
      room_for_lines = c.in_ok-reserve.ensures.room_for_lines;
      room_for_crossings = omega (arith, c.in_ok-reserve.ensures.room_for_crossings, c.in_ok-crossings.ensures);
    }

pub returns-clause-lines : goal.returns-clause-lines
returns-clause-lines c = λ l.
    let none = c.reserve.ensures.lines ∙ c.new-arena.ensures.lines in (
      λ h. elim ((c.put_lines.ensures.stands l).0 h) as (λ _. Contains c.args.lines.now l) [
        | inl old ↦ absurd (no_line_in c.reserve.new.self l none old)
        | inr x ↦ x
      ],
      λ x. (c.put_lines.ensures.stands l).1 (inr x),
    )

pub returns-clause-written : goal.returns-clause-written
returns-clause-written c =
    let put = c.put_lines.ensures in
    let n = length c.args.lines.now + coming c.args.lines.now [] in
    let before = c.reserve.ensures.written ∙ c.new-arena.ensures.written in
    let no_lines = ap len (c.reserve.ensures.lines ∙ c.new-arena.ensures.lines) ∙ len-empty nat_cmp Line in
    let no_crossings = ap len (c.reserve.ensures.crossings ∙ c.new-arena.ensures.crossings) ∙ len-empty nat_cmp Pair in
    let fits : 0 + n ≤ 18446744073709551615 = omega (arith, c.in_ok-added.ensures.within, c.in_ok-crossings.ensures) in
    let all : counted_by n 0 ≡ n = omega (arith, fits) in
    put.written ∙ ap (counted_by n) before ∙ omega (arith, all, put.line_entries, put.crossing_entries, no_lines, no_crossings)
