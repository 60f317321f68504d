-- Where a checkpoint is no crossing there is no walk. The lists are those of the arena, and there are rows for their lines in all stages.
-- Where no exit is kept, no row lacks its mark.
use Rattle.std.proofs.Common.{◌≡◌, ℕ, [], inl, All, Global, Vec, ◌+◌, ◌*◌, ◌<◌, ◌≤◌, length, sym, ap, subst, ◌∙◌, arith}
use Rattle.std.proofs.Math.Nat.{mul-le-mul_right}
use Rattle.std.proofs.lemmas.Bool.{false≢true}
use Rattle.std.proofs.lemmas.List.Elements.{All-nil}
use Rattle.std.proofs.lemmas.Option.{slice_get_within}
use Rattle.plane_geom.specs.declared.point.Point.{Point}
use Rattle.plane_geom.specs.Along.{way_of}
use Rattle.walk_model.specs.declared.task.Task.{Task}
use Rattle.line_arena.specs.Arena.{Arena, IsArena, StandsAt}
use Rattle.walk_laws.proofs.OnKeptLines.Lines.{chosen}
use Rattle.exit_rows.specs.Rows.{IsClear, IsMarked}
use Rattle.exit_rows.specs.declared.exit.Kept.{Kept}
use Rattle.exit_rows.specs.declared.rows.Rows.{Rows}
use Rattle.line_lists.specs.Lists.{AreListsOf, number_of}
use Rattle.route_search.proofs.Checkpoints.{no_walk_past}
use Rattle.route_search.proofs.Matching.{lists_are}
use Rattle.route_search.proofs.finder.search.Goals as goal

-- the row of a stage and a line is within those of all stages and lines
row_within : (k m l n rows : ℕ) → k ≤ m → l < n → (m + 1) * n * 2 ≤ rows → (k * n + l) * 2 + 1 < rows
row_within k m l n rows stage line all =
    let more : (k + 1) * n ≤ (m + 1) * n = mul-le-mul_right n (omega (arith, stage)) in
    omega (arith, more, line, all)

-- where no exit is kept and no row is marked, each row with an exit is marked
marked_where_clear : (t : Rows) → IsClear t → IsMarked t
marked_where_clear t clear = record {
  rows = λ k row at. inl (chosen (λ (r : Vec Kept Global). r.items ≡ []) t.rows.items k row at clear.rows);
  marks = subst (All (λ k. k < length t.rows.items)) (sym clear.marks) (All-nil (λ k. k < length t.rows.items));
}

pub returns-then-not-are_crossings-clause-marked : goal.returns-then-not-are_crossings-clause-marked
returns-then-not-are_crossings-clause-marked c = marked_where_clear c.args.spread.now.rows c.requires.none.rows

pub returns-in_err-fit-clause-marked : goal.returns-in_err-fit-clause-marked
returns-in_err-fit-clause-marked c = marked_where_clear c.fit.new.self c.fit.ensures.clear

pub returns-in_err-problem-clause-marked : goal.returns-in_err-problem-clause-marked
returns-in_err-problem-clause-marked c = marked_where_clear c.fit.new.self c.fit.ensures.clear

pub returns-then-not-are_crossings-clause-answer : goal.returns-then-not-are_crossings-clause-answer
returns-then-not-are_crossings-clause-answer c =
    no_walk_past c.requires.problem.0 c.args.arena.now c.args.solids.now c.args.task.now c.laws.ensures.arena c.requires.problem.1
    (λ all. false≢true (sym c.if-not-are_crossings.true
    ∙ c.are_crossings.ensures.1 (subst (All (λ (p : Point). (k : ℕ) × StandsAt c.args.arena.now k p)) (sym c.as_slice-via.ensures) all)))

pub spread-requires-clause-lists : goal.spread-requires-clause-lists
spread-requires-clause-lists c =
    let arena = c.in_ok-problem.ensures.arena in
    subst (λ (a : Arena). AreListsOf a c.args.lines.now.lists) (sym arena)
    (lists_are c.args.arena.now (subst IsArena arena c.in_ok-problem.ensures.ready.arena) c.args.lines.now.lists c.requires.lines.are_lists)

pub spread-requires-clause-rooms : goal.spread-requires-clause-rooms
spread-requires-clause-rooms c k c' d at stage here =
    let arena = c.in_ok-problem.ensures.arena in
    let lists = c.args.lines.now.lists in
    let are = subst (λ (a : Arena). AreListsOf a lists) (sym arena)
    (lists_are c.args.arena.now (subst IsArena arena c.in_ok-problem.ensures.ready.arena) lists c.requires.lines.are_lists) in
    let numbered = are.numbers c' here.pair (way_of d) here.is in
    let within = slice_get_within lists.lines (number_of lists c' (way_of d)) numbered.0 numbered.1.listed in
    let lines : c.fit.new.self.lines ≡ length lists.lines = c.in_ok-fit.ensures.lines ∙ ap length c.lines.ensures in
    let few : length c.in_ok-problem.problem.task.now.via ≡ length c.as_slice-via.result.now = ap (λ (t : Task). length t.via) c.in_ok-problem.ensures.task ∙ ap length (sym c.as_slice-via.ensures) in
    record {
      line = omega (arith, within, lines);
      row = row_within k (length c.as_slice-via.result.now) (number_of lists c' (way_of d)) c.fit.new.self.lines (length c.fit.new.self.rows.items) (omega (arith, stage, few)) (omega (arith, within, lines))
          (subst (λ n. (length c.as_slice-via.result.now + 1) * n * 2 ≤ length c.fit.new.self.rows.items) (sym c.in_ok-fit.ensures.lines) c.in_ok-fit.ensures.rows);
    }

pub route-requires : goal.route-requires
route-requires c = record {
  ready = c.in_ok-problem.ensures.ready;
  lists = (let arena = c.in_ok-problem.ensures.arena in
      subst (λ (a : Arena). AreListsOf a c.args.lines.now.lists) (sym arena)
      (lists_are c.args.arena.now (subst IsArena arena c.in_ok-problem.ensures.ready.arena) c.args.lines.now.lists c.requires.lines.are_lists));
  spread = c.in_ok-spread.ensures.spread;
}
