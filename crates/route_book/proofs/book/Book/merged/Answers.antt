-- What was found and what is kept are the right answers.
use Rattle.std.proofs.Common.{◌≡◌, ℕ, Some, List, map, sym, subst, ◌∙◌}
use Rattle.std.specs.Prelude.{All, IsSome}
use Rattle.std.specs.List.{AllZip}
use Rattle.walk_model.specs.declared.route.Answer.{Answer}
use Rattle.scene_model.specs.Scene.{connectors}
use Rattle.scene_model.proofs.Editing.Edges.{number_of}
use Rattle.route_book.specs.Search.{AreRising, newer}
use Rattle.route_book.proofs.Answering.Connectors.{all_rising}
use Rattle.route_book.proofs.Answering.Merged.{all_known, merged_right}
use Rattle.route_book.proofs.book.Book.merged.Goals as goal

pub merged-requires-clause-order : goal.merged-requires-clause-order
merged-requires-clause-order c =
    subst AreRising (sym (c.deref.ensures.value ∙ c.requires.connectors)) (all_rising c.args.new.now c.valid-2.ensures)

pub merged-requires-clause-known : goal.merged-requires-clause-known
merged-requires-clause-known c =
    let found = c.args.found.now in
    let all = all_known c.args.old.now c.args.new.now c.args.self.now found c.args.sought.now.stale.items c.requires.found c.requires.stale in
    subst (λ (kept : List Answer). All (λ n. IsSome (newer found kept n)) c.deref.result.now) (sym c.self.view_is)
    (subst (All (λ n. IsSome (newer found c.args.self.now n))) (sym (c.deref.ensures.value ∙ c.requires.connectors)) all)

pub returns : goal.returns
returns c =
    let new = c.args.new.now in
    let found = c.args.found.now in
    let there = c.in_ok-answers.answers in
    let merged : AllZip (λ n a. newer found c.args.self.now n ≡ Some a) (map number_of (connectors new)) there =
    subst (λ (ns : List ℕ). AllZip (λ n a. newer found c.args.self.now n ≡ Some a) ns there) (c.deref.ensures.value ∙ c.requires.connectors)
    (subst (λ (kept : List Answer). AllZip (λ n a. newer found kept n ≡ Some a) c.deref.result.now there) c.self.view_is c.in_ok-answers.ensures) in
    merged_right c.args.old.now new c.args.self.now found c.args.sought.now.stale.items c.requires.found c.valid.ensures c.valid-2.ensures c.requires.right c.requires.stale there merged
