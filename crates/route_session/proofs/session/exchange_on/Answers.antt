-- The scene, the graph, the book and the history after a commit.
use Rattle.std.proofs.Common.{◌≡◌, ◌∷◌, take, None, Some, Ok, ap, subst, sym, ◌∙◌}
use Rattle.plane_geom.specs.Floor.{IsFloor}
use Rattle.visibility_graph.specs.Drawing.{Drawing}
use Rattle.scene_model.specs.declared.edit.Command.TheVariants.{Commit}
use Rattle.scene_model.specs.Routing.{floor_of}
use Rattle.scene_model.specs.World.{step}
use Rattle.undo_log.specs.declared.step.Step.{Step}
use Rattle.session_model.specs.History.{world_of}
use Rattle.route_book.specs.Exchange.{Exchange, turned}
use Rattle.route_session.specs.Upheld.{IsUpheld}
use Rattle.route_session.proofs.Upholding.{committed}
use Rattle.route_session.proofs.session.exchange_on.Goals as goal
use Rattle.route_session.proofs.session.exchange_on.Goals.{Joined-push}

went : (c : Joined-push) → let new = c.exchange.new.self in
    IsUpheld new.scene new.graph new.book c.push.new.self None
    × (step Commit (world_of c.args.log.now c.args.present.now.scene (Some c.args.txn.working)) ≡ Ok (world_of c.push.new.self new.scene None))
went c =
    let t = c.args.txn in
    let old = c.args.present.now in
    let new = c.exchange.new.self in
    let is : new.scene ≡ t.working = c.exchange.ensures.scene ∙ c.replace_scene.ensures.scene ∙ c.into_parts-scene.ensures.scene in
    let graph : new.graph ≡ old.graph = c.exchange.ensures.graph ∙ c.replace_scene.ensures.graph in
    let floor : new.graph.floor ≡ floor_of t.working = ap (λ (d : Drawing). d.floor) graph ∙ c.requires.floor in
    let fits : IsFloor new.graph.floor = subst (λ (d : Drawing). IsFloor d.floor) (sym graph) c.requires.fits in
    let put : Step Exchange = record { back = t.back; forth = t.forth; changes = turned c.args.changes } in
    let past : c.push.new.self.past ≡ take 100 (put ∷ c.args.log.now.past) =
    c.push.ensures.past ∙ ap (λ (s : Step Exchange). take 100 (s ∷ c.args.log.now.past))
    (λ i. record { back = c.into_parts-scene.ensures.back i; forth = c.into_parts-scene.ensures.forth i; changes = c.exchange.ensures.changes i }) in
    committed old.scene old.book c.args.log.now t c.args.changes new.scene new.graph new.book c.push.new.self
    c.requires.valid c.requires.right c.requires.history c.requires.begun is floor fits c.requires.here c.requires.there c.exchange.ensures.book past c.push.ensures.future

pub returns-clause-upheld : goal.returns-clause-upheld
returns-clause-upheld c = (went c).0

pub returns-clause-ok : goal.returns-clause-ok
returns-clause-ok c = (went c).1
