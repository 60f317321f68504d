-- A session with its document, the labels of what edits added, and the lines that were reported and asked for; and what its calls do.
use Rattle.std.specs.Prelude.{◌≡◌, ℕ, [], List, length, Option, None, Some, Result, Ok, IfErr}
use Rattle.gml_text.specs.Printed.{IsPrintable}
use Rattle.gml_text.specs.Tree.{Pairs}
use Rattle.gml_text.specs.declared.tree.Doc.{Doc}
use Rattle.gml_text.specs.View.{tree}
use Rattle.diagram_read.specs.Scene.{scene_of}
use Rattle.walk_model.specs.declared.route.Answer.{Answer}
use Rattle.walk_model.specs.declared.route.Route.{Route}
use Rattle.walk_model.specs.declared.route.WrittenRoute.{WrittenRoute}
use Rattle.scene_model.specs.declared.edit.Command.{Command}
use Rattle.scene_model.specs.declared.fault.SessionFault.{SessionFault}
use Rattle.scene_model.specs.Answers.{AreAnswers}
use Rattle.scene_model.specs.Scene.{Scene, connectors}
use Rattle.scene_model.specs.World.{World, Everywhere, rolled_back, opened}
use Rattle.session_model.specs.Calls.{IsCall}
use Rattle.session_model.specs.State.{State}
use Rattle.route_session.specs.Runs.{IsRefusable, Searches}
use Rattle.gml_scene.specs.Diagram.{IsDiagram}
use Rattle.gml_scene.specs.Labels.{LabelLists, no_labels}
use Rattle.gml_scene.specs.Origins.{AreEdgesOf, AreNodesOf}
use Rattle.drawing.specs.Changes.{Asked, asked_of}
use Rattle.drawing.specs.Lines.{AreDrawn, AreProposed}

-- the session, the document, the labels that were given, the lines that were reported last, and what was asked for last
pub record DrawingState : Type 0 where
  pub session : State
  pub document : Doc
  pub labels : LabelLists
  pub reported : List WrittenRoute
  pub asked : Asked

-- but for what edits added, the scene has only nodes and edges of the diagram that was read as this scene
pub record ComesFrom (was s : Scene) : Type 0 where
  pub nodes : AreNodesOf was s
  pub edges : AreEdgesOf was s

-- the document is a diagram that can be printed, and each scene of the world comes from it
pub record IsSource (document : Pairs) (w : World) : Type 0 where
  pub printable : IsPrintable document
  pub was : Scene
  pub source : scene_of document ≡ Ok was
  pub scenes : Everywhere (ComesFrom was) w

-- the document, the labels, the lines that were reported, and what was asked for stay
pub record Keeps (old new : DrawingState) : Type 0 where
  pub document : new.document ≡ old.document
  pub labels : new.labels ≡ old.labels
  pub reported : new.reported ≡ old.reported
  pub asked : new.asked ≡ old.asked

-- a session on the scene, of which no line was reported yet, and without labels
pub record IsOpened (s : Scene) (d : DrawingState) : Type 0 where
  pub world : d.session.world ≡ opened s
  pub right : AreAnswers s d.session.book
  pub searched : d.session.searched ≡ length (connectors s)
  pub labels : d.labels ≡ no_labels
  pub reported : d.reported ≡ []
  pub asked : d.asked ≡ asked_of [] []

-- the scene that the next edit changes: that of the open transaction, if one is open
abbrev pub edited_scene : Option Scene → Scene → Scene
edited_scene None present = present
edited_scene (Some working) present = working

-- the number that the next connector gets
abbrev pub next_edge : World → ℕ
next_edge w = (edited_scene w.working w.present).next_edge

-- the cost of an answer's route, if it has one
abbrev pub cost_of_route : Option Route → Option ℕ
cost_of_route None = None
cost_of_route (Some route) = Some route.cost

abbrev pub cost_of : Option Answer → Option ℕ
cost_of None = None
cost_of (Some answer) = cost_of_route answer.route

-- the lines of the present scene are reported, and compared with those that were reported before
pub record Reports (old new : DrawingState) : Type 0 where
  pub drawn : AreDrawn new.session.world.present new.session.book new.reported
  pub asked : new.asked ≡ asked_of old.reported new.reported

-- the lines after a commit of the open transaction are compared with those that were reported, which stay
pub record Previews (old new : DrawingState) : Type 0 where
  pub proposed : AreProposed new.session new.asked.lines
  pub asked : new.asked ≡ asked_of old.reported new.asked.lines
  pub reported : new.reported ≡ old.reported

-- the session's call of the command, with this answer
pub record IsDrawingCall (c : Command) (answer : Result Unit SessionFault) (old new : DrawingState) : Type 0 where
  pub call : IsCall c answer old.session new.session
  pub searches : Searches c answer old.session new.session
  pub refusable : IfErr answer (IsRefusable c)
  pub keeps : Keeps old new

-- the transaction is dropped if one is open, and nothing else changes
pub record RollsBack (old new : DrawingState) : Type 0 where
  pub world : new.session.world ≡ rolled_back old.session.world
  pub book : new.session.book ≡ old.session.book
  pub searched : new.session.searched ≡ old.session.searched
  pub keeps : Keeps old new

-- the text is the document, with the present scene, the labels of what edits added, and its lines put in
pub record IsWritten (d : DrawingState) (text : List ℕ) : Type 0 where
  pub was : Scene
  pub source : scene_of (tree d.document) ≡ Ok was
  pub diagram : IsDiagram (tree d.document) was d.session.world.present d.labels d.session.book text
