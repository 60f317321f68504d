-- The edits that move a connector, and what edits do that are made one after the other.
use Rattle.std.proofs.Common.{◌≡◌, ℕ, ◌+◌, ◌<◌, List, [], ◌∷◌, ◌++◌, length, take, drop, get_or, Option, None, Some, Result, Ok, Err, inl, inr, refl, sym, ap, subst, ◌∙◌, append_assoc}
use Rattle.std.specs.Prelude.{All, ℤ}
use Rattle.std.proofs.lemmas.List.{drop_more, take-append-drop, take_more}
use Rattle.std.proofs.lemmas.List.Elements.{All-cons, All-nil}
use Rattle.plane_geom.specs.declared.point.Point.{Point}
use Rattle.scene_model.specs.declared.edge.Edge.{Edge}
use Rattle.scene_model.specs.declared.edit.Edit.{Edit as SceneEdit}
use Rattle.scene_model.specs.declared.edit.Edit.TheVariants.{AddVia, CutEdge}
use Rattle.scene_model.specs.declared.edit.Command.TheVariants.{Edit}
use Rattle.scene_model.specs.declared.fault.SessionFault.{SessionFault}
use Rattle.scene_model.specs.Edits.{IsDirected}
use Rattle.scene_model.specs.Scene.{Scene, edge_with}
use Rattle.drawing.specs.declared.reconnect.End.{End}
use Rattle.drawing.specs.declared.reconnect.End.TheVariants.{From, To}
use Rattle.drawing.specs.Drawing.{DrawingState, IsDrawingCall, Keeps}
use Rattle.drawing.specs.Reconnect.{AreEdited, AreMade, joined, passing, reconnection, rejoined}
use Rattle.drawing.proofs.Playing.{keeps_on}

-- one more checkpoint
pub one_passed : (number place : ℕ) (via : List Point) (i : ℕ) (d : Point) (whole out new : List SceneEdit) → i < length via
    → out ++ passing number place (drop i via) ≡ whole → new ≡ out ++ AddVia number place (get_or via i d).x (get_or via i d).y ∷ []
    → new ++ passing number (place + 1) (drop (i + 1) via) ≡ whole
one_passed number place via i d whole out new within so_far pushed =
    let p = get_or via i d in
    let later = passing number (place + 1) (drop (i + 1) via) in
    ap (λ es. es ++ later) pushed ∙ append_assoc out (AddVia number place p.x p.y ∷ []) later
    ∙ ap (λ es. out ++ es) (sym (ap (passing number place) (drop_more via i d within))) ∙ so_far

passing_directed : (number place : ℕ) (via : List Point) → All IsDirected (passing number place via)
passing_directed number place [] = All-nil IsDirected
passing_directed number place (p ∷ ps) = All-cons IsDirected (AddVia number place p.x p.y) (passing number (place + 1) ps) tt (passing_directed number (place + 1) ps)

joined_directed : (e : Edge) (end : End) (id : ℤ) (class : ℕ) → IsDirected (joined e end id class)
joined_directed e From id class = tt
joined_directed e To id class = tt

rejoined_directed : (edge : Option Edge) (next : ℕ) (end : End) (id : ℤ) (class : ℕ) → All IsDirected (rejoined edge next end id class)
rejoined_directed None next end id class = All-nil IsDirected
rejoined_directed (Some e) next end id class = All-cons IsDirected (joined e end id class) (passing next 1 e.via) (joined_directed e end id class) (passing_directed next 1 e.via)

-- no edit that moves a connector adds a pin
pub reconnection_directed : (s : Scene) (number : ℕ) (end : End) (id : ℤ) (class : ℕ) → All IsDirected (reconnection s number end id class)
reconnection_directed s number end id class =
    All-cons IsDirected (CutEdge number) (rejoined (edge_with s number) s.next_edge end id class) tt (rejoined_directed (edge_with s number) s.next_edge end id class)

edited_push : (es : List SceneEdit) (e : SceneEdit) (old middle new : DrawingState) → AreEdited es (Ok tt) old middle → IsDrawingCall (Edit e) (Ok tt) middle new → AreEdited (es ++ e ∷ []) (Ok tt) old new
edited_push [] e old middle new are call = (new, subst (λ (d : DrawingState). IsDrawingCall (Edit e) (Ok tt) d new) are call, refl)
edited_push (f ∷ es) e old middle new are call = (are.0, are.1, edited_push es e are.0 middle new are.2 call)

edited_stop : (es : List SceneEdit) (e : SceneEdit) (rest : List SceneEdit) (fault : SessionFault) (old middle new : DrawingState) → AreEdited es (Ok tt) old middle
    → IsDrawingCall (Edit e) (Err fault) middle new → AreEdited (es ++ e ∷ rest) (Err fault) old new
edited_stop [] e rest fault old middle new are call = inl (subst (λ (d : DrawingState). IsDrawingCall (Edit e) (Err fault) d new) are call)
edited_stop (f ∷ es) e rest fault old middle new are call = inr (are.0, are.1, edited_stop es e rest fault are.0 middle new are.2 call)

-- the next edit is made
pub edited_more : (es : List SceneEdit) (i : ℕ) (d : SceneEdit) (old middle new : DrawingState) → i < length es → AreEdited (take i es) (Ok tt) old middle
    → IsDrawingCall (Edit (get_or es i d)) (Ok tt) middle new → AreEdited (take (i + 1) es) (Ok tt) old new
edited_more es i d old middle new within before call =
    subst (λ (l : List SceneEdit). AreEdited l (Ok tt) old new) (sym (take_more es i d within)) (edited_push (take i es) (get_or es i d) old middle new before call)

-- the next edit is refused
pub edited_until : (es : List SceneEdit) (i : ℕ) (d : SceneEdit) (fault : SessionFault) (old middle new : DrawingState) → i < length es → AreEdited (take i es) (Ok tt) old middle
    → IsDrawingCall (Edit (get_or es i d)) (Err fault) middle new → AreEdited es (Err fault) old new
edited_until es i d fault old middle new within before call =
    let rest = drop (i + 1) es in
    subst (λ (l : List SceneEdit). AreEdited l (Err fault) old new) (ap (λ l. take i es ++ l) (sym (drop_more es i d within)) ∙ take-append-drop i es)
    (edited_stop (take i es) (get_or es i d) rest fault old middle new before call)

edited_keeps : (es : List SceneEdit) (answer : Result Unit SessionFault) (old new : DrawingState) → AreEdited es answer old new → Keeps old new
edited_keeps [] (Ok done) old new h = record { document = ap (λ d. d.document) h; labels = ap (λ d. d.labels) h; reported = ap (λ d. d.reported) h; asked = ap (λ d. d.asked) h }
edited_keeps [] (Err fault) old new h = absurd h
edited_keeps (e ∷ es) (Ok done) old new h = keeps_on old h.0 new h.1.keeps (edited_keeps es (Ok tt) h.0 new h.2)
edited_keeps (e ∷ es) (Err fault) old new (inl h) = h.keeps
edited_keeps (e ∷ es) (Err fault) old new (inr h) = keeps_on old h.0 new h.1.keeps (edited_keeps es (Err fault) h.0 new h.2)

-- edits keep the document and the lines that were reported
pub made_keeps : (es : List SceneEdit) (answer : Result ℕ SessionFault) (old new : DrawingState) → AreMade es answer old new → Keeps old new
made_keeps es (Ok number) old new h = edited_keeps es (Ok tt) old new h.0
made_keeps es (Err fault) old new (inl h) = edited_keeps es (Err fault) old new h
made_keeps es (Err fault) old new (inr h) = h.1.keeps
