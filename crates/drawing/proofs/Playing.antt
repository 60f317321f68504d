-- Commands that are done one after the other.
use Rattle.std.proofs.Common.{◌≡◌, ℕ, ◌+◌, ◌<◌, List, [], ◌∷◌, ◌++◌, length, map, take, drop, get_or, Ok, refl, sym, ap, subst, ◌∙◌}
use Rattle.std.proofs.lemmas.List.{drop_more, map_push, take-append-drop, take_more}
use Rattle.scene_model.specs.declared.edit.Command.{Command}
use Rattle.session_model.specs.State.{State}
use Rattle.session_model.specs.Calls.{AreCalls, IsCall, CommandResult}
use Rattle.drawing.specs.Drawing.{DrawingState, IsDrawingCall, Keeps}
use Rattle.drawing.specs.declared.script.Stopped.{Stopped}
use Rattle.drawing.specs.Played.{AreDone, IsRefused, StopsAt, done}

-- one more call
calls_push : (ts : List CommandResult) (t : CommandResult) (old middle new : State) → AreCalls ts old middle → IsCall t.command t.answer middle new → AreCalls (ts ++ t ∷ []) old new
calls_push [] t old middle new are call = (new, subst (λ (s : State). IsCall t.command t.answer s new) are call, refl)
calls_push (u ∷ ts) t old middle new are call = (are.0, are.1, calls_push ts t are.0 middle new are.2 call)

-- what two calls keep, one after the other
pub keeps_on : (old middle new : DrawingState) → Keeps old middle → Keeps middle new → Keeps old new
keeps_on old middle new h k = record {
  document = k.document ∙ h.document;
  labels = k.labels ∙ h.labels;
  reported = k.reported ∙ h.reported;
  asked = k.asked ∙ h.asked;
}

done_push : (cs : List (ℕ × Command)) (c : ℕ × Command) (old middle new : DrawingState) → AreDone cs old middle → IsDrawingCall c.1 (Ok tt) middle new → AreDone (cs ++ c ∷ []) old new
done_push cs c old middle new are call = record {
  calls = subst (λ (ts : List CommandResult). AreCalls ts old.session new.session) (sym (map_push done cs c)) (calls_push (map done cs) (done c) old.session middle.session new.session are.calls call.call);
  keeps = keeps_on old middle new are.keeps call.keeps;
}

-- no command is done yet
pub none_done : (d : DrawingState) → AreDone [] d d
none_done d = record { calls = refl; keeps = record { document = refl; labels = refl; reported = refl; asked = refl } }

-- the next command of a script is done
pub done_more : (cs : List (ℕ × Command)) (i : ℕ) (d : ℕ × Command) (old middle new : DrawingState) → i < length cs → AreDone (take i cs) old middle
    → IsDrawingCall (get_or cs i d).1 (Ok tt) middle new → AreDone (take (i + 1) cs) old new
done_more cs i d old middle new within before call =
    subst (λ (l : List (ℕ × Command)). AreDone l old new) (sym (take_more cs i d within)) (done_push (take i cs) (get_or cs i d) old middle new before call)

-- the next command of a script is refused
pub stops : (cs : List (ℕ × Command)) (i : ℕ) (d : ℕ × Command) (stopped : Stopped) (old middle new : DrawingState) → i < length cs → AreDone (take i cs) old middle
    → (get_or cs i d).0 ≡ stopped.line → IsRefused (get_or cs i d).1 stopped.why middle new → StopsAt cs stopped old new
stops cs i d stopped old middle new within before line refused = record {
  before = take i cs;
  command = (get_or cs i d).1;
  rest = drop (i + 1) cs;
  split = sym (take-append-drop i cs) ∙ ap (λ l. take i cs ++ l) (drop_more cs i d within) ∙ ap (λ n. take i cs ++ (n, (get_or cs i d).1) ∷ drop (i + 1) cs) line;
  middle = middle;
  are_done = before;
  is_refused = refused;
}
