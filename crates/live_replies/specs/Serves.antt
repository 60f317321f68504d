-- A session that is served: lines are read, and each is replied to before the next.
use Rattle.std.specs.Prelude.{◌≡◌, ℕ, Bool, true, false, List, [], ◌∷◌, length, Option, None, Some, IfSome, Result, Ok, Err}
use Rattle.std.specs.Io.KnownBytes.{append_known}
use Rattle.host_edge.specs.declared.line_source.LineRead.{LineRead}
use Rattle.host_edge.specs.declared.line_source.LineRead.TheVariants.{Whole, TooLong, End as NoLine}
use Rattle.host_edge.specs.Count.{last_count}
use Rattle.host_edge.specs.Lines.{IsLineRead}
use Rattle.host_edge.specs.Sink.{AppendsPart}
use Rattle.drawing.specs.Drawing.{DrawingState}
use Rattle.live_replies.specs.declared.serving.End.{End}
use Rattle.live_replies.specs.declared.serving.End.TheVariants.{Input, Quit}
use Rattle.live_replies.specs.declared.serving.ServeFault.{ServeFault}
use Rattle.live_replies.specs.declared.serving.ServeFault.TheVariants.{Read, Write, Memory, Exhausted}
use Rattle.live_replies.specs.Answers.{AnswersRead}
use Rattle.live_replies.specs.Requests.{is_quit}

-- the greatest number of bytes of a line
abbrev pub most_line : ℕ
most_line = 4096

-- the bytes that are still to be read, the bytes that were written, and the session
pub record Moment : Type 0 where
  pub rest : Option (List ℕ)
  pub held : Option (List ℕ)
  pub live : DrawingState

-- one turn: what was read, the reply to it, and the moment after
pub record Turn : Type 0 where
  pub read : LineRead
  pub line : List ℕ
  pub said : List ℕ
  pub after : Moment

-- the next line is read, where the source exposes its bytes
abbrev pub Hears : Option (List ℕ) → Turn → Type 0
Hears rest t = IfSome rest (λ bytes. IsLineRead most_line bytes t.read t.line t.after.rest)

-- a line is read, the reply to it is found, and the whole reply is written
pub record IsTurn (a : Moment) (t : Turn) : Type 0 where
  pub heard : Hears a.rest t
  pub answered : AnswersRead t.read t.line a.live t.after.live t.said
  pub written : t.after.held ≡ append_known a.held t.said

-- what was read asks for the end
abbrev pub asks_for_end : LineRead → List ℕ → Bool
asks_for_end Whole line = is_quit line
asks_for_end TooLong line = false
asks_for_end NoLine line = false

-- how a session ends after a turn that asks for it, or does not
abbrev pub end_after : Bool → Option End
end_after true = Some Quit
end_after false = None

-- the turns lead from the one moment to the other, each from where the one before it ends, and none asks for the end
abbrev pub AreTurns : Moment → List Turn → Moment → Type 0
AreTurns a [] b = a ≡ b
AreTurns a (t ∷ turns) b = IsTurn a t × (asks_for_end t.read t.line ≡ false) × AreTurns t.after turns b

-- so many turns lead there
pub record Serves (count : ℕ) (a b : Moment) : Type 0 where
  pub turns : List Turn
  pub are_turns : AreTurns a turns b
  pub counted : length turns ≡ count

-- one turn leads there, which asks for the end
pub record IsLastTurn (a b : Moment) : Type 0 where
  pub turn : Turn
  pub is_turn : IsTurn a turn
  pub asks : asks_for_end turn.read turn.line ≡ true
  pub leads : turn.after ≡ b

-- a line was read and its reply was found, and a part of the reply was written
pub record WritesPart (a b : Moment) : Type 0 where
  pub turn : Turn
  pub heard : Hears a.rest turn
  pub rest : turn.after.rest ≡ b.rest
  pub answered : AnswersRead turn.read turn.line a.live b.live turn.said
  pub part : AppendsPart a.held b.held turn.said

-- nothing was written, and the session stays
pub record StaysAt (a b : Moment) : Type 0 where
  pub held : b.held ≡ a.held
  pub live : b.live ≡ a.live

-- how a turn ends: at the end of the input, after `quit`, at a fault of the input or the output; or it does not end the session
abbrev pub EndsTurn : Result (Option End) ServeFault → Moment → Moment → Type 0
EndsTurn (Ok None) a b = Serves 1 a b
EndsTurn (Ok (Some Input)) a b = StaysAt a b × IfSome a.rest (λ bytes. bytes ≡ [])
EndsTurn (Ok (Some Quit)) a b = IsLastTurn a b
EndsTurn (Err Read) a b = StaysAt a b
EndsTurn (Err Write) a b = WritesPart a b
EndsTurn (Err Memory) a b = ⊥
EndsTurn (Err Exhausted) a b = ⊥

-- some turns lead to a moment at which the last one ends so
pub record ServesTo (last : Result (Option End) ServeFault) (a b : Moment) : Type 0 where
  pub count : ℕ
  pub middle : Moment
  pub served : Serves count a middle
  pub ended : EndsTurn last middle b

-- how serving fails: before the first line where there is no memory for one, after the greatest number of lines, or at the last turn
abbrev pub FailsTo : ServeFault → Moment → Moment → Type 0
FailsTo Memory a b = a ≡ b
FailsTo Exhausted a b = Serves last_count a b
FailsTo Read a b = ServesTo (Err Read) a b
FailsTo Write a b = ServesTo (Err Write) a b

-- the law: a session keeps the diagram that it was opened with
abbrev pub DiagramsStay : Type 0
DiagramsStay = (last : Result (Option End) ServeFault) (a b : Moment) → ServesTo last a b → b.live.document ≡ a.live.document
