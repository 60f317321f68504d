-- Turns that follow one another.
use Rattle.std.proofs.Common.{◌≡◌, ℕ, ◌+◌, Bool, true, false, List, [], ◌∷◌, ◌++◌, Option, None, Some, Result, Ok, Err, inl, inr, refl, sym, subst, arith, length-append}
use Rattle.live_replies.specs.declared.serving.End.{End}
use Rattle.live_replies.specs.declared.serving.End.TheVariants.{Input, Quit}
use Rattle.live_replies.specs.declared.serving.ServeFault.{ServeFault}
use Rattle.live_replies.specs.declared.serving.ServeFault.TheVariants.{Read, Write, Memory, Exhausted}
use Rattle.std.specs.Prelude.{IfErr, IfOk, IfSome, OnErr, OnOk}
use Rattle.std.specs.Io.KnownBytes.{append_known}
use Rattle.host_edge.specs.declared.line_source.LineRead.{LineRead}
use Rattle.host_edge.specs.Count.{NeverFalls, Rose, last_count}
use Rattle.host_edge.specs.Lines.{IsLineRead}
use Rattle.host_edge.specs.Sink.{AppendsPart}
use Rattle.live_replies.specs.Answers.{AnswersRead}
use Rattle.live_replies.specs.Serves.{AreTurns, EndsTurn, FailsTo, IsTurn, Moment, Serves, ServesTo, Turn, asks_for_end, end_after, most_line}

-- nothing was read yet
pub none_yet : (a : Moment) → Serves 0 a a
none_yet a = record { turns = []; are_turns = refl; counted = refl }

-- one turn
pub one_turn : (a b : Moment) (t : Turn) → IsTurn a t → asks_for_end t.read t.line ≡ false → t.after ≡ b → Serves 1 a b
one_turn a b t is goes ends = record { turns = t ∷ []; are_turns = (is, goes, ends); counted = refl }

turns_on : (a b c : Moment) (ts us : List Turn) → AreTurns a ts b → AreTurns b us c → AreTurns a (ts ++ us) c
turns_on a b c [] us h k = subst (λ m. AreTurns m us c) (sym h) k
turns_on a b c (t ∷ ts) us h k = (h.0, h.1, turns_on t.after b c ts us h.2 k)

-- some turns, and then more
pub more_turns : (m n : ℕ) (a b c : Moment) → Serves m a b → Serves n b c → Serves (m + n) a c
more_turns m n a b c h k = record {
  turns = h.turns ++ k.turns;
  are_turns = turns_on a b c h.turns k.turns h.are_turns k.are_turns;
  counted = omega (arith, length-append h.turns k.turns, h.counted, k.counted);
}

-- a turn that does not end the session
pub turn_on : (count : ℕ) (r : Result (Option End) ServeFault) (a b c : Moment) → r ≡ Ok None → Serves count a b → EndsTurn r b c → Serves (count + 1) a c
turn_on count r a b c is h k = more_turns count 1 a b c h (subst (λ q. EndsTurn q b c) is k)

-- a turn that ends it
pub last_turn : (count : ℕ) (r last : Result (Option End) ServeFault) (a b c : Moment) → r ≡ last → Serves count a b → EndsTurn r b c → ServesTo last a c
last_turn count r last a b c is h k = record { count = count; middle = b; served = h; ended = subst (λ q. EndsTurn q b c) is k }

-- what a reply that was written, whole or in part, makes of a turn
pub turn_ends : (r : Result (Option End) ServeFault) (a b : Moment) (read : LineRead) (line said : List ℕ) (asks : Bool) → IfSome a.rest (λ bytes. IsLineRead most_line bytes read line b.rest)
    → AnswersRead read line a.live b.live said → asks ≡ asks_for_end read line → OnOk r (b.held ≡ append_known a.held said) → IfOk r (λ end. end ≡ end_after asks)
    → IfErr r (λ fault. fault ≡ Write) → OnErr r (AppendsPart a.held b.held said) → EndsTurn r a b
turn_ends (Ok None) a b read line said false heard answered asked whole end fault part =
    one_turn a b (record { read = read; line = line; said = said; after = b }) (record { heard = heard; answered = answered; written = whole }) (sym asked) refl
turn_ends (Ok None) a b read line said true heard answered asked whole end fault part = cc
turn_ends (Ok (Some Quit)) a b read line said true heard answered asked whole end fault part = record {
  turn = record { read = read; line = line; said = said; after = b };
  is_turn = record { heard = heard; answered = answered; written = whole };
  asks = sym asked;
  leads = refl;
}
turn_ends (Ok (Some Quit)) a b read line said false heard answered asked whole end fault part = cc
turn_ends (Ok (Some Input)) a b read line said true heard answered asked whole end fault part = cc
turn_ends (Ok (Some Input)) a b read line said false heard answered asked whole end fault part = cc
turn_ends (Err Write) a b read line said asks heard answered asked whole end fault part = record {
  turn = record { read = read; line = line; said = said; after = b };
  heard = heard;
  rest = refl;
  answered = answered;
  part = part;
}
turn_ends (Err Read) a b read line said asks heard answered asked whole end fault part = cc
turn_ends (Err Memory) a b read line said asks heard answered asked whole end fault part = cc
turn_ends (Err Exhausted) a b read line said asks heard answered asked whole end fault part = cc

-- no memory was left for a line
pub no_room : (r : Result End ServeFault) (a : Moment) → r ≡ Err Memory → IfErr r (λ fault. FailsTo fault a a)
no_room r a is = subst (λ q. IfErr q (λ fault. FailsTo fault a a)) (sym is) refl

-- the turn ended with this fault
pub ended_by : (count : ℕ) (r : Result (Option End) ServeFault) (q : Result End ServeFault) (a b c : Moment) → IfErr q (λ fault. r ≡ Err fault) → Serves count a b → EndsTurn r b c → IfErr q (λ fault. FailsTo fault a c)
ended_by count r (Ok end) a b c is h k = tt
ended_by count r (Err Read) a b c is h k = last_turn count r (Err Read) a b c is h k
ended_by count r (Err Write) a b c is h k = last_turn count r (Err Write) a b c is h k
ended_by count r (Err Memory) a b c is h k = absurd (subst (λ q. EndsTurn q b c) is k)
ended_by count r (Err Exhausted) a b c is h k = absurd (subst (λ q. EndsTurn q b c) is k)

-- a counter that did not fall, and then rose
pub rose_after : (a b c : ℕ) → NeverFalls a b → Rose b c → Rose a c
rose_after a b c first (inl more) = inl (omega (arith, first.0, more))
rose_after a b c first (inr last) = inr last

-- after the greatest number of turns
pub all_turns : (count : ℕ) (a b : Moment) → count ≡ last_count → Serves count a b → Serves last_count a b
all_turns count a b is h = subst (λ (n : ℕ). Serves n a b) is h

-- the fault of the whole is that of the turn
pub same_fault : (r : Result (Option End) ServeFault) (q : Result End ServeFault) (fault : ServeFault) → IfErr q (λ f. r ≡ Err f) → q ≡ Err fault → r ≡ Err fault
same_fault r (Ok end) fault is h = cc
same_fault r (Err f) fault is h = cc
