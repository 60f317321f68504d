-- The proposals of a script, from its commands as a whole.
use Rattle.std.proofs.Common.{◌≡◌, ◌⊎◌, inl, inr, ℕ, ◌+◌, ◌<◌, ◌≤◌, Bool, true, false, if◌then◌else◌, nat_lt, List, [], ◌∷◌, ◌++◌, length, map, Option, None, Some, Result, Ok, Err, refl, sym, ap, subst, ◌∙◌, arith, length-append}
use Rattle.std.specs.Prelude.{IfSome}
use Rattle.std.proofs.lemmas.Bool.{ltb-false, ltb-true}
use Rattle.std.proofs.lemmas.Grind.{flat_map-append}
use Rattle.std.proofs.lemmas.List.{append-nil, append_assoc, map-append}
use Rattle.scene_model.specs.declared.edit.Edit.{Edit as SceneEdit}
use Rattle.scene_model.specs.declared.edit.Command.{Command}
use Rattle.scene_model.specs.declared.edit.Command.TheVariants.{Begin, Edit, Commit, Abort, Undo, Redo, Bad}
use Rattle.report_text.specs.declared.refusal.Refusal.{Refusal}
use Rattle.report_text.specs.declared.refusal.Refusal.TheVariants.{Syntax}
use Rattle.preview.specs.declared.proposals.Proposal.{Proposal}
use Rattle.form_preview.specs.Blocks.{Blocks, Read, proposals, refused_at, unfinished, too_many, read_on, ended, unless_refused, blocks_from, blocks_of}
use Rattle.existence_laws.specs.Proposals.{IsReason, MayBegin, Says, ScriptsHaveProposals, commands_for, commands_of, unnumbered}

-- ---- the commands of proposals

-- the commands of an open block
abbrev open_of : Option (List SceneEdit) → List Command
open_of None = []
open_of (Some edits) = Begin ∷ map Edit edits

same_tail : (a b : Command) (xs ys : List Command) → a ∷ xs ≡ b ∷ ys → xs ≡ ys
same_tail a b xs ys h = cc

same_edit : (a b : SceneEdit) (xs ys : List Command) → Edit a ∷ xs ≡ Edit b ∷ ys → a ≡ b
same_edit a b xs ys h = cc

-- edits up to the first `commit` are alike, and so is what follows
peel : (es fs : List SceneEdit) (xs ys : List Command) → map Edit es ++ Commit ∷ xs ≡ map Edit fs ++ Commit ∷ ys → (es ≡ fs) × (xs ≡ ys)
peel [] [] xs ys h = (refl, same_tail Commit Commit xs ys h)
peel [] (f ∷ fs) xs ys h = cc
peel (e ∷ es) [] xs ys h = cc
peel (e ∷ es) (f ∷ fs) xs ys h =
    let rest = peel es fs xs ys (same_tail (Edit e) (Edit f) _ _ h) in
    let first : e ≡ f = same_edit e f _ _ h in
    (λ i. first i ∷ rest.0 i, rest.1)

-- what comes next is `commit` or an edit
next_command : (es fs : List SceneEdit) (c : Command) (xs ys : List Command) → map Edit es ++ c ∷ xs ≡ map Edit fs ++ Commit ∷ ys → (c ≡ Commit) ⊎ ((e : SceneEdit) × (c ≡ Edit e))
next_command [] [] c xs ys h = inl cc
next_command [] (f ∷ fs) c xs ys h = inr (f, cc)
next_command (e ∷ es) [] c xs ys h = cc
next_command (e ∷ es) (f ∷ fs) c xs ys h = next_command es fs c xs ys (same_tail (Edit e) (Edit f) _ _ h)

no_commit : (es fs : List SceneEdit) (ys : List Command) → map Edit es ≡ map Edit fs ++ Commit ∷ ys → ⊥
no_commit [] [] ys h = cc
no_commit [] (f ∷ fs) ys h = cc
no_commit (e ∷ es) [] ys h = cc
no_commit (e ∷ es) (f ∷ fs) ys h = no_commit es fs ys (same_tail (Edit e) (Edit f) _ _ h)

spread : (p : Proposal) (xs : List Command) → commands_for p ++ xs ≡ Begin ∷ (map Edit p.edits ++ Commit ∷ xs)
spread p xs = append_assoc (Begin ∷ map Edit p.edits) (Commit ∷ []) xs

-- a list of proposals that begins with these goes on with more of them
record More (closed asked : List Proposal) (xs : List Command) : Type 0 where
  more : List Proposal
  whole : asked ≡ closed ++ more
  is : xs ≡ commands_of more

after_closed : (closed asked : List Proposal) (xs : List Command) → commands_of closed ++ xs ≡ commands_of asked → More closed asked xs
after_closed [] asked xs h = record { more = asked; whole = refl; is = h }
after_closed (p ∷ closed) [] xs h = cc
after_closed (p ∷ closed) (q ∷ asked) xs h =
    let e = sym (spread p (commands_of closed ++ xs)) ∙ sym (append_assoc (commands_for p) (commands_of closed) xs) ∙ h ∙ spread q (commands_of asked) in
    let t = peel p.edits q.edits (commands_of closed ++ xs) (commands_of asked) (same_tail Begin Begin _ _ e) in
    let rest = after_closed closed asked xs t.1 in
    record { more = rest.more; whole = λ i. record { edits = sym t.0 i } ∷ rest.whole i; is = rest.is }

first_begin : (c : Command) (xs : List Command) (more : List Proposal) → c ∷ xs ≡ commands_of more → c ≡ Begin
first_begin c xs [] h = cc
first_begin c xs (p ∷ more) h = cc

some_more : (c : Command) (xs : List Command) (more : List Proposal) → c ∷ xs ≡ commands_of more → 1 ≤ length more
some_more c xs [] h = cc
some_more c xs (p ∷ more) h = omega arith

in_block : (edits : List SceneEdit) (c : Command) (xs : List Command) (more : List Proposal) → (Begin ∷ map Edit edits) ++ c ∷ xs ≡ commands_of more → (c ≡ Commit) ⊎ ((e : SceneEdit) × (c ≡ Edit e))
in_block edits c xs [] h = cc
in_block edits c xs (p ∷ more) h = next_command edits p.edits c xs (commands_of more) (same_tail Begin Begin _ _ (h ∙ spread p (commands_of more)))

not_whole : (edits : List SceneEdit) (more : List Proposal) → Begin ∷ map Edit edits ≡ commands_of more → ⊥
not_whole edits [] h = cc
not_whole edits (p ∷ more) h = no_commit edits p.edits (commands_of more) (same_tail Begin Begin _ _ (h ∙ spread p (commands_of more)))

none_more : (more : List Proposal) → [] ≡ commands_of more → more ≡ []
none_more [] h = refl
none_more (p ∷ more) h = cc

-- ---- where the reading stands

-- these commands were read: whole proposals, and those of an open block
record Stands (front : List Command) (closed : List Proposal) (current : Option (List SceneEdit)) : Type 0 where
  text : front ≡ commands_of closed ++ open_of current
  few : length closed ≤ 64
  room : IfSome current (λ edits. length closed < 64)

closing : (front : List Command) (closed : List Proposal) (edits : List SceneEdit) → front ≡ commands_of closed ++ Begin ∷ map Edit edits → front ++ Commit ∷ [] ≡ commands_of (closed ++ record { edits = edits } ∷ [])
closing front closed edits text =
    let p : Proposal = record { edits = edits } in
    ap (λ f. f ++ Commit ∷ []) text ∙ append_assoc (commands_of closed) (Begin ∷ map Edit edits) (Commit ∷ [])
    ∙ ap (λ f. commands_of closed ++ f) (sym (append-nil (commands_for p))) ∙ sym (flat_map-append commands_for closed (p ∷ []))

may_begin : (front : List Command) (closed : List Proposal) (current : Option (List SceneEdit)) → Stands front closed current → MayBegin front
may_begin front closed None s = (closed, [], s.few, append-nil front ∙ s.text ∙ append-nil (commands_of closed))
may_begin front closed (Some edits) s =
    let p : Proposal = record { edits = edits } in
    let room = s.room in
    (closed ++ p ∷ [], Commit ∷ [], omega (arith, length-append closed (p ∷ []), room), closing front closed edits s.text)

-- a command after these is that of more proposals
record Goes (closed : List Proposal) (block : List Command) (c : Command) : Type 0 where
  more : List Proposal
  rest : List Command
  is : block ++ c ∷ rest ≡ commands_of more
  few : length closed + length more ≤ 64

goes : (front : List Command) (closed : List Proposal) (block : List Command) (c : Command) → front ≡ commands_of closed ++ block → MayBegin (front ++ c ∷ []) → Goes closed block c
goes front closed block c text m =
    let e = sym (append_assoc (commands_of closed) block (c ∷ m.1)) ∙ ap (λ f. f ++ c ∷ m.1) (sym text) ∙ sym (append_assoc front (c ∷ []) m.1) ∙ m.3 in
    let r = after_closed closed m.0 (block ++ c ∷ m.1) e in
    let few = m.2 in
    let long : length m.0 ≡ length (closed ++ r.more) = ap length r.whole in
    record { more = r.more; rest = m.1; is = r.is; few = omega (arith, few, long, length-append closed r.more) }

-- the command may not come after these
record Wrong (front : List Command) (c : Command) (why : Refusal) : Type 0 where
  goes_wrong : MayBegin (front ++ c ∷ []) → ⊥
  reason : IsReason front c why

abbrev Outcome : List Command → Command → Result Read Refusal → Type 0
Outcome front c (Ok next) = Stands (front ++ c ∷ []) next.closed next.current
Outcome front c (Err why) = Wrong front c why

module _ (front : List Command) (closed : List Proposal) where
  begin_outside : Stands front closed None → (b : Bool) → nat_lt (length closed) 64 ≡ b → Outcome front Begin (if b then Ok (record { closed = closed; current = Some [] }) else Err too_many)
  begin_outside s true is = record {
    text = ap (λ f. f ++ Begin ∷ []) (s.text ∙ append-nil (commands_of closed));
    few = s.few;
    room = ltb-true (length closed) 64 is;
  }
  begin_outside s false is = record {
    goes_wrong = λ m. (
        let g = goes front closed [] Begin s.text m in
        let some = some_more Begin g.rest g.more g.is in
        let few = g.few in
        let full = ltb-false (length closed) 64 is in
        omega (arith, some, few, full));
    reason = inl ((refl, (closed, s.text ∙ append-nil (commands_of closed))), refl);
  }

  wrong_outside : (c : Command) → Stands front closed None → (c ≡ Begin → ⊥) → Wrong front c Syntax
  wrong_outside c s other = record {
    goes_wrong = λ m. (let g = goes front closed [] c s.text m in other (first_begin c g.rest g.more g.is));
    reason = inr (λ n. other n.0, refl);
  }

  whole_never : (edits : List SceneEdit) → Stands front closed (Some edits) → (asked : List Proposal) → front ≡ commands_of asked → ⊥
  whole_never edits s asked h = let r = after_closed closed asked (Begin ∷ map Edit edits) (sym s.text ∙ h) in not_whole edits r.more r.is

  wrong_inside : (c : Command) (edits : List SceneEdit) → Stands front closed (Some edits) → (c ≡ Commit → ⊥) → ((e : SceneEdit) → c ≡ Edit e → ⊥) → Wrong front c Syntax
  wrong_inside c edits s no_end no_edit = record {
    goes_wrong = λ m. (let g = goes front closed (Begin ∷ map Edit edits) c s.text m in elim (in_block edits c g.rest g.more g.is) [ inl h ↦ no_end h | inr h ↦ no_edit h.0 h.1 ]);
    reason = inr (λ n. whole_never edits s n.1.0 n.1.1, refl);
  }

step : (front : List Command) (c : Command) (closed : List Proposal) (current : Option (List SceneEdit)) → Stands front closed current → Outcome front c (read_on c closed current)
step front Begin closed None s = begin_outside front closed s (nat_lt (length closed) 64) refl
step front Begin closed (Some edits) s = wrong_inside front closed Begin edits s (λ h. cc) (λ e h. cc)
step front (Edit e) closed None s = wrong_outside front closed (Edit e) s (λ h. cc)
step front (Edit e) closed (Some edits) s = record {
  text = ap (λ f. f ++ Edit e ∷ []) s.text ∙ append_assoc (commands_of closed) (Begin ∷ map Edit edits) (Edit e ∷ []) ∙ ap (λ f. commands_of closed ++ Begin ∷ f) (sym (map-append Edit edits (e ∷ [])));
  few = s.few;
  room = s.room;
}
step front Commit closed None s = wrong_outside front closed Commit s (λ h. cc)
step front Commit closed (Some edits) s =
    let p : Proposal = record { edits = edits } in
    let room = s.room in
    record {
      text = closing front closed edits s.text ∙ sym (append-nil (commands_of (closed ++ p ∷ [])));
      few = omega (arith, length-append closed (p ∷ []), room);
      room = tt;
    }
step front Abort closed None s = wrong_outside front closed Abort s (λ h. cc)
step front Abort closed (Some edits) s = wrong_inside front closed Abort edits s (λ h. cc) (λ e h. cc)
step front Undo closed None s = wrong_outside front closed Undo s (λ h. cc)
step front Undo closed (Some edits) s = wrong_inside front closed Undo edits s (λ h. cc) (λ e h. cc)
step front Redo closed None s = wrong_outside front closed Redo s (λ h. cc)
step front Redo closed (Some edits) s = wrong_inside front closed Redo edits s (λ h. cc) (λ e h. cc)
step front Bad closed None s = wrong_outside front closed Bad s (λ h. cc)
step front Bad closed (Some edits) s = wrong_inside front closed Bad edits s (λ h. cc) (λ e h. cc)

abbrev start : Read
start = record { closed = []; current = None }

at_start : Stands [] [] None
at_start = record { text = refl; few = omega arith; room = tt }

-- ---- what is read is said

abbrev Numbered : Type 0
Numbered = List (ℕ × Command)

ended_says : (commands : Numbered) (closed : List Proposal) (current : Option (List SceneEdit)) → Stands (unnumbered commands) closed current → Says commands (ended closed current)
ended_says commands closed None s = (s.text ∙ append-nil (commands_of closed), s.few)
ended_says commands closed (Some edits) s = (may_begin (unnumbered commands) closed (Some edits) s, whole_never (unnumbered commands) closed edits s)

says_by : (front : Numbered) (c : ℕ × Command) (later : Numbered) (r : Result Read Refusal) → MayBegin (unnumbered front) → Outcome (unnumbered front) c.1 r
    → ((next : Read) → Stands (unnumbered (front ++ c ∷ [])) next.closed next.current → Says (front ++ c ∷ [] ++ later) (blocks_from later next)) → Says (front ++ c ∷ later) (unless_refused c.0 (blocks_from later) r)
says_by front c later (Ok next) m o on =
    let there = subst (λ (cs : List Command). Stands cs next.closed next.current) (sym (map-append (λ (d : ℕ × Command). d.1) front (c ∷ []))) o in
    subst (λ (cs : Numbered). Says cs (blocks_from later next)) (append_assoc front (c ∷ []) later) (on next there)
says_by front c later (Err why) m o on = record { front = front; command = c.1; later = later; parts = refl; may_begin = m; goes_wrong = o.goes_wrong; reason = o.reason }

says_on : (front later : Numbered) (read : Read) → Stands (unnumbered front) read.closed read.current → Says (front ++ later) (blocks_from later read)
says_on front [] read s = subst (λ (cs : Numbered). Says cs (ended read.closed read.current)) (sym (append-nil front)) (ended_says front read.closed read.current s)
says_on front (c ∷ later) read s =
    says_by front c later (read_on c.1 read.closed read.current) (may_begin (unnumbered front) read.closed read.current s) (step (unnumbered front) c.1 read.closed read.current s)
    (λ next there. says_on (front ++ c ∷ []) later next there)

-- ---- what is said is read

-- commands with which proposals begin are read to their end
record Reached (seen : List Command) (later : Numbered) (blocks : Blocks) : Type 0 where
  next : Read
  stands : Stands seen next.closed next.current
  is : blocks ≡ blocks_from later next

less : (seen : List Command) (c : Command) (front : List Command) → MayBegin (seen ++ c ∷ front) → MayBegin (seen ++ c ∷ [])
less seen c front m = (m.0, front ++ m.1, m.2, sym (append_assoc (seen ++ c ∷ []) front m.1) ∙ ap (λ f. f ++ m.1) (append_assoc seen (c ∷ []) front) ∙ m.3)

reach_by : (seen : List Command) (c : ℕ × Command) (front later : Numbered) (r : Result Read Refusal) → Outcome seen c.1 r → MayBegin (seen ++ c.1 ∷ unnumbered front)
    → ((next : Read) → Stands (seen ++ c.1 ∷ []) next.closed next.current → MayBegin (seen ++ c.1 ∷ [] ++ unnumbered front) → Reached (seen ++ c.1 ∷ [] ++ unnumbered front) later (blocks_from (front ++ later) next))
    → Reached (seen ++ c.1 ∷ unnumbered front) later (unless_refused c.0 (blocks_from (front ++ later)) r)
reach_by seen c front later (Ok next) o m on =
    let same = append_assoc seen (c.1 ∷ []) (unnumbered front) in
    let r = on next o (subst MayBegin (sym same) m) in
    record { next = r.next; stands = subst (λ (cs : List Command). Stands cs r.next.closed r.next.current) same r.stands; is = r.is }
reach_by seen c front later (Err why) o m on = absurd (o.goes_wrong (less seen c.1 (unnumbered front) m))

reach : (seen : List Command) (front later : Numbered) (read : Read) → Stands seen read.closed read.current → MayBegin (seen ++ unnumbered front) → Reached (seen ++ unnumbered front) later (blocks_from (front ++ later) read)
reach seen [] later read s m = record { next = read; stands = subst (λ (cs : List Command). Stands cs read.closed read.current) (sym (append-nil seen)) s; is = refl }
reach seen (c ∷ front) later read s m =
    reach_by seen c front later (read_on c.1 read.closed read.current) (step seen c.1 read.closed read.current s) m (λ next there may. reach (seen ++ c.1 ∷ []) front later next there may)

-- the commands are read to their end
record Whole (commands : Numbered) : Type 0 where
  next : Read
  stands : Stands (unnumbered commands) next.closed next.current
  is : blocks_of commands ≡ ended next.closed next.current

whole : (commands : Numbered) → MayBegin (unnumbered commands) → Whole commands
whole commands m =
    let r = reach [] commands [] start at_start m in
    record { next = r.next; stands = r.stands; is = ap blocks_of (sym (append-nil commands)) ∙ r.is }

are_proposals : (commands : List Command) (closed asked : List Proposal) (current : Option (List SceneEdit)) → Stands commands closed current → commands ≡ commands_of asked → proposals asked ≡ ended closed current
are_proposals commands closed asked None s h =
    let r = after_closed closed asked [] (sym s.text ∙ h) in
    ap proposals (r.whole ∙ ap (λ ps. closed ++ ps) (none_more r.more r.is) ∙ append-nil closed)
are_proposals commands closed asked (Some edits) s h = absurd (whole_never commands closed edits s asked h)

are_unfinished : (commands : List Command) (closed : List Proposal) (current : Option (List SceneEdit)) → Stands commands closed current → ((asked : List Proposal) → commands ≡ commands_of asked → ⊥) → unfinished ≡ ended closed current
are_unfinished commands closed None s never = absurd (never closed (s.text ∙ append-nil (commands_of closed)))
are_unfinished commands closed (Some edits) s never = refl

same_reason : (front : List Command) (c : Command) (a b : Refusal) → IsReason front c a → IsReason front c b → a ≡ b
same_reason front c a b (inl h) (inl k) = h.1 ∙ sym k.1
same_reason front c a b (inl h) (inr k) = absurd (k.0 h.0)
same_reason front c a b (inr h) (inl k) = absurd (h.0 k.0)
same_reason front c a b (inr h) (inr k) = h.1 ∙ sym k.1

is_refused : (front : List Command) (c : Command) (line : ℕ) (why : Refusal) (rest : Read → Blocks) (r : Result Read Refusal) → (MayBegin (front ++ c ∷ []) → ⊥) → IsReason front c why → Outcome front c r → refused_at line why ≡ unless_refused line rest r
is_refused front c line why rest (Ok next) never reason o = absurd (never (may_begin (front ++ c ∷ []) next.closed next.current o))
is_refused front c line why rest (Err other) never reason o = ap (refused_at line) (same_reason front c why other reason o.reason)

only : (commands : Numbered) (blocks : Blocks) → Says commands blocks → blocks ≡ blocks_of commands
only commands (proposals asked) h =
    let w = whole commands (asked, [], h.1, append-nil (unnumbered commands) ∙ h.0) in
    are_proposals (unnumbered commands) w.next.closed asked w.next.current w.stands h.0 ∙ sym w.is
only commands (refused_at line why) h =
    let r = reach [] h.front ((line, h.command) ∷ h.later) start at_start h.may_begin in
    is_refused (unnumbered h.front) h.command line why (blocks_from h.later) (read_on h.command r.next.closed r.next.current) h.goes_wrong h.reason (step (unnumbered h.front) h.command r.next.closed r.next.current r.stands)
    ∙ sym r.is ∙ ap blocks_of (sym h.parts)
only commands unfinished h =
    let w = whole commands h.0 in
    are_unfinished (unnumbered commands) w.next.closed w.next.current w.stands h.1 ∙ sym w.is

pub scripts_have_proposals : ScriptsHaveProposals
scripts_have_proposals = record { said = λ commands. says_on [] commands start at_start; only = only }
