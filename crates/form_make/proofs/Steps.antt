-- What one turn of each loop makes.
use Rattle.std.proofs.Common.{◌≡◌, ◌≢◌, ℕ, false, ◌+◌, ◌*◌, ◌/◌, ◌%◌, List, [], ◌∷◌, ◌++◌, Result, Ok, Err, Option, None, IfErr, IsOk, refl, sym, ap, ◌∙◌, arith, append_assoc, append-nil, true≢false, w64, to_z, of_z, to_z-of_z}
use Rattle.std.specs.Prelude.{ℤ, pos, ◌==◌, flat_map}
use Rattle.std.proofs.lemmas.Bool.Decides.{nat_tests}
use Rattle.std.proofs.lemmas.Grind.{flat_map-append}
use mir.Val.{SFits}
use Rattle.scene_model.specs.declared.edit.Edit.{Edit}
use Rattle.scene_model.specs.declared.edit.Edit.TheVariants.{AddNode, AddEdge, MoveNode}
use Rattle.scene_model.specs.declared.edit.Command.{Command}
use Rattle.scene_model.specs.declared.edit.Command.TheVariants as command
use Rattle.scene_model.specs.declared.fault.SceneFault.{SceneFault}
use Rattle.scene_model.specs.declared.fault.SceneFault.TheVariants.{Memory}
use Rattle.scene_model.specs.Scene.{Scene, empty_scene}
use Rattle.scene_model.specs.Edits.{IsDone, IsEdited, changed, refusal}
use Rattle.form_make.specs.Draws.{draw, drawn, first, next_state, state_after}
use Rattle.form_make.specs.Made.{made_coordinate, made_edge, made_move, made_node, made_size, made_transaction, made_undo, other_place}
use Rattle.form_make.proofs.DrawLemmas.{draw_is, first-more, next_is, state_after-sum}

done_memory : (why : Option SceneFault) (after old new : Scene) (answer : Result Unit SceneFault) → why ≡ None → IsDone why after old new answer → IfErr answer (λ fault. fault ≡ Memory)
done_memory why after old new (Ok done) none h = tt
done_memory why after old new (Err Memory) none h = refl
done_memory why after old new (Err fault) none h = let held = h.0 in cc

done_after : (why : Option SceneFault) (after old new : Scene) (answer : Result Unit SceneFault) → IsOk answer → IsDone why after old new answer → new ≡ after
done_after why after old new (Ok done) ok h = h.1
done_after why after old new (Err fault) ok h = absurd (true≢false (sym ok))

-- an edit that is not refused fails only when out of memory
pub only_memory : (e : Edit) (old new : Scene) (answer : Result Unit SceneFault) → refusal e old ≡ None → IsEdited e old new answer → IfErr answer (λ fault. fault ≡ Memory)
only_memory e old new answer = done_memory (refusal e old) (changed e old) old new answer

pub edit_after : (e : Edit) (old new : Scene) (answer : Result Unit SceneFault) → IsOk answer → IsEdited e old new answer → new ≡ changed e old
edit_after e old new answer = done_after (refusal e old) (changed e old) old new answer

-- a number in 64 bits and back
pub kept : (z v : ℤ) → SFits w64 z → z ≡ v → to_z w64 (of_z w64 z) ≡ v
kept z v fits e = to_z-of_z {w = w64} {z = z} fits ∙ e

-- four draws, of a node
pub record AreFour (seed place a b c d after : ℕ) : Type 0 where
  pub a-is : a ≡ draw seed (4 * place) 61
  pub b-is : b ≡ draw seed (4 * place + 1) 61
  pub c-is : c ≡ draw seed (4 * place + 2) 61
  pub d-is : d ≡ draw seed (4 * place + 3) 61
  pub end : after ≡ state_after seed (4 * (place + 1))

pub four_draws : (seed place s t u v w a b c d : ℕ) → s ≡ state_after seed (4 * place)
    → t ≡ next_state s → u ≡ next_state t → v ≡ next_state u → w ≡ next_state v
    → a ≡ drawn t 61 → b ≡ drawn u 61 → c ≡ drawn v 61 → d ≡ drawn w 61 → AreFour seed place a b c d w
four_draws seed place s t u v w a b c d s-is t-is u-is v-is w-is a-is b-is c-is d-is =
    let one = next_is seed (4 * place) (4 * place + 1) s t refl s-is t-is in
    let two = next_is seed (4 * place + 1) (4 * place + 2) t u (omega arith) one u-is in
    let three = next_is seed (4 * place + 2) (4 * place + 3) u v (omega arith) two v-is in
    let four = next_is seed (4 * place + 3) (4 * place + 4) v w (omega arith) three w-is in
    let last : 4 * place + 4 ≡ 4 * (place + 1) = omega arith in
    record {
      a-is = draw_is seed (4 * place) 61 (4 * place + 1) t a refl one a-is;
      b-is = draw_is seed (4 * place + 1) 61 (4 * place + 2) u b (omega arith) two b-is;
      c-is = draw_is seed (4 * place + 2) 61 (4 * place + 3) v c (omega arith) three c-is;
      d-is = draw_is seed (4 * place + 3) 61 (4 * place + 4) w d (omega arith) four d-is;
      end = four ∙ ap (state_after seed) last;
    }

-- the scene with one more node
pub node_added : (seed place : ℕ) (i x y w h : ℤ) (a b c d after : ℕ) → AreFour seed place a b c d after
    → i ≡ pos (place + 1) → x ≡ made_coordinate (place % 6) a → y ≡ made_coordinate (place / 6) b → w ≡ made_size c → h ≡ made_size d
    → (s : Scene) → s ≡ record empty_scene { nodes = first place (made_node seed) }
    → changed (AddNode i x y w h) s ≡ record empty_scene { nodes = first (place + 1) (made_node seed) }
node_added seed place i x y w h a b c d after four i-is x-is y-is w-is h-is s s-is =
    let a-is = four.a-is in let b-is = four.b-is in let c-is = four.c-is in let d-is = four.d-is in
    rw (s-is, i-is, x-is, y-is, w-is, h-is, a-is, b-is, c-is, d-is, first-more place (made_node seed)) refl

-- two draws, of an edge
pub record AreTwo (start place from drew after : ℕ) : Type 0 where
  pub from-is : from ≡ draw start (2 * place) 36
  pub drew-is : drew ≡ draw start (2 * place + 1) 35
  pub end : after ≡ state_after start (2 * (place + 1))

pub two_draws : (start place s t u from drew : ℕ) → s ≡ state_after start (2 * place) → t ≡ next_state s → u ≡ next_state t
    → from ≡ drawn t 36 → drew ≡ drawn u 35 → AreTwo start place from drew u
two_draws start place s t u from drew s-is t-is u-is from-is drew-is =
    let one = next_is start (2 * place) (2 * place + 1) s t refl s-is t-is in
    let two = next_is start (2 * place + 1) (2 * place + 2) t u (omega arith) one u-is in
    let last : 2 * place + 2 ≡ 2 * (place + 1) = omega arith in
    record {
      from-is = draw_is start (2 * place) 36 (2 * place + 1) t from refl one from-is;
      drew-is = draw_is start (2 * place + 1) 35 (2 * place + 2) u drew (omega arith) two drew-is;
      end = two ∙ ap (state_after start) last;
    }

-- the scene with one more edge
pub edge_added : (start place : ℕ) (i j : ℤ) (from drew to after : ℕ) → AreTwo start place from drew after
    → to ≡ other_place from drew → i ≡ pos (from + 1) → j ≡ pos (to + 1)
    → (base s : Scene) → s ≡ record base { edges = first place (made_edge start); next_edge = place + 1 }
    → changed (AddEdge i j 0 0) s ≡ record base { edges = first (place + 1) (made_edge start); next_edge = (place + 1) + 1 }
edge_added start place i j from drew to after two to-is i-is j-is base s s-is =
    let from-is = two.from-is in let drew-is = two.drew-is in
    rw (s-is, i-is, j-is, to-is, from-is, drew-is, first-more place (made_edge start)) (ap (λ n. record base { edges = first place (made_edge start) ++ made_edge start place ∷ []; next_edge = n }) (omega arith))

-- three draws, of a move
pub move_is : (s t u v a b c : ℕ) (i x y : ℤ) → t ≡ next_state s → u ≡ next_state t → v ≡ next_state u → a ≡ drawn t 36 → b ≡ drawn u 1200 → c ≡ drawn v 1200
    → i ≡ pos (a + 1) → x ≡ pos (1000 * b) → y ≡ pos (1000 * c) → MoveNode i x y ≡ made_move s 0
unfolding state_after
move_is s t u v a b c i x y t-is u-is v-is a-is b-is c-is i-is x-is y-is = rw (i-is, x-is, y-is, a-is, b-is, c-is, v-is, u-is, t-is) refl

pub third_state : (s t u v : ℕ) → t ≡ next_state s → u ≡ next_state t → v ≡ next_state u → v ≡ state_after s 3
unfolding state_after
third_state s t u v t-is u-is v-is = v-is ∙ ap next_state (u-is ∙ ap next_state t-is)

draw_after : (start before place later most s : ℕ) → s ≡ state_after start before → later ≡ before + place → draw s place most ≡ draw start later most
draw_after start before place later most s s-is later-is =
    let e : before + (place + 1) ≡ later + 1 = omega arith in
    ap (λ t. drawn (state_after t (place + 1)) most) s-is ∙ ap (λ t. drawn t most) (state_after-sum start before (place + 1) ∙ ap (state_after start) e)

-- the move that is drawn after earlier ones
pub move_at : (start place s : ℕ) → s ≡ state_after start (3 * place) → made_move s 0 ≡ made_move start place
move_at start place s s-is =
    let a = draw_after start (3 * place) 0 (3 * place) 36 s s-is (omega arith) in
    let b = draw_after start (3 * place) 1 (3 * place + 1) 1200 s s-is refl in
    let c = draw_after start (3 * place) 2 (3 * place + 2) 1200 s s-is refl in
    rw (a, b, c) refl

pub three_draws : (start place s after : ℕ) → s ≡ state_after start (3 * place) → after ≡ state_after s 3 → after ≡ state_after start (3 * (place + 1))
three_draws start place s after s-is after-is =
    let e : 3 * place + 3 ≡ 3 * (place + 1) = omega arith in
    after-is ∙ ap (λ t. state_after t 3) s-is ∙ state_after-sum start (3 * place) 3 ∙ ap (state_after start) e

-- whether an undo follows the transaction
pub undo_one : (place : ℕ) → place % 3 ≡ 2 → made_undo place ≡ command.Undo ∷ []
undo_one place e = rw e refl

pub undo_none : (place : ℕ) → place % 3 ≢ 2 → made_undo place ≡ []
undo_none place differ = let e : (place % 3 == 2) ≡ false = grind (arith, nat_tests) in rw e refl

abbrev moves : ℕ → ℕ → List Command
moves start place = command.Begin ∷ command.Edit (made_move start place) ∷ command.Commit ∷ []

-- the commands with one more transaction
pub commands_more : (start place : ℕ) (old mid new : List Command) (edit : Edit) → old ≡ flat_map (λ commands. commands) (first place (made_transaction start))
    → edit ≡ made_move start place → mid ≡ old ++ command.Begin ∷ command.Edit edit ∷ command.Commit ∷ [] → new ≡ mid ++ made_undo place
    → new ≡ flat_map (λ commands. commands) (first (place + 1) (made_transaction start))
commands_more start place old mid new edit old-is edit-is mid-is new-is =
    let whole : made_transaction start place ≡ moves start place ++ made_undo place = refl in
    rw (new-is, mid-is, old-is, edit-is, first-more place (made_transaction start))
    (append_assoc (flat_map (λ commands. commands) (first place (made_transaction start))) (moves start place) (made_undo place)
    ∙ ap (λ t. flat_map (λ commands. commands) (first place (made_transaction start)) ++ t) (sym (append-nil (made_transaction start place)))
    ∙ sym (flat_map-append (λ commands. commands) (first place (made_transaction start)) (made_transaction start place ∷ [])))
