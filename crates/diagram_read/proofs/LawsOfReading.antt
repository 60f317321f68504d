-- Laws of reading a diagram.
use Rattle.std.proofs.Common.{◌≡◌, ℕ, Bool, true, false, List, [], ◌∷◌, ◌++◌, Some, Result, Ok, Err, refl, ap}
use Rattle.std.specs.Prelude.{ℤ, codes, not, bytes_eq, if◌then◌else◌}
use Rattle.std.specs.List.{list_any}
use Rattle.std.proofs.lemmas.Bool.{false≢true}
use Rattle.fixed_milli.specs.declared.milli.MilliFault.{MilliFault}
use Rattle.fixed_milli.specs.declared.milli.MilliFault.TheVariants.{NotNumber, OutOfRange}
use Rattle.fixed_milli.specs.Value.{read}
use Rattle.fixed_milli.proofs.Computing.{number_read}
use Rattle.gml_text.specs.Tree.{Content, number, text, list, Pairs, no_pairs, pair, ◌then◌}
use Rattle.scene_model.specs.Scene.{Scene}
use Rattle.scene_model.proofs.Editing.Refusals.{or_none}
use Rattle.diagram_read.specs.declared.fault.DiagramFault.{DiagramFault}
use Rattle.diagram_read.specs.Faults.{◌>>=◌, each}
use Rattle.diagram_read.specs.Laws.{is_other, node_keys, edge_keys, NumbersAgree, FirstFaultsCount, OthersArePassedOver}
use Rattle.diagram_read.specs.Values.{value_at, values_at, is_no_number}
use Rattle.diagram_read.specs.Nodes.{node_in, with_node_in}
use Rattle.diagram_read.specs.Edges.{edge_in, with_edge_in}

-- the same after a step
after_step : {S X : Type 0} (step : S → X → Result S DiagramFault) (r : Result S DiagramFault) (front more : List X) (f : DiagramFault)
    → ((t : S) → each step t front ≡ Err f → each step t (front ++ more) ≡ Err f) → r >>= (λ t. each step t front) ≡ Err f → r >>= (λ t. each step t (front ++ more)) ≡ Err f
after_step step (Ok t) front more f rest bad = rest t bad
after_step step (Err g) front more f rest bad = bad

-- a fault of a front is that of the whole list
front_fault : {S X : Type 0} (step : S → X → Result S DiagramFault) (s : S) (front more : List X) (f : DiagramFault) → each step s front ≡ Err f → each step s (front ++ more) ≡ Err f
front_fault step s [] more f bad = cc
front_fault step s (x ∷ front) more f bad = after_step step (step s x) front more f (λ t. front_fault step t front more f) bad

pub first_faults_count : FirstFaultsCount
first_faults_count = record { nodes = front_fault with_node_in; edges = front_fault with_edge_in }

-- under another key the same stands
value_past : (wanted key : List ℕ) (value : Content) (front more : Pairs) → bytes_eq key wanted ≡ false → value_at wanted (front then pair key value more) ≡ value_at wanted (front then more)
value_past wanted key value no_pairs more other = rw other refl
value_past wanted key value (pair k v front) more other = ap (λ r. if bytes_eq k wanted then Some v else r) (value_past wanted key value front more other)

values_past : (wanted key : List ℕ) (value : Content) (front more : Pairs) → bytes_eq key wanted ≡ false → values_at wanted (front then pair key value more) ≡ values_at wanted (front then more)
values_past wanted key value no_pairs more other = rw other refl
values_past wanted key value (pair k v front) more other = ap (λ r. if bytes_eq k wanted then v ∷ r else r) (values_past wanted key value front more other)

not_true : (b : Bool) → not b ≡ true → b ≡ false
not_true true h = absurd (false≢true h)
not_true false h = refl

node_past : (s : Scene) (place : ℕ) (front more : Pairs) (key : List ℕ) (value : Content) → is_other node_keys key ≡ true → node_in s (place, front then pair key value more) ≡ node_in s (place, front then more)
node_past s place front more key value other =
    let rest = not_true (list_any (λ k. bytes_eq key k) node_keys) other in
    let a = or_none (bytes_eq key (codes "id")) _ rest in
    let b = or_none (bytes_eq key (codes "graphics")) _ a.1 in
    let c = or_none (bytes_eq key (codes "isGroup")) _ b.1 in
    let d = or_none (bytes_eq key (codes "pin")) _ c.1 in
    rw (value_past (codes "id") key value front more a.0, value_past (codes "graphics") key value front more b.0, value_past (codes "isGroup") key value front more c.0, values_past (codes "pin") key value front more d.0) refl

edge_past : (s : Scene) (place : ℕ) (front more : Pairs) (key : List ℕ) (value : Content) → is_other edge_keys key ≡ true → edge_in s (place, front then pair key value more) ≡ edge_in s (place, front then more)
edge_past s place front more key value other =
    let rest = not_true (list_any (λ k. bytes_eq key k) edge_keys) other in
    let a = or_none (bytes_eq key (codes "source")) _ rest in
    let b = or_none (bytes_eq key (codes "target")) _ a.1 in
    let c = or_none (bytes_eq key (codes "sourcePin")) _ b.1 in
    let d = or_none (bytes_eq key (codes "targetPin")) _ c.1 in
    let e = or_none (bytes_eq key (codes "via")) _ d.1 in
    let f = or_none (bytes_eq key (codes "nudgeWeight")) _ e.1 in
    rw (
      value_past (codes "source") key value front more a.0,
      value_past (codes "target") key value front more b.0,
      value_past (codes "sourcePin") key value front more c.0,
      value_past (codes "targetPin") key value front more d.0,
      values_past (codes "via") key value front more e.0,
      value_past (codes "nudgeWeight") key value front more f.0,
    ) refl

pub others_are_passed_over : OthersArePassedOver
others_are_passed_over = record { nodes = node_past; edges = edge_past }

-- what is not read as no number
number_known : (r : Result ℤ MilliFault) → (r ≡ Err NotNumber → ⊥) → is_no_number r ≡ false
number_known (Ok value) is = refl
number_known (Err OutOfRange) is = refl
number_known (Err NotNumber) is = absurd (is refl)

pub numbers_agree : NumbersAgree
numbers_agree (number bytes) grammatical = number_known (read bytes) (number_read bytes grammatical)
numbers_agree (text bytes) grammatical = refl
numbers_agree (list inner) grammatical = refl
