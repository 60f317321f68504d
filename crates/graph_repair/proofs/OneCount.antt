-- The writes from one floor to another are one number.
use Rattle.std.proofs.Common.{◌≡◌, ℕ, ◌+◌, true, List, length, sym, ap, ◌∙◌}
use Rattle.std.specs.Prelude.{Contains}
use Rattle.plane_geom.specs.declared.floor.Line.{Line}
use Rattle.plane_geom.specs.declared.floor.Floor.{Floor}
use Rattle.plane_geom.specs.Order.{AreOrdered, stands_before}
use Rattle.sweep_lines.proofs.Members.{among_of_contains, contains_of_among, rising_of_pairs}
use Rattle.plane_geom.proofs.Order.{never_both}
use Rattle.sweep_lines.proofs.OneList.{one_list}
use Rattle.visibility_graph.specs.Meeting.{coming}
use Rattle.graph_repair.specs.Change.{AreAlone, AreShared, IsWriteCount}

same_members : (ls ms : List Line) → AreOrdered ls → AreOrdered ms → ((l : Line) → Contains ls l → Contains ms l) → ((l : Line) → Contains ms l → Contains ls l) → ls ≡ ms
same_members ls ms a b f g =
    one_list (λ l m. stands_before l m ≡ true) never_both ls ms (rising_of_pairs (λ l m. stands_before l m ≡ true) ls a) (rising_of_pairs (λ l m. stands_before l m ≡ true) ms b)
    (λ l i. among_of_contains ms l (f l (contains_of_among ls l i))) (λ l i. among_of_contains ls l (g l (contains_of_among ms l i)))

one_shared : (a b : Floor) (ls ms : List Line) → AreShared a b ls → AreShared a b ms → ls ≡ ms
one_shared a b ls ms f g =
    same_members ls ms f.ordered g.ordered (λ l c. (g.listed l).1 ((f.listed l).0 c)) (λ l c. (f.listed l).1 ((g.listed l).0 c))

one_alone : (a b : Floor) (ls ms : List Line) → AreAlone a b ls → AreAlone a b ms → ls ≡ ms
one_alone a b ls ms f g =
    same_members ls ms f.ordered g.ordered (λ l c. (g.listed l).1 ((f.listed l).0 c)) (λ l c. (f.listed l).1 ((g.listed l).0 c))

pub one_count : (old new : Floor) (m n : ℕ) → IsWriteCount old new m → IsWriteCount old new n → m ≡ n
one_count old new m n f g =
    let stay = one_shared old new f.stay g.stay f.are_stay g.are_stay in
    let come = one_alone new old f.come g.come f.are_come g.are_come in
    f.count ∙ ap (λ (ls : List Line). length ls + coming ls f.stay) come ∙ ap (λ (ls : List Line). length g.come + coming g.come ls) stay ∙ sym g.count
