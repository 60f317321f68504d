-- Each step is one of the lemmas on trees, the numbers exchanged where the second one is put below the first.
use Rattle.std.proofs.Common.{◌≡◌, ℕ, ◌<◌, List, get_or, set, sym, subst, ◌∙◌, arith}
use Rattle.std.proofs.lemmas.List.{get_or_read}
use Rattle.channel_bundles.proofs.Trees.{IsJoining, IsJoined, begins, exchanged, joined_above, lifted, rooted}
use Rattle.channel_bundles.proofs.forest.Forest.join.Goals as goal

-- the same by what the code has read: p stands above one number, q above the other
met : (old : List ℕ) (a b : ℕ) (above : List ℕ) (low high p q : ℕ) → IsJoining old a b above low high → p ≡ get_or above low p → q ≡ get_or above high q → p ≡ q → IsJoined old a b above
met old a b above low high p q is reads_p reads_q same =
    joined_above old a b above low high is (sym (get_or_read above low p is.low_in reads_p 0) ∙ same ∙ get_or_read above high q is.high_in reads_q 0)

ended : (old : List ℕ) (a b : ℕ) (above made : List ℕ) (low high p q next : ℕ) → IsJoining old a b above low high → p ≡ get_or above low p → q ≡ get_or above high q → q < p →
    made ≡ set above low (get_or above high 0) → next ≡ get_or above low 0 → next ≡ low → IsJoined old a b made
ended old a b above made low high p q next is reads_p reads_q below e was root =
    subst (λ xs. IsJoined old a b xs) (sym e)
    (rooted old a b above low high is (omega (arith, below, get_or_read above low p is.low_in reads_p 0, get_or_read above high q is.high_in reads_q 0)) (sym was ∙ root))

went_up : (old : List ℕ) (a b : ℕ) (above made : List ℕ) (low high p q next : ℕ) → IsJoining old a b above low high → p ≡ get_or above low p → q ≡ get_or above high q → q < p →
    made ≡ set above low (get_or above high 0) → next ≡ get_or above low 0 → IsJoining old a b made next high
went_up old a b above made low high p q next is reads_p reads_q below e was =
    subst (λ n. IsJoining old a b made n high) (sym was)
    (subst (λ xs. IsJoining old a b xs (get_or above low 0) high) (sym e)
    (lifted old a b above low high is (omega (arith, below, get_or_read above low p is.low_in reads_p 0, get_or_read above high q is.high_in reads_q 0))))

pub loop-a-init : goal.loop-a-init
loop-a-init c = begins _ _ _ c.requires.forest c.requires.a c.requires.b

pub returns-then-p-q : goal.returns-then-p-q
returns-then-p-q c =
    let is = met _ _ _ _ _ _ _ _ c.loop-a.invariant c.index.ensures c.index-in-loop-a.ensures c.if-p-q.true in
    record { forest = is.forest; count = is.count; kept = is.kept; joined = is.ends; only = is.only }

pub returns-then-next-high : goal.returns-then-next-high
returns-then-next-high c =
    let is = ended _ _ _ _ _ _ _ _ _ _ (exchanged _ _ _ _ _ _ c.loop-a.invariant) c.index-in-loop-a.ensures c.index.ensures c.if-p-q-2.true c.lift-next.ensures.above c.lift-next.ensures.was c.if-next-high.true in
    record { forest = is.forest; count = is.count; kept = is.kept; joined = is.ends; only = is.only }

pub loop-a-preserved-then-p-q-2 : goal.loop-a-preserved-then-p-q-2
loop-a-preserved-then-p-q-2 c =
    exchanged _ _ _ _ _ _ (went_up _ _ _ _ _ _ _ _ _ _ (exchanged _ _ _ _ _ _ c.loop-a.invariant) c.index-in-loop-a.ensures c.index.ensures c.if-p-q-2.true c.lift-next.ensures.above c.lift-next.ensures.was)

pub returns-then-next-low : goal.returns-then-next-low
returns-then-next-low c =
    let lift = c.lift-next-else-p-q-2 in
    let differ = c.if-p-q.false in
    let is = ended _ _ _ _ _ _ _ _ _ _ c.loop-a.invariant c.index.ensures c.index-in-loop-a.ensures (let below : c.index-in-loop-a.result.now < c.index.result.now = omega arith in below) lift.ensures.above lift.ensures.was c.if-next-low.true in
    record { forest = is.forest; count = is.count; kept = is.kept; joined = is.ends; only = is.only }

pub loop-a-preserved : goal.loop-a-preserved
loop-a-preserved c =
    let lift = c.lift-next-else-p-q-2 in
    let differ = c.if-p-q.false in
    went_up _ _ _ _ _ _ _ _ _ _ c.loop-a.invariant c.index.ensures c.index-in-loop-a.ensures (let below : c.index-in-loop-a.result.now < c.index.result.now = omega arith in below) lift.ensures.above lift.ensures.was
