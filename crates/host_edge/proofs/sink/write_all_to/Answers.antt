-- One more piece is written.
use Rattle.std.proofs.Common.{ℕ, arith, ◌∙◌, length-take, length-drop}
use Rattle.host_edge.proofs.SinkLemmas.{append_known_more, NeverFalls-trans}
use Rattle.host_edge.proofs.sink.write_all_to.Goals as goal

pub loop-written-preserved : goal.loop-written-preserved
loop-written-preserved g c =
    let wrote = c.in_ok-written.ensures in
    record {
      within = omega (arith, wrote.within, length-take {A = ℕ}, length-drop {A = ℕ});
      put = wrote.put ∙ append_known_more _ _ _ _ _ c.loop-written.invariant.put;
      counts = NeverFalls-trans _ _ _ c.loop-written.invariant.counts wrote.never_falls;
      idle = omega (arith, wrote.progress, c.loop-written-test.true, length-take {A = ℕ}, length-drop {A = ℕ});
    }
