-- What each sink promises, from what standard output does.
use Rattle.std.proofs.Common.{◌≤◌, length, refl}
use Rattle.std.proofs.lemmas.Result.{IfOk-weaker, on_err_weaker}
use Rattle.host_edge.proofs.SinkLemmas.{rose_next}
use Rattle.host_edge.proofs.std_sink.StdSinkSink.TheImpl.Goals as goal

pub write-tells : goal.write-tells
write-tells = λ g c.
    let e = c.ensures in
    record {
      put = IfOk-weaker c.result (λ n. n ≤ length c.args.bytes.now) _ (λ n _. refl) e.within;
      within = e.within;
      progress = e.progress;
      empty = λ none. ((e.empty none).0, refl, (e.empty none).1);
      refused = on_err_weaker c.result (λ _. refl) e.err;
      rose = on_err_weaker c.result (rose_next c.args.self.now c.new.self.now) e.err;
      never_falls = e.never_falls;
    }
