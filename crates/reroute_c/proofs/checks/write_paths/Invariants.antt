-- The first paths are written, and the rest is as it was.
use Rattle.std.proofs.Common.{◌≡◌, map}
use Rattle.reroute_c.specs.Checks.{shared_info}
use Rattle.reroute_c.specs.Files.{put_front}
use Rattle.reroute_c.proofs.checks.write_paths.Given as goal

abbrev pub invariant-loop-at : goal.invariant-loop-at
invariant-loop-at l = l.out ≡ put_front l.at (map shared_info l.paths) l.fn.out
