-- No document ends after a key.
use Rattle.std.proofs.Common.{refl}
use Rattle.gml_text.specs.Reader.{frames}
use Rattle.gml_text.specs.Reading.{following}
use Rattle.gml_text.specs.Standing.{gap_state}
use Rattle.gml_text.specs.View.{pairs}
use Rattle.gml_text.proofs.Standing.{unfinished_there}
use Rattle.gml_text.proofs.reader.Reader.value.Goals as goal

pub returns-then-at-bytes-clause-goes : goal.returns-then-at-bytes-clause-goes
returns-then-at-bytes-clause-goes c =
    unfinished_there c.args.bytes.now c.args.at (gap_state (following c.args.key) (frames c.args.self.now.lists.items) (pairs c.args.self.now.pairs.items))
    c.if-at-bytes.true c.requires.stands refl
