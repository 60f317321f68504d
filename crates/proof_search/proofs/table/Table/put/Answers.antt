-- One row is written.
use Rattle.std.proofs.Common.{refl}
use Rattle.std.proofs.Math.ListN.{length-set}
use Rattle.proof_search.proofs.Written.{written_here, written_others, written_rows}
use Rattle.proof_search.proofs.table.Table.put.Goals as goal

pub returns : goal.returns
returns c =
    let old = c.args.self.now in
    let rows = old.rows.items in
    let x = c.args.place.now in
    let at = c.row-at.result in
    let row = c.set.new.self in
    record {
      rooms = record { places = refl; rows = length-set rows at row };
      changed = written_here old.places old.places rows rows x c.args.label c.index_mut.result.now row at refl refl c.row-at.ensures c.set.ensures c.index_mut.ensures.value c.requires.room.crossing c.requires.room.stage;
      written = written_rows old.places old.places rows rows x c.args.label c.index_mut.result.now row at refl refl c.row-at.ensures c.set.ensures c.index_mut.ensures.value c.requires.room.crossing c.requires.room.stage;
      others = written_others old.places old.places rows rows x c.args.label c.index_mut.result.now row at refl refl c.row-at.ensures c.set.ensures c.index_mut.ensures.value c.requires.room.crossing c.requires.room.stage;
    }
