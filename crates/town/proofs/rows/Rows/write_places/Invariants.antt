use Rattle.std.proofs.Common.{◌≡◌, ◌≤◌, drop, vec_items, vec_len}
use Rattle.std.specs.Iterator.Adapters.{enumerate_source, enumerate_count, zip_first, zip_second}
use Rattle.std.specs.Slice.Iter.{iter_rest}
use Rattle.town.specs.RowsGraph.{rows_records}
use Rattle.town.specs.Writes.{Wrote}
use Rattle.town.proofs.rows.Rows.write_places.Given as goal

-- the records of the places so far are written, and the iterators have the ranks and names of the others left
abbrev pub invariant-loop-i : goal.invariant-loop-i
invariant-loop-i g l =
    let i = enumerate_count l.i-iterator in
    let pairs = enumerate_source l.i-iterator in
    record {
      wrote : Wrote (rows_records g.M.FileMeasure.form l.self) i l.initial.out l.out;
      few : i ≤ vec_len l.self.tables.ranks;
      ranks : iter_rest (zip_first pairs) ≡ drop i (vec_items l.self.tables.ranks);
      names : iter_rest (zip_second pairs) ≡ drop i (vec_items l.self.tables.names);
    }
