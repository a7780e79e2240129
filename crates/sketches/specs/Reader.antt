-- What a reader has left to hand out.
use Rattle.std.specs.Prelude.{List}
use Rattle.tables.specs.declared.rows.Entry.{Entry}
use Rattle.tables.specs.Walks.{forward}
use Rattle.sketches.specs.declared.reader.SketchReader.{SketchReader}

abbrev pub entries_left : {R : Type 0} → SketchReader R → List (Entry R)
entries_left r = forward r.cells.now r.at r.left
