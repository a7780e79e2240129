-- What each fault says: the number of the refusal, its layer, and where it points.
use Rattle.std.specs.Prelude.{ℕ, List, ◌++◌, codes, decimal}
use Rattle.fault.specs.declared.atlas.AtlasFault.{AtlasFault}
use Rattle.fault.specs.declared.atlas.AtlasFault.TheVariants.{RankZero, KOutOfBounds, SideOutOfBounds, StartsOutOfBounds, CellsOutOfBounds, TooShort, TestFailed, NoSuchPlace, NothingLeft, CellsRunOut}
use Rattle.fault.specs.declared.file.FileFault.{FileFault}
use Rattle.fault.specs.declared.file.FileFault.TheVariants.{PartialRecord, BadByte, BadValue, OutOfOrder, OutOfRoom}
use Rattle.fault.specs.declared.line.LineFault.{LineFault}
use Rattle.fault.specs.declared.line.LineFault.TheVariants.{NoForm, Atlas as OfAtlas}
use Rattle.fault.specs.declared.memory_test.MemoryTest.{MemoryTest}
use Rattle.fault.specs.declared.memory_test.MemoryTest.TheVariants.{Order, Links, Positions, Counts, Places}
use Rattle.fault.specs.declared.refusal.Layer.{Layer}
use Rattle.fault.specs.declared.refusal.Layer.TheVariants.{File, Atlas, Line}
use Rattle.fault.specs.declared.refusal.Refusal.{Refusal}

abbrev pub refusal : ℕ → Layer → ℕ → Refusal
refusal n l w = record { number = n; layer = l; at = w }

-- a town file's faults point at a record, counted from 0
abbrev pub file_refusal : FileFault → Refusal
file_refusal (PartialRecord whole) = refusal 1 File whole
file_refusal (BadByte i) = refusal 2 File i
file_refusal (BadValue i) = refusal 3 File i
file_refusal (OutOfOrder i) = refusal 4 File i
file_refusal (OutOfRoom i) = refusal 5 File i

-- the five tests of an atlas's memory, in the order in which they are made
abbrev pub test_number : MemoryTest → ℕ
test_number Order = 1
test_number Links = 2
test_number Positions = 3
test_number Counts = 4
test_number Places = 5

abbrev pub atlas_refusal : AtlasFault → Refusal
atlas_refusal (RankZero place) = refusal 3 Atlas place
atlas_refusal (KOutOfBounds k) = refusal 6 Atlas k
atlas_refusal (SideOutOfBounds side) = refusal 6 Atlas side
atlas_refusal (StartsOutOfBounds starts) = refusal 6 Atlas starts
atlas_refusal (CellsOutOfBounds cells) = refusal 6 Atlas cells
atlas_refusal (TooShort needed) = refusal 7 Atlas needed
atlas_refusal (TestFailed test) = refusal 8 Atlas (test_number test)
atlas_refusal (NoSuchPlace place) = refusal 9 Atlas place
atlas_refusal (NothingLeft swept) = refusal 10 Atlas swept
atlas_refusal (CellsRunOut place) = refusal 11 Atlas place

-- a line that fits no form points at the leading bytes that it shares; the atlas's refusal is carried whole
abbrev pub line_refusal : LineFault → Refusal
line_refusal (NoForm shared) = refusal 12 Line shared
line_refusal (OfAtlas fault) = atlas_refusal fault

-- how a layer is printed
abbrev pub layer_text : Layer → List ℕ
layer_text File = codes "file"
layer_text Atlas = codes "atlas"
layer_text Line = codes "line"

-- how a refusal is printed: number, layer and where, with a space between
abbrev pub refusal_text : Refusal → List ℕ
refusal_text r = decimal r.number ++ (codes " " ++ (layer_text r.layer ++ (codes " " ++ decimal r.at)))
