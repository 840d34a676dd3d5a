-- Operations on lists that are written in programs that have types.
use Rattle.std.specs.Prelude.{ℕ, ℤ, Bool, Option, None, codes}
use Rattle.rpy_tree.specs.declared.syntax.BinOp.TheVariants as bin
use Rattle.rpy_meaning.specs.declared.row.RowOp.TheVariants as row
use Rattle.rtyper_list.specs.Operands.{of_list, of_none}
use Rattle.typed_rows.specs.Rows.{FirstIs, RowIsWritten, RowIsWrittenWhere, SecondIs}
use Rattle.list_rows.specs.Told.{Both, HasBounds, ItemsStay, OthersStay, ResultIs, StaysAt, StoredStays, of_list_there, of_word}

-- ---- one operand

-- the length of a list, or of one that may be `None`
abbrev pub LengthsAreWritten : Type 0
LengthsAreWritten = RowIsWrittenWhere (FirstIs of_list) row.Len

-- what is walked of a list
abbrev pub WalksAreWritten : Type 0
WalksAreWritten = (site : ℕ) → RowIsWrittenWhere (FirstIs of_list) (row.Walk site)

-- a list is turned around
abbrev pub ReversalsAreWritten : Type 0
ReversalsAreWritten = (site : Option ℕ) → RowIsWrittenWhere (Both (FirstIs of_list) (ResultIs of_none)) (row.Method (codes "reverse") site)

-- ---- an item

-- the item at an index, which stays what it is
abbrev pub IndicesAreWritten : Type 0
IndicesAreWritten = (literal : Option ℤ) → RowIsWrittenWhere (Both (FirstIs of_list) ItemsStay) (row.Index literal)

-- an item that is stored at an index, and stays what it is
abbrev pub StoresAreWritten : Type 0
StoresAreWritten = RowIsWrittenWhere (Both (FirstIs of_list) StoredStays) row.StoreIndex

-- an item that is deleted
abbrev pub DeletionsAreWritten : Type 0
DeletionsAreWritten = RowIsWrittenWhere (Both (FirstIs of_list) (ResultIs of_none)) row.DeleteIndex

-- ---- walks

-- whether a walk over a list goes on
abbrev pub TurnsAreWritten : Type 0
TurnsAreWritten = RowIsWrittenWhere (FirstIs of_list) (row.HasItem None)

-- the item that a walk has come to, which stays what it is; the place is a word
abbrev pub ItemsAreWritten : Type 0
ItemsAreWritten = RowIsWrittenWhere (Both (FirstIs of_list) (Both (SecondIs of_word) ItemsStay)) (row.Item None)

-- ---- items that come and go

-- the last item, or that at an index, which is taken out and stays what it is
abbrev pub PopsAreWritten : Type 0
PopsAreWritten = (site : Option ℕ) → RowIsWrittenWhere (Both (FirstIs of_list) ItemsStay) (row.Method (codes "pop") site)

-- the items of another list, which stay what they are, come behind those of a list
abbrev pub ExtensionsAreWritten : Type 0
ExtensionsAreWritten = (site : Option ℕ) → RowIsWrittenWhere (Both (Both (FirstIs of_list) (SecondIs of_list)) (Both OthersStay (ResultIs of_none))) (row.Method (codes "extend") site)

-- the same by `+=`, of a list that is there
abbrev pub AdditionsAreWritten : Type 0
AdditionsAreWritten = RowIsWrittenWhere (Both (Both (FirstIs of_list_there) (SecondIs of_list)) OthersStay) row.AddTo

-- ---- lists that are made

-- what a comprehension begins with
abbrev pub ComprehensionsAreWritten : Type 0
ComprehensionsAreWritten = (site : ℕ) → RowIsWritten (row.Comprehension site)

-- the sum of two lists, whose items stay what they are
abbrev pub SumsAreWritten : Type 0
SumsAreWritten = (site : Option ℕ) → RowIsWrittenWhere (Both (Both (FirstIs of_list) (SecondIs of_list)) (Both (StaysAt 0) (StaysAt 1))) (row.Binary bin.Add site)

-- a list so many times, whose items stay what they are
abbrev pub ProductsAreWritten : Type 0
ProductsAreWritten = (site : Option ℕ) → RowIsWrittenWhere (Both (FirstIs of_list) (StaysAt 0)) (row.Binary bin.Mul site)

-- a slice of a list, whose items stay what they are
abbrev pub SlicesAreWritten : Type 0
SlicesAreWritten = (site : ℕ) (low high : Bool) → RowIsWrittenWhere (Both (FirstIs of_list) (Both (HasBounds low high) (StaysAt 0))) (row.Slice site low high)

-- all items but the last
abbrev pub ShorteningsAreWritten : Type 0
ShorteningsAreWritten = (site : ℕ) → RowIsWrittenWhere (Both (FirstIs of_list) (StaysAt 0)) (row.AllButLast site)
