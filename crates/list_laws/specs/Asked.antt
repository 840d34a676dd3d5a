-- Graphs of lists that are asked for stand at their numbers.
use Rattle.std.specs.Prelude.{◌≡◌, ℕ, ◌+◌, List, [], Some, slice_get}
use Rattle.csub_tree.specs.State.{Value, Core}
use Rattle.ll_code.specs.declared.program.LlType.{LlType}
use Rattle.ll_code.specs.declared.program.LlType.TheVariants as type
use Rattle.ll_code.specs.declared.program.LlProgram.{LlProgram}
use Rattle.ll_build.specs.declared.needs.Helper.TheVariants as helper
use Rattle.ll_build.specs.declared.needs.Numbers.{Numbers}
use Rattle.rtyper_layout.specs.declared.layout.Layout.{Layout}
use Rattle.rtyper_layout.specs.Types.{word}
use Rattle.rtyper_data.specs.declared.found.Found.{Found}
use Rattle.rtyper_data.specs.declared.small.Listed.{Listed}
use Rattle.rtyper_data.specs.declared.small.Listed.TheVariants.{Place, Room, Append, Insert, Extend, Remove, Copy, MoveUp, Make as MakeList, Concat, Repeat, Slice, ButLast, Contains}
use Rattle.rtyper_data.specs.declared.small.Small.TheVariants as small
use Rattle.rtyper_data.specs.Finding.{small_number}
use Rattle.list_helpers.specs.Listing.{list_graph}
use Rattle.lower_laws.specs.Asked.{Ask, Help, Make, Has as HasOther, AllRaise, if_raised}
use Rattle.object_laws.specs.Done.{AllAsked}

-- the classes of what a graph of lists raises
abbrev pub raised_by : Listed → List ℕ
raised_by (Place l raises) = if_raised raises 6
raised_by other = []

-- the graph, which calls no other graph of lists, has this number, and what it raises is raised
pub record HasList (p : LlProgram) (layout : Layout) (raised : ℕ → Value) (listed : Listed) (f : ℕ) : Type 0 where
  pub made : Found
  pub graph : slice_get p.graphs f ≡ Some (list_graph layout listed made).0
  pub raises : AllRaise p raised (raised_by listed) made

-- the graph that copies items from an array of the one struct to one of the other, for those that call it
abbrev pub HasCopyTo : LlProgram → Layout → (ℕ → Value) → ℕ → ℕ → Found → Type 0
HasCopyTo p layout raised m n made = HasList p layout raised (Copy (word (m + 1)) (word (n + 1))) (small_number (small.Listed (Copy (word (m + 1)) (word (n + 1)))) made).0

abbrev pub HasCopy : LlProgram → Layout → (ℕ → Value) → ℕ → Found → Type 0
HasCopy p layout raised n made = HasCopyTo p layout raised n n made

-- the graph that makes a list of so many items, for those that call it
abbrev pub HasMake : LlProgram → Layout → (ℕ → Value) → ℕ → Found → Type 0
HasMake p layout raised n made = HasList p layout raised (MakeList n) (small_number (small.Listed (MakeList n)) made).0

-- the graph that makes room, and what it copies items by
pub record MakesRoom (p : LlProgram) (layout : Layout) (raised : ℕ → Value) (n f : ℕ) : Type 0 where
  pub made : Found
  pub graph : slice_get p.graphs f ≡ Some (list_graph layout (Room n) made).0
  pub copies : HasCopy p layout raised n made

-- the graph that appends, and what it makes room by
pub record HasAppend (p : LlProgram) (layout : Layout) (raised : ℕ → Value) (n f : ℕ) : Type 0 where
  pub made : Found
  pub graph : slice_get p.graphs f ≡ Some (list_graph layout (Append n) made).0
  pub room : MakesRoom p layout raised n (small_number (small.Listed (Room n)) made).0

-- the graph that inserts, what it makes room by, and what it moves the later items by
pub record HasInsert (p : LlProgram) (layout : Layout) (raised : ℕ → Value) (n f : ℕ) : Type 0 where
  pub made : Found
  pub graph : slice_get p.graphs f ≡ Some (list_graph layout (Insert n) made).0
  pub room : MakesRoom p layout raised n (small_number (small.Listed (Room n)) made).0
  pub moves : HasList p layout raised (MoveUp (word (n + 1))) (small_number (small.Listed (MoveUp (word (n + 1)))) (small_number (small.Listed (Room n)) made).1).0

-- the graph that puts the items of another list behind, what it makes room by, and what it copies items by
pub record HasExtend (p : LlProgram) (layout : Layout) (raised : ℕ → Value) (n m f : ℕ) : Type 0 where
  pub made : Found
  pub graph : slice_get p.graphs f ≡ Some (list_graph layout (Extend n m) made).0
  pub room : MakesRoom p layout raised n (small_number (small.Listed (Room n)) made).0
  pub copies : HasCopyTo p layout raised m n (small_number (small.Listed (Room n)) made).1

-- the graphs that make a list of the items of others, what they make it by, and what they copy items by
pub record HasConcat (p : LlProgram) (layout : Layout) (raised : ℕ → Value) (l m r f : ℕ) : Type 0 where
  pub made : Found
  pub graph : slice_get p.graphs f ≡ Some (list_graph layout (Concat l m r) made).0
  pub makes : HasMake p layout raised r made
  pub first : HasCopyTo p layout raised l r (small_number (small.Listed (MakeList r)) made).1
  pub second : HasCopyTo p layout raised m r (small_number (small.Listed (Copy (word (l + 1)) (word (r + 1)))) (small_number (small.Listed (MakeList r)) made).1).1

pub record HasRepeat (p : LlProgram) (layout : Layout) (raised : ℕ → Value) (l r f : ℕ) : Type 0 where
  pub made : Found
  pub graph : slice_get p.graphs f ≡ Some (list_graph layout (Repeat l r) made).0
  pub makes : HasMake p layout raised r made
  pub copies : HasCopyTo p layout raised l r (small_number (small.Listed (MakeList r)) made).1

pub record HasSlice (p : LlProgram) (layout : Layout) (raised : ℕ → Value) (l r f : ℕ) : Type 0 where
  pub made : Found
  pub graph : slice_get p.graphs f ≡ Some (list_graph layout (Slice l r) made).0
  pub makes : HasMake p layout raised r made
  pub copies : HasCopyTo p layout raised l r (small_number (small.Listed (MakeList r)) made).1

-- the graph that gives all items but the last, and what it slices by
pub record HasButLast (p : LlProgram) (layout : Layout) (raised : ℕ → Value) (l r f : ℕ) : Type 0 where
  pub made : Found
  pub graph : slice_get p.graphs f ≡ Some (list_graph layout (ButLast l r) made).0
  pub slices : HasSlice p layout raised l r (small_number (small.Listed (Slice l r)) made).0

-- the graph that takes an item out, and what it moves the later ones by
pub record HasRemove (p : LlProgram) (layout : Layout) (raised : ℕ → Value) (n f : ℕ) : Type 0 where
  pub made : Found
  pub graph : slice_get p.graphs f ≡ Some (list_graph layout (Remove n) made).0
  pub moves : HasCopy p layout raised n made

-- the graph that looks for a value among the items, and the helper that it compares strings by
pub record HasContains (p : LlProgram) (layout : Layout) (numbers : Numbers) (raised : ℕ → Value) (core : Core) (t : LlType) (n f : ℕ) : Type 0 where
  pub made : Found
  pub graph : slice_get p.graphs f ≡ Some (list_graph layout (Contains t n) made).0
  pub texts : t ≡ type.Ptr 0 → HasOther p layout numbers raised core (Help helper.StrEqual) made

abbrev pub Has : LlProgram → Layout → Numbers → (ℕ → Value) → Core → Ask → Found → Type 0
Has p layout numbers raised core (Make (small.Listed (Append n))) found = HasAppend p layout raised n (small_number (small.Listed (Append n)) found).0
Has p layout numbers raised core (Make (small.Listed (Remove n))) found = HasRemove p layout raised n (small_number (small.Listed (Remove n)) found).0
Has p layout numbers raised core (Make (small.Listed (Insert n))) found = HasInsert p layout raised n (small_number (small.Listed (Insert n)) found).0
Has p layout numbers raised core (Make (small.Listed (Extend n m))) found = HasExtend p layout raised n m (small_number (small.Listed (Extend n m)) found).0
Has p layout numbers raised core (Make (small.Listed (Concat l m r))) found = HasConcat p layout raised l m r (small_number (small.Listed (Concat l m r)) found).0
Has p layout numbers raised core (Make (small.Listed (Repeat l r))) found = HasRepeat p layout raised l r (small_number (small.Listed (Repeat l r)) found).0
Has p layout numbers raised core (Make (small.Listed (Slice l r))) found = HasSlice p layout raised l r (small_number (small.Listed (Slice l r)) found).0
Has p layout numbers raised core (Make (small.Listed (ButLast l r))) found = HasButLast p layout raised l r (small_number (small.Listed (ButLast l r)) found).0
Has p layout numbers raised core (Make (small.Listed (Contains t n))) found = HasContains p layout numbers raised core t n (small_number (small.Listed (Contains t n)) found).0
Has p layout numbers raised core (Make (small.Listed graph)) found = HasList p layout raised graph (small_number (small.Listed graph) found).0
Has p layout numbers raised core ask found = HasOther p layout numbers raised core ask found

-- what is asked for stands at its numbers
abbrev pub HasAll : LlProgram → Layout → Numbers → (ℕ → Value) → Core → List Ask → Found → Type 0
HasAll p layout numbers raised core asks found = AllAsked (Has p layout numbers raised core) asks found
