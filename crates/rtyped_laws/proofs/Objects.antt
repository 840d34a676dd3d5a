-- Graphs of lists, classes and dicts that are asked for stand at their numbers; those of lists with those that they ask for.
use Rattle.std.proofs.Common.{◌≢◌, ◌<◌, ◌^◌, ℕ, ◌+◌, Bool, true, false, length}
use Rattle.csub_tree.specs.State.{Core}
use Rattle.ll_code.specs.declared.program.LlType.{LlType}
use Rattle.ll_code.specs.declared.program.LlType.TheVariants as type
use Rattle.ll_code.specs.declared.program.LlProgram.{LlProgram}
use Rattle.ll_build.specs.declared.needs.Numbers.{Numbers}
use Rattle.rtyper_layout.specs.Types.{word}
use Rattle.rtyper_data.specs.declared.found.Found.{Found}
use Rattle.rtyper_data.specs.declared.small.Keyed.{Keyed}
use Rattle.rtyper_data.specs.declared.small.Listed.{Listed}
use Rattle.rtyper_data.specs.declared.small.Listed.TheVariants.{Place, Room, Append, Insert, Extend, Remove, Copy, MoveUp, Make as MakeList, Concat, Repeat, Slice, ButLast, Contains}
use Rattle.rtyper_data.specs.declared.small.Small.{Small}
use Rattle.rtyper_data.specs.declared.small.Small.TheVariants as small
use Rattle.rtyper_data.specs.Finding.{small_number}
use Rattle.rtyper_data.specs.Graphs.{failing}
use Rattle.list_helpers.specs.Listing.{list_graph}
use Rattle.list_loops.specs.Making.{concat, repeat, slice, but_last}
use Rattle.list_loops.specs.Changing.{remove, room, append, insert, extend}
use Rattle.rtyper_class.specs.Instances.{attribute}
use Rattle.rtyper_class.specs.Seen.{World}
use Rattle.rtyper_program.specs.Program.{small_of}
use Rattle.rtyper_program.specs.Seen.{Known}
use Rattle.lower_laws.specs.Asked.{Make, AllRaise, Raises, if_raised}
use Rattle.list_laws.specs.Asked.{HasAppend, HasButLast, HasConcat, HasContains, HasCopyTo, HasExtend, HasInsert, HasList, HasRemove, HasRepeat, HasSlice, MakesRoom, Has, raised_by}
use Rattle.class_laws.specs.Asked as class
use Rattle.dict_op_laws.specs.Asked.{HasKeyed}
use Rattle.growth_laws.specs.Growing.{Grows}
use Rattle.growth_laws.proofs.Data.{then_grows}
use Rattle.growth_laws.proofs.Growing.{smalls_grow}
use Rattle.program_asks.specs.Standing.{HasAsked, Stands}
use Rattle.rtyped_laws.specs.Having.{raised_in}
use Rattle.rtyped_laws.specs.Objects.{LooksForNoText}
use Rattle.rtyped_laws.proofs.Raised.{one_raises}

module _ (p : LlProgram) (known : Known) (world : World) (numbers : Numbers) (first last : Found) (has : HasAsked p known world numbers first last) (few : length p.graphs < 2 ^ 64) where
  abbrev pub Asked : Small → Found → Type 0
  Asked s found = Grows (small_number s found).1 last

  stands : (s : Small) (found : Found) → Asked s found → Stands p.graphs world last (small_number s found).0 s
  stands s found late = has.smalls few s found late

  -- what raises the instance of a builtin class
  raises : (class : ℕ) (found : Found) → Asked (small.Raise class) found → Raises p (small_number (small.Raise class) found).0 (raised_in world class)
  raises class found late = one_raises p world last class (small_number (small.Raise class) found).0 (stands (small.Raise class) found late)

  -- a block that fails raises what it asks for
  block_raises : (number class : ℕ) (c : Bool) (found : Found) → Grows (failing number class c found).1 last → AllRaise p (raised_in world) (if_raised c class) found
  unfolding failing
  block_raises number class true found late = (raises class found late, tt)
  block_raises number class false found late = tt

  -- ---- lists

  list_raises : (listed : Listed) (made : Found) → Grows (list_graph world.around.layout listed made).1 last → AllRaise p (raised_in world) (raised_by listed) made
  list_raises (Place l c) made late = block_raises 1 6 c made late
  list_raises other made late = tt

  has_list : (listed : Listed) (found : Found) → Asked (small.Listed listed) found → HasList p world.around.layout (raised_in world) listed (small_number (small.Listed listed) found).0
  has_list listed found late = let s : Stands p.graphs world last (small_number (small.Listed listed) found).0 (small.Listed listed) = stands (small.Listed listed) found late in
      record { made = s.made; graph = s.graph; raises = list_raises listed s.made s.grows }

  has_copy_to : (m n : ℕ) (found : Found) → Asked (small.Listed (Copy (word (m + 1)) (word (n + 1)))) found → HasCopyTo p world.around.layout (raised_in world) m n found
  has_copy_to m n found late = has_list (Copy (word (m + 1)) (word (n + 1))) found late

  -- what is asked for later is asked for before it
  earlier : (s : Small) (found : Found) → Asked s found → Grows found last
  earlier s found late = then_grows (smalls_grow s found) late

  makes_room : (n : ℕ) (found : Found) → Asked (small.Listed (Room n)) found → MakesRoom p world.around.layout (raised_in world) n (small_number (small.Listed (Room n)) found).0
  unfolding room
  makes_room n found late = let s : Stands p.graphs world last (small_number (small.Listed (Room n)) found).0 (small.Listed (Room n)) = stands (small.Listed (Room n)) found late in
      record { made = s.made; graph = s.graph; copies = has_copy_to n n s.made s.grows }

  has_append : (n : ℕ) (found : Found) → Asked (small.Listed (Append n)) found → HasAppend p world.around.layout (raised_in world) n (small_number (small.Listed (Append n)) found).0
  unfolding append
  has_append n found late = let s : Stands p.graphs world last (small_number (small.Listed (Append n)) found).0 (small.Listed (Append n)) = stands (small.Listed (Append n)) found late in
      record { made = s.made; graph = s.graph; room = makes_room n s.made s.grows }

  has_insert : (n : ℕ) (found : Found) → Asked (small.Listed (Insert n)) found → HasInsert p world.around.layout (raised_in world) n (small_number (small.Listed (Insert n)) found).0
  unfolding insert
  has_insert n found late = let s : Stands p.graphs world last (small_number (small.Listed (Insert n)) found).0 (small.Listed (Insert n)) = stands (small.Listed (Insert n)) found late in
      record { made = s.made; graph = s.graph; room = makes_room n s.made (earlier (small.Listed (MoveUp (word (n + 1)))) _ s.grows); moves = has_list (MoveUp (word (n + 1))) _ s.grows }

  has_extend : (n m : ℕ) (found : Found) → Asked (small.Listed (Extend n m)) found → HasExtend p world.around.layout (raised_in world) n m (small_number (small.Listed (Extend n m)) found).0
  unfolding extend
  has_extend n m found late = let s : Stands p.graphs world last (small_number (small.Listed (Extend n m)) found).0 (small.Listed (Extend n m)) = stands (small.Listed (Extend n m)) found late in
      record { made = s.made; graph = s.graph; room = makes_room n s.made (earlier (small.Listed (Copy (word (m + 1)) (word (n + 1)))) _ s.grows); copies = has_copy_to m n _ s.grows }

  has_concat : (l m r : ℕ) (found : Found) → Asked (small.Listed (Concat l m r)) found → HasConcat p world.around.layout (raised_in world) l m r (small_number (small.Listed (Concat l m r)) found).0
  unfolding concat
  has_concat l m r found late = let s : Stands p.graphs world last (small_number (small.Listed (Concat l m r)) found).0 (small.Listed (Concat l m r)) = stands (small.Listed (Concat l m r)) found late in
      let both : Asked (small.Listed (Copy (word (l + 1)) (word (r + 1)))) (small_number (small.Listed (MakeList r)) s.made).1 = earlier (small.Listed (Copy (word (m + 1)) (word (r + 1)))) _ s.grows in
      record { made = s.made; graph = s.graph; makes = has_list (MakeList r) s.made (earlier (small.Listed (Copy (word (l + 1)) (word (r + 1)))) _ both); first = has_copy_to l r _ both; second = has_copy_to m r _ s.grows }

  has_repeat : (l r : ℕ) (found : Found) → Asked (small.Listed (Repeat l r)) found → HasRepeat p world.around.layout (raised_in world) l r (small_number (small.Listed (Repeat l r)) found).0
  unfolding repeat
  has_repeat l r found late = let s : Stands p.graphs world last (small_number (small.Listed (Repeat l r)) found).0 (small.Listed (Repeat l r)) = stands (small.Listed (Repeat l r)) found late in
      record { made = s.made; graph = s.graph; makes = has_list (MakeList r) s.made (earlier (small.Listed (Copy (word (l + 1)) (word (r + 1)))) _ s.grows); copies = has_copy_to l r _ s.grows }

  has_slice : (l r : ℕ) (found : Found) → Asked (small.Listed (Slice l r)) found → HasSlice p world.around.layout (raised_in world) l r (small_number (small.Listed (Slice l r)) found).0
  unfolding slice
  has_slice l r found late = let s : Stands p.graphs world last (small_number (small.Listed (Slice l r)) found).0 (small.Listed (Slice l r)) = stands (small.Listed (Slice l r)) found late in
      record { made = s.made; graph = s.graph; makes = has_list (MakeList r) s.made (earlier (small.Listed (Copy (word (l + 1)) (word (r + 1)))) _ s.grows); copies = has_copy_to l r _ s.grows }

  has_but_last : (l r : ℕ) (found : Found) → Asked (small.Listed (ButLast l r)) found → HasButLast p world.around.layout (raised_in world) l r (small_number (small.Listed (ButLast l r)) found).0
  unfolding but_last
  has_but_last l r found late = let s : Stands p.graphs world last (small_number (small.Listed (ButLast l r)) found).0 (small.Listed (ButLast l r)) = stands (small.Listed (ButLast l r)) found late in
      record { made = s.made; graph = s.graph; slices = has_slice l r s.made s.grows }

  has_remove : (n : ℕ) (found : Found) → Asked (small.Listed (Remove n)) found → HasRemove p world.around.layout (raised_in world) n (small_number (small.Listed (Remove n)) found).0
  unfolding remove
  has_remove n found late = let s : Stands p.graphs world last (small_number (small.Listed (Remove n)) found).0 (small.Listed (Remove n)) = stands (small.Listed (Remove n)) found late in
      record { made = s.made; graph = s.graph; moves = has_copy_to n n s.made s.grows }

  has_contains : (core : Core) (t : LlType) (n : ℕ) → t ≢ type.Ptr 0 → (found : Found) → Asked (small.Listed (Contains t n)) found
      → HasContains p world.around.layout numbers (raised_in world) core t n (small_number (small.Listed (Contains t n)) found).0
  has_contains core t n other found late = let s : Stands p.graphs world last (small_number (small.Listed (Contains t n)) found).0 (small.Listed (Contains t n)) = stands (small.Listed (Contains t n)) found late in
      record { made = s.made; graph = s.graph; texts = λ e. absurd (other e) }

  pub lists_have : (core : Core) (listed : Listed) → LooksForNoText listed → (found : Found) → Asked (small.Listed listed) found
      → Has p world.around.layout numbers (raised_in world) core (Make (small.Listed listed)) found
  lists_have core (Append n) good found late = has_append n found late
  lists_have core (Remove n) good found late = has_remove n found late
  lists_have core (Insert n) good found late = has_insert n found late
  lists_have core (Extend n m) good found late = has_extend n m found late
  lists_have core (Concat l m r) good found late = has_concat l m r found late
  lists_have core (Repeat l r) good found late = has_repeat l r found late
  lists_have core (Slice l r) good found late = has_slice l r found late
  lists_have core (ButLast l r) good found late = has_but_last l r found late
  lists_have core (Contains t n) good found late = has_contains core t n good found late
  lists_have core graph good found late = has_list graph found late

  -- ---- classes and dicts

  class_raises : (s : Small) (made : Found) → Grows (small_of world s made).1 last → AllRaise p (raised_in world) (class.raised_by s) made
  unfolding attribute
  class_raises (small.Attribute own place c) made late = block_raises 4 9 c made late
  class_raises other made late = tt

  pub has_new : (n : ℕ) (found : Found) → Asked (small.New n) found → class.HasClass p world (raised_in world) (small.New n) (small_number (small.New n) found).0
  has_new n found late = let s : Stands p.graphs world last (small_number (small.New n) found).0 (small.New n) = stands (small.New n) found late in
      record { made = s.made; graph = s.graph; raises = class_raises (small.New n) s.made s.grows }

  pub has_attribute : (own place : ℕ) (c : Bool) (found : Found) → Asked (small.Attribute own place c) found → class.HasClass p world (raised_in world) (small.Attribute own place c) (small_number (small.Attribute own place c) found).0
  has_attribute own place c found late = let s : Stands p.graphs world last (small_number (small.Attribute own place c) found).0 (small.Attribute own place c) = stands (small.Attribute own place c) found late in
      record { made = s.made; graph = s.graph; raises = class_raises (small.Attribute own place c) s.made s.grows }

  pub has_is_instance : (root vtable low high : ℕ) (found : Found) → Asked (small.IsInstance root vtable low high) found → class.HasClass p world (raised_in world) (small.IsInstance root vtable low high) (small_number (small.IsInstance root vtable low high) found).0
  has_is_instance root vtable low high found late = let s : Stands p.graphs world last (small_number (small.IsInstance root vtable low high) found).0 (small.IsInstance root vtable low high) = stands (small.IsInstance root vtable low high) found late in
      record { made = s.made; graph = s.graph; raises = class_raises (small.IsInstance root vtable low high) s.made s.grows }

  pub has_keyed : (keyed : Keyed) (found : Found) → Asked (small.Keyed keyed) found → HasKeyed p world.around.layout keyed (small_number (small.Keyed keyed) found).0
  has_keyed keyed found late = let s : Stands p.graphs world last (small_number (small.Keyed keyed) found).0 (small.Keyed keyed) = stands (small.Keyed keyed) found late in
      record { made = s.made; graph = s.graph }
