-- Graphs that look into dicts stand at their numbers, with those that they call.
use Rattle.std.specs.Prelude.{◌≡◌, ◌==◌, ℕ, zero, suc, true, false, List, [], ◌∷◌, Some, slice_get}
use Rattle.csub_tree.specs.State.{Value, Core}
use Rattle.ll_code.specs.declared.program.LlType.{LlType}
use Rattle.ll_code.specs.declared.program.LlType.TheVariants as type
use Rattle.ll_code.specs.declared.program.LlProgram.{LlProgram}
use Rattle.ll_build.specs.declared.needs.Helper.TheVariants as helper
use Rattle.ll_build.specs.declared.needs.Numbers.{Numbers}
use Rattle.rtyper_layout.specs.declared.layout.Layout.{Layout}
use Rattle.rtyper_data.specs.declared.found.Found.{Found}
use Rattle.rtyper_data.specs.declared.small.Keyed.{Keyed}
use Rattle.rtyper_data.specs.declared.small.Keyed.TheVariants as keyed
use Rattle.rtyper_data.specs.declared.small.Small.TheVariants as small
use Rattle.rtyper_data.specs.Graphs.{body_of, fields_at}
use Rattle.rtyper_data.specs.Seen.{writing}
use Rattle.rtyper_dict.specs.declared.parts.DictShape.{DictShape}
use Rattle.rtyper_dict.specs.Graphs.{dict_graph}
use Rattle.rtyper_dict.specs.Hashing.{key_item}
use Rattle.rtyper_dict.specs.Listing.{get_types, got}
use Rattle.rtyper_dict.specs.Looking.{find_reads, find_types, is_key, test_of}
use Rattle.rtyper_dict.specs.Parts.{dict_at, keyed_number}
use Rattle.lower_laws.specs.Asked.{Ask, Help, Make, Has as HasOther, AllRaise}
use Rattle.list_laws.specs.Asked.{HasMake}
use Rattle.object_laws.specs.Done.{AllAsked}
use Rattle.conversion_laws.specs.Asked.{Has as HasConversion}
use Rattle.dict_op_laws.specs.Asked.{HasKeyed}

-- ---- hashes

-- the graphs that hash the fields of a tuple are asked for in turn, and are those of their types
abbrev pub FieldsHashed : (LlType → ℕ → Type 0) → List LlType → Found → Type 0
FieldsHashed Hashes [] found = Unit {0}
FieldsHashed Hashes (t ∷ ts) found = Hashes (key_item t) (keyed_number (keyed.Hash (key_item t)) found).0 × FieldsHashed Hashes ts (keyed_number (keyed.Hash (key_item t)) found).1

abbrev pub fields_asked : List LlType → Found → Found
fields_asked [] found = found
fields_asked (t ∷ ts) found = fields_asked ts (keyed_number (keyed.Hash (key_item t)) found).1

-- The graph that hashes keys of this type, and that for words, by which it mixes the hash of a string or a tuple. Of a tuple it calls those
-- that hash its fields.
pub record HashesBy (Hashes : LlType → ℕ → Type 0) (p : LlProgram) (layout : Layout) (t : LlType) (f : ℕ) : Type 0 where
  pub made : Found
  pub graph : slice_get p.graphs f ≡ Some (dict_graph layout (keyed.Hash t) made).0
  pub words : t ≡ type.Ptr 0 → HasKeyed p layout (keyed.Hash type.Signed) (keyed_number (keyed.Hash type.Signed) made).0
  pub fields : (n : ℕ) → t ≡ type.Ptr n → (n == 0) ≡ false → FieldsHashed Hashes (fields_at layout n) made
  pub mixes : (n : ℕ) → t ≡ type.Ptr n → (n == 0) ≡ false → HasKeyed p layout (keyed.Hash type.Signed) (keyed_number (keyed.Hash type.Signed) (fields_asked (fields_at layout n) made)).0

-- with what it asks for, so many times
abbrev pub HashesTo : ℕ → LlProgram → Layout → LlType → ℕ → Type 0
HashesTo zero p layout t f = Unit {0}
HashesTo (suc k) p layout t f = HashesBy (HashesTo k p layout) p layout t f

-- any number of times
abbrev pub HasHash : LlProgram → Layout → LlType → ℕ → Type 0
HasHash p layout t f = (k : ℕ) → HashesTo k p layout t f

-- ---- looking for a key

-- what is asked for behind the comparison of keys
abbrev pub compared : Layout → DictShape → Found → Found
compared layout d found = (is_key layout d 14 (test_of (find_types d) (find_reads d) found)).1.found

-- the graph that looks for a key, the helper by which it compares strings, or the graph by which it compares tuples, with what that asks for,
-- and the graph by which it hashes where there is an index
pub record HasFind (p : LlProgram) (layout : Layout) (numbers : Numbers) (raised : ℕ → Value) (core : Core) (n f : ℕ) : Type 0 where
  pub made : Found
  pub graph : slice_get p.graphs f ≡ Some (dict_graph layout (keyed.Find n) made).0
  pub texts : (dict_at layout n).stored_key ≡ type.Ptr 0 → HasOther p layout numbers raised core (Help helper.StrEqual) made
  pub tuples : (q : ℕ) → (dict_at layout n).stored_key ≡ type.Ptr q → (q == 0) ≡ false → HasConversion p layout numbers raised core (Make (small.Equal q q)) made
  pub hashes : (dict_at layout n).is_indexed ≡ true → HasHash p layout (dict_at layout n).stored_key (keyed_number (keyed.Hash (dict_at layout n).stored_key) (compared layout (dict_at layout n) made)).0

-- the graph that gives the place of a key which has to be there, what it looks by, and what raises the exception of a missing key
pub record HasEntry (p : LlProgram) (layout : Layout) (numbers : Numbers) (raised : ℕ → Value) (core : Core) (n f : ℕ) : Type 0 where
  pub made : Found
  pub graph : slice_get p.graphs f ≡ Some (dict_graph layout (keyed.Entry n) made).0
  pub finds : HasFind p layout numbers raised core n (keyed_number (keyed.Find (dict_at layout n).dict) made).0
  pub raises : AllRaise p raised (7 ∷ []) (keyed_number (keyed.Find (dict_at layout n).dict) made).1

-- what is asked for behind the value that a key has
abbrev pub valued : Layout → DictShape → LlType → Found → Found
valued layout d kind found = (got layout d kind (writing found (body_of (get_types d kind)))).1.found

-- the graph that gives the value of a key or another, what it reads the value by, and what it looks by
pub record HasGet (p : LlProgram) (layout : Layout) (numbers : Numbers) (raised : ℕ → Value) (core : Core) (n : ℕ) (t : LlType) (f : ℕ) : Type 0 where
  pub made : Found
  pub graph : slice_get p.graphs f ≡ Some (dict_graph layout (keyed.Get n t) made).0
  pub reads : HasKeyed p layout (keyed.Value n) (keyed_number (keyed.Value (dict_at layout n).dict) made).0
  pub finds : HasFind p layout numbers raised core n (keyed_number (keyed.Find (dict_at layout n).dict) (valued layout (dict_at layout n) t made)).0

-- the graph that makes a list of the entries of a dict, and what makes a list of so many items
pub record HasListing (p : LlProgram) (layout : Layout) (raised : ℕ → Value) (graph : Keyed) (l f : ℕ) : Type 0 where
  pub made : Found
  pub graph_is : slice_get p.graphs f ≡ Some (dict_graph layout graph made).0
  pub makes : HasMake p layout raised l made

abbrev pub Has : LlProgram → Layout → Numbers → (ℕ → Value) → Core → Ask → Found → Type 0
Has p layout numbers raised core (Make (small.Keyed (keyed.Hash t))) found = HasHash p layout t (keyed_number (keyed.Hash t) found).0
Has p layout numbers raised core (Make (small.Keyed (keyed.Find n))) found = HasFind p layout numbers raised core n (keyed_number (keyed.Find n) found).0
Has p layout numbers raised core (Make (small.Keyed (keyed.Entry n))) found = HasEntry p layout numbers raised core n (keyed_number (keyed.Entry n) found).0
Has p layout numbers raised core (Make (small.Keyed (keyed.Get n t))) found = HasGet p layout numbers raised core n t (keyed_number (keyed.Get n t) found).0
Has p layout numbers raised core (Make (small.Keyed (keyed.Keys n l))) found = HasListing p layout raised (keyed.Keys n l) l (keyed_number (keyed.Keys n l) found).0
Has p layout numbers raised core (Make (small.Keyed (keyed.Values n l))) found = HasListing p layout raised (keyed.Values n l) l (keyed_number (keyed.Values n l) found).0
Has p layout numbers raised core (Make (small.Keyed (keyed.Items n l))) found = HasListing p layout raised (keyed.Items n l) l (keyed_number (keyed.Items n l) found).0
Has p layout numbers raised core (Make (small.Keyed graph)) found = HasKeyed p layout graph (keyed_number graph found).0
Has p layout numbers raised core ask found = HasOther p layout numbers raised core ask found

-- what is asked for stands at its numbers
abbrev pub HasAll : LlProgram → Layout → Numbers → (ℕ → Value) → Core → List Ask → Found → Type 0
HasAll p layout numbers raised core asks found = AllAsked (Has p layout numbers raised core) asks found
