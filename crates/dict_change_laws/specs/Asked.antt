-- Graphs that change dicts stand at their numbers, with those that they call.
use Rattle.std.specs.Prelude.{◌≡◌, ℕ, true, false, List, Some, slice_get}
use Rattle.csub_tree.specs.State.{Value, Core}
use Rattle.ll_code.specs.declared.program.LlProgram.{LlProgram}
use Rattle.ll_build.specs.declared.needs.Helper.TheVariants as helper
use Rattle.ll_build.specs.declared.needs.Numbers.{Numbers}
use Rattle.rtyper_layout.specs.declared.layout.Layout.{Layout}
use Rattle.rtyper_data.specs.declared.found.Found.{Found}
use Rattle.rtyper_data.specs.declared.small.Keyed.TheVariants as keyed
use Rattle.rtyper_data.specs.declared.small.Listed.TheVariants.{Copy}
use Rattle.rtyper_data.specs.declared.small.Small.TheVariants as small
use Rattle.rtyper_data.specs.Finding.{helper_number}
use Rattle.list_shape.specs.Shapes.{number_of}
use Rattle.rtyper_dict.specs.declared.parts.DictShape.{DictShape}
use Rattle.rtyper_dict.specs.Graphs.{dict_graph}
use Rattle.rtyper_dict.specs.Growing.{copied, counted, fill_number, is_pointer}
use Rattle.rtyper_dict.specs.Parts.{dict_at, first_item, keyed_number, second_item}
use Rattle.lower_laws.specs.Asked.{Ask, Help, Make, Has as HasOther}
use Rattle.list_laws.specs.Asked.{HasList}
use Rattle.object_laws.specs.Done.{AllAsked}
use Rattle.dict_op_laws.specs.Asked.{HasKeyed}
use Rattle.dict_find_laws.specs.Asked.{HasFind, HasHash, Has as HasLooking}

-- the graph that enters entries into an index, and that by which it hashes keys
pub record HasEnter (p : LlProgram) (layout : Layout) (n f : ℕ) : Type 0 where
  pub made : Found
  pub graph : slice_get p.graphs f ≡ Some (dict_graph layout (keyed.Enter n) made).0
  pub hashes : HasHash p layout (dict_at layout n).stored_key (keyed_number (keyed.Hash (dict_at layout n).stored_key) made).0

-- the graph that makes an index anew, and that by which it enters all entries
pub record HasIndex (p : LlProgram) (layout : Layout) (n f : ℕ) : Type 0 where
  pub made : Found
  pub graph : slice_get p.graphs f ≡ Some (dict_graph layout (keyed.Index n) made).0
  pub enters : HasEnter p layout n (keyed_number (keyed.Enter (dict_at layout n).dict) made).0

-- the graph that puts an entry behind the last, and that by which it enters it, where there is an index
pub record HasAdd (p : LlProgram) (layout : Layout) (n f : ℕ) : Type 0 where
  pub made : Found
  pub graph : slice_get p.graphs f ≡ Some (dict_graph layout (keyed.Add n) made).0
  pub enters : (dict_at layout n).is_indexed ≡ true → HasEnter p layout n (keyed_number (keyed.Enter (dict_at layout n).dict) made).0

-- what is asked for when the places were counted, when the entries were copied, and when the arrays were filled
abbrev pub when_counted : DictShape → Found → Found
when_counted d made = (counted d made).1

abbrev pub when_copied : DictShape → Found → Found
when_copied d made = (copied d (when_counted d made)).1

abbrev pub when_one_filled : DictShape → Found → Found
when_one_filled d made = (fill_number (first_item d) d.first (when_copied d made)).1

abbrev pub when_filled : DictShape → Found → Found
when_filled d made = (fill_number (second_item d) d.second (when_one_filled d made)).1

-- the graph that makes room for an entry, and those that it calls
pub record HasGrow (p : LlProgram) (layout : Layout) (numbers : Numbers) (raised : ℕ → Value) (core : Core) (n f : ℕ) : Type 0 where
  pub made : Found
  pub graph : slice_get p.graphs f ≡ Some (dict_graph layout (keyed.Grow n) made).0
  pub least : HasOther p layout numbers raised core (Help helper.WordMin) made
  pub sizes : (dict_at layout n).is_indexed ≡ true → HasKeyed p layout keyed.Size (keyed_number keyed.Size (helper_number helper.WordMin made).1).0
  pub copies : HasList p layout raised (Copy (dict_at layout n).first (dict_at layout n).first) (number_of (Copy (dict_at layout n).first (dict_at layout n).first) (when_counted (dict_at layout n) made)).0
  pub copies_second : HasList p layout raised (Copy (dict_at layout n).second (dict_at layout n).second) (number_of (Copy (dict_at layout n).second (dict_at layout n).second) (number_of (Copy (dict_at layout n).first (dict_at layout n).first) (when_counted (dict_at layout n) made)).1).0
  pub fills : is_pointer (first_item (dict_at layout n)) ≡ false → HasKeyed p layout (keyed.Fill (dict_at layout n).first) (keyed_number (keyed.Fill (dict_at layout n).first) (when_copied (dict_at layout n) made)).0
  pub fills_second : is_pointer (second_item (dict_at layout n)) ≡ false → HasKeyed p layout (keyed.Fill (dict_at layout n).second) (keyed_number (keyed.Fill (dict_at layout n).second) (when_one_filled (dict_at layout n) made)).0
  pub indexes : (dict_at layout n).is_indexed ≡ true → HasIndex p layout n (keyed_number (keyed.Index (dict_at layout n).dict) (when_filled (dict_at layout n) made)).0

-- the graph that stores the value of a key, that by which it looks for the key, that by which it makes room, and that by which it adds an entry
pub record HasStore (p : LlProgram) (layout : Layout) (numbers : Numbers) (raised : ℕ → Value) (core : Core) (n f : ℕ) : Type 0 where
  pub made : Found
  pub graph : slice_get p.graphs f ≡ Some (dict_graph layout (keyed.Store n) made).0
  pub finds : HasFind p layout numbers raised core n (keyed_number (keyed.Find (dict_at layout n).dict) made).0
  pub grows : HasGrow p layout numbers raised core n (keyed_number (keyed.Grow (dict_at layout n).dict) (keyed_number (keyed.Find (dict_at layout n).dict) made).1).0
  pub adds : HasAdd p layout n (keyed_number (keyed.Add (dict_at layout n).dict) (keyed_number (keyed.Grow (dict_at layout n).dict) (keyed_number (keyed.Find (dict_at layout n).dict) made).1).1).0

-- the graph that takes an entry out, and those by which it moves the later ones and makes the index anew, where there is one
pub record HasRemove (p : LlProgram) (layout : Layout) (raised : ℕ → Value) (n f : ℕ) : Type 0 where
  pub made : Found
  pub graph : slice_get p.graphs f ≡ Some (dict_graph layout (keyed.Remove n) made).0
  pub moves : HasList p layout raised (Copy (dict_at layout n).first (dict_at layout n).first) (number_of (Copy (dict_at layout n).first (dict_at layout n).first) made).0
  pub moves_second : HasList p layout raised (Copy (dict_at layout n).second (dict_at layout n).second) (number_of (Copy (dict_at layout n).second (dict_at layout n).second) (number_of (Copy (dict_at layout n).first (dict_at layout n).first) made).1).0
  pub indexes : (dict_at layout n).is_indexed ≡ true
      → HasIndex p layout n (keyed_number (keyed.Index (dict_at layout n).dict) (number_of (Copy (dict_at layout n).second (dict_at layout n).second) (number_of (Copy (dict_at layout n).first (dict_at layout n).first) made).1).1).0

abbrev pub Has : LlProgram → Layout → Numbers → (ℕ → Value) → Core → Ask → Found → Type 0
Has p layout numbers raised core (Make (small.Keyed (keyed.Store n))) found = HasStore p layout numbers raised core n (keyed_number (keyed.Store n) found).0
Has p layout numbers raised core (Make (small.Keyed (keyed.Remove n))) found = HasRemove p layout raised n (keyed_number (keyed.Remove n) found).0
Has p layout numbers raised core ask found = HasLooking p layout numbers raised core ask found

-- what is asked for stands at its numbers
abbrev pub HasAll : LlProgram → Layout → Numbers → (ℕ → Value) → Core → List Ask → Found → Type 0
HasAll p layout numbers raised core asks found = AllAsked (Has p layout numbers raised core) asks found
