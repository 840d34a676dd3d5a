-- The graphs of dicts only ask for more.
use Rattle.std.proofs.Common.{ℕ, Bool, true, false, List, [], ◌∷◌, ◌==◌, ◌+◌}
use Rattle.csub_tree.specs.declared.tree.COperand.{COperand}
use Rattle.ll_code.specs.declared.program.LlType.{LlType}
use Rattle.ll_code.specs.declared.program.LlType.TheVariants as type
use Rattle.ll_build.specs.declared.needs.Helper.TheVariants.{WordMin}
use Rattle.rtyper_layout.specs.declared.layout.Layout.{Layout}
use Rattle.rtyper_data.specs.declared.found.Found.{Found}
use Rattle.rtyper_data.specs.declared.small.Keyed.{Keyed}
use Rattle.rtyper_data.specs.declared.small.Keyed.TheVariants as keyed
use Rattle.rtyper_data.specs.declared.small.Listed.{Listed}
use Rattle.rtyper_data.specs.declared.small.Listed.TheVariants.{Copy, Make}
use Rattle.rtyper_data.specs.declared.small.Small.TheVariants as small
use Rattle.rtyper_data.specs.Graphs.{body_of, fields_at}
use Rattle.rtyper_data.specs.Seen.{Writing, writing}
use Rattle.list_shape.specs.declared.shape.Shape.{Shape}
use Rattle.list_shape.specs.Shapes.{number_of, shape_of}
use Rattle.rtyper_dict.specs.declared.lists.Part.{Part}
use Rattle.rtyper_dict.specs.declared.lists.Part.TheVariants as part
use Rattle.rtyper_dict.specs.declared.parts.DictShape.{DictShape}
use Rattle.rtyper_dict.specs.Parts.{first_item, second_item, keyed_number, number_if, dict_at}
use Rattle.rtyper_dict.specs.Hashing.{of_text, hashed, item_mixed, items_mixed, tuple_mixed, of_tuple, hash_graph}
use Rattle.rtyper_dict.specs.Looking.{is_key, find_by_index, find_by_scan, find, entry}
use Rattle.rtyper_dict.specs.Indexing.{enter, index}
use Rattle.rtyper_dict.specs.Growing.{fill_number, counted, copied, ended, grow_blocks, grow}
use Rattle.rtyper_dict.specs.Changing.{add_entry, store, remove}
use Rattle.rtyper_dict.specs.Listing.{got, get, key_as, value_of, pair, pair_as, item_of, item_set, list}
use Rattle.rtyper_dict.specs.Graphs.{changing, dict_graph}
use Rattle.growth_laws.specs.Growing.{Grows}
use Rattle.growth_laws.proofs.Growing.{same_found, helpers_grow, smalls_grow}
use Rattle.growth_laws.proofs.Data.{by_small_grows, equal_grows, failing_grows, if_asked, then_grows, value_as_grows}

pub keyed_grows : (graph : Keyed) (found : Found) → Grows found (keyed_number graph found).1
keyed_grows graph found = smalls_grow (small.Keyed graph) found

pub listed_grows : (graph : Listed) (found : Found) → Grows found (number_of graph found).1
listed_grows graph found = smalls_grow (small.Listed graph) found

number_if_grows : (c : Bool) (graph : Keyed) (found : Found) → Grows found (number_if c graph found).1
unfolding number_if
number_if_grows true graph found = keyed_grows graph found
number_if_grows false graph found = same_found found

-- ---- hashes

of_text_grows : (found : Found) → Grows found (of_text found).1
unfolding of_text
of_text_grows found = keyed_grows (keyed.Hash type.Signed) found

hashed_grows : (t : LlType) (x : COperand) (w : Writing) → Grows w.found (hashed t x w).1.found
unfolding hashed
hashed_grows t x w = by_small_grows _ _ _ _

item_mixed_grows : (n i : ℕ) (t : LlType) (h : COperand) (w : Writing) → Grows w.found (item_mixed n i t h w).1.found
unfolding item_mixed
item_mixed_grows n i t h w = hashed_grows t _ _

items_mixed_grow : (n i : ℕ) (ts : List LlType) (made : COperand × Writing) → Grows made.1.found (items_mixed n i ts made).1.found
items_mixed_grow n i [] made = same_found made.1.found
items_mixed_grow n i (t ∷ ts) made = then_grows (item_mixed_grows n i t made.0 made.1) (items_mixed_grow n (i + 1) ts (item_mixed n i t made.0 made.1))

tuple_mixed_grows : (layout : Layout) (n : ℕ) (w : Writing) → Grows w.found (tuple_mixed layout n w).1.found
unfolding tuple_mixed
tuple_mixed_grows layout n w = items_mixed_grow n 0 (fields_at layout n) _

of_tuple_grows : (layout : Layout) (n : ℕ) (found : Found) → Grows found (of_tuple layout n found).1
unfolding of_tuple
of_tuple_grows layout n found = then_grows (tuple_mixed_grows layout n (writing found (body_of (type.Ptr n ∷ [])))) (by_small_grows _ _ _ _)

hash_graph_grows : (layout : Layout) (t : LlType) (found : Found) → Grows found (hash_graph layout t found).1
unfolding hash_graph
hash_graph_grows layout (type.Ptr n) found = if_asked _ _ (n == 0) (of_text_grows found) (of_tuple_grows layout n found)
hash_graph_grows layout _ found = same_found found

-- ---- keys that are looked for

is_key_grows : (layout : Layout) (d : DictShape) (v : ℕ) (w : Writing) → Grows w.found (is_key layout d v w).1.found
unfolding is_key
is_key_grows layout d v w = equal_grows layout _ d.stored_key _ d.stored_key w

find_by_index_grows : (layout : Layout) (d : DictShape) (found : Found) → Grows found (find_by_index layout d found).1
unfolding find_by_index
find_by_index_grows layout d found = then_grows (is_key_grows layout d 14 _) (keyed_grows (keyed.Hash d.stored_key) _)

find_by_scan_grows : (layout : Layout) (d : DictShape) (found : Found) → Grows found (find_by_scan layout d found).1
unfolding find_by_scan
find_by_scan_grows layout d found = is_key_grows layout d 6 _

find_grows : (layout : Layout) (d : DictShape) (found : Found) → Grows found (find layout d found).1
unfolding find
find_grows layout d found = if_asked _ _ d.is_indexed (find_by_index_grows layout d found) (find_by_scan_grows layout d found)

entry_grows : (d : DictShape) (found : Found) → Grows found (entry d found).1
unfolding entry
entry_grows d found = then_grows (keyed_grows (keyed.Find d.dict) found) (failing_grows 1 7 true _)

-- ---- the index, and room

enter_grows : (d : DictShape) (found : Found) → Grows found (enter d found).1
unfolding enter
enter_grows d found = keyed_grows (keyed.Hash d.stored_key) found

index_grows : (d : DictShape) (found : Found) → Grows found (index d found).1
unfolding index
index_grows d found = keyed_grows (keyed.Enter d.dict) found

fill_number_grows : (item : LlType) (array : ℕ) (found : Found) → Grows found (fill_number item array found).1
unfolding fill_number
fill_number_grows item array found = number_if_grows _ (keyed.Fill array) found

counted_grows : (d : DictShape) (found : Found) → Grows found (counted d found).1
unfolding counted
counted_grows d found = then_grows (helpers_grow WordMin found) (number_if_grows d.is_indexed keyed.Size _)

copied_grows : (d : DictShape) (found : Found) → Grows found (copied d found).1
unfolding copied
copied_grows d found = then_grows (listed_grows (Copy d.first d.first) found) (listed_grows (Copy d.second d.second) _)

ended_grows : (d : DictShape) (found : Found) → Grows found (ended d found).1
unfolding ended
ended_grows d found = then_grows (fill_number_grows (first_item d) d.first found) (then_grows (fill_number_grows (second_item d) d.second _) (number_if_grows d.is_indexed (keyed.Index d.dict) _))

grow_blocks_grow : (d : DictShape) (found : Found) → Grows found (grow_blocks d found).1
unfolding grow_blocks
grow_blocks_grow d found = then_grows (counted_grows d found) (then_grows (copied_grows d _) (ended_grows d _))

grow_grows : (d : DictShape) (found : Found) → Grows found (grow d found).1
unfolding grow
grow_grows d found = grow_blocks_grow d found

-- ---- dicts that change

add_entry_grows : (d : DictShape) (found : Found) → Grows found (add_entry d found).1
unfolding add_entry
add_entry_grows d found = number_if_grows d.is_indexed (keyed.Enter d.dict) found

store_grows : (d : DictShape) (found : Found) → Grows found (store d found).1
unfolding store
store_grows d found = then_grows (keyed_grows (keyed.Find d.dict) found) (then_grows (keyed_grows (keyed.Grow d.dict) _) (keyed_grows (keyed.Add d.dict) _))

remove_grows : (d : DictShape) (found : Found) → Grows found (remove d found).1
unfolding remove
remove_grows d found = then_grows (listed_grows (Copy d.first d.first) found) (then_grows (listed_grows (Copy d.second d.second) _) (number_if_grows d.is_indexed (keyed.Index d.dict) _))

changing_grows : (layout : Layout) (graph : Keyed) (found : Found) → Grows found (changing layout graph found).1
unfolding changing
changing_grows layout (keyed.Make d) found = same_found found
changing_grows layout (keyed.Fill array) found = same_found found
changing_grows layout (keyed.Enter d) found = enter_grows (dict_at layout d) found
changing_grows layout (keyed.Index d) found = index_grows (dict_at layout d) found
changing_grows layout (keyed.Grow d) found = grow_grows (dict_at layout d) found
changing_grows layout (keyed.Add d) found = add_entry_grows (dict_at layout d) found
changing_grows layout (keyed.Store d) found = store_grows (dict_at layout d) found
changing_grows layout (keyed.Remove d) found = remove_grows (dict_at layout d) found
changing_grows layout _ found = same_found found

-- ---- what is read

got_grows : (layout : Layout) (d : DictShape) (kind : LlType) (w : Writing) → Grows w.found (got layout d kind w).1.found
unfolding got
got_grows layout d kind w = then_grows (keyed_grows (keyed.Value d.dict) w.found) (value_as_grows layout _ d.value kind _)

get_grows : (layout : Layout) (d : DictShape) (kind : LlType) (found : Found) → Grows found (get layout d kind found).1
unfolding get
get_grows layout d kind found = then_grows (got_grows layout d kind _) (keyed_grows (keyed.Find d.dict) _)

key_as_grows : (layout : Layout) (d : DictShape) (to : LlType) (w : Writing) → Grows w.found (key_as layout d to w).1.found
unfolding key_as
key_as_grows layout d to w = value_as_grows layout _ d.key to _

value_of_grows : (layout : Layout) (d : DictShape) (to : LlType) (w : Writing) → Grows w.found (value_of layout d to w).1.found
unfolding value_of
value_of_grows layout d to w = value_as_grows layout _ d.value to _

pair_grows : (layout : Layout) (d : DictShape) (n : ℕ) (w : Writing) → Grows w.found (pair layout d n w).1.found
unfolding pair
pair_grows layout d n w = then_grows (key_as_grows layout d _ w) (value_of_grows layout d _ _)

pair_as_grows : (layout : Layout) (d : DictShape) (to : LlType) (w : Writing) → Grows w.found (pair_as layout d to w).1.found
pair_as_grows layout d (type.Ptr n) w = pair_grows layout d n w
pair_as_grows layout d _ w = same_found w.found

item_of_grows : (layout : Layout) (d : DictShape) (to : LlType) (of : Part) (w : Writing) → Grows w.found (item_of layout d to of w).1.found
unfolding item_of
item_of_grows layout d to part.Key w = key_as_grows layout d to w
item_of_grows layout d to part.Value w = value_of_grows layout d to w
item_of_grows layout d to part.Both w = pair_as_grows layout d to w

item_set_grows : (layout : Layout) (d : DictShape) (to : Shape) (of : Part) (w : Writing) → Grows w.found (item_set layout d to of w).found
unfolding item_set
item_set_grows layout d to of w = item_of_grows layout d to.item of w

list_grows : (layout : Layout) (d : DictShape) (to : Shape) (of : Part) (found : Found) → Grows found (list layout d to of found).1
unfolding list
list_grows layout d to of found = then_grows (item_set_grows layout d to of _) (listed_grows (Make to.list) _)

-- ---- all

pub dict_graph_grows : (layout : Layout) (graph : Keyed) (found : Found) → Grows found (dict_graph layout graph found).1
unfolding dict_graph
dict_graph_grows layout (keyed.Hash kind) found = hash_graph_grows layout kind found
dict_graph_grows layout (keyed.Find d) found = find_grows layout (dict_at layout d) found
dict_graph_grows layout (keyed.Entry d) found = entry_grows (dict_at layout d) found
dict_graph_grows layout (keyed.Value d) found = same_found found
dict_graph_grows layout (keyed.Get d kind) found = get_grows layout (dict_at layout d) kind found
dict_graph_grows layout (keyed.Truth d) found = same_found found
dict_graph_grows layout (keyed.Keys d l) found = list_grows layout (dict_at layout d) (shape_of layout l) part.Key found
dict_graph_grows layout (keyed.Values d l) found = list_grows layout (dict_at layout d) (shape_of layout l) part.Value found
dict_graph_grows layout (keyed.Items d l) found = list_grows layout (dict_at layout d) (shape_of layout l) part.Both found
dict_graph_grows layout other found = changing_grows layout other found
