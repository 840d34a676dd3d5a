-- Graphs of values, lists, dicts and classes have few blocks.
use Rattle.std.proofs.Common.{◌≡◌, ℕ, ◌==◌, Bool, true, false, Option, Some, None, refl}
use Rattle.std.specs.Prelude.{if◌then◌else◌}
use Rattle.csub_tree.specs.declared.tree.CBinary.{CBinary}
use Rattle.csub_tree.specs.declared.tree.CBinary.TheVariants as binary
use Rattle.ll_code.specs.declared.program.LlType.{LlType}
use Rattle.ll_code.specs.declared.program.LlType.TheVariants as type
use Rattle.ll_code.specs.declared.program.LlGraph.{LlGraph}
use Rattle.rtyper_layout.specs.declared.layout.Layout.{Layout}
use Rattle.rtyper_layout.specs.declared.classes.Laid.{Laid}
use Rattle.rtyper_data.specs.declared.found.Found.{Found}
use Rattle.rtyper_data.specs.declared.small.Keyed.{Keyed}
use Rattle.rtyper_data.specs.declared.small.Keyed.TheVariants as keyed
use Rattle.rtyper_data.specs.declared.small.Listed.{Listed}
use Rattle.rtyper_data.specs.declared.small.Listed.TheVariants as listed
use Rattle.rtyper_data.specs.declared.small.Small.{Small}
use Rattle.rtyper_data.specs.declared.small.Small.TheVariants as small
use Rattle.rtyper_data.specs.CheckedGraphs.{checked_graph}
use Rattle.rtyper_data.specs.Graphs.{cast_graph, equality_graph, failing}
use Rattle.rtyper_data.specs.Smalls.{small_graph}
use Rattle.list_shape.specs.Shapes.{gives as gives_back}
use Rattle.list_loops.specs.Changing.{append, append_done, append_graph, extend, extend_done, extend_graph, insert, insert_done, insert_graph, insert_low, insert_room, remove, remove_done, remove_graph, room, room_asks, room_graph, room_grows}
use Rattle.list_loops.specs.Loops.{contains, contains_asks, contains_graph, contains_start, contains_turn, copy_asks, copy_graph, copy_items, copy_start, copy_turn, move_up, place, place_from_end, place_high, place_low, place_start, place_tests, reverse, reverse_asks, reverse_start, reverse_turn, truth, truth_asks, truth_given, up_asks, up_start, up_turn}
use Rattle.list_loops.specs.Making.{bound, but_last, but_last_given, but_last_graph, but_last_shorter, but_last_start, concat, concat_given, concat_graph, make, make_given, repeat, repeat_asks, repeat_beyond, repeat_copies, repeat_graph, repeat_makes, repeat_more, repeat_paid, repeat_start, repeat_turn, slice, slice_cut, slice_end, slice_graph}
use Rattle.list_texts.specs.Arguments.{arguments, arguments_graph, asks, first_blocks, last_blocks, next_byte, next_text, start, text_asks, text_done}
use Rattle.list_texts.specs.Splitting.{counted, counted_block, join, join_asks, join_behind_first, join_between, join_graph, join_made, join_more, join_next, join_separated, join_short, join_shortened, join_start, part, part_byte, part_graph, part_more, part_none, part_one, part_short, put, put_block, split, split_asks, split_counted, split_graph, split_last, split_more, split_next, split_paid, split_part, split_start, split_tested}
use Rattle.list_helpers.specs.Listing.{list_graph, made}
use Rattle.rtyper_class.specs.Instances.{attribute, is_instance, raise}
use Rattle.rtyper_class.specs.Seen.{World, laid}
use Rattle.rtyper_class.specs.Smalls.{class_graph, new_by}
use Rattle.rtyper_dict.specs.declared.parts.DictShape.{DictShape}
use Rattle.rtyper_dict.specs.Parts.{dict_at}
use Rattle.rtyper_dict.specs.Hashing as hashing
use Rattle.rtyper_dict.specs.Hashing.{hash_graph, of_text, of_tuple, of_word, tuple_graph, word_mixed}
use Rattle.rtyper_dict.specs.Looking.{entry, entry_asks, entry_blocks, entry_graph, find, find_asks, find_blocks, find_by_index, find_by_scan, find_compares, find_graph, find_probes, find_starts, scan_asks, scan_blocks, scan_compares, scan_graph, scan_starts}
use Rattle.rtyper_dict.specs.Indexing.{enter, enter_asks, enter_blocks, enter_graph, enter_hashes, enter_next, enter_probes, enter_puts, enter_starts, fill, fill_asks, fill_blocks, fill_starts, fill_turn, index, index_asks, index_blocks, index_empties, index_enters, index_graph, index_starts, size, size_blocks, size_doubles, size_enough, size_greatest, size_starts}
use Rattle.rtyper_dict.specs.Growing as growing
use Rattle.rtyper_dict.specs.Growing.{copied, ended, grow, grow_asks, grow_blocks, grow_copies, grow_counts, grow_ends, grow_makes}
use Rattle.rtyper_dict.specs.Changing as changes
use Rattle.rtyper_dict.specs.Changing.{add_done, add_entry, add_graph, store, store_adds, store_asks, store_blocks, store_graph, store_puts}
use Rattle.rtyper_dict.specs.Listing as listing
use Rattle.rtyper_dict.specs.Listing.{get, get_asks, get_blocks, get_given, get_graph, list, list_asks, list_blocks, list_graph as dict_list_graph, list_makes, list_turn, list_walks, value, value_read}
use Rattle.rtyper_dict.specs.Graphs.{changing, dict_graph}
use Rattle.rtyper_program.specs.Program.{small_of}
use Rattle.told_graphs.proofs.Counting.{is_small}

-- ---- lists

made_small : (layout : Layout) (graph : Listed) (found : Found) → is_small (made layout graph found).0 ≡ true
unfolding concat concat_graph concat_given repeat repeat_graph repeat_makes repeat_copies repeat_start repeat_asks repeat_beyond repeat_paid repeat_turn repeat_more gives_back slice slice_graph slice_cut slice_end bound but_last but_last_graph but_last_given but_last_shorter but_last_start arguments arguments_graph first_blocks last_blocks start asks next_text text_asks next_byte text_done join counted put join_graph join_start join_asks counted_block join_between join_next join_made join_more join_behind_first join_separated put_block join_short join_shortened split split_graph split_start split_asks split_counted split_paid split_more split_tested split_part split_next split_last make make_given part part_graph part_short part_none part_one part_byte part_more
made_small layout (listed.Concat l m r) found = refl
made_small layout (listed.Repeat l r) found = refl
made_small layout (listed.Slice l r) found = refl
made_small layout (listed.ButLast l r) found = refl
made_small layout (listed.Arguments l) found = refl
made_small layout (listed.Join l) found = refl
made_small layout (listed.Split l) found = refl
made_small layout (listed.Make l) found = refl
made_small layout _ found = refl

list_small : (layout : Layout) (graph : Listed) (found : Found) → is_small (list_graph layout graph found).0 ≡ true
unfolding place place_tests place_start place_from_end place_low place_high failing gives_back truth truth_asks truth_given remove remove_graph remove_done copy_items copy_graph copy_start copy_asks copy_turn move_up up_start up_asks up_turn room room_graph room_asks room_grows append append_graph append_done insert insert_graph insert_low insert_room insert_done extend extend_graph extend_done reverse reverse_start reverse_asks reverse_turn contains contains_graph contains_start contains_asks contains_turn
list_small layout (listed.Place l raises) found = refl
list_small layout (listed.Truth l) found = refl
list_small layout (listed.Remove l) found = refl
list_small layout (listed.Copy a b) found = refl
list_small layout (listed.MoveUp a) found = refl
list_small layout (listed.Room l) found = refl
list_small layout (listed.Append l) found = refl
list_small layout (listed.Insert l) found = refl
list_small layout (listed.Extend l m) found = refl
list_small layout (listed.Reverse l) found = refl
list_small layout (listed.Contains kind l) found = refl
list_small layout other found = made_small layout other found

-- ---- dicts

if_small : (x y : LlGraph × Found) (c : Bool) → is_small x.0 ≡ true → is_small y.0 ≡ true → is_small (if c then x else y).0 ≡ true
if_small x y true h k = h
if_small x y false h k = k

hash_small : (layout : Layout) (t : LlType) (found : Found) → is_small (hash_graph layout t found).0 ≡ true
unfolding hash_graph of_text hashing.text_graph hashing.text_blocks hashing.text_start hashing.text_asks hashing.text_turn hashing.text_mixed of_tuple tuple_graph of_word word_mixed
hash_small layout (type.Ptr n) found = if_small _ _ (n == 0) refl refl
hash_small layout _ found = refl

find_small : (layout : Layout) (d : DictShape) (found : Found) → is_small (find layout d found).0 ≡ true
unfolding find find_by_index find_graph find_blocks find_asks find_starts find_probes find_compares gives_back find_by_scan scan_graph scan_blocks scan_starts scan_asks scan_compares
find_small layout d found = if_small _ _ d.is_indexed refl refl

changing_small : (layout : Layout) (graph : Keyed) (found : Found) → is_small (changing layout graph found).0 ≡ true
unfolding changing growing.make growing.make_given fill fill_blocks fill_starts fill_asks fill_turn enter enter_graph enter_blocks enter_starts enter_asks enter_hashes enter_probes enter_puts enter_next index index_graph index_blocks index_starts index_asks index_empties index_enters grow grow_blocks grow_asks growing.counted copied ended grow_counts grow_makes grow_copies grow_ends add_entry add_graph add_done store store_graph store_blocks store_asks store_adds store_puts changes.remove changes.remove_graph changes.remove_moves changes.remove_ends size size_blocks size_starts size_enough size_greatest size_doubles gives_back
changing_small layout (keyed.Make d) found = refl
changing_small layout (keyed.Fill array) found = refl
changing_small layout (keyed.Enter d) found = refl
changing_small layout (keyed.Index d) found = refl
changing_small layout (keyed.Grow d) found = refl
changing_small layout (keyed.Add d) found = refl
changing_small layout (keyed.Store d) found = refl
changing_small layout (keyed.Remove d) found = refl
changing_small layout _ found = refl

dict_small : (layout : Layout) (graph : Keyed) (found : Found) → is_small (dict_graph layout graph found).0 ≡ true
unfolding dict_graph entry entry_graph entry_blocks entry_asks failing gives_back value value_read get get_graph get_blocks get_asks get_given listing.truth listing.truth_asks listing.truth_counts listing.truth_blocks list dict_list_graph list_blocks list_makes list_walks list_asks list_turn
dict_small layout (keyed.Hash kind) found = hash_small layout kind found
dict_small layout (keyed.Find d) found = find_small layout (dict_at layout d) found
dict_small layout (keyed.Entry d) found = refl
dict_small layout (keyed.Value d) found = refl
dict_small layout (keyed.Get d kind) found = refl
dict_small layout (keyed.Truth d) found = refl
dict_small layout (keyed.Keys d l) found = refl
dict_small layout (keyed.Values d l) found = refl
dict_small layout (keyed.Items d l) found = refl
dict_small layout other found = changing_small layout other found

-- ---- values

checked_small : (o : CBinary) (raises : Bool) (found : Found) → is_small (checked_graph o raises found).0 ≡ true
unfolding failing
checked_small binary.Add raises found = refl
checked_small binary.Sub raises found = refl
checked_small binary.Mul raises found = refl
checked_small binary.Shl raises found = refl
checked_small binary.Mod raises found = refl
checked_small _ raises found = refl

value_small : (layout : Layout) (s : Small) (found : Found) → is_small (small_graph layout s found).0 ≡ true
unfolding cast_graph equality_graph failing
value_small layout (small.Cast m n) found = refl
value_small layout (small.Equal m n) found = refl
value_small layout (small.Fail raises) found = refl
value_small layout (small.Present t raises) found = refl
value_small layout (small.Checked o raises) found = checked_small o raises found
value_small layout small.CheckedNeg found = refl
value_small layout small.IntOfText found = refl
value_small layout _ found = refl

-- ---- classes

new_small : (world : World) (class : ℕ) (l : Option Laid) (found : Found) → is_small (new_by world class l found).0 ≡ true
new_small world class None found = value_small world.around.layout (small.Fail false) found
new_small world class (Some l) found = refl

class_small : (world : World) (s : Small) (found : Found) → is_small (class_graph world s found).0 ≡ true
unfolding attribute failing raise is_instance
class_small world (small.New class) found = new_small world class (laid world class) found
class_small world (small.Attribute own place raises) found = refl
class_small world (small.Raise class) found = refl
class_small world (small.IsInstance root vtable low high) found = refl
class_small world (small.Listed graph) found = list_small world.around.layout graph found
class_small world other found = value_small world.around.layout other found

pub small_small : (world : World) (s : Small) (found : Found) → is_small (small_of world s found).0 ≡ true
small_small world (small.Keyed keyed) found = dict_small world.around.layout keyed found
small_small world other found = class_small world other found
