-- The graphs of lists only ask for more.
use Rattle.std.proofs.Common.{ℕ}
use Rattle.ll_code.specs.declared.program.LlType.{LlType}
use Rattle.ll_code.specs.declared.program.LlType.TheVariants.{Ptr}
use Rattle.ll_build.specs.declared.needs.Helper.TheVariants.{StrOfChar}
use Rattle.rtyper_layout.specs.declared.layout.Layout.{Layout}
use Rattle.rtyper_data.specs.declared.found.Found.{Found}
use Rattle.rtyper_data.specs.declared.small.Listed.{Listed}
use Rattle.rtyper_data.specs.declared.small.Listed.TheVariants as listed
use Rattle.rtyper_data.specs.Seen.{Writing}
use Rattle.list_shape.specs.declared.shape.Shape.{Shape}
use Rattle.list_shape.specs.Shapes.{item_of, shape_of}
use Rattle.list_loops.specs.Changing.{remove, room, append, insert, extend}
use Rattle.list_loops.specs.Loops.{copied, copy_items, same_item, contains}
use Rattle.list_loops.specs.Making.{concat, repeat, slice, but_last}
use Rattle.list_texts.specs.Arguments.{arguments}
use Rattle.list_texts.specs.Splitting.{empty, part, item_text, counted, put, join, split}
use Rattle.list_helpers.specs.Listing.{made, list_graph}
use Rattle.growth_laws.specs.Growing.{Grows}
use Rattle.growth_laws.proofs.Growing.{same_found, helpers_grow, statics_grow}
use Rattle.growth_laws.proofs.Data.{equal_grows, failing_grows, then_grows, value_as_grows}
use Rattle.growth_laws.proofs.DictGraphs.{listed_grows}

-- ---- lists that change

remove_grows : (s : Shape) (found : Found) → Grows found (remove s found).1
unfolding remove
remove_grows s found = listed_grows (listed.Copy s.array s.array) found

room_grows : (s : Shape) (found : Found) → Grows found (room s found).1
unfolding room
room_grows s found = listed_grows (listed.Copy s.array s.array) found

append_grows : (s : Shape) (found : Found) → Grows found (append s found).1
unfolding append
append_grows s found = listed_grows (listed.Room s.list) found

insert_grows : (s : Shape) (found : Found) → Grows found (insert s found).1
unfolding insert
insert_grows s found = then_grows (listed_grows (listed.Room s.list) found) (listed_grows (listed.MoveUp s.array) _)

extend_grows : (s by : Shape) (found : Found) → Grows found (extend s by found).1
unfolding extend
extend_grows s by found = then_grows (listed_grows (listed.Room s.list) found) (listed_grows (listed.Copy by.array s.array) _)

-- ---- loops

copied_grows : (layout : Layout) (a b : ℕ) (w : Writing) → Grows w.found (copied layout a b w).found
unfolding copied
copied_grows layout a b w = value_as_grows layout _ (item_of layout a) (item_of layout b) _

copy_items_grows : (layout : Layout) (a b : ℕ) (found : Found) → Grows found (copy_items layout a b found).1
unfolding copy_items
copy_items_grows layout a b found = copied_grows layout a b _

same_item_grows : (layout : Layout) (kind : LlType) (s : Shape) (w : Writing) → Grows w.found (same_item layout kind s w).1.found
unfolding same_item
same_item_grows layout kind s w = equal_grows layout _ s.item _ kind _

contains_grows : (layout : Layout) (kind : LlType) (s : Shape) (found : Found) → Grows found (contains layout kind s found).1
unfolding contains
contains_grows layout kind s found = same_item_grows layout kind s _

-- ---- lists that are made

concat_grows : (a b r : Shape) (found : Found) → Grows found (concat a b r found).1
unfolding concat
concat_grows a b r found = then_grows (listed_grows (listed.Make r.list) found) (then_grows (listed_grows (listed.Copy a.array r.array) _) (listed_grows (listed.Copy b.array r.array) _))

repeat_grows : (a r : Shape) (found : Found) → Grows found (repeat a r found).1
unfolding repeat
repeat_grows a r found = then_grows (listed_grows (listed.Make r.list) found) (listed_grows (listed.Copy a.array r.array) _)

slice_grows : (a r : Shape) (found : Found) → Grows found (slice a r found).1
unfolding slice
slice_grows a r found = then_grows (listed_grows (listed.Make r.list) found) (listed_grows (listed.Copy a.array r.array) _)

but_last_grows : (a r : Shape) (found : Found) → Grows found (but_last a r found).1
unfolding but_last
but_last_grows a r found = listed_grows (listed.Slice a.list r.list) found

arguments_grows : (s : Shape) (found : Found) → Grows found (arguments s found).1
unfolding arguments
arguments_grows s found = listed_grows (listed.Make s.list) found

-- ---- strings and lists

empty_grows : (found : Found) → Grows found (empty found).1
unfolding empty
empty_grows found = statics_grow _ _ found

part_grows : (found : Found) → Grows found (part found).1
unfolding part
part_grows found = then_grows (empty_grows found) (then_grows (helpers_grow StrOfChar _) (listed_grows (listed.Copy 0 0) _))

item_text_grows : (layout : Layout) (s : Shape) (w : Writing) → Grows w.found (item_text layout s w).1.found
unfolding item_text
item_text_grows layout s w = value_as_grows layout _ s.item (Ptr 0) _

counted_grows : (layout : Layout) (s : Shape) (w : Writing) → Grows w.found (counted layout s w).1.found
unfolding counted
counted_grows layout s w = item_text_grows layout s w

put_grows : (layout : Layout) (s : Shape) (copies : ℕ) (w : Writing) → Grows w.found (put layout s copies w).1.found
unfolding put
put_grows layout s copies w = item_text_grows layout s w

join_grows : (layout : Layout) (s : Shape) (found : Found) → Grows found (join layout s found).1
unfolding join
join_grows layout s found = then_grows (counted_grows layout s _) (then_grows (listed_grows (listed.Copy 0 0) _) (then_grows (put_grows layout s _ _) (listed_grows listed.Part _)))

split_grows : (s : Shape) (found : Found) → Grows found (split s found).1
unfolding split
split_grows s found = then_grows (listed_grows (listed.Make s.list) found) (listed_grows listed.Part _)

-- ---- all

made_grows : (layout : Layout) (graph : Listed) (found : Found) → Grows found (made layout graph found).1
made_grows layout (listed.Concat l m r) found = concat_grows (shape_of layout l) (shape_of layout m) (shape_of layout r) found
made_grows layout (listed.Repeat l r) found = repeat_grows (shape_of layout l) (shape_of layout r) found
made_grows layout (listed.Slice l r) found = slice_grows (shape_of layout l) (shape_of layout r) found
made_grows layout (listed.ButLast l r) found = but_last_grows (shape_of layout l) (shape_of layout r) found
made_grows layout (listed.Arguments l) found = arguments_grows (shape_of layout l) found
made_grows layout (listed.Join l) found = join_grows layout (shape_of layout l) found
made_grows layout (listed.Split l) found = split_grows (shape_of layout l) found
made_grows layout (listed.Make l) found = same_found found
made_grows layout other found = part_grows found

pub list_graph_grows : (layout : Layout) (graph : Listed) (found : Found) → Grows found (list_graph layout graph found).1
list_graph_grows layout (listed.Place l raises) found = failing_grows 1 6 raises found
list_graph_grows layout (listed.Truth l) found = same_found found
list_graph_grows layout (listed.Remove l) found = remove_grows (shape_of layout l) found
list_graph_grows layout (listed.Copy a b) found = copy_items_grows layout a b found
list_graph_grows layout (listed.MoveUp a) found = same_found found
list_graph_grows layout (listed.Room l) found = room_grows (shape_of layout l) found
list_graph_grows layout (listed.Append l) found = append_grows (shape_of layout l) found
list_graph_grows layout (listed.Insert l) found = insert_grows (shape_of layout l) found
list_graph_grows layout (listed.Extend l m) found = extend_grows (shape_of layout l) (shape_of layout m) found
list_graph_grows layout (listed.Reverse l) found = same_found found
list_graph_grows layout (listed.Contains kind l) found = contains_grows layout kind (shape_of layout l) found
list_graph_grows layout other found = made_grows layout other found
