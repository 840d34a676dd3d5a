-- The graphs of lists.
use Rattle.ll_code.specs.declared.program.LlGraph.{LlGraph}
use Rattle.rtyper_layout.specs.declared.layout.Layout.{Layout}
use Rattle.rtyper_data.specs.declared.found.Found.{Found}
use Rattle.rtyper_data.specs.declared.small.Listed.{Listed}
use Rattle.rtyper_data.specs.declared.small.Listed.TheVariants as listed
use Rattle.rtyper_data.specs.Graphs.{of_block, failing}
use Rattle.list_shape.specs.Shapes.{shape_of}
use Rattle.list_loops.specs.Loops.{copy_items, move_up, reverse, contains, place, truth}
use Rattle.list_loops.specs.Making.{make, concat, repeat, slice, but_last}
use Rattle.list_loops.specs.Changing.{remove, room, append, insert, extend}
use Rattle.list_texts.specs.Splitting.{part, join, split}
use Rattle.list_texts.specs.Arguments.{arguments}

-- a list or a string that is made of others
abbrev pub made : Layout → Listed → Found → LlGraph × Found
made layout (listed.Concat l m r) found = concat (shape_of layout l) (shape_of layout m) (shape_of layout r) found
made layout (listed.Repeat l r) found = repeat (shape_of layout l) (shape_of layout r) found
made layout (listed.Slice l r) found = slice (shape_of layout l) (shape_of layout r) found
made layout (listed.ButLast l r) found = but_last (shape_of layout l) (shape_of layout r) found
made layout (listed.Arguments l) found = arguments (shape_of layout l) found
made layout (listed.Join l) found = join layout (shape_of layout l) found
made layout (listed.Split l) found = split (shape_of layout l) found
made layout (listed.Make l) found = (make (shape_of layout l), found)
made layout other found = part found

-- the graph that is asked for, with what it asks for itself
abbrev pub list_graph : Layout → Listed → Found → LlGraph × Found
list_graph layout (listed.Place l raises) found = of_block (place (shape_of layout l)) (failing 1 6 raises found)
list_graph layout (listed.Truth l) found = (truth (shape_of layout l), found)
list_graph layout (listed.Remove l) found = remove (shape_of layout l) found
list_graph layout (listed.Copy a b) found = copy_items layout a b found
list_graph layout (listed.MoveUp a) found = (move_up layout a, found)
list_graph layout (listed.Room l) found = room (shape_of layout l) found
list_graph layout (listed.Append l) found = append (shape_of layout l) found
list_graph layout (listed.Insert l) found = insert (shape_of layout l) found
list_graph layout (listed.Extend l m) found = extend (shape_of layout l) (shape_of layout m) found
list_graph layout (listed.Reverse l) found = (reverse (shape_of layout l), found)
list_graph layout (listed.Contains kind l) found = contains layout kind (shape_of layout l) found
list_graph layout other found = made layout other found
