-- The graphs of dicts.
use Rattle.ll_code.specs.declared.program.LlGraph.{LlGraph}
use Rattle.rtyper_layout.specs.declared.layout.Layout.{Layout}
use Rattle.rtyper_data.specs.declared.found.Found.{Found}
use Rattle.rtyper_data.specs.declared.small.Keyed.{Keyed}
use Rattle.rtyper_data.specs.declared.small.Keyed.TheVariants as keyed
use Rattle.list_shape.specs.Shapes.{item_of, shape_of}
use Rattle.rtyper_dict.specs.declared.lists.Part.TheVariants as part
use Rattle.rtyper_dict.specs.Parts.{dict_at}
use Rattle.rtyper_dict.specs.Hashing.{hash_graph}
use Rattle.rtyper_dict.specs.Looking.{find, entry}
use Rattle.rtyper_dict.specs.Indexing.{size, fill, enter, index}
use Rattle.rtyper_dict.specs.Growing.{make, grow}
use Rattle.rtyper_dict.specs.Changing.{add_entry, store, remove}
use Rattle.rtyper_dict.specs.Listing.{value, get, truth, list}

-- what makes and changes a dict, and the length of an index
unfoldable pub changing : Layout → Keyed → Found → LlGraph × Found
changing layout (keyed.Make d) found = (make (dict_at layout d), found)
changing layout (keyed.Fill array) found = (fill array (item_of layout array), found)
changing layout (keyed.Enter d) found = enter (dict_at layout d) found
changing layout (keyed.Index d) found = index (dict_at layout d) found
changing layout (keyed.Grow d) found = grow (dict_at layout d) found
changing layout (keyed.Add d) found = add_entry (dict_at layout d) found
changing layout (keyed.Store d) found = store (dict_at layout d) found
changing layout (keyed.Remove d) found = remove (dict_at layout d) found
changing layout other found = (size, found)

-- the graph that is asked for, with what it asks for itself
unfoldable pub dict_graph : Layout → Keyed → Found → LlGraph × Found
dict_graph layout (keyed.Hash kind) found = hash_graph layout kind found
dict_graph layout (keyed.Find d) found = find layout (dict_at layout d) found
dict_graph layout (keyed.Entry d) found = entry (dict_at layout d) found
dict_graph layout (keyed.Value d) found = (value (dict_at layout d), found)
dict_graph layout (keyed.Get d kind) found = get layout (dict_at layout d) kind found
dict_graph layout (keyed.Truth d) found = (truth (dict_at layout d), found)
dict_graph layout (keyed.Keys d l) found = list layout (dict_at layout d) (shape_of layout l) part.Key found
dict_graph layout (keyed.Values d l) found = list layout (dict_at layout d) (shape_of layout l) part.Value found
dict_graph layout (keyed.Items d l) found = list layout (dict_at layout d) (shape_of layout l) part.Both found
dict_graph layout other found = changing layout other found
