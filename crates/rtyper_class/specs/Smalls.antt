-- The graphs of small graphs.
use Rattle.std.specs.Prelude.{ℕ, false, Option, Some, None}
use Rattle.ll_code.specs.declared.program.LlGraph.{LlGraph}
use Rattle.rtyper_layout.specs.declared.classes.Laid.{Laid}
use Rattle.rtyper_data.specs.declared.found.Found.{Found}
use Rattle.rtyper_data.specs.declared.small.Small.{Small}
use Rattle.rtyper_data.specs.declared.small.Small.TheVariants as small
use Rattle.rtyper_data.specs.Smalls.{small_graph}
use Rattle.list_helpers.specs.Listing.{list_graph}
use Rattle.rtyper_class.specs.Instances.{new_instance, attribute, is_instance, raise}
use Rattle.rtyper_class.specs.Seen.{World, laid}

-- of a class without structs there is no instance
abbrev pub new_by : World → ℕ → Option Laid → Found → LlGraph × Found
new_by world class None found = small_graph world.around.layout (small.Fail false) found
new_by world class (Some l) found = new_instance world class l found

-- the graph that is asked for, with what it asks for itself
abbrev pub class_graph : World → Small → Found → LlGraph × Found
class_graph world (small.New class) found = new_by world class (laid world class) found
class_graph world (small.Attribute own place raises) found = attribute world own place raises found
class_graph world (small.Raise class) found = (raise world class, found)
class_graph world (small.IsInstance root vtable low high) found = (is_instance root vtable low high, found)
class_graph world (small.Listed graph) found = list_graph world.around.layout graph found
class_graph world other found = small_graph world.around.layout other found
