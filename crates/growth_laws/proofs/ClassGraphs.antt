-- The graphs of classes only ask for more.
use Rattle.std.proofs.Common.{ℕ, zero, suc, ◌+◌, ◌==◌, Bool, false, List, [], ◌∷◌, length, Option, Some, None}
use Rattle.ll_code.specs.declared.program.LlType.{LlType}
use Rattle.ann_element.specs.declared.element.Element.{Element}
use Rattle.class_desc.specs.declared.classes.Initial.{Initial}
use Rattle.class_desc.specs.Line.{base}
use Rattle.rtyper_layout.specs.declared.classes.Laid.{Laid}
use Rattle.rtyper_layout.specs.Types.{word, field_type, type_of}
use Rattle.rtyper_data.specs.declared.found.Found.{Found}
use Rattle.rtyper_data.specs.declared.small.Small.{Small}
use Rattle.rtyper_data.specs.declared.small.Small.TheVariants as small
use Rattle.rtyper_data.specs.Seen.{Writing}
use Rattle.rtyper_class.specs.Instances.{all_starts, attribute, initial_of, instance_body, new_instance, onward, start, start_by, starts, starts_from, starts_next, starts_within}
use Rattle.rtyper_class.specs.Seen.{World, laid}
use Rattle.rtyper_class.specs.Smalls.{class_graph, new_by}
use Rattle.growth_laws.specs.Growing.{Grows}
use Rattle.growth_laws.proofs.Growing.{same_found}
use Rattle.growth_laws.proofs.Data.{failing_grows, if_written, small_graph_grows, then_grows}
use Rattle.growth_laws.proofs.ListGraphs.{list_graph_grows}
use Rattle.growth_laws.proofs.Operating.{constant_of_grows}

-- ---- new instances

start_by_grows : (world : World) (own place : ℕ) (kind : LlType) (i : Option Initial) (w : Writing) → Grows w.found (start_by world own place kind i w).found
start_by_grows world own place kind None w = same_found w.found
start_by_grows world own place kind (Some i) w = constant_of_grows world.around i.value kind w.found

start_grows : (world : World) (own place : ℕ) (e : Element) (i : Option Initial) (w : Writing) → Grows w.found (start world own place e i w).found
unfolding start
start_grows world own place e i w = start_by_grows world own place (field_type (type_of world.around.layout e)) i w

starts_from_grow : (world : World) (home own : ℕ) (initials : List Initial) (n : ℕ) (attributes : List (ℕ × List ℕ × Element)) (w : Writing) → Grows w.found (starts_from world home own initials n attributes w).found
starts_from_grow world home own initials n [] w = same_found w.found
starts_from_grow world home own initials n (a ∷ more) w =
    if_written _ _ (a.0 == home) (then_grows (start_grows world own n a.2 (initial_of initials home a.1) w) (starts_from_grow world home own initials (word (n + 1)) more (start world own n a.2 (initial_of initials home a.1) w)))
    (starts_from_grow world home own initials n more w)

starts_grow : (world : World) (home own : ℕ) (initials : List Initial) (w : Writing) → Grows w.found (starts world home own initials w).found
unfolding starts
starts_grow world home own initials w = starts_from_grow world home own initials 0 world.attributes w

module _ (further : ℕ → Writing → Writing) (each : (class : ℕ) (w : Writing) → Grows w.found (further class w).found) where
  onward_grows : (b : Option ℕ) (w : Writing) → Grows w.found (onward further b w).found
  onward_grows None w = same_found w.found
  onward_grows (Some b) w = each b w

  starts_next_grow : (world : World) (initials : List Initial) (class : ℕ) (l : Option Laid) (w : Writing) → Grows w.found (starts_next further world initials class l w).found
  starts_next_grow world initials class None w = same_found w.found
  starts_next_grow world initials class (Some l) w = then_grows (starts_grow world class l.own initials w) (onward_grows (base world.classes.classes class) (starts world class l.own initials w))

starts_within_grow : (world : World) (initials : List Initial) (n class : ℕ) (w : Writing) → Grows w.found (starts_within world initials n class w).found
starts_within_grow world initials zero class w = same_found w.found
starts_within_grow world initials (suc n) class w = starts_next_grow (starts_within world initials n) (starts_within_grow world initials n) world initials class (laid world class) w

all_starts_grow : (world : World) (initials : List Initial) (class : ℕ) (w : Writing) → Grows w.found (all_starts world initials class w).found
unfolding all_starts
all_starts_grow world initials class w = starts_within_grow world initials (length world.classes.classes) class w

new_instance_grows : (world : World) (class : ℕ) (l : Laid) (found : Found) → Grows found (new_instance world class l found).1
unfolding instance_body
new_instance_grows world class l found = all_starts_grow world _ class _

attribute_grows : (world : World) (own place : ℕ) (raises : Bool) (found : Found) → Grows found (attribute world own place raises found).1
unfolding attribute
attribute_grows world own place raises found = failing_grows 4 9 raises found

-- ---- all

new_by_grows : (world : World) (class : ℕ) (l : Option Laid) (found : Found) → Grows found (new_by world class l found).1
new_by_grows world class None found = small_graph_grows world.around.layout (small.Fail false) found
new_by_grows world class (Some l) found = new_instance_grows world class l found

pub class_graph_grows : (world : World) (s : Small) (found : Found) → Grows found (class_graph world s found).1
class_graph_grows world (small.New class) found = new_by_grows world class (laid world class) found
class_graph_grows world (small.Attribute own place raises) found = attribute_grows world own place raises found
class_graph_grows world (small.Raise class) found = same_found found
class_graph_grows world (small.IsInstance root vtable low high) found = same_found found
class_graph_grows world (small.Listed graph) found = list_graph_grows world.around.layout graph found
class_graph_grows world other found = small_graph_grows world.around.layout other found
