-- The graphs of classes call only graphs that are told not to raise, and so does each small graph that raises nothing.
use Rattle.std.proofs.Common.{◌≡◌, ℕ, zero, suc, ◌+◌, ◌==◌, Bool, true, false, List, [], ◌∷◌, length, Option, Some, None, refl}
use Rattle.ll_code.specs.declared.program.LlType.{LlType}
use Rattle.ann_element.specs.declared.element.Element.{Element}
use Rattle.class_desc.specs.declared.classes.Initial.{Initial}
use Rattle.class_desc.specs.Line.{base}
use Rattle.rtyper_layout.specs.declared.classes.Laid.{Laid}
use Rattle.rtyper_layout.specs.Types.{word, field_type, type_of}
use Rattle.rtyper_data.specs.declared.found.Found.{Found}
use Rattle.rtyper_data.specs.declared.small.Small.{Small}
use Rattle.rtyper_data.specs.declared.small.Small.TheVariants as small
use Rattle.rtyper_data.specs.Graphs.{failing}
use Rattle.rtyper_data.specs.Seen.{Writing, writing}
use Rattle.rtyper_op.specs.Constants.{constant_of}
use Rattle.class_desc.specs.Tables.{initial}
use Rattle.rtyper_class.specs.Instances.{all_starts, attribute, initial_of, instance_body, is_instance, made, new_instance, onward, start, start_by, starts, starts_from, starts_next, starts_within}
use Rattle.rtyper_class.specs.Seen.{World, laid}
use Rattle.rtyper_class.specs.Smalls.{class_graph, new_by}
use Rattle.rtyper_program.specs.Cuts.{small_raises}
use Rattle.rtyper_program.specs.Program.{small_of}
use Rattle.growth_laws.proofs.Operating.{constant_of_grows}
use Rattle.told_graphs.proofs.Keeping.{Calm, Keeps, Telling, all_calm, asks, calm, chain, either_kept, kept, pushed}
use Rattle.told_graphs.proofs.QuietData.{small_graph_calm}
use Rattle.told_graphs.proofs.QuietLists.{list_graph_calm}
use Rattle.told_graphs.proofs.QuietReads.{dict_graph_calm}

module _ (t : Telling) where
  -- ---- new instances

  start_by_keeps : (world : World) (own place : ℕ) (kind : LlType) (i : Option Initial) (w : Writing) → Keeps t w (start_by world own place kind i w)
  start_by_keeps world own place kind None w = chain t (pushed t _ w refl) (pushed t _ _ refl)
  start_by_keeps world own place kind (Some i) w =
      chain t (asks t w (constant_of world.around i.value kind w.found).1 (constant_of_grows world.around i.value kind w.found)) (chain t (pushed t _ _ refl) (pushed t _ _ refl))

  start_keeps : (world : World) (own place : ℕ) (e : Element) (i : Option Initial) (w : Writing) → Keeps t w (start world own place e i w)
  unfolding start
  start_keeps world own place e i w = start_by_keeps world own place (field_type (type_of world.around.layout e)) i w

  starts_from_keep : (world : World) (home own : ℕ) (initials : List Initial) (n : ℕ) (attributes : List (ℕ × List ℕ × Element)) (w : Writing) → Keeps t w (starts_from world home own initials n attributes w)
  starts_from_keep world home own initials n [] w = kept t w
  starts_from_keep world home own initials n (a ∷ further) w =
      either_kept t _ _ (a.0 == home) (chain t (start_keeps world own n a.2 (initial_of initials home a.1) w) (starts_from_keep world home own initials (word (n + 1)) further (start world own n a.2 (initial_of initials home a.1) w)))
      (starts_from_keep world home own initials n further w)

  starts_keep : (world : World) (home own : ℕ) (initials : List Initial) (w : Writing) → Keeps t w (starts world home own initials w)
  unfolding starts
  starts_keep world home own initials w = starts_from_keep world home own initials 0 world.attributes w

  module _ (further : ℕ → Writing → Writing) (each : (class : ℕ) (w : Writing) → Keeps t w (further class w)) where
    onward_keeps : (b : Option ℕ) (w : Writing) → Keeps t w (onward further b w)
    onward_keeps None w = kept t w
    onward_keeps (Some b) w = each b w

    starts_next_keep : (world : World) (initials : List Initial) (class : ℕ) (l : Option Laid) (w : Writing) → Keeps t w (starts_next further world initials class l w)
    starts_next_keep world initials class None w = kept t w
    starts_next_keep world initials class (Some l) w = chain t (starts_keep world class l.own initials w) (onward_keeps (base world.classes.classes class) (starts world class l.own initials w))

  starts_within_keep : (world : World) (initials : List Initial) (n class : ℕ) (w : Writing) → Keeps t w (starts_within world initials n class w)
  starts_within_keep world initials zero class w = kept t w
  starts_within_keep world initials (suc n) class w = starts_next_keep (starts_within world initials n) (starts_within_keep world initials n) world initials class (laid world class) w

  all_starts_keep : (world : World) (initials : List Initial) (class : ℕ) (w : Writing) → Keeps t w (all_starts world initials class w)
  unfolding all_starts
  all_starts_keep world initials class w = starts_within_keep world initials (length world.classes.classes) class w

  new_instance_calm : (world : World) (class : ℕ) (l : Laid) (found : Found) → Calm t (new_instance world class l found)
  unfolding instance_body
  new_instance_calm world class l found late =
      (record { ops = (all_starts_keep world (initial world.classes class) class (writing found (made world l))).stays late (refl, (refl, (refl, tt))); exit = tt }, tt)

  new_by_calm : (world : World) (class : ℕ) (l : Option Laid) (found : Found) → Calm t (new_by world class l found)
  new_by_calm world class None found = small_graph_calm t world.around.layout (small.Fail false) found refl
  new_by_calm world class (Some l) found = new_instance_calm world class l found

  attribute_calm : (world : World) (own place : ℕ) (raises : Bool) (found : Found) → raises ≡ false → Calm t (attribute world own place raises found)
  unfolding attribute failing
  attribute_calm world own place true found h late = absurd (cc)
  attribute_calm world own place false found h late = (calm t _ refl tt, (calm t _ refl tt, (calm t _ refl tt, tt)))

  -- ---- all

  class_graph_calm : (world : World) (s : Small) (found : Found) → small_raises s ≡ false → Calm t (class_graph world s found)
  unfolding is_instance
  class_graph_calm world (small.New class) found h = new_by_calm world class (laid world class) found
  class_graph_calm world (small.Attribute own place raises) found h = attribute_calm world own place raises found h
  class_graph_calm world (small.Raise class) found h = absurd (cc)
  class_graph_calm world (small.IsInstance root vtable low high) found h = λ late. all_calm t (is_instance root vtable low high).blocks refl tt
  class_graph_calm world (small.Listed graph) found h = list_graph_calm t world.around.layout graph found h
  class_graph_calm world other found h = small_graph_calm t world.around.layout other found h

  pub small_calm : (world : World) (s : Small) (found : Found) → small_raises s ≡ false → Calm t (small_of world s found)
  small_calm world (small.Keyed keyed) found h = dict_graph_calm t world.around.layout keyed found h
  small_calm world other found h = class_graph_calm world other found h
