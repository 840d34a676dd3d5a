-- What is known around the operations of a program that has types, where it is lowered.
use Rattle.std.specs.Prelude.{◌≡◌, ◌≤◌, ◌<◌, ◌^◌, ◌+◌, ℕ, Bool, true, false, List, length, slice_get, unwrap_or, Some}
use Rattle.ann_element.specs.declared.element.Element.{Element}
use Rattle.ann_lattice.specs.Assign.{Assignment, at, mark}
use Rattle.ann_lattice.specs.Shape.{shape}
use Rattle.ann_laws.specs.Rows.{HasClasses}
use Rattle.ann_rules.specs.Asks as rules
use Rattle.ann_rules.specs.Asks.{defaults}
use Rattle.ann_lattice.specs.Order.{is_key}
use Rattle.ann_element.specs.declared.element.Element.TheVariants as element
use Rattle.ann_rules.specs.Program.{Whole}
use Rattle.ann_rules.specs.Rules.{value}
use Rattle.class_desc.specs.Tables.{Tables, home}
use Rattle.flow_graph.specs.declared.graph.Graphs.{Graphs}
use Rattle.ll_build.specs.declared.needs.Numbers.{Numbers}
use Rattle.ll_code.specs.declared.program.LlProgram.{LlProgram}
use Rattle.ll_code.specs.declared.program.LlType.TheVariants as type
use Rattle.ll_build.specs.Needs.{uses_texts}
use Rattle.rtyper_class.specs.Attributes.{Standing, place_in}
use Rattle.rtyper_class.specs.Seen.{World, laid}
use Rattle.rtyper_data.specs.declared.found.Found.{Found}
use Rattle.rtyper_layout.specs.declared.layout.Layout.{Layout}
use Rattle.rtyper_layout.specs.declared.dicts.Mapping.{Mapping}
use Rattle.rtyper_layout.specs.Layout.{is_list, is_tuple, mapping_at}
use Rattle.list_shape.specs.Shapes.{item_of}
use Rattle.rtyper_layout.specs.declared.classes.Laid.{Laid}
use Rattle.rtyper_layout.specs.Types.{field_type, type_of, word}
use Rattle.rpy_meaning.specs.Operations.{builtin_classes}
use Rattle.rtyper_op.specs.Calls.{number_of}
use Rattle.rtyper_program.specs.Program.{IsLaid as IsRtyped}
use Rattle.rtyper_program.specs.Seen.{Known, element_at, is_reached}
use Rattle.program_asks.specs.Standing.{first_in, last_in, numbers_in, world_in}
use Rattle.object_laws.specs.Done.{HasLayout}
use Rattle.object_laws.specs.Known.{Known as Seen}
use Rattle.class_laws.specs.Classes.{IsOf, IsLaidOut}
use Rattle.class_laws.specs.Starting.{Starts}
use Rattle.layout_laws.specs.Layouts.{IsNumbered}
use Rattle.call_conversion_laws.specs.Defaults.{HasDefaults, defaults_of}
use Rattle.conversion_laws.specs.Ordered.{AreFamilies, IsLaid}
use Rattle.rtyped_laws.specs.Programs.{layout_for}
use Rattle.helper_stands.specs.Standing.{KnowsTexts}
use Rattle.laid_laws.specs.Laid.{StandsIn}
use Rattle.sound_rows.specs.Seen.{Sees}
use Rattle.run_laws.specs.Points.{Setting, is_conflict}
use Rattle.rtyped_runs.specs.Laws.{HasParameters}
use Rattle.rtyped_runs.specs.Programs.{setting_of}

-- A program with its flow graphs, its annotation and the program that `rtype` made of it; what its meaning is, and what is known of its objects; the
-- arguments with which it runs; and what its rules are read from, with the elements and marks that they see.
pub record Typed : Type 0 where
  pub known : Known
  pub classes : Tables
  pub p : LlProgram
  pub made : IsRtyped known classes p
  pub seen : Seen
  pub graphs : Graphs
  pub arguments : List (List ℕ)
  pub whole : Whole
  pub assigned : Assignment

module _ (t : Typed) where
  abbrev pub layout : Layout
  layout = layout_for t.known t.classes

  abbrev pub world : World
  world = world_in t.known t.classes layout t.p t.made

  abbrev pub numbers : Numbers
  numbers = numbers_in t.known t.classes layout t.p t.made

  abbrev pub first : Found
  first = first_in t.known t.classes layout t.p t.made

  abbrev pub last : Found
  last = last_in t.known t.classes layout t.p t.made

  abbrev pub setting : Setting
  setting = setting_of t.known world t.seen t.graphs t.p t.arguments

  abbrev pub same : List ℕ
  same = t.known.annotation.same

  -- ---- numbers that are not too great, and what was written

  pub record IsSmall : Type 0 where
    pub graphs : length t.p.graphs < 2 ^ 64
    pub structs : length layout.structs < 2 ^ 64
    pub statics : length t.p.statics < 2 ^ 64
    pub numbered : IsNumbered world
    pub has : HasLayout t.p layout
    pub texts : uses_texts t.made.needs ≡ true → KnowsTexts t.p t.seen
    pub no_tuple : is_tuple layout 0 ≡ false

  -- ---- the rules see the elements and marks of the annotation

  pub record SeesElements : Type 0 where
    pub variables : (g v : ℕ) (e : Element) → element_at t.known.annotation g v ≡ Some e → value t.whole t.assigned g v ≡ shape e
    pub params : (f i : ℕ) (es : List Element) (e : Element) → slice_get t.known.annotation.params f ≡ Some es → slice_get es i ≡ Some e → at t.assigned (t.whole.places.param f i) ≡ shape e
    pub results : (f : ℕ) (e : Element) → slice_get t.known.annotation.results f ≡ Some e → at t.assigned (t.whole.places.result f) ≡ shape e
    pub items : (site : ℕ) (e : Element) → slice_get t.known.annotation.items site ≡ Some e → at t.assigned (t.whole.places.item site) ≡ shape e
    pub keys : (site : ℕ) (e : Element) → slice_get t.known.annotation.keys site ≡ Some e → at t.assigned (t.whole.places.key site) ≡ shape e
    pub attributes : (c h : ℕ) (name : List ℕ) (s : Standing) → home t.classes c name ≡ Some h → place_in world c name ≡ Some s → at t.assigned (t.whole.places.attribute h name) ≡ shape s.element
    pub same_is : t.assigned.same ≡ same
    pub classes_are : t.whole.tables ≡ t.classes
    pub graphs_are : t.whole.graphs ≡ t.known.graphs
    pub sites_are : t.whole.sites ≡ t.known.program.sites
    pub made : (c : ℕ) → mark t.assigned (t.whole.places.made c) ≡ unwrap_or (slice_get t.known.annotation.made c) false
    pub reached : (f : ℕ) → mark t.assigned (t.whole.places.reached f) ≡ is_reached t.known.annotation f

  -- ---- parts have their elements, of which none is in conflict

  pub record HasParts : Type 0 where
    pub params : (f : ℕ) → is_reached t.known.annotation f ≡ true → (es : List Element) × ((slice_get t.known.annotation.params f ≡ Some es) × (length es ≡ length (defaults t.whole f)))
    pub results : (f : ℕ) → is_reached t.known.annotation f ≡ true → (e : Element) × (slice_get t.known.annotation.results f ≡ Some e)
    pub items : (site : ℕ) → site < length t.whole.sites → (e : Element) × (slice_get t.known.annotation.items site ≡ Some e)
    pub keys : (site : ℕ) → site < length t.whole.sites → (e : Element) × (slice_get t.known.annotation.keys site ≡ Some e)
    pub laid : (e : Element) → StandsIn t.known.annotation e → is_conflict (Some e) ≡ false → IsLaid layout same e
    pub free_params : (f i : ℕ) (es : List Element) (e : Element) → slice_get t.known.annotation.params f ≡ Some es → slice_get es i ≡ Some e → is_conflict (Some e) ≡ false
    pub free_results : (f : ℕ) (e : Element) → slice_get t.known.annotation.results f ≡ Some e → is_conflict (Some e) ≡ false
    pub free_items : (site : ℕ) (e : Element) → slice_get t.known.annotation.items site ≡ Some e → is_conflict (Some e) ≡ false
    pub free_keys : (site : ℕ) (e : Element) → slice_get t.known.annotation.keys site ≡ Some e → is_conflict (Some e) ≡ false
    pub free_attributes : (c : ℕ) (name : List ℕ) (s : Standing) → place_in world c name ≡ Some s → is_conflict (Some s.element) ≡ false

  -- ---- the structs of lists and dicts

  -- the lists of a site have this struct, and of their items this is known
  pub record HasItems (site n : ℕ) : Type 0 where
    pub is : is_list layout n ≡ true
    pub item : Element
    pub stands : slice_get t.known.annotation.items site ≡ Some item
    pub known_as : t.seen.items n ≡ Some item
    pub typed : item_of layout (word (n + 1)) ≡ field_type (type_of layout item)

  -- the dicts of a site have this struct and this mapping, and of their values and keys this is known
  pub record HasEntries (site n : ℕ) : Type 0 where
    pub mapping : Mapping
    pub is : mapping_at layout.mappings n ≡ Some mapping
    pub value : Element
    pub key : Element
    pub value_stands : slice_get t.known.annotation.items site ≡ Some value
    pub key_stands : slice_get t.known.annotation.keys site ≡ Some key
    pub value_known : t.seen.items mapping.dict ≡ Some value
    pub key_known : t.seen.keys mapping.dict ≡ Some key
    pub value_typed : mapping.value ≡ field_type (type_of layout value)
    pub key_typed : mapping.key ≡ field_type (type_of layout key)
    pub is_a_key : is_key (shape key) ≡ true

  pub record HasStructs : Type 0 where
    pub lists : (site n : ℕ) (r : Bool) → type_of layout (element.List site r) ≡ type.Ptr n → HasItems site n
    pub dicts : (site n : ℕ) (r : Bool) → type_of layout (element.Dict site r) ≡ type.Ptr n → HasEntries site n

  -- ---- classes and functions

  pub record HasClassesSo : Type 0 where
    pub tree : HasClasses t.classes
    pub sees : Sees t.whole t.seen.program
    pub is_of : IsOf world t.seen
    pub out : IsLaidOut world t.seen
    pub families : AreFamilies t.classes.classes layout t.seen
    pub starts : (class : ℕ) → builtin_classes ≤ class → unwrap_or (slice_get t.known.annotation.made class) false ≡ true → Starts world t.seen class
    pub placed : (class : ℕ) (l : Laid) (h : ℕ) (name : List ℕ) → laid world class ≡ Some l → home t.classes class name ≡ Some h → (s : Standing) × (place_in world class name ≡ Some s)

  pub record HasFunctions : Type 0 where
    pub graphs : (f : ℕ) → is_reached t.known.annotation f ≡ true → t.seen.graph f ≡ Some (number_of world.around f)
    pub only : (f number : ℕ) → t.seen.graph f ≡ Some number → is_reached t.known.annotation f ≡ true
    pub parameters : HasParameters setting
    pub defaults : (f : ℕ) (es : List Element) → is_reached t.known.annotation f ≡ true → slice_get t.known.annotation.params f ≡ Some es → HasDefaults t.seen f (slice_get world.around.functions f) es
    pub defaults_are : (f : ℕ) → rules.defaults t.whole f ≡ defaults_of (slice_get world.around.functions f)

-- What is known of a program that has types, beside its operations.
pub record IsTyped (t : Typed) : Type 0 where
  pub small : IsSmall t
  pub sees : SeesElements t
  pub parts : HasParts t
  pub structs : HasStructs t
  pub classes : HasClassesSo t
  pub functions : HasFunctions t
