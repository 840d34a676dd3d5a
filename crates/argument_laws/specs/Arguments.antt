-- The graph that makes the list of arguments: what it is called over, and what it leaves.
use Rattle.std.specs.Prelude.{◌≡◌, ◌<◌, ◌^◌, ℕ, ◌+◌, true, List, [], ◌∷◌, ◌++◌, length, map, slice_get, Some}
use Rattle.ann_element.specs.declared.element.Element.{Element}
use Rattle.csub_tree.specs.State.{Value, Core}
use Rattle.ll_code.specs.State.{Frame, Calling, Returning}
use Rattle.ll_code.specs.declared.program.LlType.TheVariants as type
use Rattle.ll_code.specs.declared.program.LlProgram.{LlProgram}
use Rattle.ll_leads.specs.Memory.{forgotten}
use Rattle.ll_leads.specs.Path.{Leads}
use Rattle.ll_texts.specs.Texts.{AreBytes}
use Rattle.rpy_tree.specs.Value.{Heap, Listed, Text}
use Rattle.rpy_meaning.specs.Meaning.{prebuilt}
use Rattle.rpy_meaning.specs.Tree.{Function}
use Rattle.rtyper_layout.specs.declared.layout.Layout.{Layout}
use Rattle.rtyper_layout.specs.Kinds.{kind_seen}
use Rattle.rtyper_layout.specs.Layout.{is_list}
use Rattle.rtyper_layout.specs.Types.{type_seen}
use Rattle.rtyper_list.specs.Operands.{of_list}
use Rattle.list_shape.specs.Shapes.{shape_of}
use Rattle.list_loops.specs.Making.{make}
use Rattle.list_texts.specs.Arguments.{arguments_graph}
use Rattle.lower_laws.specs.Values.{is_plain}
use Rattle.layout_laws.specs.Statics.{statics_of}
use Rattle.object_laws.specs.Done.{HasLayout}
use Rattle.object_laws.specs.Ghost.{Ghost, Grown, ListOf}
use Rattle.object_laws.specs.Known.{Known}
use Rattle.object_laws.specs.Represents.{Represents, HasRoom}
use Rattle.run_laws.specs.Points.{Setting}
use Rattle.entry_laws.specs.Begins.{ArgumentsAreGiven}

-- ---- arguments

-- each is bytes, and their count is a word
abbrev pub AreTexts : List (List ℕ) → Type 0
AreTexts [] = Unit {0}
AreTexts (text ∷ texts) = ((length text < 2 ^ 63) × AreBytes text) × AreTexts texts

-- what a run can be given with so many steps: strings, and not too many
pub record CanBeGiven (arguments : List (List ℕ)) (steps : ℕ) : Type 0 where
  pub texts : AreTexts arguments
  pub room : HasRoom (length arguments) steps

-- ---- the graph

-- it has this number, and the graph by which it makes the list has its own
pub record HasArguments (p : LlProgram) (layout : Layout) (n f : ℕ) : Type 0 where
  pub makes : ℕ
  pub graph : slice_get p.graphs f ≡ Some (arguments_graph makes (shape_of layout n))
  pub list : slice_get p.graphs makes ≡ Some (make (shape_of layout n))

-- lists of this struct are lists of strings
pub record AreTextLists (layout : Layout) (known : Known) (n : ℕ) : Type 0 where
  pub struct : is_list layout n ≡ true
  pub item : Element
  pub item_is : known.items n ≡ Some item
  pub plain : is_plain (kind_seen (Some item)) ≡ true
  pub typed : type_seen layout (Some item) ≡ type.Ptr 0

-- The call comes back with a new list, over memory that represents the heap with it, at no cost; what was there stands for what it was.
pub record GaveList (p : LlProgram) (layout : Layout) (known : Known) (arguments : List (List ℕ)) (n f : ℕ) (waits : List Frame) (core : Core) (g : Ghost) (heap : Heap) (left : ℕ) : Type 0 where
  pub x : Value
  pub end : Core
  pub leads : Leads p arguments (length arguments + 1) (Calling f [] waits core) [] (Returning x waits end)
  pub memory : forgotten end ≡ forgotten (record core { blocks = end.blocks })
  pub few : length end.blocks ≡ length core.blocks + (2 + length arguments)
  pub ghost : Ghost
  pub grown : Grown g ghost
  pub stands : Represents layout known ghost (heap ++ Listed (map Text arguments) ∷ []) left end.blocks end.statics
  pub home : slice_get ghost.homes (length heap) ≡ Some (record { sort = ListOf n; head = x })

-- over any memory that represents a heap, whatever waits
abbrev pub ArgumentsAreListed : Type 0
ArgumentsAreListed = (p : LlProgram) (layout : Layout) (known : Known) (arguments : List (List ℕ)) (n f : ℕ) (waits : List Frame) (core : Core) (g : Ghost) (heap : Heap) (left : ℕ)
    → HasLayout p layout → HasArguments p layout n f → AreTextLists layout known n → CanBeGiven arguments left → Represents layout known g heap left core.blocks core.statics
    → GaveList p layout known arguments n f waits core g heap left

-- ---- the start of a run

-- the static memory of a program represents the objects that are there before the list of arguments
pub record Begins (s : Setting) (steps : ℕ) : Type 0 where
  pub ghost : Ghost
  pub stands : Represents s.around.layout s.known ghost (prebuilt s.known.program) steps [] (statics_of s.low)

-- the entry point has one parameter, which is known to be a list of strings of this struct
pub record TakesTexts (s : Setting) (n : ℕ) : Type 0 where
  pub param : Element
  pub takes : slice_get s.around.params s.known.program.entry ≡ Some (param ∷ [])
  pub one : (function : Function) → slice_get s.known.program.functions s.known.program.entry ≡ Some function → length function.defaults ≡ 1
  pub list : of_list (kind_seen (Some param)) ≡ true
  pub typed : type_seen s.around.layout (Some param) ≡ type.Ptr n
  pub texts : AreTextLists s.around.layout s.known n

-- then the list of arguments is given, as the entry point takes it
abbrev pub ArgumentsAreGivenAtStart : Type 0
ArgumentsAreGivenAtStart = (s : Setting) (n f steps : ℕ) → HasLayout s.low s.around.layout → HasArguments s.low s.around.layout n f → TakesTexts s n → CanBeGiven s.arguments steps → Begins s steps → ArgumentsAreGiven s f steps
