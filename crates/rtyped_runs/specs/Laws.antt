-- What the laws of operations say is what is asked of the operations of a block.
use Rattle.std.specs.Prelude.{◌≡◌, ◌<◌, ℕ, List, ◌∷◌, [], length, map, slice_get, Some, true}
use Rattle.ann_element.specs.declared.element.Element.{Element}
use Rattle.csub_tree.specs.State.{Value, Core}
use Rattle.ll_code.specs.declared.program.LlProgram.{LlProgram}
use Rattle.ll_build.specs.declared.needs.Numbers.{Numbers}
use Rattle.flow_graph.specs.declared.graph.Graphs.{Graphs}
use Rattle.flow_graph.specs.declared.graph.Op.{Op}
use Rattle.rpy_tree.specs.Value.{Value as Meant, Heap}
use Rattle.rpy_meaning.specs.Classes.{is_below}
use Rattle.rpy_meaning.specs.Operations.{op, builtin_classes}
use Rattle.rpy_meaning.specs.Tree.{Function}
use Rattle.rpy_meaning.specs.World.{World as MeantWorld, Throws}
use Rattle.rpy_meaning.specs.declared.row.RowOp.TheVariants as row
use Rattle.rtyper_layout.specs.declared.classes.Laid.{Laid}
use Rattle.rtyper_layout.specs.declared.dicts.Mapping.{Mapping}
use Rattle.rtyper_layout.specs.Types.{laid_in}
use Rattle.rtyper_data.specs.declared.found.Found.{Found}
use Rattle.rtyper_data.specs.Seen.{Operand, Place, Writing}
use Rattle.rtyper_op.specs.Lowering.{lower_op}
use Rattle.rtyper_list.specs.Lowering.{lower_list_op}
use Rattle.rtyper_dict.specs.Lowering.{lower_dict_op}
use Rattle.rtyper_class.specs.Lowering.{lower_class_op}
use Rattle.rtyper_class.specs.Seen.{World}
use Rattle.rtyper_program.specs.Blocks.{lowered, with_covered}
use Rattle.rtyper_program.specs.Seen.{Lowered, operand_of, place_of}
use Rattle.lower_laws.specs.Asked.{Ask}
use Rattle.lower_laws.specs.Asked as values
use Rattle.lower_laws.specs.Values.{AllBelow}
use Rattle.object_laws.specs.Done.{AllAsked, HasLayout, IsDone, IsDoneWhere}
use Rattle.object_laws.specs.Ghost.{Ghost}
use Rattle.object_laws.specs.Known.{Known as Seen}
use Rattle.object_laws.specs.Represents.{Represents}
use Rattle.object_laws.specs.Values.{Given}
use Rattle.list_laws.specs.Asked as lists
use Rattle.dict_op_laws.specs.Asked as dicts
use Rattle.conversion_laws.specs.Asked as conversions
use Rattle.conversion_laws.specs.Constants.{AreKept, IsGiven}
use Rattle.dict_find_laws.specs.Asked as lookups
use Rattle.dict_find_laws.specs.Pairs.{IsListedInPairs}
use Rattle.dict_change_laws.specs.Asked as changes
use Rattle.list_copy_laws.specs.Done.{IsDoneWithin}
use Rattle.class_laws.specs.Asked as classes
use Rattle.class_laws.specs.Instances.{AreOfClass}
use Rattle.call_laws.specs.Calls.{HasMethod}
use Rattle.call_laws.specs.Done.{IsEntered, IsEnteredWhere}
use Rattle.call_laws.specs.Indirect.{HasMethods}
use Rattle.call_laws.specs.Raised.{IsRaised}
use Rattle.flow_runs.specs.Good.{IsGood}
use Rattle.run_laws.specs.Points.{Setting, IsException, is_keyed}
use Rattle.block_laws.specs.Links.{setting}
use Rattle.rtyped_runs.specs.Parts.{OpIsWritten}

-- functions have as many parameters as there are elements for them
abbrev pub HasParameters : Setting → Type 0
HasParameters s = (f : ℕ) (function : Function) (params : List Element) → slice_get s.known.program.functions f ≡ Some function → slice_get s.around.params f ≡ Some params → length function.defaults ≡ length params

abbrev pub args_of : Lowered → Op → List Operand
args_of l o = map (operand_of l) o.args

abbrev pub before : Op → Writing → Writing
before o w = with_covered o.covered w

-- its operands and its result are variables from before
pub record IsInside (l : Lowered) (o : Op) (w : Writing) : Type 0 where
  pub result : o.result < length w.body.types
  pub operands : AllBelow (length w.body.types) (args_of l o)

-- the exceptions that it throws, of operands that are held, are objects: instances of builtin classes, which are there from the start
abbrev pub ThrowsObjects : Setting → Lowered → Op → Type 0
ThrowsObjects s l o = (g : Ghost) (core : Core) (w w' : MeantWorld) (vs : List Meant) (r : ℕ) → Represents s.around.layout s.known g w.heap w.left core.blocks core.statics → Given s.known s.around g core (args_of l o) vs → op s.known.program o.covered o.op vs w ≡ Throws r w' → IsException s g r (s.known.exception r)

-- what is asked for stands, over all memory that represents a heap, with as many steps left
abbrev pub StandsSo : Setting → (Core → Ask → Found → Type 0) → List Ask → Found → Type 0
StandsSo s Has asks found = (core : Core) (g : Ghost) (heap : Heap) (left : ℕ) → Represents s.around.layout s.known g heap left core.blocks core.statics → left ≡ core.steps → AllAsked (Has core) asks found

-- what says that what is asked for stands, in a world
abbrev pub Standing : Type 1
Standing = World → LlProgram → Numbers → (ℕ → Value) → Core → Ask → Found → Type 0

abbrev pub of_values : Standing
of_values world p numbers raised core ask found = values.Has p world.around.layout numbers raised core ask found

abbrev pub of_lists : Standing
of_lists world p numbers raised core ask found = lists.Has p world.around.layout numbers raised core ask found

abbrev pub of_dicts : Standing
of_dicts world p numbers raised core ask found = dicts.Has p world.around.layout numbers raised core ask found

abbrev pub of_classes : Standing
of_classes world p numbers raised core ask found = classes.Has world p numbers raised core ask found

abbrev pub of_conversions : Standing
of_conversions world p numbers raised core ask found = conversions.Has p world.around.layout numbers raised core ask found

abbrev pub of_lookups : Standing
of_lookups world p numbers raised core ask found = lookups.Has p world.around.layout numbers raised core ask found

abbrev pub of_changes : Standing
of_changes world p numbers raised core ask found = changes.Has p world.around.layout numbers raised core ask found

-- the world and the values of the operands are so, whenever memory represents the heap, and the operation is as its law asks
abbrev pub AreAlways : Setting → Lowered → Op → (MeantWorld → List Meant → Type 0) → Type 0
AreAlways s l o Good = (g : Ghost) (core : Core) (w : MeantWorld) (vs : List Meant) → Represents s.around.layout s.known g w.heap w.left core.blocks core.statics → Given s.known s.around g core (args_of l o) vs → IsGood s.known.program s.made (is_keyed s l.number o) o.op w vs → Good w vs

-- Where a law says of an operation, as it is lowered, that it is done, its operation in a block does what it does.
abbrev pub DoneOperationsAreWritten : Standing → Type 0
DoneOperationsAreWritten Has = (l : Lowered) (known : Seen) (graphs : Graphs) (p : LlProgram) (arguments : List (List ℕ)) (numbers : Numbers) (blocks : ℕ) (o : Op) (asks : List Ask) (w : Writing)
    → HasLayout p l.world.around.layout → IsInside l o w → ThrowsObjects (setting l known graphs p arguments) l o
    → StandsSo (setting l known graphs p arguments) (Has l.world p numbers known.exception) asks (before o w).found
    → IsDone (Has l.world) blocks known l.world.around o.op o.covered asks (lowered l.world o.op (place_of l o.result) (args_of l o) (before o w)) (place_of l o.result) (args_of l o) (before o w)
    → OpIsWritten (setting l known graphs p arguments) l o w

-- The same where the law speaks of worlds and values that are so for a mapping, and they always are.
abbrev pub KeyedOperationsAreWritten : Standing → (Mapping → MeantWorld → List Meant → Type 0) → Type 0
KeyedOperationsAreWritten Has Good = (m : Mapping) (l : Lowered) (known : Seen) (graphs : Graphs) (p : LlProgram) (arguments : List (List ℕ)) (numbers : Numbers) (blocks : ℕ) (o : Op) (asks : List Ask) (w : Writing)
    → HasLayout p l.world.around.layout → IsInside l o w → ThrowsObjects (setting l known graphs p arguments) l o → AreAlways (setting l known graphs p arguments) l o (Good m)
    → StandsSo (setting l known graphs p arguments) (Has l.world p numbers known.exception) asks (before o w).found
    → IsDoneWhere (Good m) (Has l.world) blocks known l.world.around o.op o.covered asks (lowered l.world o.op (place_of l o.result) (args_of l o) (before o w)) (place_of l o.result) (args_of l o) (before o w)
    → OpIsWritten (setting l known graphs p arguments) l o w

-- The same where the law speaks of such worlds and values for a narrowing.
abbrev pub ToldOperationsAreWritten : Standing → (MeantWorld → List Meant → Type 0) → Type 0
ToldOperationsAreWritten Has Good = (l : Lowered) (known : Seen) (graphs : Graphs) (p : LlProgram) (arguments : List (List ℕ)) (numbers : Numbers) (blocks : ℕ) (o : Op) (asks : List Ask) (w : Writing)
    → HasLayout p l.world.around.layout → IsInside l o w → ThrowsObjects (setting l known graphs p arguments) l o → AreAlways (setting l known graphs p arguments) l o Good
    → StandsSo (setting l known graphs p arguments) (Has l.world p numbers known.exception) asks (before o w).found
    → IsDoneWhere Good (Has l.world) blocks known l.world.around o.op o.covered asks (lowered l.world o.op (place_of l o.result) (args_of l o) (before o w)) (place_of l o.result) (args_of l o) (before o w)
    → OpIsWritten (setting l known graphs p arguments) l o w

-- And for one to a class, of which the instance is.
abbrev pub ClassedOperationsAreWritten : Type 0
ClassedOperationsAreWritten = (d : ℕ) (l : Lowered) (known : Seen) (graphs : Graphs) (p : LlProgram) (arguments : List (List ℕ)) (numbers : Numbers) (blocks : ℕ) (o : Op) (asks : List Ask) (w : Writing)
    → HasLayout p l.world.around.layout → IsInside l o w → ThrowsObjects (setting l known graphs p arguments) l o → AreAlways (setting l known graphs p arguments) l o (AreOfClass known d)
    → StandsSo (setting l known graphs p arguments) (of_classes l.world p numbers known.exception) asks (before o w).found
    → IsDoneWhere (AreOfClass known d) (of_classes l.world) blocks known l.world.around o.op o.covered asks (lowered l.world o.op (place_of l o.result) (args_of l o) (before o w)) (place_of l o.result) (args_of l o) (before o w)
    → OpIsWritten (setting l known graphs p arguments) l o w

-- The same of an operation that copies items of lists.
abbrev pub CopiedOperationsAreWritten : Type 0
CopiedOperationsAreWritten = (l : Lowered) (known : Seen) (graphs : Graphs) (p : LlProgram) (arguments : List (List ℕ)) (numbers : Numbers) (most : MeantWorld → List Meant → ℕ) (o : Op) (asks : List Ask) (w : Writing)
    → HasLayout p l.world.around.layout → IsInside l o w → ThrowsObjects (setting l known graphs p arguments) l o
    → StandsSo (setting l known graphs p arguments) (of_lists l.world p numbers known.exception) asks (before o w).found
    → lowered l.world o.op (place_of l o.result) (args_of l o) (before o w) ≡ lower_list_op l.world.around o.op (place_of l o.result) (args_of l o) (before o w)
    → IsDoneWithin most known l.world.around o.op o.covered asks (place_of l o.result) (args_of l o) (before o w)
    → OpIsWritten (setting l known graphs p arguments) l o w

-- The same of one that lists the pairs of a dict.
abbrev pub ListedOperationsAreWritten : Type 0
ListedOperationsAreWritten = (l : Lowered) (known : Seen) (graphs : Graphs) (p : LlProgram) (arguments : List (List ℕ)) (numbers : Numbers) (o : Op) (asks : List Ask) (w : Writing)
    → HasLayout p l.world.around.layout → IsInside l o w → ThrowsObjects (setting l known graphs p arguments) l o
    → StandsSo (setting l known graphs p arguments) (of_lookups l.world p numbers known.exception) asks (before o w).found
    → lowered l.world o.op (place_of l o.result) (args_of l o) (before o w) ≡ lower_dict_op l.world.around o.op (place_of l o.result) (args_of l o) (before o w)
    → IsListedInPairs known l.world.around o.op o.covered asks (place_of l o.result) (args_of l o) (before o w)
    → OpIsWritten (setting l known graphs p arguments) l o w

-- The same of one that gives a constant, where the strings and tuples among the statics that were asked for stay.
abbrev pub GivenOperationsAreWritten : Type 0
GivenOperationsAreWritten = (l : Lowered) (known : Seen) (graphs : Graphs) (p : LlProgram) (arguments : List (List ℕ)) (o : Op) (w : Writing)
    → HasLayout p l.world.around.layout → o.args ≡ [] → o.result < length w.body.types → ThrowsObjects (setting l known graphs p arguments) l o
    → AreKept p l.world.around.layout known (lower_op l.world.around o.op (place_of l o.result) [] (before o w)).found
    → lowered l.world o.op (place_of l o.result) [] (before o w) ≡ lower_op l.world.around o.op (place_of l o.result) [] (before o w)
    → IsGiven known l.world.around o.op o.covered (place_of l o.result) (before o w)
    → OpIsWritten (setting l known graphs p arguments) l o w

-- The same of an operation that may call a function.
abbrev pub EnteredOperationsAreWritten : Type 0
EnteredOperationsAreWritten = (l : Lowered) (known : Seen) (graphs : Graphs) (p : LlProgram) (arguments : List (List ℕ)) (numbers : Numbers) (blocks : ℕ) (o : Op) (asks : List Ask) (w : Writing)
    → HasLayout p l.world.around.layout → IsInside l o w → HasParameters (setting l known graphs p arguments) → ThrowsObjects (setting l known graphs p arguments) l o
    → StandsSo (setting l known graphs p arguments) (classes.Has l.world p numbers known.exception) asks (before o w).found
    → lowered l.world o.op (place_of l o.result) (args_of l o) (before o w) ≡ lower_class_op l.world o.op (place_of l o.result) (args_of l o) (before o w)
    → IsEntered blocks l.world known o.op o.covered asks (place_of l o.result) (args_of l o) (before o w)
    → OpIsWritten (setting l known graphs p arguments) l o w

-- The same of a method of which but one function can be meant.
abbrev pub MethodsAreWritten : Type 0
MethodsAreWritten = (name : List ℕ) (f : ℕ) (l : Lowered) (known : Seen) (graphs : Graphs) (p : LlProgram) (arguments : List (List ℕ)) (numbers : Numbers) (blocks : ℕ) (o : Op) (asks : List Ask) (w : Writing)
    → HasLayout p l.world.around.layout → IsInside l o w → HasParameters (setting l known graphs p arguments) → ThrowsObjects (setting l known graphs p arguments) l o → AreAlways (setting l known graphs p arguments) l o (HasMethod known name f)
    → StandsSo (setting l known graphs p arguments) (classes.Has l.world p numbers known.exception) asks (before o w).found
    → lowered l.world o.op (place_of l o.result) (args_of l o) (before o w) ≡ lower_class_op l.world o.op (place_of l o.result) (args_of l o) (before o w)
    → IsEnteredWhere (λ p. HasMethod known name f) blocks l.world known o.op o.covered asks (place_of l o.result) (args_of l o) (before o w)
    → OpIsWritten (setting l known graphs p arguments) l o w

-- And of one that is looked up in the vtable of the instance.
abbrev pub MethodsAreWrittenByVtables : Type 0
MethodsAreWrittenByVtables = (name : List ℕ) (like slot : ℕ) (a : Operand) (args : List Operand) (place : Place) (l : Lowered) (known : Seen) (graphs : Graphs) (p : LlProgram) (arguments : List (List ℕ)) (numbers : Numbers) (blocks : ℕ) (o : Op) (asks : List Ask) (w : Writing)
    → HasLayout p l.world.around.layout → IsInside l o w → HasParameters (setting l known graphs p arguments) → ThrowsObjects (setting l known graphs p arguments) l o → AreAlways (setting l known graphs p arguments) l o (HasMethods l.world known name like slot a args place p)
    → StandsSo (setting l known graphs p arguments) (classes.Has l.world p numbers known.exception) asks (before o w).found
    → lowered l.world o.op (place_of l o.result) (args_of l o) (before o w) ≡ lower_class_op l.world o.op (place_of l o.result) (args_of l o) (before o w)
    → IsEnteredWhere (HasMethods l.world known name like slot a args place) blocks l.world known o.op o.covered asks (place_of l o.result) (args_of l o) (before o w)
    → OpIsWritten (setting l known graphs p arguments) l o w

-- the builtin exception classes have structs, and are exceptions
abbrev pub ExceptionsAreLaid : Setting → Type 0
ExceptionsAreLaid s = (class : ℕ) → class < builtin_classes → (is_below s.known.program.classes class 0 ≡ true) × ((l : Laid) × (laid_in s.around.layout.classes class ≡ Some l))

-- The same of `raise`, which raises its operand, or throws a builtin exception where that is `None`.
abbrev pub RaisedOperationsAreWritten : Type 0
RaisedOperationsAreWritten = (l : Lowered) (known : Seen) (graphs : Graphs) (p : LlProgram) (arguments : List (List ℕ)) (numbers : Numbers) (o : Op) (a : ℕ) (asks : List Ask) (w : Writing)
    → HasLayout p l.world.around.layout → ExceptionsAreLaid (setting l known graphs p arguments) → o.op ≡ row.Raise → o.args ≡ a ∷ [] → a < length w.body.types
    → StandsSo (setting l known graphs p arguments) (classes.Has l.world p numbers known.exception) asks (before o w).found
    → lowered l.world row.Raise (place_of l o.result) (operand_of l a ∷ []) (before o w) ≡ lower_class_op l.world row.Raise (place_of l o.result) (operand_of l a ∷ []) (before o w)
    → IsRaised l.world known o.covered asks (place_of l o.result) (operand_of l a) (before o w)
    → OpIsWritten (setting l known graphs p arguments) l o w
