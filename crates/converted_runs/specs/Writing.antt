-- What laws of operations whose operands are converted say is what is asked of the operations of a block.
use Rattle.std.specs.Prelude.{◌≡◌, ◌∷◌, ℕ, List, []}
use Rattle.ll_code.specs.declared.program.LlProgram.{LlProgram}
use Rattle.ll_build.specs.declared.needs.Numbers.{Numbers}
use Rattle.flow_graph.specs.declared.graph.Graphs.{Graphs}
use Rattle.flow_graph.specs.declared.graph.Op.{Op}
use Rattle.rpy_tree.specs.Value.{Value as Meant}
use Rattle.rpy_meaning.specs.World.{World as MeantWorld}
use Rattle.rtyper_data.specs.declared.found.Found.{Found}
use Rattle.rtyper_data.specs.Seen.{Writing}
use Rattle.rtyper_list.specs.Lowering.{lower_list_op}
use Rattle.rtyper_class.specs.Lowering.{lower_class_op}
use Rattle.rtyper_class.specs.Seen.{World}
use Rattle.rtyper_program.specs.Blocks.{lowered}
use Rattle.rtyper_program.specs.Seen.{Lowered, operand_of, place_of}
use Rattle.lower_laws.specs.Asked.{Ask, all_asked}
use Rattle.object_laws.specs.Done.{HasLayout}
use Rattle.object_laws.specs.Known.{Known as Seen}
use Rattle.conversion_laws.specs.Constants.{AreKept}
use Rattle.passing_laws.specs.Done.{IsDoneBehindWhere}
use Rattle.tuple_conversion_laws.specs.Tuples.{HasTuples}
use Rattle.list_conversion_laws.specs.Lists.{HasLists}
use Rattle.class_conversion_laws.specs.Attributes.{HasClasses}
use Rattle.passing_laws.specs.Standing.{HasOne, Stood}
use Rattle.call_conversion_laws.specs.Called as called
use Rattle.call_conversion_laws.specs.Called.{IsCalledWhere}
use Rattle.dict_conversion_laws.specs.Asked as dicts
use Rattle.dict_conversion_laws.specs.Done as dict
use Rattle.split_laws.specs.Asked as splits
use Rattle.split_laws.specs.Splitting.{IsSplit}
use Rattle.join_laws.specs.Asked as joins
use Rattle.join_laws.specs.Joining as join
use Rattle.join_laws.specs.Joining.{IsJoined}
use Rattle.block_laws.specs.Links.{setting}
use Rattle.rtyped_runs.specs.Laws.{AreAlways, IsInside, StandsSo, ThrowsObjects, args_of, before}
use Rattle.rtyped_runs.specs.Parts.{OpIsWritten}

-- what says that what is asked for stands, in a world
abbrev pub of_tuples : World → HasOne
of_tuples world = HasTuples world.around.layout

abbrev pub of_lists : World → HasOne
of_lists world = HasLists world.around.layout

abbrev pub of_classes : World → HasOne
of_classes world = HasClasses world

-- Where a law says of an operation that it is done behind the conversions of its operands, its operation in a block does what it does.
abbrev pub BehindOperationsAreWritten : (World → HasOne) → (MeantWorld → List Meant → Type 0) → Type 0
BehindOperationsAreWritten Has Good = (l : Lowered) (known : Seen) (graphs : Graphs) (p : LlProgram) (arguments : List (List ℕ)) (numbers : Numbers) (most : MeantWorld → List Meant → ℕ) (blocks more count : ℕ) (o : Op) (asks : List Ask) (w : Writing)
    → HasLayout p l.world.around.layout → IsInside l o w → ThrowsObjects (setting l known graphs p arguments) l o → AreAlways (setting l known graphs p arguments) l o Good
    → Stood l.world.around.layout known (Has l.world p numbers known.exception) asks (before o w).found
    → IsDoneBehindWhere Good (Has l.world) most blocks more count known l.world.around o.op o.covered asks (lowered l.world o.op (place_of l o.result) (args_of l o) (before o w)) (place_of l o.result) (args_of l o) (before o w)
    → OpIsWritten (setting l known graphs p arguments) l o w

-- The same of one that calls a function, with arguments and a result that are converted, and constants in place of missing arguments.
abbrev pub CalledOperationsAreWritten : (LlProgram → MeantWorld → List Meant → Type 0) → Type 0
CalledOperationsAreWritten Good = (l : Lowered) (known : Seen) (graphs : Graphs) (p : LlProgram) (arguments : List (List ℕ)) (numbers : Numbers) (blocks more : ℕ) (o : Op) (asks later : List Ask) (constants : Found → Found) (w : Writing)
    → HasLayout p l.world.around.layout → IsInside l o w → ThrowsObjects (setting l known graphs p arguments) l o → AreAlways (setting l known graphs p arguments) l o (Good p)
    → Stood l.world.around.layout known (called.Has l.world p numbers known.exception) asks (before o w).found
    → Stood l.world.around.layout known (called.Has l.world p numbers known.exception) later (constants (all_asked asks (before o w).found))
    → AreKept p l.world.around.layout known (lower_class_op l.world o.op (place_of l o.result) (args_of l o) (before o w)).found
    → lowered l.world o.op (place_of l o.result) (args_of l o) (before o w) ≡ lower_class_op l.world o.op (place_of l o.result) (args_of l o) (before o w)
    → IsCalledWhere Good blocks more l.world known o.op o.covered asks constants later (place_of l o.result) (args_of l o) (before o w)
    → OpIsWritten (setting l known graphs p arguments) l o w

-- The same of one on dicts whose keys and values are converted.
abbrev pub DictOperationsAreWritten : (MeantWorld → List Meant → Type 0) → Type 0
DictOperationsAreWritten Good = (l : Lowered) (known : Seen) (graphs : Graphs) (p : LlProgram) (arguments : List (List ℕ)) (numbers : Numbers) (blocks more : ℕ) (o : Op) (asks : List Ask) (w : Writing)
    → HasLayout p l.world.around.layout → IsInside l o w → ThrowsObjects (setting l known graphs p arguments) l o → AreAlways (setting l known graphs p arguments) l o Good
    → StandsSo (setting l known graphs p arguments) (dicts.Has p l.world.around.layout numbers known.exception) asks (before o w).found
    → dict.IsDoneWhere Good blocks more known l.world.around o.op o.covered asks (lowered l.world o.op (place_of l o.result) (args_of l o) (before o w)) (place_of l o.result) (args_of l o) (before o w)
    → OpIsWritten (setting l known graphs p arguments) l o w

-- The same of one that splits a string.
abbrev pub SplitOperationsAreWritten : (List Meant → Type 0) → Type 0
SplitOperationsAreWritten Good = (l : Lowered) (known : Seen) (graphs : Graphs) (p : LlProgram) (arguments : List (List ℕ)) (numbers : Numbers) (o : Op) (asks : List Ask) (w : Writing)
    → HasLayout p l.world.around.layout → IsInside l o w → ThrowsObjects (setting l known graphs p arguments) l o → AreAlways (setting l known graphs p arguments) l o (λ world vs. Good vs)
    → StandsSo (setting l known graphs p arguments) (splits.Has p l.world.around.layout numbers known.exception) asks (before o w).found
    → lowered l.world o.op (place_of l o.result) (args_of l o) (before o w) ≡ lower_list_op l.world.around o.op (place_of l o.result) (args_of l o) (before o w)
    → IsSplit Good known l.world.around o.op o.covered asks (place_of l o.result) (args_of l o) (before o w)
    → OpIsWritten (setting l known graphs p arguments) l o w

-- The same of one that joins the items of a list.
abbrev pub JoinedOperationsAreWritten : Type 0
JoinedOperationsAreWritten = (l : Lowered) (known : Seen) (graphs : Graphs) (p : LlProgram) (arguments : List (List ℕ)) (numbers : Numbers) (o : Op) (a b : ℕ) (asks : List Ask) (w : Writing)
    → HasLayout p l.world.around.layout → IsInside l o w → ThrowsObjects (setting l known graphs p arguments) l o → AreAlways (setting l known graphs p arguments) l o (λ world vs. join.IsThere vs) → o.args ≡ a ∷ b ∷ []
    → StandsSo (setting l known graphs p arguments) (joins.Has p l.world.around.layout numbers known.exception) asks (before o w).found
    → lowered l.world o.op (place_of l o.result) (operand_of l a ∷ operand_of l b ∷ []) (before o w) ≡ lower_list_op l.world.around o.op (place_of l o.result) (operand_of l a ∷ operand_of l b ∷ []) (before o w)
    → IsJoined known l.world.around o.op o.covered asks (place_of l o.result) (operand_of l a) (operand_of l b) (before o w)
    → OpIsWritten (setting l known graphs p arguments) l o w
