-- An operation that calls a function, with arguments and a result that may be converted: its low-level operations lead to a call of the graph
-- of the function, over memory that represents the heap then, and what it gives goes to the place of the result.
use Rattle.std.specs.Prelude.{◌≡◌, ◌≢◌, ◌<◌, ◌≤◌, ℕ, ◌+◌, List, [], ◌∷◌, ◌++◌, length, slice_get, unwrap_or, Option, Some}
use Rattle.ann_element.specs.declared.element.Element.{Element}
use Rattle.csub_tree.specs.State.{Value, Core}
use Rattle.csub_tree.specs.Statement.{read}
use Rattle.ll_code.specs.State.{Frame, State, Calling, At, Returning}
use Rattle.ll_code.specs.declared.program.LlType.{LlType}
use Rattle.ll_code.specs.declared.program.LlOp.{LlOp}
use Rattle.ll_code.specs.declared.program.LlExit.{LlExit}
use Rattle.ll_code.specs.declared.program.LlProgram.{LlProgram}
use Rattle.ll_leads.specs.Memory.{forgotten}
use Rattle.ll_leads.specs.Path.{Leads}
use Rattle.ll_build.specs.declared.needs.Numbers.{Numbers}
use Rattle.rpy_tree.specs.Value.{Value as Meant}
use Rattle.rpy_meaning.specs.declared.row.Covers.{Covers}
use Rattle.rpy_meaning.specs.declared.row.RowOp.{RowOp}
use Rattle.rpy_meaning.specs.Evaluation.{parameters}
use Rattle.rpy_meaning.specs.Operations.{op}
use Rattle.rpy_meaning.specs.Tree.{Function as MeantFunction}
use Rattle.rpy_meaning.specs.World.{World as MeantWorld, Answer, Gives, Throws, Fails, Lacks, Enters, Bad}
use Rattle.rtyper_data.specs.declared.found.Found.{Found}
use Rattle.rtyper_data.specs.Seen.{Around, Operand, Place, Writing}
use Rattle.rtyper_class.specs.Lowering.{lower_class_op}
use Rattle.rtyper_class.specs.Seen.{World}
use Rattle.lower_laws.specs.Asked.{Ask, all_asked}
use Rattle.lower_laws.specs.Values.{AllBelow}
use Rattle.object_laws.specs.Done.{Any, Follows, HasLayout, references}
use Rattle.object_laws.specs.Ghost.{Ghost, Grown}
use Rattle.object_laws.specs.Known.{Known}
use Rattle.object_laws.specs.Represents.{Represents}
use Rattle.object_laws.specs.Values.{Holds, AllHold, Given}
use Rattle.conversion_laws.specs.Constants.{AreKept}
use Rattle.conversion_laws.specs.Converted.{tuples_in, items_in}
use Rattle.class_laws.specs.Asked.{Has as HasOther}
use Rattle.call_laws.specs.Entered.{Waits}
use Rattle.passing_laws.specs.Standing.{With, Stood}

-- the parameters of a function have what stands for the values of the arguments, and for the defaults of the others
pub record Passed (known : Known) (around : Around) (function : MeantFunction) (params : List Element) (args : List Meant) (g : Ghost) (xs : List Value) : Type 0 where
  pub all : List Meant
  pub are : parameters function.defaults args ≡ Some all
  pub hold : AllHold around.layout known g params xs all

-- What is given back goes on behind the operation, converted to what is known of the place: memory represents the heap of then, and the place
-- has what stands for the result. Of the first so many variables no other is changed.
pub record Resumes (known : Known) (around : Around) (place : Place) (p : LlProgram) (args : List (List ℕ)) (rest : List LlOp) (e : LlExit) (frames : List Frame) (core : Core) (below : ℕ) (frame : Frame) (later : Core) (g : Ghost) (x : Value) (v : Meant) (w : MeantWorld) : Type 0 where
  pub end : Core
  pub leads : Leads p args (items_in place.element) (Returning x (frame ∷ frames) later) [] (At rest e frames end)
  pub ghost : Ghost
  pub grown : Grown g ghost
  pub stands : Represents around.layout known ghost w.heap w.left end.blocks end.statics
  pub few : length end.blocks ≤ length later.blocks + tuples_in place.element
  pub memory : forgotten end ≡ forgotten (record later { blocks = end.blocks })
  pub holds : Holds around.layout known ghost place.element (read end.vars place.variable) v
  pub others : (n : ℕ) → n < below → n ≢ place.variable → read end.vars n ≡ read core.vars n
  pub room : length end.vars ≡ length core.vars
  pub function : end.function ≡ core.function
  pub block : end.block ≡ core.block

-- The graph of the function is called. At most so many blocks are made before. Whatever it gives then, where what was there stands for what it
-- did, goes on; in place of it stands another value where there is one.
pub record Called (blocks : ℕ) (known : Known) (around : Around) (place : Place) (p : LlProgram) (args : List (List ℕ)) (s : State) (rest : List LlOp) (e : LlExit) (frames : List Frame) (core : Core) (g : Ghost) (most below : ℕ) (w : MeantWorld) (f : ℕ) (vs : List Meant) (instead : Option Meant) (w' : MeantWorld) : Type 0 where
  pub number : ℕ
  pub graph : known.graph f ≡ Some number
  pub params : List Element
  pub takes : slice_get around.params f ≡ Some params
  pub xs : List Value
  pub frame : Frame
  pub end : Core
  pub leads : Leads p args most s [] (Calling number xs (frame ∷ frames) end)
  pub ghost : Ghost
  pub grown : Grown g ghost
  pub stands : Represents around.layout known ghost w'.heap w'.left end.blocks end.statics
  pub passed : (function : MeantFunction) → slice_get known.program.functions f ≡ Some function → Passed known around function params vs ghost xs
  pub few : length end.blocks ≤ length core.blocks + blocks
  pub memory : forgotten end ≡ forgotten (record core { blocks = end.blocks; statics = end.statics; steps = w'.left })
  pub out : w'.out ≡ w.out
  pub waits : Waits place rest e core below frame
  pub back : (later : Core) (g2 : Ghost) (x : Value) (v : Meant) (w2 : MeantWorld) → Grown ghost g2 → Represents around.layout known g2 w2.heap w2.left later.blocks later.statics → w2.left ≡ later.steps → Holds around.layout known g2 (slice_get around.results f) x v
      → Resumes known around place p args rest e frames core below frame later g2 x (unwrap_or instead v) w2

-- what calls no function follows as other operations do
abbrev pub FollowsOrCalls : ℕ → Known → Around → Place → LlProgram → List (List ℕ) → State → List LlOp → LlExit → List Frame → Core → Ghost → (ℕ → Value) → ℕ → ℕ → MeantWorld → Answer → Type 0
FollowsOrCalls blocks known around place p args s rest e frames core g raised most below w (Enters f vs instead w') = Called blocks known around place p args s rest e frames core g most below w f vs instead w'
FollowsOrCalls blocks known around place p args s rest e frames core g raised most below w (Gives v w') = Follows blocks known around place p args s rest e frames core g raised most below w (Gives v w')
FollowsOrCalls blocks known around place p args s rest e frames core g raised most below w (Throws exception w') = Follows blocks known around place p args s rest e frames core g raised most below w (Throws exception w')
FollowsOrCalls blocks known around place p args s rest e frames core g raised most below w (Fails name) = Follows blocks known around place p args s rest e frames core g raised most below w (Fails name)
FollowsOrCalls blocks known around place p args s rest e frames core g raised most below w Lacks = Follows blocks known around place p args s rest e frames core g raised most below w Lacks
FollowsOrCalls blocks known around place p args s rest e frames core g raised most below w Bad = Follows blocks known around place p args s rest e frames core g raised most below w Bad

abbrev pub Has : World → LlProgram → Numbers → (ℕ → Value) → Core → Ask → Found → Type 0
Has world = With (HasOther world) world.around.layout

-- What is written behind what was there asks for this, then for what stands in for missing arguments, and then for that; and it does what the
-- operation does where these failures are covered, up to the call of the function that it enters and from there on: in every program that
-- has what is asked for at its numbers, and where the constants among it stay, over every memory that represents the heap, whatever comes
-- behind and waits, of operands with values of this kind. At most so many blocks are made before, and so many references written besides.
pub record IsCalledWhere (Good : LlProgram → MeantWorld → List Meant → Type 0) (blocks more : ℕ) (world : World) (known : Known) (o : RowOp) (covers : Covers) (asks : List Ask) (constants : Found → Found) (later : List Ask) (place : Place) (args : List Operand) (w : Writing) : Type 0 where
  pub ops : List LlOp
  pub new : List LlType
  pub asked : (lower_class_op world o place args w).found ≡ all_asked later (constants (all_asked asks w.found))
  pub written : (lower_class_op world o place args w).body.ops ≡ w.body.ops ++ ops
  pub types : (lower_class_op world o place args w).body.types ≡ w.body.types ++ new
  pub follows : (p : LlProgram) (numbers : Numbers) (raised : ℕ → Value) → HasLayout p world.around.layout → Stood world.around.layout known (Has world p numbers raised) asks w.found → Stood world.around.layout known (Has world p numbers raised) later (constants (all_asked asks w.found))
      → AreKept p world.around.layout known (lower_class_op world o place args w).found
      → (arguments : List (List ℕ)) (rest : List LlOp) (e : LlExit) (frames : List Frame) (core : Core) (g : Ghost) (meant : MeantWorld) (vs : List Meant) → Represents world.around.layout known g meant.heap meant.left core.blocks core.statics → meant.left ≡ core.steps
      → length w.body.types + length new ≤ length core.vars → AllBelow (length w.body.types) args → Given known world.around g core args vs → Good p meant vs
      → FollowsOrCalls blocks known world.around place p arguments (At (ops ++ rest) e frames core) rest e frames core g raised (more + references meant.heap vs) (length w.body.types) meant (op known.program covers o vs meant)

-- whatever the values are
abbrev pub IsCalled : ℕ → ℕ → World → Known → RowOp → Covers → List Ask → (Found → Found) → List Ask → Place → List Operand → Writing → Type 0
IsCalled = IsCalledWhere (λ p. Any)
