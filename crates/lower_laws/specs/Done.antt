-- When the low-level operations of an operation do what it does, whatever it asks for.
use Rattle.std.specs.Prelude.{◌≡◌, ◌≢◌, ◌<◌, ◌≤◌, ℕ, ◌+◌, true, List, [], ◌∷◌, ◌++◌, length, map, slice_get, Some, None}
use Rattle.rpy_tree.specs.Value.{Value as Meant}
use Rattle.rpy_meaning.specs.declared.row.Covers.{Covers}
use Rattle.rpy_meaning.specs.declared.row.RowOp.{RowOp}
use Rattle.rpy_meaning.specs.Operations.{op}
use Rattle.rpy_meaning.specs.Tree.{Program}
use Rattle.rpy_meaning.specs.World.{World, Answer, Gives, Throws, Fails, Lacks, Enters, Bad}
use Rattle.csub_tree.specs.State.{Value, Block, Core}
use Rattle.csub_tree.specs.Layout.{shape_at, shape_over}
use Rattle.csub_tree.specs.Statement.{read}
use Rattle.ll_code.specs.State.{Frame, State, At, Throwing}
use Rattle.ll_code.specs.Machine.{shapes_of}
use Rattle.ll_code.specs.declared.program.LlType.{LlType}
use Rattle.ll_code.specs.declared.program.LlOp.{LlOp}
use Rattle.ll_code.specs.declared.program.LlExit.{LlExit}
use Rattle.ll_code.specs.declared.program.LlProgram.{LlProgram}
use Rattle.ll_leads.specs.Memory.{forgotten}
use Rattle.ll_leads.specs.Path.{Leads}
use Rattle.ll_build.specs.declared.needs.Numbers.{Numbers}
use Rattle.ll_texts.specs.Follows.{FailedAs}
use Rattle.ll_texts.specs.Texts.{HasText}
use Rattle.rtyper_layout.specs.declared.layout.Layout.{Layout}
use Rattle.rtyper_layout.specs.Layout.{is_tuple, fields_in}
use Rattle.rtyper_op.specs.Lowering.{lower_op}
use Rattle.rtyper_data.specs.Seen.{Around, Operand, Place, Writing}
use Rattle.lower_laws.specs.Asked.{Ask, all_asked, HasAll}
use Rattle.lower_laws.specs.Helped.{Lacked}
use Rattle.lower_laws.specs.Values.{Holds, Given, AllBelow}

-- The operations are done, and what comes behind them is next. A variable has what stands for the result; of the first so many no other
-- is changed. At most one block is made, and no more references are written into it than there are operands; the steps that are left,
-- and what was put, are those of the operation.
pub record Came (around : Around) (place : Place) (p : LlProgram) (args : List (List ℕ)) (s : State) (rest : List LlOp) (e : LlExit) (frames : List Frame) (core : Core) (most below : ℕ) (w : World) (v : Meant) (w' : World) : Type 0 where
  pub end : Core
  pub text : List ℕ
  pub leads : Leads p args most s text (At rest e frames end)
  pub made : List Block
  pub few : length made ≤ 1
  pub memory : forgotten end ≡ forgotten (record core { blocks = core.blocks ++ map Some made; steps = w'.left })
  pub holds : Holds around.layout end.blocks end.statics place.element (read end.vars place.variable) v
  pub others : (n : ℕ) → n < below → n ≢ place.variable → read end.vars n ≡ read core.vars n
  pub room : length end.vars ≡ length core.vars
  pub function : end.function ≡ core.function
  pub block : end.block ≡ core.block
  pub out : w'.out ≡ w.out ++ text
  pub heap : w'.heap ≡ w.heap

-- The exception comes out of a call in the block: what is left behind that waits. Nothing was made or put, and no variable is changed.
pub record Threw (p : LlProgram) (args : List (List ℕ)) (s : State) (rest : List LlOp) (e : LlExit) (frames : List Frame) (core : Core) (x : Value) (below : ℕ) (w w' : World) : Type 0 where
  pub frame : Frame
  pub end : Core
  pub leads : Leads p args 0 s [] (Throwing x (frame ∷ frames) end)
  pub memory : forgotten end ≡ forgotten core
  pub left : List LlOp
  pub ops : frame.ops ≡ left ++ rest
  pub exit : frame.exit ≡ e
  pub others : (n : ℕ) → n < below → read frame.vars n ≡ read core.vars n
  pub room : length frame.vars ≡ length core.vars
  pub function : frame.graph ≡ core.function
  pub block : frame.block ≡ core.block
  pub same : w' ≡ w

-- `raised` gives what stands for the one instance of a builtin exception class
abbrev pub Follows : Around → Place → LlProgram → List (List ℕ) → State → List LlOp → LlExit → List Frame → Core → (ℕ → Value) → ℕ → ℕ → World → Answer → Type 0
Follows around place p args s rest e frames core raised most below w (Gives v w') = Came around place p args s rest e frames core most below w v w'
Follows around place p args s rest e frames core raised most below w (Throws exception w') = Threw p args s rest e frames core (raised exception) below w w'
Follows around place p args s rest e frames core raised most below w (Fails name) = FailedAs p args s name
Follows around place p args s rest e frames core raised most below w Lacks = Lacked p args s core
Follows around place p args s rest e frames core raised most below w (Enters function values instead w') = ⊥
Follows around place p args s rest e frames core raised most below w Bad = Unit {0}

-- the tuples of the layout are structs of the program, without a base
abbrev pub HasTuples : LlProgram → Layout → Type 0
HasTuples p layout = (n : ℕ) → is_tuple layout n ≡ true → shape_at (shapes_of p.structs) n ≡ shape_over n (length (fields_in (slice_get layout.structs n))) None

-- the structs that are asked for: that of strings, and those of tuples
pub record HasStructs (p : LlProgram) (layout : Layout) : Type 0 where
  pub text : HasText p
  pub tuples : HasTuples p layout

-- What is written behind what was there asks for this, and does what the operation does where these failures are covered: in every
-- program that has it at its numbers, whatever comes behind and waits, of operands with values of this kind.
pub record IsDoneWhere (Good : List Meant → Type 0) (around : Around) (o : RowOp) (covers : Covers) (asks : List Ask) (place : Place) (args : List Operand) (w : Writing) : Type 0 where
  pub ops : List LlOp
  pub new : List LlType
  pub asked : (lower_op around o place args w).found ≡ all_asked asks w.found
  pub written : (lower_op around o place args w).body.ops ≡ w.body.ops ++ ops
  pub types : (lower_op around o place args w).body.types ≡ w.body.types ++ new
  pub follows : (program : Program) (p : LlProgram) (numbers : Numbers) (raised : ℕ → Value) (arguments : List (List ℕ)) (rest : List LlOp) (e : LlExit) (frames : List Frame) (core : Core) (world : World) (vs : List Meant)
      → HasStructs p around.layout → HasAll p around.layout numbers raised core asks w.found → world.left ≡ core.steps
      → length w.body.types + length new ≤ length core.vars → place.variable < length w.body.types → AllBelow (length w.body.types) args → Given around core args vs → Good vs
      → Follows around place p arguments (At (ops ++ rest) e frames core) rest e frames core raised (length args) (length w.body.types) world (op program covers o vs world)

abbrev pub Any : List Meant → Type 0
Any vs = Unit {0}

-- whatever the values are
abbrev pub IsDone : Around → RowOp → Covers → List Ask → Place → List Operand → Writing → Type 0
IsDone = IsDoneWhere Any
