-- When the low-level operations of an operation that may call a function do what it does.
use Rattle.std.specs.Prelude.{◌≡◌, ◌<◌, ◌≤◌, ℕ, ◌+◌, List, ◌++◌, length}
use Rattle.csub_tree.specs.State.{Value, Core}
use Rattle.ll_code.specs.State.{Frame, At}
use Rattle.ll_code.specs.declared.program.LlType.{LlType}
use Rattle.ll_code.specs.declared.program.LlOp.{LlOp}
use Rattle.ll_code.specs.declared.program.LlExit.{LlExit}
use Rattle.ll_code.specs.declared.program.LlProgram.{LlProgram}
use Rattle.ll_build.specs.declared.needs.Numbers.{Numbers}
use Rattle.rpy_meaning.specs.declared.row.Covers.{Covers}
use Rattle.rpy_meaning.specs.declared.row.RowOp.{RowOp}
use Rattle.rpy_meaning.specs.Operations.{op}
use Rattle.rpy_meaning.specs.World.{World as MeantWorld}
use Rattle.rpy_tree.specs.Value.{Value as Meant}
use Rattle.rtyper_data.specs.Seen.{Operand, Place, Writing}
use Rattle.rtyper_class.specs.Lowering.{lower_class_op}
use Rattle.rtyper_class.specs.Seen.{World}
use Rattle.lower_laws.specs.Asked.{Ask, all_asked}
use Rattle.lower_laws.specs.Values.{AllBelow}
use Rattle.object_laws.specs.Done.{Any, HasLayout, AllAsked, references}
use Rattle.object_laws.specs.Ghost.{Ghost}
use Rattle.object_laws.specs.Known.{Known}
use Rattle.object_laws.specs.Represents.{Represents}
use Rattle.object_laws.specs.Values.{Given}
use Rattle.class_laws.specs.Asked.{Has}
use Rattle.call_laws.specs.Entered.{FollowsOrEnters}

-- What is written behind what was there asks for this, and does what the operation does where these failures are covered, up to the call of
-- the function that it enters and from there on: in every program that has what is asked for at its numbers, over every memory that
-- represents the heap, whatever comes behind and waits, of operands with values of this kind. At most so many blocks are made before.
pub record IsEnteredWhere (Good : LlProgram → MeantWorld → List Meant → Type 0) (blocks : ℕ) (world : World) (known : Known) (o : RowOp) (covers : Covers) (asks : List Ask) (place : Place) (args : List Operand) (w : Writing) : Type 0 where
  pub ops : List LlOp
  pub new : List LlType
  pub asked : (lower_class_op world o place args w).found ≡ all_asked asks w.found
  pub written : (lower_class_op world o place args w).body.ops ≡ w.body.ops ++ ops
  pub types : (lower_class_op world o place args w).body.types ≡ w.body.types ++ new
  pub follows : (p : LlProgram) (numbers : Numbers) (raised : ℕ → Value) (arguments : List (List ℕ)) (rest : List LlOp) (e : LlExit) (frames : List Frame) (core : Core) (g : Ghost) (meant : MeantWorld) (vs : List Meant)
      → HasLayout p world.around.layout → AllAsked (Has world p numbers raised core) asks w.found → Represents world.around.layout known g meant.heap meant.left core.blocks core.statics → meant.left ≡ core.steps
      → length w.body.types + length new ≤ length core.vars → place.variable < length w.body.types → AllBelow (length w.body.types) args → Given known world.around g core args vs → Good p meant vs
      → FollowsOrEnters blocks known world.around place p arguments (At (ops ++ rest) e frames core) rest e frames core g raised (references meant.heap vs) (length w.body.types) meant (op known.program covers o vs meant)

-- whatever the values are
abbrev pub IsEntered : ℕ → World → Known → RowOp → Covers → List Ask → Place → List Operand → Writing → Type 0
IsEntered = IsEnteredWhere (λ p. Any)
