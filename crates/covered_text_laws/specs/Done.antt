-- When the low-level operations of an operation do what it does, whatever it asks for, helpers that call others and raise among it.
use Rattle.std.specs.Prelude.{◌≡◌, ◌<◌, ◌≤◌, ℕ, ◌+◌, true, List, ◌++◌, length}
use Rattle.csub_tree.specs.State.{Value, Core}
use Rattle.ll_code.specs.State.{Frame, At}
use Rattle.ll_code.specs.declared.program.LlType.{LlType}
use Rattle.ll_code.specs.declared.program.LlOp.{LlOp}
use Rattle.ll_code.specs.declared.program.LlExit.{LlExit}
use Rattle.ll_code.specs.declared.program.LlProgram.{LlProgram}
use Rattle.ll_build.specs.declared.needs.Numbers.{Numbers}
use Rattle.rpy_tree.specs.Value.{Value as Meant}
use Rattle.rpy_meaning.specs.declared.row.Covers.{Covers}
use Rattle.rpy_meaning.specs.declared.row.RowOp.{RowOp}
use Rattle.rpy_meaning.specs.Operations.{op}
use Rattle.rpy_meaning.specs.Tree.{Program}
use Rattle.rpy_meaning.specs.World.{World}
use Rattle.rtyper_layout.specs.Kinds.{kind_seen}
use Rattle.rtyper_data.specs.Seen.{Around, Operand, Place, Writing}
use Rattle.rtyper_op.specs.Lowering.{lower_op}
use Rattle.lower_laws.specs.Asked.{Ask, all_asked}
use Rattle.lower_laws.specs.Done.{Follows, HasStructs}
use Rattle.lower_laws.specs.Values.{AllBelow, Given, is_simple}
use Rattle.object_laws.specs.Bridged.{AreSimple, OnlyPays}
use Rattle.object_laws.specs.Done as objects
use Rattle.object_laws.specs.Done.{AllAsked}
use Rattle.object_laws.specs.Known.{Known}
use Rattle.covered_text_laws.specs.Asked.{Has}

-- What is written behind what was there asks for this, and does what the operation does where these failures are covered: in every
-- program that has it at its numbers, whatever comes behind and waits.
pub record IsDone (around : Around) (o : RowOp) (covers : Covers) (asks : List Ask) (place : Place) (args : List Operand) (w : Writing) : Type 0 where
  pub ops : List LlOp
  pub new : List LlType
  pub asked : (lower_op around o place args w).found ≡ all_asked asks w.found
  pub written : (lower_op around o place args w).body.ops ≡ w.body.ops ++ ops
  pub types : (lower_op around o place args w).body.types ≡ w.body.types ++ new
  pub follows : (program : Program) (p : LlProgram) (numbers : Numbers) (raised : ℕ → Value) (arguments : List (List ℕ)) (rest : List LlOp) (e : LlExit) (frames : List Frame) (core : Core) (world : World) (vs : List Meant)
      → HasStructs p around.layout → AllAsked (Has p around.layout numbers raised core) asks w.found → world.left ≡ core.steps
      → length w.body.types + length new ≤ length core.vars → place.variable < length w.body.types → AllBelow (length w.body.types) args → Given around core args vs
      → Follows around place p arguments (At (ops ++ rest) e frames core) rest e frames core raised (length args) (length w.body.types) world (op program covers o vs world)

-- Such an operation on words, truth values, bytes, strings and `None` is done over the relation of objects.
abbrev pub CoveredIsDone : Type 0
CoveredIsDone = (known : Known) (around : Around) (o : RowOp) (covers : Covers) (asks : List Ask) (place : Place) (args : List Operand) (w : Writing)
    → IsDone around o covers asks place args w → AreSimple args → is_simple (kind_seen place.element) ≡ true → OnlyPays known o covers
    → objects.IsDone (λ p. Has p around.layout) 1 known around o covers asks (lower_op around o place args w) place args w
