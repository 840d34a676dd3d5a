-- When the low-level operations of an operation on lists do what it does, where more references may be written on the way than the operands have.
use Rattle.std.specs.Prelude.{◌≡◌, ◌<◌, ◌≤◌, ℕ, ◌+◌, List, [], ◌∷◌, ◌++◌, length}
use Rattle.rpy_tree.specs.Value.{Value as Meant, Heap}
use Rattle.rpy_meaning.specs.declared.row.Covers.{Covers}
use Rattle.rpy_meaning.specs.declared.row.RowOp.{RowOp}
use Rattle.rpy_meaning.specs.Operations.{op}
use Rattle.rpy_meaning.specs.World.{World}
use Rattle.csub_tree.specs.State.{Value, Core}
use Rattle.ll_code.specs.State.{Frame, At}
use Rattle.ll_code.specs.declared.program.LlType.{LlType}
use Rattle.ll_code.specs.declared.program.LlOp.{LlOp}
use Rattle.ll_code.specs.declared.program.LlExit.{LlExit}
use Rattle.ll_code.specs.declared.program.LlProgram.{LlProgram}
use Rattle.ll_build.specs.declared.needs.Numbers.{Numbers}
use Rattle.rtyper_data.specs.Seen.{Around, Operand, Place, Writing}
use Rattle.rtyper_list.specs.Lowering.{lower_list_op}
use Rattle.lower_laws.specs.Asked.{Ask, all_asked}
use Rattle.lower_laws.specs.Values.{AllBelow}
use Rattle.list_laws.specs.Asked.{HasAll}
use Rattle.object_laws.specs.Done.{Follows, HasLayout, items_of, references}
use Rattle.object_laws.specs.Ghost.{Ghost}
use Rattle.object_laws.specs.Known.{Known}
use Rattle.object_laws.specs.Represents.{Represents}
use Rattle.object_laws.specs.Values.{Given}

-- What is written behind what was there asks for this, and does what the operation does: in every program that has it at its numbers, over
-- every memory that represents the heap, whatever comes behind and waits. At most two blocks are made, and so many references are written.
pub record IsDoneWithin (most : World → List Meant → ℕ) (known : Known) (around : Around) (o : RowOp) (covers : Covers) (asks : List Ask) (place : Place) (args : List Operand) (w : Writing) : Type 0 where
  pub ops : List LlOp
  pub new : List LlType
  pub asked : (lower_list_op around o place args w).found ≡ all_asked asks w.found
  pub written : (lower_list_op around o place args w).body.ops ≡ w.body.ops ++ ops
  pub types : (lower_list_op around o place args w).body.types ≡ w.body.types ++ new
  pub follows : (p : LlProgram) (numbers : Numbers) (raised : ℕ → Value) (arguments : List (List ℕ)) (rest : List LlOp) (e : LlExit) (frames : List Frame) (core : Core) (g : Ghost) (world : World) (vs : List Meant)
      → HasLayout p around.layout → HasAll p around.layout numbers raised core asks w.found → Represents around.layout known g world.heap world.left core.blocks core.statics → world.left ≡ core.steps
      → length w.body.types + length new ≤ length core.vars → place.variable < length w.body.types → AllBelow (length w.body.types) args → Given known around g core args vs
      → Follows 2 known around place p arguments (At (ops ++ rest) e frames core) rest e frames core g raised (most world vs) (length w.body.types) world (op known.program covers o vs world)

-- the items of the first operand
abbrev pub first_items : Heap → List Meant → ℕ
first_items heap [] = 0
first_items heap (v ∷ vs) = items_of heap v

-- its items are moved in their array, once that was made anew
abbrev pub references_moved : World → List Meant → ℕ
references_moved world vs = first_items world.heap vs + references world.heap vs

-- each item of a new list costs a step
abbrev pub references_paid : World → List Meant → ℕ
references_paid world vs = world.left + references world.heap vs
