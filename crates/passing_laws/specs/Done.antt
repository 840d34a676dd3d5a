-- When the low-level operations of an operation do what it does, some of whose operands are converted on the way.
use Rattle.std.specs.Prelude.{◌≡◌, ◌<◌, ◌≤◌, ℕ, ◌+◌, List, [], ◌++◌, length}
use Rattle.csub_tree.specs.State.{Value, Core}
use Rattle.csub_tree.specs.Statement.{read}
use Rattle.ll_code.specs.State.{Frame, State, At}
use Rattle.ll_code.specs.declared.program.LlType.{LlType}
use Rattle.ll_code.specs.declared.program.LlOp.{LlOp}
use Rattle.ll_code.specs.declared.program.LlExit.{LlExit}
use Rattle.ll_code.specs.declared.program.LlProgram.{LlProgram}
use Rattle.ll_leads.specs.Memory.{forgotten}
use Rattle.ll_leads.specs.Path.{Leads}
use Rattle.ll_build.specs.declared.needs.Numbers.{Numbers}
use Rattle.rpy_tree.specs.Value.{Value as Meant, Heap}
use Rattle.rpy_meaning.specs.declared.row.Covers.{Covers}
use Rattle.rpy_meaning.specs.declared.row.RowOp.{RowOp}
use Rattle.rpy_meaning.specs.Operations.{op}
use Rattle.rpy_meaning.specs.World.{World}
use Rattle.rtyper_layout.specs.declared.layout.Layout.{Layout}
use Rattle.rtyper_data.specs.Seen.{Around, Operand, Place, Writing}
use Rattle.lower_laws.specs.Asked.{Ask, all_asked}
use Rattle.lower_laws.specs.Values.{AllBelow}
use Rattle.object_laws.specs.Done.{Any, Follows, HasLayout}
use Rattle.object_laws.specs.Ghost.{Ghost, Grown}
use Rattle.object_laws.specs.Known.{Known}
use Rattle.object_laws.specs.Represents.{Represents}
use Rattle.object_laws.specs.Values.{Given}
use Rattle.passing_laws.specs.Standing.{HasOne, Stood}

-- Some operations are done that keep the heap: what was there stands for what it was, and of the first so many variables none is changed. At
-- most so many blocks are made, and so many references written. From there on it is as is said.
pub record Behind (layout : Layout) (known : Known) (p : LlProgram) (arguments : List (List ℕ)) (s : State) (core : Core) (g : Ghost) (heap : Heap) (left below most count : ℕ) (Then : State → Core → Ghost → Type 0) : Type 0 where
  pub at : State
  pub mid : Core
  pub leads : Leads p arguments most s [] at
  pub ghost : Ghost
  pub grown : Grown g ghost
  pub stands : Represents layout known ghost heap left mid.blocks mid.statics
  pub few : length mid.blocks ≤ length core.blocks + count
  pub memory : forgotten mid ≡ forgotten (record core { blocks = mid.blocks })
  pub others : (n : ℕ) → n < below → read mid.vars n ≡ read core.vars n
  pub room : length mid.vars ≡ length core.vars
  pub function : mid.function ≡ core.function
  pub block : mid.block ≡ core.block
  pub then : Then at mid ghost

-- What is written behind what was there asks for this, and does what the operation does where these failures are covered, behind the
-- conversions of operands: in every program that has what is asked for at its numbers, over every memory that represents the heap,
-- whatever comes behind and waits, of operands with values of this kind. At most so many blocks are made, and so many references written; and so many more by the conversions.
pub record IsDoneBehindWhere (Good : World → List Meant → Type 0) (Has : HasOne) (most : World → List Meant → ℕ) (blocks more count : ℕ) (known : Known) (around : Around) (o : RowOp) (covers : Covers) (asks : List Ask) (lowered : Writing) (place : Place) (args : List Operand) (w : Writing) : Type 0 where
  pub ops : List LlOp
  pub new : List LlType
  pub asked : lowered.found ≡ all_asked asks w.found
  pub written : lowered.body.ops ≡ w.body.ops ++ ops
  pub types : lowered.body.types ≡ w.body.types ++ new
  pub follows : (p : LlProgram) (numbers : Numbers) (raised : ℕ → Value) → HasLayout p around.layout → Stood around.layout known (Has p numbers raised) asks w.found
      → (arguments : List (List ℕ)) (rest : List LlOp) (e : LlExit) (frames : List Frame) (core : Core) (g : Ghost) (world : World) (vs : List Meant) → Represents around.layout known g world.heap world.left core.blocks core.statics → world.left ≡ core.steps
      → length w.body.types + length new ≤ length core.vars → place.variable < length w.body.types → AllBelow (length w.body.types) args → Given known around g core args vs → Good world vs
      → Behind around.layout known p arguments (At (ops ++ rest) e frames core) core g world.heap world.left (length w.body.types) more count
      (λ at mid ghost. Follows blocks known around place p arguments at rest e frames mid ghost raised (most world vs) (length w.body.types) world (op known.program covers o vs world))

-- whatever the values are
abbrev pub IsDoneBehind : HasOne → (World → List Meant → ℕ) → ℕ → ℕ → ℕ → Known → Around → RowOp → Covers → List Ask → Writing → Place → List Operand → Writing → Type 0
IsDoneBehind = IsDoneBehindWhere Any
