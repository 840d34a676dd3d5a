-- When the low-level operations of an operation whose operands are converted do what it does: before the operation throws, or lacks its
-- steps, blocks may have been made.
use Rattle.std.specs.Prelude.{◌≡◌, ◌<◌, ◌≤◌, ℕ, ◌+◌, List, [], ◌∷◌, ◌++◌, length}
use Rattle.rpy_base.specs.declared.outcome.FailName.{FailName}
use Rattle.rpy_base.specs.declared.outcome.Outcome.TheVariants.{Running, Failed}
use Rattle.rpy_tree.specs.Value.{Value as Meant}
use Rattle.rpy_meaning.specs.declared.row.Covers.{Covers}
use Rattle.rpy_meaning.specs.declared.row.RowOp.{RowOp}
use Rattle.rpy_meaning.specs.Operations.{op}
use Rattle.rpy_meaning.specs.World.{World, Answer, Gives, Throws, Fails, Lacks, Enters, Bad}
use Rattle.csub_tree.specs.State.{Value, Core}
use Rattle.csub_tree.specs.Statement.{read}
use Rattle.ll_code.specs.State.{Frame, State, At, Throwing, Ends}
use Rattle.ll_held.specs.Roots.{core_of}
use Rattle.ll_code.specs.Machine.{step}
use Rattle.ll_code.specs.declared.program.LlType.{LlType}
use Rattle.ll_code.specs.declared.program.LlOp.{LlOp}
use Rattle.ll_code.specs.declared.program.LlExit.{LlExit}
use Rattle.ll_code.specs.declared.program.LlProgram.{LlProgram}
use Rattle.ll_leads.specs.Memory.{forgotten}
use Rattle.ll_leads.specs.Path.{Leads}
use Rattle.ll_build.specs.declared.needs.Numbers.{Numbers}
use Rattle.rtyper_data.specs.Seen.{Around, Operand, Place, Writing}
use Rattle.lower_laws.specs.Asked.{Ask, all_asked}
use Rattle.lower_laws.specs.Values.{AllBelow}
use Rattle.object_laws.specs.Done.{Came, HasLayout, references}
use Rattle.object_laws.specs.Ghost.{Ghost, Grown}
use Rattle.object_laws.specs.Known.{Known}
use Rattle.object_laws.specs.Represents.{Represents}
use Rattle.object_laws.specs.Values.{Given}
use Rattle.dict_conversion_laws.specs.Asked.{HasAll}

module _ (blocks : ℕ) (known : Known) (around : Around) (p : LlProgram) (args : List (List ℕ)) (s : State) (core : Core) (g : Ghost) (most : ℕ) where
  -- What throws leads to where the exception comes out of the block, over memory that represents the heap. At most so many blocks are made.
  pub record Threw (rest : List LlOp) (e : LlExit) (frames : List Frame) (x : Value) (below : ℕ) (w w' : World) : Type 0 where
    pub frame : Frame
    pub end : Core
    pub leads : Leads p args most s [] (Throwing x (frame ∷ frames) end)
    pub ghost : Ghost
    pub grown : Grown g ghost
    pub stands : Represents around.layout known ghost w'.heap w'.left end.blocks end.statics
    pub few : length end.blocks ≤ length core.blocks + blocks
    pub memory : forgotten end ≡ forgotten (record core { blocks = end.blocks })
    pub left : List LlOp
    pub ops : frame.ops ≡ left ++ rest
    pub exit : frame.exit ≡ e
    pub others : (n : ℕ) → n < below → read frame.vars n ≡ read core.vars n
    pub room : length frame.vars ≡ length core.vars
    pub function : frame.graph ≡ core.function
    pub block : frame.block ≡ core.block
    pub same : w' ≡ w

  -- the run fails so
  pub record FailedAs (name : FailName) : Type 0 where
    pub last : State
    pub leads : Leads p args most s [] last
    pub ends : step p args last ≡ Ends (Failed name) (core_of last)

  -- the steps do not suffice: the run ends over memory that represents the heap
  pub record Lacked (w : World) : Type 0 where
    pub last : State
    pub leads : Leads p args most s [] last
    pub ends : step p args last ≡ Ends Running (core_of last)
    pub ghost : Ghost
    pub grown : Grown g ghost
    pub stands : Represents around.layout known ghost w.heap w.left (core_of last).blocks core.statics
    pub few : length (core_of last).blocks ≤ length core.blocks + blocks

-- `raised` gives what stands for the one instance of a builtin exception class
abbrev pub Follows : ℕ → Known → Around → Place → LlProgram → List (List ℕ) → State → List LlOp → LlExit → List Frame → Core → Ghost → (ℕ → Value) → ℕ → ℕ → World → Answer → Type 0
Follows blocks known around place p args s rest e frames core g raised most below w (Gives v w') = Came blocks known around place p args s rest e frames core g most below w v w'
Follows blocks known around place p args s rest e frames core g raised most below w (Throws exception w') = Threw blocks known around p args s core g most rest e frames (raised exception) below w w'
Follows blocks known around place p args s rest e frames core g raised most below w (Fails name) = FailedAs blocks known around p args s core g most name
Follows blocks known around place p args s rest e frames core g raised most below w Lacks = Lacked blocks known around p args s core g most w
Follows blocks known around place p args s rest e frames core g raised most below w (Enters function values instead w') = ⊥
Follows blocks known around place p args s rest e frames core g raised most below w Bad = Unit {0}

-- What is written behind what was there asks for this, and does what the operation does where these failures are covered: in every
-- program that has it at its numbers, over every memory that represents the heap, whatever comes behind and waits, of operands with values
-- of this kind in this world. At most so many blocks are made, and so many references more than the operation may write are written.
pub record IsDoneWhere (Good : World → List Meant → Type 0) (blocks more : ℕ) (known : Known) (around : Around) (o : RowOp) (covers : Covers) (asks : List Ask) (lowered : Writing) (place : Place) (args : List Operand) (w : Writing) : Type 0 where
  pub ops : List LlOp
  pub new : List LlType
  pub asked : lowered.found ≡ all_asked asks w.found
  pub written : lowered.body.ops ≡ w.body.ops ++ ops
  pub types : lowered.body.types ≡ w.body.types ++ new
  pub follows : (p : LlProgram) (numbers : Numbers) (raised : ℕ → Value) (arguments : List (List ℕ)) (rest : List LlOp) (e : LlExit) (frames : List Frame) (core : Core) (g : Ghost) (world : World) (vs : List Meant)
      → HasLayout p around.layout → HasAll p around.layout numbers raised core asks w.found → Represents around.layout known g world.heap world.left core.blocks core.statics → world.left ≡ core.steps
      → length w.body.types + length new ≤ length core.vars → place.variable < length w.body.types → AllBelow (length w.body.types) args → Given known around g core args vs → Good world vs
      → Follows blocks known around place p arguments (At (ops ++ rest) e frames core) rest e frames core g raised (references world.heap vs + more) (length w.body.types) world (op known.program covers o vs world)
