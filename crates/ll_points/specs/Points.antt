-- Where pointers lead: a value of a pointer type leads to a block, or to a static, that begins with the struct of the type.
use Rattle.std.specs.Prelude.{◌≡◌, ℕ, true, List, [], ◌∷◌, slice_get, slice_index_or, Option, Some, None}
use Rattle.csub_tree.specs.State.{Value, Null, Ptr, Static, Block, Core}
use Rattle.csub_tree.specs.Layout.{begins_with}
use Rattle.csub_tree.specs.Statement.{read}
use Rattle.csub_tree.specs.declared.tree.CStatic.{CStatic}
use Rattle.ll_code.specs.declared.program.LlType.{LlType}
use Rattle.ll_code.specs.declared.program.LlType.TheVariants as type
use Rattle.ll_code.specs.declared.program.LlOp.{LlOp}
use Rattle.ll_code.specs.declared.program.LlExit.{LlExit}
use Rattle.ll_code.specs.declared.program.LlGraph.{LlGraph}
use Rattle.ll_code.specs.declared.program.LlProgram.{LlProgram}
use Rattle.ll_code.specs.State.{Frame, State, Calling, At, Returning, Throwing, Next, Goes, Puts, Tells, Ends, Sticks}
use Rattle.ll_code.specs.Machine.{shapes_of}
use Rattle.ll_code.specs.Meaning.{Ran, Ended, Unfinished}
use Rattle.ll_code.specs.Typed.{items_of, result_ok}
use Rattle.ll_laws.specs.Fields.{fields_of}
use Rattle.ll_points.specs.Agrees.{Slots, ops_agree, exit_agrees}

-- ---- values

-- a block or a static that the value leads to begins with this struct
abbrev pub Leads : LlProgram → List (Option Block) → List Block → ℕ → Value → Type 0
Leads p blocks statics n (Ptr b) = (block : Block) × (slice_index_or blocks b None ≡ Some block) × (begins_with (shapes_of p.structs) block.kind n ≡ true)
Leads p blocks statics n (Static s) = (block : Block) × (slice_get statics s ≡ Some block) × (begins_with (shapes_of p.structs) block.kind n ≡ true)
Leads p blocks statics n other = Unit {0}

abbrev pub LeadsBy : LlProgram → List (Option Block) → List Block → LlType → Value → Type 0
LeadsBy p blocks statics (type.Ptr n) value = Leads p blocks statics n value
LeadsBy p blocks statics other value = Unit {0}

abbrev pub AllLead : LlProgram → List (Option Block) → List Block → List LlType → List Value → Type 0
AllLead p blocks statics types values = (a : ℕ) (t : LlType) → slice_get types a ≡ Some t → LeadsBy p blocks statics t (read values a)

-- ---- memory

pub record BlockLeads (p : LlProgram) (blocks : List (Option Block)) (statics : List Block) (block : Block) : Type 0 where
  pub fields : AllLead p blocks statics (fields_of p.structs block.kind) block.fields
  pub items : (i : ℕ) (t : LlType) → items_of (slice_get p.structs block.kind) ≡ Some t → LeadsBy p blocks statics t (read block.items i)

-- each static of the program is there, of its struct
abbrev pub StaticsStand : LlProgram → List Block → Type 0
StaticsStand p statics = (s : ℕ) (static : CStatic) → slice_get p.statics s ≡ Some static → (block : Block) × (slice_get statics s ≡ Some block) × (block.kind ≡ static.kind)

-- what the slots hold leads where they point; slots that nothing sets hold NULL
abbrev pub SlotsLead : LlProgram → Slots → Core → Type 0
SlotsLead p None core = (core.exc_type ≡ Null) × (core.exc_value ≡ Null)
SlotsLead p (Some (k, v)) core = Leads p core.blocks core.statics k core.exc_type × Leads p core.blocks core.statics v core.exc_value

pub record MemoryLeads (p : LlProgram) (slots : Slots) (core : Core) : Type 0 where
  pub each : (b : ℕ) (block : Block) → slice_index_or core.blocks b None ≡ Some block → BlockLeads p core.blocks core.statics block
  pub each_static : (s : ℕ) (block : Block) → slice_get core.statics s ≡ Some block → BlockLeads p core.blocks core.statics block
  pub stand : StaticsStand p core.statics
  pub held : SlotsLead p slots core

-- ---- who waits

-- a call of this graph that waits for a result of this type
pub record WaitsFor (p : LlProgram) (slots : Slots) (core : Core) (result : LlType) (graph : LlGraph) (frame : Frame) : Type 0 where
  pub of : slice_get p.graphs frame.graph ≡ Some graph
  pub vars : AllLead p core.blocks core.statics graph.types frame.vars
  pub into : result_ok graph.types frame.into result ≡ true
  pub ops : ops_agree slots graph.types frame.ops ≡ true
  pub exit : exit_agrees frame.exit ≡ true

abbrev pub FramesLead : LlProgram → Slots → Core → LlType → List Frame → Type 0
FramesLead p slots core result [] = Unit {0}
FramesLead p slots core result (frame ∷ frames) = (graph : LlGraph) × WaitsFor p slots core result graph frame × FramesLead p slots core graph.result frames

-- ---- states

pub record CallingLeads (p : LlProgram) (slots : Slots) (f : ℕ) (values : List Value) (frames : List Frame) (core : Core) (graph : LlGraph) : Type 0 where
  pub of : slice_get p.graphs f ≡ Some graph
  pub given : AllLead p core.blocks core.statics graph.types values
  pub waiting : FramesLead p slots core graph.result frames
  pub memory : MemoryLeads p slots core

pub record AtLeads (p : LlProgram) (slots : Slots) (ops : List LlOp) (exit : LlExit) (frames : List Frame) (core : Core) (graph : LlGraph) : Type 0 where
  pub of : slice_get p.graphs core.function ≡ Some graph
  pub vars : AllLead p core.blocks core.statics graph.types core.vars
  pub left : ops_agree slots graph.types ops ≡ true
  pub end : exit_agrees exit ≡ true
  pub waiting : FramesLead p slots core graph.result frames
  pub memory : MemoryLeads p slots core

-- the graph that runs gives a value of its type
pub record ReturningLeads (p : LlProgram) (slots : Slots) (value : Value) (frames : List Frame) (core : Core) (graph : LlGraph) : Type 0 where
  pub of : slice_get p.graphs core.function ≡ Some graph
  pub leads : LeadsBy p core.blocks core.statics graph.result value
  pub waiting : FramesLead p slots core graph.result frames
  pub memory : MemoryLeads p slots core

-- nothing raises an exception
abbrev pub StateLeads : LlProgram → Slots → State → Type 0
StateLeads p slots (Calling f values frames core) = (graph : LlGraph) × CallingLeads p slots f values frames core graph
StateLeads p slots (At ops exit frames core) = (graph : LlGraph) × AtLeads p slots ops exit frames core graph
StateLeads p slots (Returning value frames core) = (graph : LlGraph) × ReturningLeads p slots value frames core graph
StateLeads p slots (Throwing value frames core) = ⊥

abbrev pub RanLeads : LlProgram → Slots → Ran → Type 0
RanLeads p slots (Unfinished state text events) = StateLeads p slots state
RanLeads p slots (Ended ending steps text events) = Unit {0}

-- what a step leads to
abbrev pub NextLeads : LlProgram → Slots → Next → Type 0
NextLeads p slots (Goes state) = StateLeads p slots state
NextLeads p slots (Puts byte state) = StateLeads p slots state
NextLeads p slots (Tells event state) = StateLeads p slots state
NextLeads p slots (Ends outcome core) = Unit {0}
NextLeads p slots (Sticks reason) = Unit {0}
