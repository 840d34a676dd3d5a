-- When a state of a counted program stands for one of its program, with calls that wait, and what follows a step there.
use Rattle.std.specs.Prelude.{◌≡◌, ◌<◌, ℕ, ◌+◌, ◌-◌, true, false, List, [], ◌∷◌, ◌++◌, length, replicate, slice_get, Option, Some, None}
use Rattle.csub_tree.specs.State.{Value, Unset, Ptr, Block, Core, Made, Freed}
use Rattle.ll_code.specs.State.{Frame, State, Calling, At, Returning, Throwing, Next, Goes, Puts, Tells, Ends, Sticks}
use Rattle.ll_code.specs.Machine.{step}
use Rattle.ll_code.specs.Typed.{operation_ok, exit_ok, link_ok}
use Rattle.ll_code.specs.declared.program.LlType.{LlType}
use Rattle.ll_code.specs.declared.program.LlLink.{LlLink}
use Rattle.ll_code.specs.declared.program.LlOp.{LlOp}
use Rattle.ll_code.specs.declared.program.LlOp.TheVariants as op
use Rattle.ll_code.specs.declared.program.LlExit.{LlExit}
use Rattle.ll_code.specs.declared.program.LlBlock.{LlBlock}
use Rattle.ll_code.specs.declared.program.LlGraph.{LlGraph}
use Rattle.ll_code.specs.declared.program.LlProgram.{LlProgram}
use Rattle.ll_held.specs.Roots.{under_way}
use Rattle.ll_held.specs.Places.{PlacedAt}
use Rattle.ll_live.specs.Live.{among, reads, set_by, live}
use Rattle.refcount_transform.specs.Plan.{plan_of, root_of, reference_given}
use Rattle.refcount_transform.specs.Changes.{around_of, var_referred, touched, dead, ops_of}
use Rattle.refcount_transform.specs.Blocks.{behind_exit, blocks_of, exit_of}
use Rattle.refcount_transform.specs.Counted.{counted}
use Rattle.refcount_laws.specs.Made.{counts_of}
use Rattle.refcount_laws.specs.Ghost.{Ghost, memory, IsCounted}
use Rattle.refcount_laws.specs.Runs.{Leads, here}
use Rattle.refcount_laws.specs.Owned.{owned, hits_by, Roomy}
use Rattle.refcount_laws.specs.Matches.{PointsTo, Pointing, AllRoots, Stands}
use Rattle.refcount_laws.specs.Before.{NoBlocksIn}
use Rattle.refcount_laws.specs.Ready.{Ready}
use Rattle.refcount_laws.specs.Slots.{slot_hits, SlotLeads}
use Rattle.refcount_laws.specs.Leaves.{From, InputsAreApart, LinksPoint, ReturnPoints, AllPoint, given_to, is_explicit}

-- ---- what is owned besides the graph that runs

-- the references that the exception slots own
abbrev pub slots_own : LlProgram → Core → Value → ℕ
slots_own p core r = slot_hits (plan_of p) core.exc_type core.exc_value r

-- a call that waits, and the graph in which it stands
pub record Call : Type 0 where
  pub op : LlOp
  pub graph : LlGraph

-- what each call reads, and what is live behind it
abbrev pub waits_own : LlProgram → List Call → List Frame → Value → ℕ
waits_own p (call ∷ calls) (frame ∷ frames) r = owned (around_of (plan_of p) call.graph.types) (live (call.op ∷ frame.ops) frame.exit) frame.vars r + waits_own p calls frames r
waits_own p calls frames r = 0

abbrev pub beside : LlProgram → List Call → List Frame → Core → Value → ℕ
beside p calls frames core r = slots_own p core r + waits_own p calls frames r

-- ---- states

-- a frame of the counted program
pub record Waits (p : LlProgram) (call : Call) (frame other : Frame) : Type 0 where
  pub there : slice_get p.graphs frame.graph ≡ Some call.graph
  pub into : set_by call.op ≡ frame.into
  pub under : under_way p frame ≡ Some call.op
  pub next : ℕ
  pub ways : From (blocks_of (around_of (plan_of p) call.graph.types) call.graph.blocks) next (behind_exit (around_of (plan_of p) call.graph.types) frame.exit)
  pub at : ℕ
  pub is : other
      ≡ record frame { at = at; ops = dead (around_of (plan_of p) call.graph.types) (touched call.op) frame.ops frame.exit (ops_of (around_of (plan_of p) call.graph.types) frame.ops frame.exit); exit = exit_of (around_of (plan_of p) call.graph.types) next frame.exit }

abbrev pub AllWait : LlProgram → List Call → List Frame → List Frame → Type 0
AllWait p [] [] [] = Unit {0}
AllWait p (call ∷ calls) (frame ∷ frames) (other ∷ others) = Waits p call frame other × AllWait p calls frames others
AllWait p calls frames others = ⊥

-- in a block
pub record BothAt (p : LlProgram) (calls : List Call) (others : List Frame) (ops : List LlOp) (exit : LlExit) (frames : List Frame) (core : Core) (s : State) (g : Ghost) (h : List (Option Block)) : Type 0 where
  pub graph : LlGraph
  pub there : slice_get p.graphs core.function ≡ Some graph
  pub next : ℕ
  pub ways : From (blocks_of (around_of (plan_of p) graph.types) graph.blocks) next (behind_exit (around_of (plan_of p) graph.types) exit)
  pub waits : AllWait p calls frames others
  pub qcore : Core
  pub at : ℕ
  pub stands : Stands p core qcore g h
  pub counts : IsCounted (counted p) (counts_of (plan_of p)) g (λ r. owned (around_of (plan_of p) graph.types) (live ops exit) core.vars r + beside p calls frames core r)
  pub is : s ≡ At (ops_of (around_of (plan_of p) graph.types) ops exit) (exit_of (around_of (plan_of p) graph.types) next exit) others (here qcore core.function core.block at core.vars h (memory g))

-- at a call
pub record BothCalling (p : LlProgram) (calls : List Call) (others : List Frame) (f : ℕ) (values : List Value) (frames : List Frame) (core : Core) (s : State) (g : Ghost) (h : List (Option Block)) : Type 0 where
  pub graph : LlGraph
  pub there : slice_get p.graphs f ≡ Some graph
  pub waits : AllWait p calls frames others
  pub qcore : Core
  pub stands : Stands p core qcore g h
  pub counts : IsCounted (counted p) (counts_of (plan_of p)) g (λ r. given_to (around_of (plan_of p) graph.types) 0 values r + beside p calls frames core r)
  pub is : s ≡ Calling f values others (record qcore { blocks = h; statics = memory g })

-- on the way back
pub record BothReturning (p : LlProgram) (calls : List Call) (others : List Frame) (value : Value) (frames : List Frame) (core : Core) (s : State) (g : Ghost) (h : List (Option Block)) : Type 0 where
  pub graph : LlGraph
  pub there : slice_get p.graphs core.function ≡ Some graph
  pub waits : AllWait p calls frames others
  pub qcore : Core
  pub stands : Stands p core qcore g h
  pub counts : IsCounted (counted p) (counts_of (plan_of p)) g (λ r. hits_by (reference_given (plan_of p).counted (Some graph.result)) value r + beside p calls frames core r)
  pub is : s ≡ Returning value others (record qcore { blocks = h; statics = memory g })

abbrev pub StandsFor : LlProgram → List Call → List Frame → State → State → Ghost → List (Option Block) → Type 0
StandsFor p calls others (At ops exit frames core) s g h = BothAt p calls others ops exit frames core s g h
StandsFor p calls others (Calling f values frames core) s g h = BothCalling p calls others f values frames core s g h
StandsFor p calls others (Returning value frames core) s g h = BothReturning p calls others value frames core s g h
StandsFor p calls others (Throwing value frames core) s g h = ⊥

-- it comes to a state that stands for this one
pub record ComesFor (p : LlProgram) (args : List (List ℕ)) (from to : State) : Type 0 where
  pub calls : List Call
  pub others : List Frame
  pub state : State
  pub g : Ghost
  pub h : List (Option Block)
  pub leads : Leads (counted p) args from state
  pub stands : StandsFor p calls others to state g h

-- a step that the program takes, in the counted one, which takes a step of its own at least: the same output, and the same block made, with its count and release; the same ending, with as many steps left
abbrev pub NextStands : LlProgram → List (List ℕ) → State → Next → Type 0
NextStands p args s (Goes to) = (x : ComesFor p args s to) × (0 < x.leads.count)
NextStands p args s (Puts byte to) = (t : State) × (later : State) × Leads (counted p) args s t × (step (counted p) args t ≡ Puts byte later) × ComesFor p args later to
NextStands p args s (Tells (Made number kind cells) to) = (t : State) × (later : State) × Leads (counted p) args s t × (step (counted p) args t ≡ Tells (Made number kind (cells + 2)) later) × ComesFor p args later to
NextStands p args s (Tells (Freed number) to) = ⊥
NextStands p args s (Ends outcome core) = (t : State) × (end : Core) × Leads (counted p) args s t × (step (counted p) args t ≡ Ends outcome end) × (end.steps ≡ core.steps)
NextStands p args s (Sticks reason) = Unit {0}

-- ---- what is asked of a state of the program

-- what is asked by the operation
abbrev pub ReadyBy : LlProgram → LlGraph → (Value → ℕ) → Core → Ghost → LlOp → Type 0
ReadyBy p graph own core g (op.Call into f xs) = AllPoint p graph.types core xs × Roomy g (length xs)
ReadyBy p graph own core g (op.CallFn into result params v xs) = AllPoint p graph.types core xs × Roomy g (length xs)
ReadyBy p graph own core g (op.ExcSet a b) =
    (var_referred (around_of (plan_of p) graph.types) a ≡ (plan_of p).slots.kind) × (var_referred (around_of (plan_of p) graph.types) b ≡ (plan_of p).slots.value)
    × SlotLeads p core (plan_of p).slots.kind core.exc_type × SlotLeads p core (plan_of p).slots.value core.exc_value × Roomy g 2
ReadyBy p graph own core g op.ExcClear = SlotLeads p core (plan_of p).slots.kind core.exc_type × SlotLeads p core (plan_of p).slots.value core.exc_value
ReadyBy p graph own core g o = Ready p graph.types own core o

-- before an operation
pub record ReadyAt (p : LlProgram) (graph : LlGraph) (own : Value → ℕ) (o : LlOp) (ops : List LlOp) (exit : LlExit) (core : Core) (g : Ghost) : Type 0 where
  pub placed : PlacedAt p core.function core.block core.at (o ∷ ops) exit
  pub roots : AllRoots p graph.types
  pub fits : length core.vars ≡ length graph.types
  pub pointing : Pointing p graph.types core.blocks core.statics (live (o ∷ ops) exit) core.vars
  pub apart : NoBlocksIn core.statics
  pub room : Roomy g 1
  pub ok : operation_ok p graph.types o ≡ true
  pub ready : ReadyBy p graph own core g o

-- before an exit
pub record ReadyToLeave (p : LlProgram) (graph : LlGraph) (exit : LlExit) (core : Core) (g : Ghost) : Type 0 where
  pub roots : AllRoots p graph.types
  pub fits : length core.vars ≡ length graph.types
  pub pointing : Pointing p graph.types core.blocks core.statics (live [] exit) core.vars
  pub apart : NoBlocksIn core.statics
  pub inputs : InputsAreApart graph
  pub links : LinksPoint p graph core
  pub returns : ReturnPoints p graph core exit
  pub lead : (n : ℕ) → reference_given (plan_of p).counted (Some graph.result) ≡ Some n → root_of (plan_of p) n ≡ n
  pub room : (link : LlLink) → link_ok p graph link ≡ true → Roomy g (length link.args + 0)
  pub one : Roomy g 1
  pub explicit : is_explicit exit ≡ true
  pub ok : exit_ok p graph exit ≡ true

-- before a graph is entered
pub record ReadyToEnter (p : LlProgram) (graph : LlGraph) (values : List Value) (core : Core) : Type 0 where
  pub roots : AllRoots p graph.types
  pub block : LlBlock
  pub first : slice_get graph.blocks 0 ≡ Some block
  pub covers : (i : ℕ) → i < length values → among i block.inputs ≡ true
  pub fits : length (values ++ replicate (length graph.types - length graph.params) Unset) ≡ length graph.types
  pub pointing : Pointing p graph.types core.blocks core.statics (λ w. among w block.inputs) (values ++ replicate (length graph.types - length graph.params) Unset)

-- before a call goes on that waited
pub record ReadyToGoOn (p : LlProgram) (result : LlType) (call : Call) (value : Value) (frame : Frame) (core : Core) : Type 0 where
  pub roots : AllRoots p call.graph.types
  pub fits : length frame.vars ≡ length call.graph.types
  pub pointing : Pointing p call.graph.types core.blocks core.statics (live (call.op ∷ frame.ops) frame.exit) frame.vars
  pub typed : (a : ℕ) → frame.into ≡ Some a → slice_get call.graph.types a ≡ Some result
  pub dropped : frame.into ≡ None → reference_given (plan_of p).counted (Some result) ≡ None
  pub unread : (a n : ℕ) → frame.into ≡ Some a → var_referred (around_of (plan_of p) call.graph.types) a ≡ Some n → among a (reads call.op) ≡ false
  pub points : (n : ℕ) → reference_given (plan_of p).counted (Some result) ≡ Some n → PointsTo p core.blocks core.statics n value
  pub refers : (m : ℕ) → value ≡ Ptr m → (n : ℕ) × (reference_given (plan_of p).counted (Some result) ≡ Some n)

abbrev pub ReadyFor : LlProgram → List Call → State → Ghost → Type 0
ReadyFor p calls (At (o ∷ ops) exit frames core) g = (graph : LlGraph) → slice_get p.graphs core.function ≡ Some graph → ReadyAt p graph (beside p calls frames core) o ops exit core g
ReadyFor p calls (At [] exit frames core) g = (graph : LlGraph) → slice_get p.graphs core.function ≡ Some graph → ReadyToLeave p graph exit core g
ReadyFor p calls (Calling f values frames core) g = (graph : LlGraph) → slice_get p.graphs f ≡ Some graph → ReadyToEnter p graph values core
ReadyFor p (call ∷ calls) (Returning value (frame ∷ frames) core) g = (graph : LlGraph) → slice_get p.graphs core.function ≡ Some graph → ReadyToGoOn p graph.result call value frame core
ReadyFor p calls (Returning value frames core) g = Unit {0}
ReadyFor p calls (Throwing value frames core) g = Unit {0}
