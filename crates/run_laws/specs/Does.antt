-- When what is left of a low-level block does what is left of a block of a flow graph.
use Rattle.std.specs.Prelude.{◌≡◌, ℕ, Bool, true, false, List, [], ◌∷◌, ◌++◌, slice_get, Option, Some, unwrap_or}
use Rattle.ann_element.specs.declared.element.Element.{Element}
use Rattle.rpy_base.specs.declared.outcome.Outcome.{Outcome}
use Rattle.rpy_base.specs.declared.outcome.Outcome.TheVariants.{Running, Failed}
use Rattle.csub_tree.specs.State.{Value, Block as Memory, Core}
use Rattle.ll_code.specs.State.{Frame, State, Calling, At, Returning, Throwing, Ends}
use Rattle.ll_code.specs.Machine.{step}
use Rattle.ll_code.specs.declared.program.LlOp.{LlOp}
use Rattle.ll_code.specs.declared.program.LlExit.{LlExit}
use Rattle.ll_code.specs.declared.program.LlBlock.{LlBlock}
use Rattle.rpy_tree.specs.Value.{Value as Meant, Ref}
use Rattle.rpy_meaning.specs.Tree.{Function}
use Rattle.rpy_meaning.specs.World.{World, Answer, Gives, Throws, Fails, Lacks, Enters, Bad}
use Rattle.rpy_meaning.specs.Evaluation.{parameters}
use Rattle.rpy_meaning.specs.Operations.{op}
use Rattle.flow_graph.specs.declared.graph.Block.{Block}
use Rattle.flow_graph.specs.declared.graph.Exit.{Exit}
use Rattle.flow_graph.specs.declared.graph.Exit.TheVariants as exit
use Rattle.flow_graph.specs.declared.graph.Link.{Link}
use Rattle.flow_graph.specs.declared.graph.Op.{Op}
use Rattle.flow_meaning.specs.Machine as flow
use Rattle.flow_runs.specs.Good.{IsGood, TestIsTold}
use Rattle.flow_meaning.specs.Machine.{Bound, Goes, look, bind, passed, block_in, values_of, truth_of}
use Rattle.object_laws.specs.Ghost.{Ghost, Grown}
use Rattle.object_laws.specs.Represents.{Represents}
use Rattle.object_laws.specs.Values.{Holds, AllHold}
use Rattle.run_laws.specs.Points.{Setting, is_keyed, truth_known, IsAt, Way, BlockAt, IsException}

module _ (s : Setting) where
  -- ---- what comes next

  -- The run goes on at a block of the graph, with these variables. The steps left and the heap are as they were.
  pub record Begins (f n : ℕ) (b : Block) (env : List Bound) (w : World) (g : Ghost) (frames : List Frame) (from : State) : Type 0 where
    pub low : LlBlock
    pub block : BlockAt s f n b low
    pub end : Core
    pub way : Way s from [] (At low.ops low.exit frames end)
    pub ghost : Ghost
    pub grown : Grown g ghost
    pub at : IsAt s ghost f b.inputs env w end

  -- an exception leaves the graph
  pub record Leaves (r : ℕ) (w : World) (g : Ghost) (frames : List Frame) (from : State) : Type 0 where
    pub x : Value
    pub end : Core
    pub way : Way s from [] (Throwing x frames end)
    pub ghost : Ghost
    pub grown : Grown g ghost
    pub is : IsException s ghost r x
    pub stands : Represents s.around.layout s.known ghost w.heap w.left end.blocks end.statics
    pub left : w.left ≡ end.steps

  -- Where an exception that comes out of a block goes: to the block of a handler, out of the graph, or to a block that does nothing but raise it,
  -- where it has left the low-level graph by then.
  pub data Thrown (f r : ℕ) (w : World) (g : Ghost) (frames : List Frame) (env : List Bound) (ops : List Op) (e : Exit) (from : State) : Type 0 where
    Handled : (n : ℕ) (b : Block) (inner : List Bound) → ((instead : Option Meant) (calls : List flow.Frame) → flow.caught s.known.program s.graphs f r calls w instead env ops e ≡ Goes (flow.At f b.ops b.exit inner instead calls w))
        → Begins f n b inner w g frames from → Thrown f r w g frames env ops e from
    Left : ((instead : Option Meant) (calls : List flow.Frame) → flow.caught s.known.program s.graphs f r calls w instead env ops e ≡ Goes (flow.Throwing r calls w)) → Leaves r w g frames from → Thrown f r w g frames env ops e from
    Again : (v : ℕ) (inner : List Bound) → ((instead : Option Meant) (calls : List flow.Frame) → flow.caught s.known.program s.graphs f r calls w instead env ops e ≡ Goes (flow.At f [] (exit.Raise v) inner instead calls w)) → look inner v ≡ Some (Ref r)
        → Leaves r w g frames from → Thrown f r w g frames env ops e from

  -- ---- operations

  -- The operation is done, and the rest of the block is next, which is as `Rest` says. The result is bound.
  pub record Came (Rest : List LlOp → LlExit → Type 0) (f : ℕ) (names : List ℕ) (env : List Bound) (o : Op) (w : World) (v : Meant) (w' : World) (g : Ghost) (frames : List Frame) (from : State) : Type 0 where
    pub ops : List LlOp
    pub exit : LlExit
    pub rest : Rest ops exit
    pub text : List ℕ
    pub end : Core
    pub way : Way s from text (At ops exit frames end)
    pub out : w'.out ≡ w.out ++ text
    pub ghost : Ghost
    pub grown : Grown g ghost
    pub at : IsAt s ghost f (names ++ o.result ∷ []) (env ++ bind o.result (Some v) ∷ []) w' end

  -- what waits for a call of a function: it goes on with whatever that gives, or with another value in place of it, and with what it throws
  pub record Waits (Rest : List LlOp → LlExit → Type 0) (f : ℕ) (names : List ℕ) (env : List Bound) (o : Op) (ops : List Op) (e : Exit) (callee : ℕ) (instead : Option Meant) (g : Ghost) (frame : Frame) (frames : List Frame) : Type 0 where
    pub back : (later : Core) (g2 : Ghost) (x : Value) (v : Meant) (w : World) → Grown g g2 → Represents s.around.layout s.known g2 w.heap w.left later.blocks later.statics → w.left ≡ later.steps → Holds s.around.layout s.known g2 (slice_get s.around.results callee) x v
        → Came Rest f names env o w (unwrap_or instead v) w g2 frames (Returning x (frame ∷ frames) later)
    pub throws : (later : Core) (g2 : Ghost) (x : Value) (r : ℕ) (w : World) → Grown g g2 → Represents s.around.layout s.known g2 w.heap w.left later.blocks later.statics → w.left ≡ later.steps → IsException s g2 r x
        → Thrown f r w g2 frames env ops e (Throwing x (frame ∷ frames) later)

  -- the parameters of a function have what stands for the values of the arguments, and for the defaults of the others
  pub record Passed (function : Function) (params : List Element) (args : List Meant) (g : Ghost) (xs : List Value) : Type 0 where
    pub all : List Meant
    pub are : parameters function.defaults args ≡ Some all
    pub hold : AllHold s.around.layout s.known g params xs all

  -- the graph of a function is called
  pub record Entered (Rest : List LlOp → LlExit → Type 0) (f : ℕ) (names : List ℕ) (env : List Bound) (o : Op) (ops : List Op) (e : Exit) (callee : ℕ) (args : List Meant) (instead : Option Meant) (w w' : World) (g : Ghost) (frames : List Frame) (from : State) : Type 0 where
    pub number : ℕ
    pub is : s.known.graph callee ≡ Some number
    pub params : List Element
    pub takes : slice_get s.around.params callee ≡ Some params
    pub xs : List Value
    pub frame : Frame
    pub end : Core
    pub way : Way s from [] (Calling number xs (frame ∷ frames) end)
    pub out : w'.out ≡ w.out
    pub ghost : Ghost
    pub grown : Grown g ghost
    pub stands : Represents s.around.layout s.known ghost w'.heap w'.left end.blocks end.statics
    pub left : w'.left ≡ end.steps
    pub passed : (function : Function) → slice_get s.known.program.functions callee ≡ Some function → Passed function params args ghost xs
    pub waits : Waits Rest f names env o ops e callee instead ghost frame frames

  -- ---- ends

  -- memory represents the heap, beside some statics; of a run that failed nothing is said
  abbrev pub Remains : Outcome → World → Core → Type 0
  Remains (Failed name) w core = Unit {0}
  Remains other w core = (g : Ghost) × ((statics : List Memory) × Represents s.around.layout s.known g w.heap w.left core.blocks statics)

  -- the run ends so, and puts nothing more
  pub record Over (outcome : Outcome) (w : World) (from : State) : Type 0 where
    pub last : State
    pub way : Way s from [] last
    pub core : Core
    pub ends : step s.low s.arguments last ≡ Ends outcome core
    pub memory : Remains outcome w core

  -- what follows an operation, by what it answers; nothing is asked where the values are those of no operation
  abbrev pub Follows : (Rest : List LlOp → LlExit → Type 0) (f : ℕ) (names : List ℕ) (env : List Bound) (o : Op) (ops : List Op) (e : Exit) (w : World) (g : Ghost) (frames : List Frame) (from : State) → Answer → Type 0
  Follows Rest f names env o ops e w g frames from (Gives v w') = Came Rest f names env o w v w' g frames from
  Follows Rest f names env o ops e w g frames from (Throws r w') = (w'.out ≡ w.out) × Thrown f r w' g frames env ops e from
  Follows Rest f names env o ops e w g frames from (Fails name) = Over (Failed name) w from
  Follows Rest f names env o ops e w g frames from Lacks = Over Running w from
  Follows Rest f names env o ops e w g frames from (Enters callee args instead w') = Entered Rest f names env o ops e callee args instead w w' g frames from
  Follows Rest f names env o ops e w g frames from Bad = Unit {0}

  -- ---- exits

  -- the block that a link leads to is next, and its inputs have what the link passes on
  abbrev pub Jumps : ℕ → Link → List Bound → World → Ghost → List Frame → State → Type 0
  Jumps f link env w g frames from = (b : Block) → block_in (slice_get s.graphs.graphs f) link.to ≡ Some b → Begins f link.to b (passed env b.inputs link.args) w g frames from

  abbrev pub Chooses : ℕ → Link → Link → Bool → List Bound → World → Ghost → List Frame → State → Type 0
  Chooses f there elsewhere true env w g frames from = Jumps f there env w g frames from
  Chooses f there elsewhere false env w g frames from = Jumps f elsewhere env w g frames from

  -- the function gives what stands for this value
  pub record Returns (f : ℕ) (v : Meant) (w : World) (g : Ghost) (frames : List Frame) (from : State) : Type 0 where
    pub x : Value
    pub end : Core
    pub way : Way s from [] (Returning x frames end)
    pub ghost : Ghost
    pub grown : Grown g ghost
    pub holds : Holds s.around.layout s.known ghost (slice_get s.around.results f) x v
    pub stands : Represents s.around.layout s.known ghost w.heap w.left end.blocks end.statics
    pub left : w.left ≡ end.steps

  abbrev pub Exits : ℕ → Exit → List Bound → World → Ghost → List Frame → State → Type 0
  Exits f (exit.Goto link) env w g frames from = Jumps f link env w g frames from
  Exits f (exit.If v there elsewhere) env w g frames from = (t : Bool) → truth_of w (look env v) ≡ Some t → Chooses f there elsewhere t env w g frames from
  Exits f (exit.OnRaise v classes any link) env w g frames from = Jumps f link env w g frames from
  Exits f (exit.Return v) env w g frames from = (x : Meant) → look env v ≡ Some x → Returns f x w g frames from
  Exits f (exit.Raise v) env w g frames from = (r : ℕ) → look env v ≡ Some (Ref r) → Leaves r w g frames from

  -- ---- what is left of a block

  -- These low-level operations and this exit do what these operations and this exit of a flow graph do, behind those that have set these variables,
  -- over all memory that represents the heap, whatever waits, where each operation is as the laws of operations ask, and the test tells what is known of
  -- it.
  abbrev pub Does : ℕ → List ℕ → List Op → Exit → List LlOp → LlExit → Type 0
  Does f names [] e low exit = (frames : List Frame) (core : Core) (g : Ghost) (env : List Bound) (w : World) → IsAt s g f names env w core → TestIsTold (truth_known s f) e env w → Exits f e env w g frames (At low exit frames core)
  Does f names (o ∷ ops) e low exit = (frames : List Frame) (core : Core) (g : Ghost) (env : List Bound) (w : World) (vs : List Meant) → IsAt s g f names env w core → values_of env o.args ≡ Some vs → IsGood s.known.program s.made (is_keyed s f o) o.op w vs
      → Follows (Does f (names ++ o.result ∷ []) ops e) f names env o ops e w g frames (At low exit frames core) (op s.known.program o.covered o.op vs w)
