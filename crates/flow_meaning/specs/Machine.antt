-- The machine that runs flow graphs, over the values, objects and operations of the meaning of programs.
use Rattle.std.specs.Prelude.{ℕ, ◌-◌, ◌==◌, nat_lt, Bool, true, false, cond, List, [], ◌∷◌, ◌++◌, slice_get, Option, Some, None, unwrap_or}
use Rattle.rpy_base.specs.declared.outcome.Outcome.{Outcome}
use Rattle.rpy_base.specs.declared.outcome.Outcome.TheVariants as outcome
use Rattle.rpy_tree.specs.Value.{Value, Ref}
use Rattle.rpy_meaning.specs.Costs.{entry_cost}
use Rattle.rpy_meaning.specs.Tree.{Function, Program}
use Rattle.rpy_meaning.specs.World.{World, Answer, Gives, Throws, Fails, Lacks, Enters, Bad}
use Rattle.rpy_meaning.specs.Classes.{is_below}
use Rattle.rpy_meaning.specs.Operations.{op, truth_in}
use Rattle.rpy_meaning.specs.Evaluation.{parameters}
use Rattle.rpy_meaning.specs.Meaning.{class_in, returned, name_of}
use Rattle.flow_graph.specs.declared.graph.Link.{Link}
use Rattle.flow_graph.specs.declared.graph.Exit.{Exit}
use Rattle.flow_graph.specs.declared.graph.Exit.TheVariants as exit
use Rattle.flow_graph.specs.declared.graph.Op.{Op}
use Rattle.flow_graph.specs.declared.graph.Block.{Block}
use Rattle.flow_graph.specs.declared.graph.Graph.{Graph}
use Rattle.flow_graph.specs.declared.graph.Graphs.{Graphs}

-- ---- variables

-- a variable of the block that runs, and its value where it is bound
pub record Bound : Type 0 where
  pub variable : ℕ
  pub value : Option Value

abbrev pub look : List Bound → ℕ → Option Value
look [] v = None
look (bound ∷ env) v = cond (bound.variable == v) bound.value (look env v)

abbrev pub and_value : Option Value → Option (List Value) → Option (List Value)
and_value None vs = None
and_value (Some v) None = None
and_value (Some v) (Some vs) = Some (v ∷ vs)

-- the values of operands, where all are bound
abbrev pub values_of : List Bound → List ℕ → Option (List Value)
values_of env [] = Some []
values_of env (v ∷ vs) = and_value (look env v) (values_of env vs)

abbrev pub bind : ℕ → Option Value → Bound
bind v value = record { variable = v; value = value }

-- the inputs of a block take the values of these variables, bound or not
abbrev pub passed : List Bound → List ℕ → List ℕ → List Bound
passed env [] vs = []
passed env (input ∷ inputs) [] = bind input None ∷ passed env inputs []
passed env (input ∷ inputs) (v ∷ vs) = bind input (look env v) ∷ passed env inputs vs

-- the first inputs of a function take its parameters; its other locals are unbound
abbrev pub taken : List ℕ → List Value → List Bound
taken [] vs = []
taken (input ∷ inputs) [] = bind input None ∷ taken inputs []
taken (input ∷ inputs) (v ∷ vs) = bind input (Some v) ∷ taken inputs vs

-- ---- states

-- a call that waits for one that it made: its graph, the operation under way, what is left of its block, its variables, and what its
-- caller is given in place of its result, if anything is
pub record Frame : Type 0 where
  pub graph : ℕ
  pub call : Op
  pub ops : List Op
  pub exit : Exit
  pub env : List Bound
  pub instead : Option Value

-- a function is called; the rest of a block is left to do; a function gives its result; an exception leaves a function. Who waits
-- stands with the innermost call first
pub data State : Type 0 where
  Calling : (function : ℕ) → (args : List Value) → (instead : Option Value) → (frames : List Frame) → (world : World) → State
  At : (graph : ℕ) → (ops : List Op) → (exit : Exit) → (env : List Bound) → (instead : Option Value) → (frames : List Frame) → (world : World) → State
  Returning : (value : Value) → (frames : List Frame) → (world : World) → State
  Throwing : (exception : ℕ) → (frames : List Frame) → (world : World) → State

abbrev pub world_of : State → World
world_of (Calling f args instead frames world) = world
world_of (At f ops exit env instead frames world) = world
world_of (Returning v frames world) = world
world_of (Throwing r frames world) = world

-- what one step leads to: a state; the end of the run; want of steps; or no way that a program has
pub data Next : Type 0 where
  Goes : (state : State) → Next
  Ends : (outcome : Option Outcome) → (world : World) → Next
  Stops : (world : World) → Next
  Strays : Next

-- ---- blocks

abbrev pub block_in : Option Graph → ℕ → Option Block
block_in None n = None
block_in (Some graph) n = slice_get graph.blocks n

abbrev pub begins : ℕ → List Frame → World → Option Value → List Bound → Link → Option Block → Next
begins f frames world instead env link None = Strays
begins f frames world instead env link (Some block) = Goes (At f block.ops block.exit (passed env block.inputs link.args) instead frames world)

abbrev pub jump : Graphs → ℕ → List Frame → World → Option Value → List Bound → Link → Next
jump gs f frames world instead env link = begins f frames world instead env link (block_in (slice_get gs.graphs f) link.to)

-- ---- exceptions

-- the first class that the exception's is below; else the link for any other, if there is one
abbrev pub catching : Program → ℕ → List (ℕ × Link) → Option Link → Option Link
catching p class [] any = any
catching p class (caught ∷ others) any = cond (is_below p.classes class caught.0) (Some caught.1) (catching p class others any)

abbrev pub caught_on : Graphs → ℕ → ℕ → List Frame → World → Option Value → List Bound → ℕ → Option Link → Next
caught_on gs f r frames world instead env v None = Goes (Throwing r frames world)
caught_on gs f r frames world instead env v (Some link) = jump gs f frames world instead (env ++ bind v (Some (Ref r)) ∷ []) link

abbrev pub caught_by : Program → Graphs → ℕ → ℕ → List Frame → World → Option Value → List Bound → Exit → Next
caught_by p gs f r frames world instead env (exit.OnRaise v classes any link) = caught_on gs f r frames world instead env v (catching p (class_in world r) classes any)
caught_by p gs f r frames world instead env other = Goes (Throwing r frames world)

-- the exit catches what the last operation of its block raises
abbrev pub caught : Program → Graphs → ℕ → ℕ → List Frame → World → Option Value → List Bound → List Op → Exit → Next
caught p gs f r frames world instead env [] exit = caught_by p gs f r frames world instead env exit
caught p gs f r frames world instead env (o ∷ ops) exit = Goes (Throwing r frames world)

-- ---- operations

-- the result of an operation is bound, and its block goes on
abbrev pub gives : ℕ → Op → List Op → Exit → List Bound → Option Value → List Frame → World → Value → Next
gives f o ops exit env instead frames world v = Goes (At f ops exit (env ++ bind o.result (Some v) ∷ []) instead frames world)

abbrev pub waiting : ℕ → Op → List Op → Exit → List Bound → Option Value → Frame
waiting f o ops exit env instead = record { graph = f; call = o; ops = ops; exit = exit; env = env; instead = instead }

abbrev pub answered : Program → Graphs → ℕ → Op → List Op → Exit → List Bound → Option Value → List Frame → World → Answer → Next
answered p gs f o ops exit env instead frames before (Gives v world) = gives f o ops exit env instead frames world v
answered p gs f o ops exit env instead frames before (Throws r world) = caught p gs f r frames world instead env ops exit
answered p gs f o ops exit env instead frames before (Fails name) = Ends (Some (outcome.Failed name)) before
answered p gs f o ops exit env instead frames before Lacks = Stops before
answered p gs f o ops exit env instead frames before (Enters g args other world) = Goes (Calling g args other (waiting f o ops exit env instead ∷ frames) world)
answered p gs f o ops exit env instead frames before Bad = Strays

abbrev pub operates : Program → Graphs → ℕ → Op → List Op → Exit → List Bound → Option Value → List Frame → World → Option (List Value) → Next
operates p gs f o ops exit env instead frames world None = Strays
operates p gs f o ops exit env instead frames world (Some vs) = answered p gs f o ops exit env instead frames world (op p o.covered o.op vs world)

-- ---- exits

abbrev pub chooses : Graphs → ℕ → List Frame → World → Option Value → List Bound → Link → Link → Option Bool → Next
chooses gs f frames world instead env there elsewhere None = Strays
chooses gs f frames world instead env there elsewhere (Some true) = jump gs f frames world instead env there
chooses gs f frames world instead env there elsewhere (Some false) = jump gs f frames world instead env elsewhere

abbrev pub truth_of : World → Option Value → Option Bool
truth_of world None = None
truth_of world (Some v) = truth_in world v

abbrev pub returns : Option Value → List Frame → World → Option Value → Next
returns instead frames world None = Strays
returns instead frames world (Some v) = Goes (Returning (unwrap_or instead v) frames world)

abbrev pub raises : List Frame → World → Option Value → Next
raises frames world (Some (Ref r)) = Goes (Throwing r frames world)
raises frames world other = Strays

abbrev pub leaves : Program → Graphs → ℕ → Exit → List Bound → Option Value → List Frame → World → Next
leaves p gs f (exit.Goto link) env instead frames world = jump gs f frames world instead env link
leaves p gs f (exit.If v there elsewhere) env instead frames world = chooses gs f frames world instead env there elsewhere (truth_of world (look env v))
leaves p gs f (exit.OnRaise v classes any link) env instead frames world = jump gs f frames world instead env link
leaves p gs f (exit.Return v) env instead frames world = returns instead frames world (look env v)
leaves p gs f (exit.Raise v) env instead frames world = raises frames world (look env v)

-- ---- calls

abbrev pub begun : ℕ → List Value → Option Value → List Frame → World → Option Block → Next
begun f vs instead frames world None = Strays
begun f vs instead frames world (Some block) = Goes (At f block.ops block.exit (taken block.inputs vs) instead frames world)

-- a call pays at its entry
abbrev pub pays : Graphs → ℕ → List Value → Option Value → List Frame → World → Next
pays gs f vs instead frames world =
    cond (nat_lt world.left entry_cost) (Stops world) (begun f vs instead frames (record world { left = world.left - entry_cost }) (block_in (slice_get gs.graphs f) 0))

abbrev pub given : Graphs → ℕ → Option Value → List Frame → World → Option (List Value) → Next
given gs f instead frames world None = Strays
given gs f instead frames world (Some vs) = pays gs f vs instead frames world

abbrev pub entered : Graphs → ℕ → List Value → Option Value → List Frame → World → Option Function → Next
entered gs f args instead frames world None = Strays
entered gs f args instead frames world (Some function) = cond function.takes_more Strays (given gs f instead frames world (parameters function.defaults args))

abbrev pub ended_by : Option Outcome → World → Next
ended_by outcome world = Ends outcome world

-- ---- steps

abbrev pub step : Program → Graphs → State → Next
step p gs (Calling f args instead frames world) = entered gs f args instead frames world (slice_get p.functions f)
step p gs (At f [] exit env instead frames world) = leaves p gs f exit env instead frames world
step p gs (At f (o ∷ ops) exit env instead frames world) = operates p gs f o ops exit env instead frames world (values_of env o.args)
step p gs (Returning v [] world) = ended_by (returned v) world
step p gs (Returning v (frame ∷ frames) world) = gives frame.graph frame.call frame.ops frame.exit frame.env frame.instead frames world v
step p gs (Throwing r [] world) = ended_by (name_of (slice_get p.classes (class_in world r))) world
step p gs (Throwing r (frame ∷ frames) world) = caught p gs frame.graph r frames world frame.instead frame.env frame.ops frame.exit
