-- Operations of a block, each before what stands behind it.
use Rattle.std.specs.Prelude.{◌≡◌, ◌≢◌, ◌<◌, ◌≤◌, ◌⊎◌, ℕ, ◌+◌, false, List, [], ◌∷◌, ◌++◌, length, map, slice_get, unwrap_or, Option, Some}
use Rattle.ann_element.specs.declared.element.Element.{Element}
use Rattle.csub_tree.specs.declared.tree.COperand.TheVariants.{Var}
use Rattle.rpy_base.specs.declared.outcome.FailName.{FailName}
use Rattle.rpy_base.specs.declared.outcome.Outcome.TheVariants as outcome
use Rattle.csub_tree.specs.State.{Value, Block as Memory, Core}
use Rattle.csub_tree.specs.Statement.{read}
use Rattle.ll_code.specs.State.{Frame, State, Calling, At, Returning, Throwing, Goes, Ends}
use Rattle.ll_code.specs.Machine.{caught_by, step}
use Rattle.ll_code.specs.declared.program.LlType.TheVariants as type
use Rattle.ll_code.specs.declared.program.LlOp.{LlOp}
use Rattle.ll_code.specs.declared.program.LlOp.TheVariants.{Raise}
use Rattle.ll_code.specs.declared.program.LlExit.{LlExit}
use Rattle.ll_held.specs.Roots.{core_of}
use Rattle.ll_live.specs.Live.{among}
use Rattle.rpy_tree.specs.Value.{Value as Meant, Ref}
use Rattle.rpy_meaning.specs.Operations.{op}
use Rattle.rpy_meaning.specs.Tree.{Function}
use Rattle.rpy_meaning.specs.World.{World, Answer, Gives, Throws, Fails, Lacks, Enters, Bad}
use Rattle.flow_graph.specs.declared.graph.Exit.{Exit}
use Rattle.flow_graph.specs.declared.graph.Exit.TheVariants as exit
use Rattle.flow_graph.specs.declared.graph.Op.{Op}
use Rattle.flow_meaning.specs.Machine as flow
use Rattle.flow_meaning.specs.Machine.{Bound, look}
use Rattle.rtyper_layout.specs.Types.{type_seen}
use Rattle.rtyper_data.specs.Seen.{Operand, Place}
use Rattle.object_laws.specs.Ghost.{Ghost, Grown}
use Rattle.object_laws.specs.Represents.{Represents}
use Rattle.object_laws.specs.Values.{Holds, Given}
use Rattle.flow_runs.specs.Good.{IsGood}
use Rattle.run_laws.specs.Points.{Setting, is_conflict, is_keyed, names_of, IsException, Way}
use Rattle.run_laws.specs.Does.{Does, Passed}

module _ (s : Setting) where
  -- ---- operands and results

  abbrev pub operands_of : ℕ → List ℕ → List Operand
  operands_of f args = map (λ v. record { x = Var v; element = s.element f v }) args

  abbrev pub place_of : ℕ → ℕ → Place
  place_of f v = record { variable = v; element = s.element f v }

  -- none of these variables is in conflict
  abbrev pub AreFree : ℕ → List ℕ → Type 0
  AreFree f [] = Unit {0}
  AreFree f (v ∷ vs) = (is_conflict (s.element f v) ≡ false) × AreFree f vs

  -- no value is one of what is known of the variable
  abbrev pub IsNever : ℕ → ℕ → Type 0
  IsNever f v = (g : Ghost) (x : Value) (value : Meant) → Holds s.around.layout s.known g (s.element f v) x value → ⊥

  -- one of these variables, in no conflict, never has a value
  abbrev pub HasNever : ℕ → List ℕ → Type 0
  HasNever f [] = ⊥
  HasNever f (v ∷ vs) = ((is_conflict (s.element f v) ≡ false) × IsNever f v) ⊎ HasNever f vs

  -- none of the operands is in conflict, or one never has a value
  abbrev pub AreRead : ℕ → List ℕ → Type 0
  AreRead f vs = AreFree f vs ⊎ HasNever f vs

  -- what is held by a variable has a type, and variables with a type are below a number
  pub record HasTypes (f below : ℕ) : Type 0 where
    pub typed : (g : Ghost) (v : ℕ) (x : Value) (value : Meant) → Holds s.around.layout s.known g (s.element f v) x value → type_seen s.around.layout (s.element f v) ≢ type.Void
    pub under : (v : ℕ) → type_seen s.around.layout (s.element f v) ≢ type.Void → v < below

  -- ---- what is thrown

  -- An exception that comes out of an operation leaves the graph: at once, or by a block that does nothing but raise it.
  pub data Escapes (f r : ℕ) (w : World) (env : List Bound) (ops : List Op) (e : Exit) : Type 0 where
    AtOnce : ((instead : Option Meant) (calls : List flow.Frame) → flow.caught s.known.program s.graphs f r calls w instead env ops e ≡ flow.Goes (flow.Throwing r calls w)) → Escapes f r w env ops e
    ByBlock : (v : ℕ) (inner : List Bound) → ((instead : Option Meant) (calls : List flow.Frame) → flow.caught s.known.program s.graphs f r calls w instead env ops e ≡ flow.Goes (flow.At f [] (exit.Raise v) inner instead calls w)) → look inner v ≡ Some (Ref r)
        → Escapes f r w env ops e

  -- whatever is thrown, where these variables have been set
  abbrev pub IsUncaught : ℕ → List ℕ → List Op → Exit → Type 0
  IsUncaught f names ops e = (r : ℕ) (w : World) (env : List Bound) → names_of env ≡ names → Escapes f r w env ops e

  -- the low-level exit catches nothing
  abbrev pub CatchesNothing : LlExit → Type 0
  CatchesNothing e = (x : Value) (frames : List Frame) (core : Core) → caught_by s.low x frames core e ≡ Goes (Throwing x frames core)

  -- ---- what follows

  module _ (f : ℕ) (o : Op) (below : ℕ) (from : State) (rest : List LlOp) (e : LlExit) (frames : List Frame) (core : Core) (g : Ghost) where
    -- of the first so many variables none is another, but that of the result
    pub record Keeps (vars : List Value) (function : ℕ) : Type 0 where
      pub others : (n : ℕ) → n < below → n ≢ o.result → read vars n ≡ read core.vars n
      pub room : length vars ≡ length core.vars
      pub function_is : function ≡ core.function

    -- what comes behind is next, and the variable of the result has what stands for the value
    pub record Gave (w : World) (v : Meant) (w' : World) : Type 0 where
      pub end : Core
      pub text : List ℕ
      pub way : Way s from text (At rest e frames end)
      pub out : w'.out ≡ w.out ++ text
      pub ghost : Ghost
      pub grown : Grown g ghost
      pub stands : Represents s.around.layout s.known ghost w'.heap w'.left end.blocks end.statics
      pub left : w'.left ≡ end.steps
      pub holds : Holds s.around.layout s.known ghost (s.element f o.result) (read end.vars o.result) v
      pub keeps : Keeps end.vars end.function

    -- the exception comes out of a call in the block
    pub record Threw (r : ℕ) (w w' : World) : Type 0 where
      pub x : Value
      pub frame : Frame
      pub end : Core
      pub way : Way s from [] (Throwing x (frame ∷ frames) end)
      pub out : w'.out ≡ w.out
      pub ghost : Ghost
      pub grown : Grown g ghost
      pub is : IsException s ghost r x
      pub stands : Represents s.around.layout s.known ghost w'.heap w'.left end.blocks end.statics
      pub left : w'.left ≡ end.steps
      pub before : List LlOp
      pub ops : frame.ops ≡ before ++ rest
      pub exit : frame.exit ≡ e
      pub keeps : Keeps frame.vars frame.graph

    -- it is raised in the block itself
    pub record Raised (r : ℕ) (w w' : World) : Type 0 where
      pub variable : ℕ
      pub end : Core
      pub way : Way s from [] (At (Raise variable ∷ rest) e frames end)
      pub out : w'.out ≡ w.out
      pub ghost : Ghost
      pub grown : Grown g ghost
      pub is : IsException s ghost r (read end.vars variable)
      pub stands : Represents s.around.layout s.known ghost w'.heap w'.left end.blocks end.statics
      pub left : w'.left ≡ end.steps
      pub keeps : Keeps end.vars end.function

    -- the run fails so
    pub record Failed (name : FailName) : Type 0 where
      pub last : State
      pub way : Way s from [] last
      pub ends : step s.low s.arguments last ≡ Ends (outcome.Failed name) (core_of last)

    -- the steps do not suffice
    pub record Lacked (w : World) : Type 0 where
      pub last : State
      pub way : Way s from [] last
      pub ends : step s.low s.arguments last ≡ Ends outcome.Running (core_of last)
      pub ghost : Ghost
      pub statics : List Memory
      pub stands : Represents s.around.layout s.known ghost w.heap w.left (core_of last).blocks statics

    -- what a call gives back goes on behind the operation
    pub record Resumed (frame : Frame) (later : Core) (before : Ghost) (x : Value) (v : Meant) (w : World) : Type 0 where
      pub end : Core
      pub way : Way s (Returning x (frame ∷ frames) later) [] (At rest e frames end)
      pub ghost : Ghost
      pub grown : Grown before ghost
      pub stands : Represents s.around.layout s.known ghost w.heap w.left end.blocks end.statics
      pub left : w.left ≡ end.steps
      pub holds : Holds s.around.layout s.known ghost (s.element f o.result) (read end.vars o.result) v
      pub keeps : Keeps end.vars end.function

    -- The graph of a function is called. Whatever that gives then, or another value in place of it, goes on.
    pub record Called (w : World) (callee : ℕ) (args : List Meant) (instead : Option Meant) (w' : World) : Type 0 where
      pub number : ℕ
      pub is : s.known.graph callee ≡ Some number
      pub params : List Element
      pub takes : slice_get s.around.params callee ≡ Some params
      pub xs : List Value
      pub frame : Frame
      pub end : Core
      pub way : Way s from [] (Calling number xs (frame ∷ frames) end)
      pub out : w'.out ≡ w.out
      pub ghost : Ghost
      pub grown : Grown g ghost
      pub stands : Represents s.around.layout s.known ghost w'.heap w'.left end.blocks end.statics
      pub left : w'.left ≡ end.steps
      pub passed : (function : Function) → slice_get s.known.program.functions callee ≡ Some function → Passed s function params args ghost xs
      pub before : List LlOp
      pub ops : frame.ops ≡ before ++ rest
      pub exit : frame.exit ≡ e
      pub keeps : Keeps frame.vars frame.graph
      pub back : (later : Core) (g2 : Ghost) (x : Value) (v : Meant) (w2 : World) → Grown ghost g2 → Represents s.around.layout s.known g2 w2.heap w2.left later.blocks later.statics → w2.left ≡ later.steps → Holds s.around.layout s.known g2 (slice_get s.around.results callee) x v
          → Resumed frame later g2 x (unwrap_or instead v) w2

    -- the operation is done, throws, fails, lacks its steps, or calls a function; nothing is asked where the values are those of no operation
    abbrev pub Acts : World → Answer → Type 0
    Acts w (Gives v w') = Gave w v w'
    Acts w (Throws r w') = Threw r w w' ⊎ Raised r w w'
    Acts w (Fails name) = Failed name
    Acts w Lacks = Lacked w
    Acts w (Enters callee args instead w') = Called w callee args instead w'
    Acts w Bad = Unit {0}

  -- These low-level operations do what the operation does, over all memory that represents the heap, whatever comes behind and waits; they set none
  -- of the first so many variables but that of the result, and so many further ones.
  abbrev pub IsOperation : ℕ → Op → ℕ → ℕ → List LlOp → Type 0
  IsOperation f o below new ops = (rest : List LlOp) (e : LlExit) (frames : List Frame) (core : Core) (g : Ghost) (w : World) (vs : List Meant)
      → Represents s.around.layout s.known g w.heap w.left core.blocks core.statics → w.left ≡ core.steps → below + new ≤ length core.vars → Given s.known s.around g core (operands_of f o.args) vs → IsGood s.known.program s.made (is_keyed s f o) o.op w vs
      → Acts f o below (At (ops ++ rest) e frames core) rest e frames core g w (op s.known.program o.covered o.op vs w)

  -- the operation never gives a value
  abbrev pub NeverGives : ℕ → Op → Type 0
  NeverGives f o = IsNever f o.result

-- Where the operations of an operation do what it does, and so does what stands behind them, so do both together; behind one that never gives a
-- value anything may stand. The variable of the result is new, and what is thrown leaves the graph.
abbrev pub OperationsAreFollowed : Type 0
OperationsAreFollowed = (s : Setting) (f : ℕ) (names : List ℕ) (o : Op) (ops : List Op) (e : Exit) (below new : ℕ) (written rest : List LlOp) (ends : LlExit)
    → HasTypes s f below → IsOperation s f o below new written → AreRead s f o.args → below + new ≤ s.size f → among o.result names ≡ false → IsUncaught s f names ops e → CatchesNothing s ends
    → NeverGives s f o ⊎ Does s f (names ++ o.result ∷ []) ops e rest ends → Does s f names (o ∷ ops) e (written ++ rest) ends
