-- A graph that raises the exceptions of its failures, where these are covered, does what the graph does that fails, but for these.
use Rattle.std.specs.Prelude.{◌≡◌, ◌≢◌, ℕ, Bool, true, false, ◌&&◌, ◌||◌, List, [], ◌∷◌, ◌++◌, slice_get, slice_set, Option, Some, None}
use Rattle.rpy_base.specs.declared.outcome.FailName.{FailName}
use Rattle.rpy_base.specs.declared.outcome.FailName.TheVariants as fail
use Rattle.rpy_base.specs.declared.outcome.Outcome.TheVariants.{Running, Failed}
use Rattle.csub_tree.specs.State.{Value, Core}
use Rattle.csub_tree.specs.declared.tree.COperand.{COperand}
use Rattle.ll_code.specs.State.{Frame, State, Calling, Returning, Throwing, Ends}
use Rattle.ll_code.specs.Machine.{step}
use Rattle.ll_code.specs.declared.program.LlType.{LlType}
use Rattle.ll_code.specs.declared.program.LlOp.{LlOp}
use Rattle.ll_code.specs.declared.program.LlOp.TheVariants as op
use Rattle.ll_code.specs.declared.program.LlExit.{LlExit}
use Rattle.ll_code.specs.declared.program.LlExit.TheVariants as exit
use Rattle.ll_code.specs.declared.program.LlBlock.{LlBlock}
use Rattle.ll_code.specs.declared.program.LlGraph.{LlGraph}
use Rattle.ll_code.specs.declared.program.LlProgram.{LlProgram}
use Rattle.ll_held.specs.Roots.{roots, waiting_roots, core_of}
use Rattle.ll_leads.specs.Memory.{forgotten}
use Rattle.ll_leads.specs.Path.{Leads}
use Rattle.ll_leads.specs.Weight.{Within}
use Rattle.rpy_meaning.specs.declared.row.Covers.{Covers}
use Rattle.rtyper_data.specs.declared.found.Found.{Found}
use Rattle.rtyper_raising.specs.Raising.{if_covered, raising_graph, raised_in}
use Rattle.lower_laws.specs.Asked.{AllRaise}

-- the program that has this graph at that number
abbrev pub with_graph : LlProgram → ℕ → LlGraph → LlProgram
with_graph p f graph = record p { graphs = slice_set p.graphs f graph }

-- the class of a failure that is covered, by its name
abbrev pub class_named : FailName → Covers → Option ℕ
class_named fail.Index c = if_covered c.index 6
class_named fail.ZeroDivision c = if_covered c.zero 4
class_named fail.Value c = if_covered c.number 8
class_named fail.Attribute c = if_covered c.attribute 9
class_named fail.NegativeSlice c = None

-- ---- graphs

abbrev pub FailsNowhere : LlGraph → Type 0
FailsNowhere graph = (n : ℕ) (block : LlBlock) (number : ℕ) → slice_get graph.blocks n ≡ Some block → block.exit ≡ exit.Fail number → ⊥

abbrev pub CallsNoValue : LlGraph → Type 0
CallsNoValue graph = (into : Option ℕ) (result : LlType) (params : List LlType) (b : ℕ) (xs : List COperand) → Within graph (op.CallFn into result params b xs) → ⊥

-- The graph of this number is not that of `f`, fails nowhere and calls no function value; and so it is of those that it calls.
pub data NeverFails (p : LlProgram) (f : ℕ) : ℕ → Type 0 where
  Never : {g : ℕ} (graph : LlGraph) → g ≢ f → slice_get p.graphs g ≡ Some graph → FailsNowhere graph → CallsNoValue graph → ((into : Option ℕ) (h : ℕ) (xs : List COperand) → Within graph (op.Call into h xs) → NeverFails p f h) → NeverFails p f g

-- it sets a variable, and changes nothing else
abbrev pub only_sets : LlOp → Bool
only_sets (op.Set a x) = true
only_sets (op.Unary a o x) = true
only_sets (op.Binary a o x y) = true
only_sets (op.GetField a n b k) = true
only_sets (op.GetItem a n b i) = true
only_sets other = false

abbrev pub all_only_set : List LlOp → Bool
all_only_set [] = true
all_only_set (o ∷ ops) = only_sets o && all_only_set ops

abbrev pub gives_back : LlExit → Bool
gives_back (exit.Return x) = true
gives_back other = false

-- what does more than to set variables stands in blocks that end by giving back
abbrev pub WorksLast : LlGraph → Type 0
WorksLast graph = (n : ℕ) (block : LlBlock) → slice_get graph.blocks n ≡ Some block → (all_only_set block.ops || gives_back block.exit) ≡ true

-- The graph of this number raises those failures of this graph that are covered. What the graph calls never fails.
pub record IsRaising (p : LlProgram) (raised : ℕ → Value) (covers : Covers) (f : ℕ) (graph : LlGraph) : Type 0 where
  pub made : Found
  pub is : slice_get p.graphs f ≡ Some (raising_graph covers graph made)
  pub raises : AllRaise p raised (raised_in covers graph.blocks) made
  pub calls : (into : Option ℕ) (g : ℕ) (xs : List COperand) → Within graph (op.Call into g xs) → NeverFails p f g
  pub values : CallsNoValue graph
  pub last : WorksLast graph

-- ---- what its calls lead to

-- in the program with the graph that fails, while nothing waits
abbrev pub LeadsPlainly : LlProgram → List (List ℕ) → ℕ → LlGraph → ℕ → List Value → Core → List ℕ → State → Type 0
LeadsPlainly p args f graph most values core text t = Leads (with_graph p f graph) args most (Calling f values [] core) text t

-- where a call comes back there, it comes back so
abbrev pub CallsReturn : Type 0
CallsReturn = (p : LlProgram) (raised : ℕ → Value) (covers : Covers) (f : ℕ) (graph : LlGraph) → IsRaising p raised covers f graph
    → (args : List (List ℕ)) (most : ℕ) (values : List Value) (frames : List Frame) (core : Core) (text : List ℕ) (value : Value) (end : Core)
    → LeadsPlainly p args f graph most values core text (Returning value [] end) → Leads p args most (Calling f values frames core) text (Returning value frames end)

-- the exception comes out of the call, and memory is as it was
pub record Raised (p : LlProgram) (args : List (List ℕ)) (most : ℕ) (s : State) (text : List ℕ) (x : Value) (frames : List Frame) (core : Core) : Type 0 where
  pub end : Core
  pub leads : Leads p args most s text (Throwing x frames end)
  pub memory : forgotten end ≡ forgotten core

-- the run ends as failed
pub record Fails (p : LlProgram) (args : List (List ℕ)) (most : ℕ) (s : State) (text : List ℕ) (name : FailName) : Type 0 where
  pub last : State
  pub leads : Leads p args most s text last
  pub ends : step p args last ≡ Ends (Failed name) (core_of last)

abbrev pub RaisedOr : LlProgram → List (List ℕ) → (ℕ → Value) → ℕ → State → List ℕ → FailName → List Frame → Core → Option ℕ → Type 0
RaisedOr p args raised most s text name frames core (Some class) = Raised p args most s text (raised class) frames core
RaisedOr p args raised most s text name frames core None = Fails p args most s text name

-- where it fails there, it raises the exception of the failure, if that is covered, and else it fails
abbrev pub CallsRaise : Type 0
CallsRaise = (p : LlProgram) (raised : ℕ → Value) (covers : Covers) (f : ℕ) (graph : LlGraph) → IsRaising p raised covers f graph
    → (args : List (List ℕ)) (most : ℕ) (values : List Value) (frames : List Frame) (core : Core) (text : List ℕ) (last : State) (name : FailName)
    → LeadsPlainly p args f graph most values core text last → step (with_graph p f graph) args last ≡ Ends (Failed name) (core_of last)
    → RaisedOr p args raised most (Calling f values frames core) text name frames core (class_named name covers)

-- the run ends for want of steps, over this memory, and holds what is held there and what waits
pub record Lacks (p q : LlProgram) (args : List (List ℕ)) (most : ℕ) (s : State) (text : List ℕ) (frames : List Frame) (plain : State) : Type 0 where
  pub last : State
  pub leads : Leads p args most s text last
  pub ends : step p args last ≡ Ends Running (core_of last)
  pub core : core_of last ≡ core_of plain
  pub holds : roots p last ≡ roots q plain ++ waiting_roots p frames

-- where it lacks steps there, it lacks them so
abbrev pub CallsLack : Type 0
CallsLack = (p : LlProgram) (raised : ℕ → Value) (covers : Covers) (f : ℕ) (graph : LlGraph) → IsRaising p raised covers f graph
    → (args : List (List ℕ)) (most : ℕ) (values : List Value) (frames : List Frame) (core : Core) (text : List ℕ) (last : State)
    → LeadsPlainly p args f graph most values core text last → step (with_graph p f graph) args last ≡ Ends Running (core_of last)
    → Lacks p (with_graph p f graph) args most (Calling f values frames core) text frames last
