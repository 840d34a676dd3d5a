-- What is known of flow graphs and of the low-level program that is made of them, and how the variables of the one stand in the other.
use Rattle.std.specs.Prelude.{◌≡◌, ◌≢◌, ℕ, Bool, true, false, List, [], ◌∷◌, length, map, slice_get, Option, Some, None}
use Rattle.ann_element.specs.declared.element.Element.{Element}
use Rattle.ann_element.specs.declared.element.Element.TheVariants as element
use Rattle.csub_tree.specs.State.{Value, Core}
use Rattle.csub_tree.specs.Statement.{read}
use Rattle.ll_code.specs.State.{State}
use Rattle.ll_code.specs.declared.program.LlBlock.{LlBlock}
use Rattle.ll_code.specs.declared.program.LlGraph.{LlGraph}
use Rattle.ll_code.specs.declared.program.LlProgram.{LlProgram}
use Rattle.ll_leads.specs.Path.{Leads}
use Rattle.ll_live.specs.Live.{among}
use Rattle.rpy_tree.specs.Value.{Value as Meant}
use Rattle.rpy_meaning.specs.Classes.{is_below}
use Rattle.rpy_meaning.specs.World.{World}
use Rattle.flow_graph.specs.declared.graph.Block.{Block}
use Rattle.flow_graph.specs.declared.graph.Graphs.{Graphs}
use Rattle.flow_graph.specs.declared.graph.Op.{Op}
use Rattle.rpy_meaning.specs.declared.row.RowOp.{RowOp}
use Rattle.rpy_meaning.specs.declared.row.RowOp.TheVariants as row
use Rattle.rtyper_layout.specs.Kinds.{kind_seen}
use Rattle.flow_meaning.specs.Machine.{Bound, look, block_in}
use Rattle.rtyper_data.specs.Seen.{Around}
use Rattle.rtyper_layout.specs.Types.{type_seen}
use Rattle.rtyper_program.specs.Links.{known_truth}
use Rattle.object_laws.specs.Ghost.{Ghost, InstanceOf}
use Rattle.object_laws.specs.Known.{Known}
use Rattle.object_laws.specs.Represents.{Represents}
use Rattle.object_laws.specs.Values.{Holds, of_dict}
use Rattle.conversion_laws.specs.Converted.{Blank}

-- The flow graphs of a program; the low-level program, and the arguments with which it runs; what is known around it, and of its objects; and
-- of each graph what is known of its variables, which of its blocks are reached, and how many variables the low-level graph has; and which
-- classes are made.
pub record Setting : Type 0 where
  pub graphs : Graphs
  pub low : LlProgram
  pub arguments : List (List ℕ)
  pub around : Around
  pub known : Known
  pub element : ℕ → ℕ → Option Element
  pub reached : ℕ → ℕ → Bool
  pub size : ℕ → ℕ
  pub made : ℕ → Bool

-- ---- variables

-- the variables of the block that runs
abbrev pub names_of : List Bound → List ℕ
names_of env = map (λ (b : Bound). b.variable) env

-- what is known is a conflict
abbrev pub of_conflict : Element → Bool
of_conflict (element.Conflict lists dicts) = true
of_conflict other = false

abbrev pub is_conflict : Option Element → Bool
is_conflict None = false
is_conflict (Some e) = of_conflict e

-- ---- operations on dicts

-- the operand in the place of a list or dict
abbrev pub container_of : RowOp → List ℕ → Option ℕ
container_of (row.Compare o) (key ∷ v ∷ vs) = Some v
container_of (row.Compare o) vs = None
container_of other [] = None
container_of other (v ∷ vs) = Some v

module _ (s : Setting) where
  abbrev pub is_dict_at : ℕ → Option ℕ → Bool
  is_dict_at f None = false
  is_dict_at f (Some v) = of_dict (kind_seen (s.element f v))

  -- it is known to be a dict, or `None`
  abbrev pub is_keyed : ℕ → Op → Bool
  is_keyed f o = is_dict_at f (container_of o.op o.args)

  -- the truth of a variable, where it is always the same
  abbrev pub truth_known : ℕ → ℕ → Option Bool
  truth_known f v = known_truth (s.element f v)

module _ (s : Setting) where
  -- A variable that is bound has what stands for its value, by what is known of it, and one that is not bound has what stands for nothing. Of one in
  -- conflict, which nothing reads, nothing is asked.
  pub record Stand (g : Ghost) (f : ℕ) (env : List Bound) (vars : List Value) : Type 0 where
    pub bound : (v : ℕ) (x : Meant) → look env v ≡ Some x → is_conflict (s.element f v) ≡ false → Holds s.around.layout s.known g (s.element f v) (read vars v) x
    pub blank : (v : ℕ) → among v (names_of env) ≡ true → look env v ≡ None → Blank g (type_seen s.around.layout (s.element f v)) (read vars v)

  -- a run stands in the graph of a function, in a block of which these variables have been set so, and memory represents the heap
  pub record IsAt (g : Ghost) (f : ℕ) (names : List ℕ) (env : List Bound) (w : World) (core : Core) : Type 0 where
    pub named : names_of env ≡ names
    pub stands : Represents s.around.layout s.known g w.heap w.left core.blocks core.statics
    pub left : w.left ≡ core.steps
    pub variables : Stand g f env core.vars
    pub runs : s.known.graph f ≡ Some core.function
    pub room : length core.vars ≡ s.size f

  -- ---- ways

  -- some steps of the low-level program lead from the one state to the other, and put this text
  pub record Way (from : State) (text : List ℕ) (to : State) : Type 0 where
    pub most : ℕ
    pub leads : Leads s.low s.arguments most from text to

  -- ---- blocks

  -- a block of a flow graph that is reached, and the block with its number in the low-level graph; no way leads back to the first one
  pub record BlockAt (f n : ℕ) (b : Block) (low : LlBlock) : Type 0 where
    pub flow : block_in (slice_get s.graphs.graphs f) n ≡ Some b
    pub number : ℕ
    pub is : s.known.graph f ≡ Some number
    pub graph : LlGraph
    pub stands : slice_get s.low.graphs number ≡ Some graph
    pub block : slice_get graph.blocks n ≡ Some low
    pub reached : s.reached f n ≡ true
    pub later : n ≢ 0

  -- ---- exceptions

  -- the value is the home of this object, an instance of `Exception`, the class 0, or of one below it
  pub record IsException (g : Ghost) (r : ℕ) (x : Value) : Type 0 where
    pub class : ℕ
    pub home : slice_get g.homes r ≡ Some (record { sort = InstanceOf class; head = x })
    pub above : is_below s.known.program.classes class 0 ≡ true
