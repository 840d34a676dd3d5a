-- What the narrowings of flow graphs tell is true wherever a run comes to one.
use Rattle.std.specs.Prelude.{◌≡◌, ◌≢◌, ℕ, int_lt, true, false, List, [], ◌∷◌, slice_get, Option, Some}
use Rattle.rpy_tree.specs.Value.{Value, Word, Text, Nothing, Ref, Instance}
use Rattle.rpy_meaning.specs.declared.row.RowOp.{RowOp}
use Rattle.rpy_meaning.specs.declared.row.RowOp.TheVariants as row
use Rattle.rpy_meaning.specs.Tree.{Program}
use Rattle.rpy_meaning.specs.Classes.{is_below}
use Rattle.rpy_meaning.specs.Operations.{truth_in}
use Rattle.rpy_meaning.specs.World.{World}
use Rattle.rpy_resolved.specs.declared.tree.Resolved.{Resolved}
use Rattle.resolved_meaning.specs.Trees.{program_of}
use Rattle.flow_graph.specs.declared.graph.Exit.{Exit}
use Rattle.flow_graph.specs.declared.graph.Graphs.{Graphs}
use Rattle.flow_graph.specs.declared.graph.Op.{Op}
use Rattle.flow_meaning.specs.Machine.{Bound, Frame, At, values_of}
use Rattle.flow_meaning.specs.Meaning.{start}
use Rattle.flow_runs.specs.Runs.{Reaches}
use Rattle.flow_space.specs.Placed.{NodesAt}
use Rattle.flow_space.specs.Trees.{functions_of}
use Rattle.graph_told.specs.Plain.{ArePlain}

-- ---- what is told

-- an instance of the class, or of one below it
pub record IsOf (p : Program) (class : ℕ) (w : World) (x : Value) : Type 0 where
  pub object : ℕ
  pub is : x ≡ Ref object
  pub of : ℕ
  pub attributes : List (List ℕ × Value)
  pub there : slice_get w.heap object ≡ Some (Instance of attributes)
  pub below : is_below p.classes of class ≡ true

-- two words, of which the first is at least the second; or two strings
abbrev pub AreOrdered : Value → Value → Type 0
AreOrdered (Word a) (Word b) = int_lt a b ≡ false
AreOrdered (Text a) (Text b) = Unit {0}
AreOrdered x y = ⊥

-- What an operation that narrows says of its operands: the local is not `None`; it is; it is false; it is an instance of the class; it is at least as
-- large as what stands beside it. Other operations say nothing.
abbrev pub IsTold : Program → RowOp → World → List Value → Type 0
IsTold p row.DropNone w vs = (x : Value) × (vs ≡ x ∷ []) × (x ≢ Nothing)
IsTold p row.OnlyNone w vs = vs ≡ Nothing ∷ []
IsTold p row.FalseNone w vs = (x : Value) × (vs ≡ x ∷ []) × (truth_in w x ≡ Some false)
IsTold p (row.Lower class) w vs = (x : Value) × (vs ≡ x ∷ []) × IsOf p class w x
IsTold p row.NonNegative w vs = (x y : Value) × (vs ≡ x ∷ y ∷ []) × AreOrdered x y
IsTold p o w vs = Unit {0}

-- ---- runs

-- Of graphs that stand for trees that narrow nothing themselves, wherever a run from the start stands before an operation with operands that are bound, what
-- it tells of them is true. The program of the run has the constants of the trees.
abbrev pub NarrowingsTellTheTruth : Type 0
NarrowingsTellTheTruth = (r : Resolved) (gs : Graphs) → NodesAt r gs → ArePlain (functions_of r) → (p : Program) → p.sites ≡ (program_of r).sites → (args : List (List ℕ)) (n : ℕ)
    → (f : ℕ) (o : Op) (ops : List Op) (e : Exit) (env : List Bound) (instead : Option Value) (frames : List Frame) (w : World) → Reaches p gs (start p args n) (At f (o ∷ ops) e env instead frames w)
    → (vs : List Value) → values_of env o.args ≡ Some vs → IsTold p o.op w vs
