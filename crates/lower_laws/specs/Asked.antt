-- What an operation asks for, and that it stands at its numbers.
use Rattle.std.specs.Prelude.{◌≡◌, ℕ, Bool, List, [], ◌∷◌, if◌then◌else◌, slice_get, Some, codes}
use Rattle.csub_tree.specs.declared.tree.CBinary.{CBinary}
use Rattle.csub_tree.specs.declared.tree.CBinary.TheVariants as binary
use Rattle.csub_tree.specs.declared.tree.CConst.TheVariants as constant
use Rattle.csub_tree.specs.declared.tree.COperand.TheVariants.{Const}
use Rattle.csub_tree.specs.State.{Value, Static, Core}
use Rattle.ll_code.specs.declared.program.LlType.TheVariants as type
use Rattle.ll_code.specs.declared.program.LlOp.TheVariants as op
use Rattle.ll_code.specs.declared.program.LlExit.TheVariants as exit
use Rattle.ll_code.specs.declared.program.LlGraph.{LlGraph}
use Rattle.ll_code.specs.declared.program.LlProgram.{LlProgram}
use Rattle.ll_helpers.specs.Helpers.{graph_for}
use Rattle.ll_build.specs.declared.needs.Helper.{Helper}
use Rattle.rpy_meaning.specs.declared.row.Covers.{Covers}
use Rattle.ll_build.specs.declared.needs.Numbers.{Numbers}
use Rattle.ll_strings.specs.Laws.{HasHelper}
use Rattle.rtyper_layout.specs.declared.layout.Layout.{Layout}
use Rattle.rtyper_data.specs.declared.found.Found.{Found}
use Rattle.rtyper_data.specs.declared.small.Small.{Small}
use Rattle.rtyper_data.specs.declared.small.Small.TheVariants as small
use Rattle.rtyper_data.specs.Building.{block_with, graph_with}
use Rattle.rtyper_data.specs.Finding.{failures_of, helper_number, small_number}
use Rattle.rtyper_raising.specs.Raising.{raising_graph, raised_in}
use Rattle.rtyper_data.specs.Smalls.{small_graph}

-- a helper, one that raises what is covered, or a small graph
pub data Ask : Type 0 where
  Help : Helper → Ask
  Raise : Helper → Ask
  Make : Small → Ask

abbrev pub number_of : Ask → Found → ℕ × Found
number_of (Help h) found = helper_number h found
number_of (Raise h) found = helper_number h found
number_of (Make s) found = small_number s found

-- each is asked for in turn
abbrev pub all_asked : List Ask → Found → Found
all_asked [] found = found
all_asked (a ∷ asks) found = all_asked asks (number_of a found).1

-- ---- what raises

-- the graph that raises the one instance of a builtin class, which is a static of this struct
abbrev pub raising : ℕ → ℕ → LlGraph
raising n instance = graph_with (codes "raise") [] type.Void (type.Ptr n ∷ []) (block_with [] (op.Set 0 (Const (constant.Static n instance)) ∷ []) (exit.Raise 0) ∷ [])

pub record Raises (p : LlProgram) (f : ℕ) (x : Value) : Type 0 where
  pub struct : ℕ
  pub instance : ℕ
  pub graph : slice_get p.graphs f ≡ Some (raising struct instance)
  pub value : x ≡ Static instance

-- what raises exceptions of these classes is asked for in turn, and stands at its numbers
abbrev pub AllRaise : LlProgram → (ℕ → Value) → List ℕ → Found → Type 0
AllRaise p raised [] found = Unit {0}
AllRaise p raised (class ∷ classes) found = Raises p (small_number (small.Raise class) found).0 (raised class) × AllRaise p raised classes (small_number (small.Raise class) found).1

-- ---- small graphs

abbrev pub if_raised : Bool → ℕ → List ℕ
if_raised raises class = if raises then class ∷ [] else []

abbrev pub checked_raises : CBinary → Bool → List ℕ
checked_raises binary.Add raises = 3 ∷ []
checked_raises binary.Sub raises = 3 ∷ []
checked_raises binary.Mul raises = 3 ∷ []
checked_raises binary.Shl raises = 3 ∷ if_raised raises 8
checked_raises binary.Mod raises = if_raised raises 4
checked_raises other raises = 3 ∷ if_raised raises 4

-- the classes of what it raises, in the order in which it asks for what raises it
abbrev pub raised_by : Small → List ℕ
raised_by (small.Checked o raises) = checked_raises o raises
raised_by small.CheckedNeg = 3 ∷ []
raised_by small.IntOfText = 8 ∷ []
raised_by (small.Fail raises) = if_raised raises 9
raised_by (small.Present t raises) = if_raised raises 9
raised_by other = []

-- the small graph has this number, and what it raises is raised
pub record HasSmall (p : LlProgram) (layout : Layout) (raised : ℕ → Value) (s : Small) (f : ℕ) : Type 0 where
  pub made : Found
  pub graph : slice_get p.graphs f ≡ Some (small_graph layout s made).0
  pub raises : AllRaise p raised (raised_by s) made

-- the helper, which calls no other, has this number, and raises those of its failures that are covered
pub record HasRaising (p : LlProgram) (numbers : Numbers) (raised : ℕ → Value) (h : Helper) (covers : Covers) (f : ℕ) : Type 0 where
  pub made : Found
  pub graph : slice_get p.graphs f ≡ Some (raising_graph covers (graph_for numbers h) made)
  pub raises : AllRaise p raised (raised_in covers (graph_for numbers h).blocks) made

-- ---- all that is asked for

abbrev pub Has : LlProgram → Layout → Numbers → (ℕ → Value) → Core → Ask → Found → Type 0
Has p layout numbers raised core (Help h) found = HasHelper p numbers h (helper_number h found).0 core
Has p layout numbers raised core (Raise h) found = HasRaising p numbers raised h (failures_of h found.covered) (helper_number h found).0
Has p layout numbers raised core (Make s) found = HasSmall p layout raised s (small_number s found).0

abbrev pub HasAll : LlProgram → Layout → Numbers → (ℕ → Value) → Core → List Ask → Found → Type 0
HasAll p layout numbers raised core [] found = Unit {0}
HasAll p layout numbers raised core (a ∷ asks) found = Has p layout numbers raised core a found × HasAll p layout numbers raised core asks (number_of a found).1
