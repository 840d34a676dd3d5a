-- What is written reads what is set, and sets variables of the graph.
use Rattle.std.specs.Prelude.{◌≡◌, ◌≢◌, ◌<◌, ◌≤◌, ℕ, Bool, true, false, List, [], ◌∷◌, ◌++◌, length, slice_get, Some}
use Rattle.csub_tree.specs.declared.tree.COperand.{COperand}
use Rattle.csub_tree.specs.declared.tree.COperand.TheVariants.{Var}
use Rattle.ll_code.specs.declared.program.LlType.{LlType}
use Rattle.ll_code.specs.declared.program.LlType.TheVariants as type
use Rattle.ll_code.specs.declared.program.LlOp.{LlOp}
use Rattle.ll_code.specs.declared.program.LlGraph.{LlGraph}
use Rattle.ll_code.specs.declared.program.LlProgram.{LlProgram}
use Rattle.ll_build.specs.declared.needs.Helper.{Helper}
use Rattle.ll_live.specs.Live.{variables_of}
use Rattle.rtyper_layout.specs.Types.{type_seen}
use Rattle.rtyper_data.specs.declared.found.Found.{Found}
use Rattle.rtyper_data.specs.declared.small.Small.{Small}
use Rattle.rtyper_data.specs.Finding.{helper_number, small_number}
use Rattle.rtyper_data.specs.Seen.{Operand, Place, Writing, type_at, type_of}
use Rattle.rtyper_op.specs.Calls.{number_of}
use Rattle.rtyper_class.specs.Seen.{World}
use Rattle.growth_laws.specs.Growing.{Grows}
use Rattle.throw_laws.specs.Pieces.{AllIn}
use Rattle.throw_laws.specs.Ready.{AllFit, ReadIn, through}
use Rattle.reading_laws.specs.Results.{helper_gives, SmallGives}

-- ---- calls

-- what stands at a number gives something
abbrev pub GivesAt : LlProgram → ℕ → Type 0
GivesAt p number = (graph : LlGraph) → slice_get p.graphs number ≡ Some graph → graph.result ≢ type.Void

-- Between these two moments of the lowering, what is asked for stands at its number; where it is taken that it gives something, it does, and so do functions with results
-- that have types.
pub record CallsGive (p : LlProgram) (world : World) (first last : Found) : Type 0 where
  pub helpers : (h : Helper) → helper_gives h ≡ true → (found : Found) → Grows first found → Grows (helper_number h found).1 last → GivesAt p (helper_number h found).0
  pub smalls : (s : Small) → SmallGives world s → (found : Found) → Grows (small_number s found).1 last → GivesAt p (small_number s found).0
  pub functions : (n : ℕ) → type_seen world.around.layout (slice_get world.around.results n) ≢ type.Void → GivesAt p (number_of world.around n)

-- ---- around what is written

-- the program that it is written for, how many variables the graph has there, what was asked for at the first and at the last, and the place that takes the result
pub record Setup : Type 0 where
  pub program : LlProgram
  pub size : ℕ
  pub first : Found
  pub last : Found
  pub world : World
  pub place : Place

-- ---- operands

-- the variable that it is, if it is one, is set
pub record IsSet (x : COperand) (set : List ℕ) : Type 0 where
  pub it : AllIn (variables_of x) set

-- what is set there is set here
pub record Wider (set wider : List ℕ) : Type 0 where
  pub it : AllIn set wider

abbrev pub AreSet : List COperand → List ℕ → Type 0
AreSet [] set = Unit {0}
AreSet (x ∷ xs) set = IsSet x set × AreSet xs set

module _ (f : Setup) where
  -- an operand is set, and has a type
  pub record IsThere (a : Operand) (set : List ℕ) : Type 0 where
    pub inside : IsSet a.x set
    pub typed : type_of f.world.around a ≢ type.Void

  abbrev pub AreThere : List Operand → List ℕ → Type 0
  AreThere [] set = Unit {0}
  AreThere (a ∷ args) set = IsThere a set × AreThere args set

  -- what is asked for and what functions have gives something, and the place is a variable of the graph, where it has a type
  pub record Stands : Type 0 where
    pub calls : CallsGive f.program f.world f.first f.last
    pub under : type_at f.world.around f.place ≢ type.Void → f.place.variable < f.size

-- ---- what is written

-- From one moment of the writing to another: operations that read only what is set, where these variables are set before, and that set what these operands read, and new
-- variables; what is asked for grows; and where that stands in the end they set variables of the graph, which has all those that are new.
pub record Tidy (f : Setup) (set : List ℕ) (xs : List COperand) (before after : Writing) : Type 0 where
  pub ops : List LlOp
  pub new : List LlType
  pub written : after.body.ops ≡ before.body.ops ++ ops
  pub types : after.body.types ≡ before.body.types ++ new
  pub grows : Grows before.found after.found
  pub reads : ReadIn ops set
  pub sets : AreSet xs (through ops set)
  pub fits : Grows f.first before.found → Grows after.found f.last → length after.body.types ≤ f.size → AllFit f.program f.size ops

-- ---- the result

abbrev pub target : LlType → ℕ → List COperand
target type.Void v = []
target t v = Var v ∷ []

-- the place, where it has a type, and takes the result
abbrev pub taken : Bool → Setup → List COperand
taken true f = target (type_at f.world.around f.place) f.place.variable
taken false f = []

-- ---- the laws

-- what is written in two steps is tidy, where the second is so wherever what was set before, and what the first gives, is set
abbrev pub StepsFollow : Type 0
StepsFollow = (f : Setup) (set : List ℕ) (xs ys : List COperand) (a b c : Writing) → Tidy f set xs a b → ((t : List ℕ) → Wider set t → AreSet xs t → Tidy f t ys b c) → Tidy f set ys a c
