-- Exits that give back, raise, or choose.
use Rattle.std.specs.Prelude.{◌≡◌, ◌≢◌, ◌<◌, ◌≤◌, ◌⊎◌, ℕ, ◌+◌, Bool, true, false, List, [], ◌++◌, length, slice_get, Some, None}
use Rattle.ann_element.specs.declared.element.Element.TheVariants as element
use Rattle.csub_tree.specs.declared.tree.COperand.TheVariants.{Var, Const}
use Rattle.csub_tree.specs.State.{Value, Flag, Core}
use Rattle.csub_tree.specs.Statement.{read}
use Rattle.ll_code.specs.State.{Frame, At}
use Rattle.ll_code.specs.declared.program.LlType.{LlType}
use Rattle.ll_code.specs.declared.program.LlType.TheVariants as type
use Rattle.ll_code.specs.declared.program.LlOp.{LlOp}
use Rattle.ll_code.specs.declared.program.LlExit.{LlExit}
use Rattle.ll_code.specs.declared.program.LlProgram.{LlProgram}
use Rattle.ll_build.specs.declared.needs.Numbers.{Numbers}
use Rattle.rpy_tree.specs.Value.{Value as Meant}
use Rattle.rpy_meaning.specs.Classes.{is_below}
use Rattle.rpy_meaning.specs.Operations.{truth_in}
use Rattle.rpy_meaning.specs.World.{World}
use Rattle.flow_graph.specs.declared.graph.Exit.TheVariants as exit
use Rattle.flow_graph.specs.declared.graph.Graphs.{Graphs}
use Rattle.flow_graph.specs.declared.graph.Link.{Link}
use Rattle.rtyper_layout.specs.declared.kind.Kind.TheVariants as kind
use Rattle.rtyper_layout.specs.Kinds.{kind_seen}
use Rattle.rtyper_layout.specs.Types.{type_seen}
use Rattle.rtyper_op.specs.declared.text.Test.{Test}
use Rattle.rtyper_op.specs.declared.text.Test.TheVariants.{Known as IsKnown, By}
use Rattle.rtyper_data.specs.Seen.{Writing}
use Rattle.rtyper_program.specs.Blocks.{raise_as}
use Rattle.rtyper_program.specs.Links.{branch, give_back, link_of, truth_test}
use Rattle.rtyper_program.specs.Seen.{Lowered, operand_of, type_at}
use Rattle.object_laws.specs.Done.{HasLayout}
use Rattle.object_laws.specs.Ghost.{Ghost, Grown}
use Rattle.object_laws.specs.Known.{Known}
use Rattle.object_laws.specs.Represents.{Represents}
use Rattle.object_laws.specs.Values.{Holds}
use Rattle.run_laws.specs.Points.{Setting, is_conflict, truth_known, Way}
use Rattle.block_laws.specs.Links.{setting, Converts, Ends, HasBlocks, IsLink}
use Rattle.block_laws.specs.Operations.{HasTypes}

-- ---- results

-- The type of the result is that of what is known of it, and what is given, which is in no conflict, is converted to that; where it has no type, nothing
-- is ever given.
pub record IsGiven (s : Setting) (numbers : Numbers) (l : Lowered) (v : ℕ) (w : Writing) : Type 0 where
  pub result : l.result ≡ type_seen s.around.layout (slice_get s.around.results l.number)
  pub inside : v < length w.body.types
  pub free : is_conflict (s.element l.number v) ≡ false
  pub never : l.result ≡ type.Void → type_at l v ≡ type.Void
  pub converts : l.result ≢ type.Void → Converts s numbers (s.element l.number v) (slice_get s.around.results l.number) (Var v) w

-- what is given back has what stands for the result
abbrev pub ResultsAreGiven : Type 0
ResultsAreGiven = (l : Lowered) (known : Known) (graphs : Graphs) (p : LlProgram) (arguments : List (List ℕ)) (numbers : Numbers) (below : ℕ) (names : List ℕ) (v : ℕ) (w : Writing)
    → HasLayout p l.world.around.layout → HasTypes (setting l known graphs p arguments) l.number below → IsGiven (setting l known graphs p arguments) numbers l v w → Ends (setting l known graphs p arguments) l names (exit.Return v) w (give_back l v w)

-- each class below it is an exception
abbrev pub AreExceptions : Known → ℕ → Type 0
AreExceptions known class = (c : ℕ) → is_below known.program.classes c class ≡ true → is_below known.program.classes c 0 ≡ true

-- an instance of a class of exceptions that is there is raised, and leaves the graph
abbrev pub ExceptionsLeave : Type 0
ExceptionsLeave = (l : Lowered) (known : Known) (graphs : Graphs) (p : LlProgram) (arguments : List (List ℕ)) (below : ℕ) (names : List ℕ) (v class : ℕ) (w : Writing)
    → HasTypes (setting l known graphs p arguments) l.number below → (setting l known graphs p arguments).element l.number v ≡ Some (element.Instance class false) → AreExceptions known class
    → Ends (setting l known graphs p arguments) l names (exit.Raise v) w (raise_as v (type_at l v), w)

-- ---- tests

-- the variable has the answer
pub record Tests (s : Setting) (l : Lowered) (w : Writing) (t : ℕ) (b : Bool) (next : List LlOp) (e : LlExit) (frames : List Frame) (core : Core) (g : Ghost) (world : World) (ops : List LlOp) : Type 0 where
  pub end : Core
  pub way : Way s (At (ops ++ next) e frames core) [] (At next e frames end)
  pub ghost : Ghost
  pub grown : Grown g ghost
  pub stands : Represents s.around.layout s.known ghost world.heap world.left end.blocks end.statics
  pub left : world.left ≡ end.steps
  pub answer : read end.vars t ≡ Flag b
  pub others : (n : ℕ) → n < length w.body.types → read end.vars n ≡ read core.vars n
  pub room : length end.vars ≡ length core.vars
  pub function : end.function ≡ core.function

-- What is written for a test puts its answer into a variable, and sets none of the variables before.
pub record TestedBy (s : Setting) (l : Lowered) (v : ℕ) (w : Writing) (t : ℕ) (after : Writing) : Type 0 where
  pub ops : List LlOp
  pub new : List LlType
  pub written : after.body.ops ≡ w.body.ops ++ ops
  pub types : after.body.types ≡ w.body.types ++ new
  pub inside : t < length w.body.types + length new
  pub follows : (next : List LlOp) (e : LlExit) (frames : List Frame) (core : Core) (g : Ghost) (world : World) (x : Meant) (b : Bool) → Represents s.around.layout s.known g world.heap world.left core.blocks core.statics → world.left ≡ core.steps
      → length w.body.types + length new ≤ length core.vars → Holds s.around.layout s.known g (s.element l.number v) (read core.vars v) x → truth_in world x ≡ Some b
      → Tests s l w t b next e frames core g world ops

-- what is known of the truth of the variable is told
abbrev pub IsToldOf : Setting → Lowered → ℕ → World → Meant → Type 0
IsToldOf s l v world x = (b : Bool) → truth_known s l.number v ≡ Some b → truth_in world x ≡ Some b

-- the answer of the test is always this one, over memory that represents the heap, and nothing is written
pub record AnswersBy (s : Setting) (l : Lowered) (v : ℕ) (w : Writing) (b : Bool) (after : Writing) : Type 0 where
  pub same : after.body ≡ w.body
  pub answer : (g : Ghost) (core : Core) (value : Value) (x : Meant) (world : World) (c : Bool) → Represents s.around.layout s.known g world.heap world.left core.blocks core.statics → IsToldOf s l v world x → Holds s.around.layout s.known g (s.element l.number v) value x → truth_in world x ≡ Some c → c ≡ b

abbrev pub IsTested : Setting → Lowered → ℕ → Writing → Test → Writing → Type 0
IsTested s l v w (IsKnown b) after = AnswersBy s l v w b after
IsTested s l v w (By (Var t)) after = TestedBy s l v w t after
IsTested s l v w (By (Const c)) after = ⊥

-- the test never has this answer
abbrev pub IsNever : Setting → Lowered → ℕ → Bool → Type 0
IsNever s l v b = (g : Ghost) (value : Value) (x : Meant) (world : World) → IsToldOf s l v world x → Holds s.around.layout s.known g (s.element l.number v) value x → truth_in world x ≡ Some b → ⊥

-- the links of a test, behind what is written for it: of one that is known the one that is taken, if it ever is
abbrev pub AreWays : Setting → Numbers → Lowered → List ℕ → ℕ → Link → Link → Test → Writing → Type 0
AreWays s numbers l names v there elsewhere (IsKnown true) w = IsLink s numbers l names there w ⊎ IsNever s l v true
AreWays s numbers l names v there elsewhere (IsKnown false) w = IsLink s numbers l names elsewhere w ⊎ IsNever s l v false
AreWays s numbers l names v there elsewhere (By x) w = IsLink s numbers l names there w × IsLink s numbers l names elsewhere (link_of l None there w).1

-- by the truth of a variable one of two links is taken
abbrev pub BranchesAreTaken : Type 0
BranchesAreTaken = (l : Lowered) (known : Known) (graphs : Graphs) (p : LlProgram) (arguments : List (List ℕ)) (numbers : Numbers) (below : ℕ) (names : List ℕ) (v : ℕ) (there elsewhere : Link) (w : Writing)
    → HasLayout p l.world.around.layout → HasTypes (setting l known graphs p arguments) l.number below → below ≤ length w.body.types → slice_get graphs.graphs l.number ≡ Some l.graph → HasBlocks (setting l known graphs p arguments) l → is_conflict ((setting l known graphs p arguments).element l.number v) ≡ false
    → IsTested (setting l known graphs p arguments) l v w (truth_test l.world.around (operand_of l v) w).0 (truth_test l.world.around (operand_of l v) w).1
    → AreWays (setting l known graphs p arguments) numbers l names v there elsewhere (truth_test l.world.around (operand_of l v) w).0 (truth_test l.world.around (operand_of l v) w).1
    → Ends (setting l known graphs p arguments) l names (exit.If v there elsewhere) w (branch l v there elsewhere w)

-- a variable that is a truth value is the test itself, or its answer is known
abbrev pub FlagsAreTests : Type 0
FlagsAreTests = (l : Lowered) (known : Known) (graphs : Graphs) (p : LlProgram) (arguments : List (List ℕ)) (v : ℕ) (w : Writing) → kind_seen ((setting l known graphs p arguments).element l.number v) ≡ kind.Flag → v < length w.body.types
    → IsTested (setting l known graphs p arguments) l v w (truth_test l.world.around (operand_of l v) w).0 (truth_test l.world.around (operand_of l v) w).1
