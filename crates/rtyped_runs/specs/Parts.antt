-- When the parts of a program that is lowered are done: its operations, and what its exits pass on, give back, raise and ask.
use Rattle.std.specs.Prelude.{◌≡◌, ◌≤◌, ◌⊎◌, ℕ, true, false, List, [], ◌∷◌, ◌++◌, length, slice_get, Some, None}
use Rattle.ann_element.specs.declared.element.Element.{Element}
use Rattle.ann_element.specs.declared.element.Element.TheVariants as element
use Rattle.ll_code.specs.declared.program.LlType.{LlType}
use Rattle.ll_code.specs.declared.program.LlType.TheVariants as type
use Rattle.ll_code.specs.declared.program.LlOp.{LlOp}
use Rattle.ll_code.specs.declared.program.LlExit.{LlExit}
use Rattle.ll_build.specs.declared.needs.Numbers.{Numbers}
use Rattle.ll_live.specs.Live.{among}
use Rattle.flow_graph.specs.declared.graph.Block.{Block}
use Rattle.flow_graph.specs.declared.graph.Exit.{Exit}
use Rattle.flow_graph.specs.declared.graph.Exit.TheVariants as exit
use Rattle.flow_graph.specs.declared.graph.Op.{Op}
use Rattle.rtyper_data.specs.declared.found.Found.{Found}
use Rattle.rtyper_data.specs.Seen.{Writing}
use Rattle.rtyper_program.specs.Blocks.{op_of, raise_as}
use Rattle.rtyper_program.specs.Graphs.{variables}
use Rattle.rtyper_program.specs.Links.{branch, give_back, goto, link_of, truth_test}
use Rattle.rtyper_program.specs.Raises.{exit_catches}
use Rattle.rtyper_program.specs.Seen.{Lowered, operand_of, type_at, element_at}
use Rattle.growth_laws.specs.Growing.{Grows}
use Rattle.run_laws.specs.Points.{Setting, is_conflict}
use Rattle.block_laws.specs.Operations.{AreRead, HasTypes, IsOperation, IsUncaught, NeverGives}
use Rattle.block_laws.specs.Links.{IsLink}
use Rattle.block_laws.specs.Exits.{AreExceptions, AreWays, IsGiven, IsTested}

-- ---- operations

-- what an operation is written as does what the operation does
pub record OpIsWritten (s : Setting) (l : Lowered) (o : Op) (w : Writing) : Type 0 where
  pub ops : List LlOp
  pub new : List LlType
  pub written : (op_of l o w).body.ops ≡ w.body.ops ++ ops
  pub types : (op_of l o w).body.types ≡ w.body.types ++ new
  pub is : IsOperation s l.number o (length w.body.types) (length new) ops

-- its operands are in no conflict, or one never has a value; its result goes to a variable that is new, and what it throws leaves the graph
pub record OpIsDone (s : Setting) (l : Lowered) (names : List ℕ) (o : Op) (behind : List Op) (e : Exit) (w : Writing) : Type 0 where
  pub does : OpIsWritten s l o w
  pub are_read : AreRead s l.number o.args
  pub fresh : among o.result names ≡ false
  pub uncaught : IsUncaught s l.number names behind e

-- each of a block, whatever was asked for before, between these two moments of the lowering
abbrev pub OpsAreDone : Setting → Lowered → Found → Found → List ℕ → List Op → Exit → Type 0
OpsAreDone s l first last names [] e = Unit {0}
OpsAreDone s l first last names (o ∷ ops) e = ((w : Writing) → Grows first w.found → Grows (op_of l o w).found last → length (variables l.known l.world l.number) ≤ length w.body.types → OpIsDone s l names o ops e w) × OpsAreDone s l first last (names ++ o.result ∷ []) ops e

-- ---- exits

-- an instance of a class of exceptions, which is there
pub record IsThrown (s : Setting) (l : Lowered) (v : ℕ) : Type 0 where
  pub class : ℕ
  pub is : element_at l.known.annotation l.number v ≡ Some (element.Instance class false)
  pub exceptions : AreExceptions s.known class

-- the exit that is written where nothing is caught
abbrev pub exit_plain : Lowered → Exit → Writing → LlExit × Writing
exit_plain l (exit.Goto link) w = goto (link_of l None link w)
exit_plain l (exit.If v there elsewhere) w = branch l v there elsewhere w
exit_plain l (exit.OnRaise v hands by without) w = goto (link_of l None without w)
exit_plain l (exit.Return v) w = give_back l v w
exit_plain l (exit.Raise v) w = (raise_as v (type_at l v), w)

-- what an exit passes on, gives back, raises and asks is done
abbrev pub ExitIsDone : Setting → Numbers → Lowered → List ℕ → Exit → Writing → Type 0
ExitIsDone s numbers l names (exit.Goto link) w = IsLink s numbers l names link w
ExitIsDone s numbers l names (exit.If v there elsewhere) w = (is_conflict (s.element l.number v) ≡ false) × IsTested s l v w (truth_test l.world.around (operand_of l v) w).0 (truth_test l.world.around (operand_of l v) w).1
    × AreWays s numbers l names v there elsewhere (truth_test l.world.around (operand_of l v) w).0 (truth_test l.world.around (operand_of l v) w).1
ExitIsDone s numbers l names (exit.OnRaise v hands by without) w = IsLink s numbers l names without w
ExitIsDone s numbers l names (exit.Return v) w = IsGiven s numbers l v w
ExitIsDone s numbers l names (exit.Raise v) w = IsThrown s l v

-- whatever was asked for before
abbrev pub ExitsAreDone : Setting → Numbers → Lowered → Found → Found → List ℕ → Exit → Type 0
ExitsAreDone s numbers l first last names e = (w : Writing) → Grows first w.found → Grows (exit_plain l e w).1.found last → length (variables l.known l.world l.number) ≤ length w.body.types → ExitIsDone s numbers l names e w

-- ---- blocks and graphs

abbrev pub names_behind : List ℕ → List Op → List ℕ
names_behind names [] = names
names_behind names (o ∷ ops) = names_behind (names ++ o.result ∷ []) ops

-- one of the operations never gives a value
abbrev pub StopsAt : Setting → ℕ → List Op → Type 0
StopsAt s f [] = ⊥
StopsAt s f (o ∷ ops) = NeverGives s f o ⊎ StopsAt s f ops

-- Of a block that catches nothing: behind an operation that never gives a value nothing is asked of the exit.
pub record BlockIsDone (s : Setting) (numbers : Numbers) (l : Lowered) (first last : Found) (b : Block) : Type 0 where
  pub ops : OpsAreDone s l first last b.inputs b.ops b.exit
  pub catches : exit_catches l.graph b.exit ≡ false
  pub exit : StopsAt s l.number b.ops ⊎ ExitsAreDone s numbers l first last (names_behind b.inputs b.ops) b.exit

-- The first block has the parameters in the first variables, each known as its parameter is; of the other locals nothing is known.
pub record TakesParameters (l : Lowered) (params : List Element) (b : Block) : Type 0 where
  pub counted : (i v : ℕ) → slice_get b.inputs i ≡ Some v → v ≡ i
  pub enough : length params ≤ length b.inputs
  pub some : length params ≤ length (variables l.known l.world l.number)
  pub known : (i : ℕ) (e : Element) → slice_get params i ≡ Some e → element_at l.known.annotation l.number i ≡ Some e
  pub others : (i v : ℕ) → slice_get b.inputs i ≡ Some v → slice_get params i ≡ None → type_at l v ≡ type.Void

-- of a graph of this number, whose function has it too
pub record GraphIsDone (s : Setting) (numbers : Numbers) (l : Lowered) (first last : Found) : Type 0 where
  pub function : l.graph.function ≡ l.number
  pub types : HasTypes s l.number (length (variables l.known l.world l.number))
  pub blocks : (n : ℕ) (b : Block) → slice_get l.graph.blocks n ≡ Some b → s.reached l.number n ≡ true → BlockIsDone s numbers l first last b
  pub begins : s.reached l.number 0 ≡ true
  pub params : (params : List Element) (b : Block) → slice_get l.world.around.params l.number ≡ Some params → slice_get l.graph.blocks 0 ≡ Some b → TakesParameters l params b
  pub some_block : (b : Block) × (slice_get l.graph.blocks 0 ≡ Some b)
