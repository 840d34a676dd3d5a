-- When an operation that is lowered to a call of a helper does what it does.
use Rattle.std.specs.Prelude.{◌≡◌, ◌≢◌, ◌<◌, ◌≤◌, ℕ, ◌+◌, ◌⊎◌, ◌||◌, false, ℤ, pos, negsuc, List, [], ◌∷◌, ◌++◌, length}
use Rattle.std.specs.Ordering.{int_eq}
use Rattle.rpy_tree.specs.Value.{Value as Meant}
use Rattle.rpy_meaning.specs.declared.row.RowOp.{RowOp}
use Rattle.rpy_meaning.specs.Classes.{no_covers}
use Rattle.rpy_meaning.specs.Operations.{op}
use Rattle.rpy_meaning.specs.Tree.{Program}
use Rattle.rpy_meaning.specs.World.{World, Answer, Gives, Throws, Fails, Lacks, Enters, Bad}
use Rattle.rpy_base.specs.declared.outcome.Outcome.TheVariants.{Running}
use Rattle.csub_tree.specs.State.{Core}
use Rattle.csub_tree.specs.Statement.{read}
use Rattle.ll_code.specs.State.{Frame, State, At, Ends}
use Rattle.ll_code.specs.Machine.{step}
use Rattle.ll_code.specs.declared.program.LlType.{LlType}
use Rattle.ll_code.specs.declared.program.LlType.TheVariants as type
use Rattle.ll_code.specs.declared.program.LlOp.{LlOp}
use Rattle.ll_code.specs.declared.program.LlExit.{LlExit}
use Rattle.ll_code.specs.declared.program.LlProgram.{LlProgram}
use Rattle.ll_held.specs.Held.{times}
use Rattle.ll_held.specs.Places.{IsPlaced}
use Rattle.ll_held.specs.Roots.{roots, core_of}
use Rattle.ll_leads.specs.Memory.{forgotten}
use Rattle.ll_leads.specs.Path.{Leads}
use Rattle.ll_build.specs.declared.needs.Helper.{Helper}
use Rattle.ll_build.specs.declared.needs.Numbers.{Numbers}
use Rattle.ll_texts.specs.Stands.{Stands}
use Rattle.ll_texts.specs.Follows.{FailedAs, text_blocks}
use Rattle.ll_strings.specs.Laws.{HasHelper}
use Rattle.rtyper_layout.specs.declared.kind.Kind.TheVariants as kind
use Rattle.rtyper_data.specs.Finding.{helper_number}
use Rattle.rtyper_op.specs.Lowering.{lower_op}
use Rattle.rtyper_data.specs.Seen.{Around, Operand, Place, type_of, type_at, kind_of, Writing}
use Rattle.lower_laws.specs.Follows.{AllStand}

-- The operations are done, and what comes behind them is next. A variable has what stands for the result; of the first so many no other
-- is changed. At most one string is made; the steps that are left, and what was put, are those of the operation.
pub record Called (p : LlProgram) (args : List (List ℕ)) (s : State) (rest : List LlOp) (e : LlExit) (frames : List Frame) (core : Core) (t : LlType) (into below : ℕ) (w : World) (v : Meant) (w' : World) : Type 0 where
  pub end : Core
  pub text : List ℕ
  pub leads : Leads p args 0 s text (At rest e frames end)
  pub texts : List (List ℕ)
  pub few : length texts ≤ 1
  pub memory : forgotten end ≡ forgotten (record core { blocks = core.blocks ++ text_blocks texts; steps = w'.left })
  pub stands : Stands end.blocks end.statics t (read end.vars into) v
  pub others : (n : ℕ) → n < below → n ≢ into → read end.vars n ≡ read core.vars n
  pub room : length end.vars ≡ length core.vars
  pub function : end.function ≡ core.function
  pub block : end.block ≡ core.block
  pub out : w'.out ≡ w.out ++ text
  pub heap : w'.heap ≡ w.heap

-- The steps do not suffice: the run ends over the blocks that were there. Where the operations stand at their place in the program, it
-- holds no others than were held.
pub record Lacked (p : LlProgram) (args : List (List ℕ)) (s : State) (core : Core) : Type 0 where
  pub last : State
  pub leads : Leads p args 0 s [] last
  pub ends : step p args last ≡ Ends Running (core_of last)
  pub blocks : (core_of last).blocks ≡ core.blocks
  pub holds : IsPlaced p s → (b : ℕ) → 0 < times b (roots p last) → 0 < times b (roots p s)

abbrev pub Follows : LlProgram → List (List ℕ) → State → List LlOp → LlExit → List Frame → Core → LlType → ℕ → ℕ → World → Answer → Type 0
Follows p args s rest e frames core t into below w (Gives v w') = Called p args s rest e frames core t into below w v w'
Follows p args s rest e frames core t into below w (Throws exception w') = ⊥
Follows p args s rest e frames core t into below w (Fails name) = FailedAs p args s name
Follows p args s rest e frames core t into below w Lacks = Lacked p args s core
Follows p args s rest e frames core t into below w (Enters function values instead w') = ⊥
Follows p args s rest e frames core t into below w Bad = Unit {0}

-- What is written behind what was there asks for the helper, and does what the operation does where nothing catches its failures: in
-- every program that has the helper at its number, whatever comes behind and waits.
pub record IsHelped (around : Around) (o : RowOp) (h : Helper) (place : Place) (args : List Operand) (w : Writing) : Type 0 where
  pub ops : List LlOp
  pub new : List LlType
  pub asked : (lower_op around o place args w).found ≡ (helper_number h w.found).1
  pub written : (lower_op around o place args w).body.ops ≡ w.body.ops ++ ops
  pub types : (lower_op around o place args w).body.types ≡ w.body.types ++ new
  pub follows : (program : Program) (p : LlProgram) (numbers : Numbers) (arguments : List (List ℕ)) (rest : List LlOp) (e : LlExit) (frames : List Frame) (core : Core) (world : World) (vs : List Meant)
      → HasHelper p numbers h (helper_number h w.found).0 core → world.left ≡ core.steps
      → length w.body.types + length new ≤ length core.vars → place.variable < length w.body.types → AllStand around core args vs
      → Follows p arguments (At (ops ++ rest) e frames core) rest e frames core (type_at around place) place.variable (length w.body.types) world (op program no_covers o vs world)

-- an operand that is a string, or a string or `None`
pub record IsString (around : Around) (a : Operand) : Type 0 where
  pub kind : kind_of a ≡ kind.Text
  pub type : type_of around a ≡ type.Ptr 0

pub record IsText (around : Around) (a : Operand) : Type 0 where
  pub kind : (kind_of a ≡ kind.Text) ⊎ (kind_of a ≡ kind.MaybeText)
  pub type : type_of around a ≡ type.Ptr 0

-- the operation on operands of these kinds is followed by the helper where the place is of this type
abbrev pub OnOne : (Around → Operand → Type 0) → Helper → RowOp → LlType → Type 0
OnOne IsA h o t = (around : Around) (place : Place) (a : Operand) (w : Writing) → IsA around a → type_at around place ≡ t → IsHelped around o h place (a ∷ []) w

abbrev pub OnTwo : (Around → Operand → Type 0) → (Around → Operand → Type 0) → Helper → RowOp → LlType → Type 0
OnTwo IsA IsB h o t = (around : Around) (place : Place) (a b : Operand) (w : Writing) → IsA around a → IsB around b → type_at around place ≡ t → IsHelped around o h place (a ∷ b ∷ []) w

abbrev pub OnThree : (Around → Operand → Type 0) → (Around → Operand → Type 0) → (Around → Operand → Type 0) → Helper → RowOp → LlType → Type 0
OnThree IsA IsB IsC h o t = (around : Around) (place : Place) (a b c : Operand) (w : Writing) → IsA around a → IsB around b → IsC around c → type_at around place ≡ t → IsHelped around o h place (a ∷ b ∷ c ∷ []) w

-- a step of a range that is neither one nor its opposite
abbrev pub IsLong : ℤ → Type 0
IsLong step = (int_eq step (pos 1) || int_eq step (negsuc 0)) ≡ false
