-- When the low-level operations that an operation is lowered to do what it does.
use Rattle.std.specs.Prelude.{◌≡◌, ◌≢◌, ◌<◌, ◌≤◌, ℕ, ◌+◌, List, [], ◌∷◌, ◌++◌, length}
use Rattle.rpy_tree.specs.Value.{Value as Meant}
use Rattle.rpy_meaning.specs.declared.row.Covers.{Covers}
use Rattle.rpy_meaning.specs.declared.row.RowOp.{RowOp}
use Rattle.rpy_meaning.specs.Operations.{op}
use Rattle.rpy_meaning.specs.Tree.{Program}
use Rattle.rpy_meaning.specs.World.{World, Answer, Gives, Throws, Fails, Lacks, Enters, Bad}
use Rattle.csub_tree.specs.State.{Core}
use Rattle.csub_tree.specs.Statement.{read, operand}
use Rattle.ll_code.specs.State.{Frame, State, At}
use Rattle.ll_code.specs.declared.program.LlType.{LlType}
use Rattle.ll_code.specs.declared.program.LlType.TheVariants as type
use Rattle.ll_code.specs.declared.program.LlOp.{LlOp}
use Rattle.ll_code.specs.declared.program.LlExit.{LlExit}
use Rattle.ll_code.specs.declared.program.LlProgram.{LlProgram}
use Rattle.ll_leads.specs.Memory.{forgotten}
use Rattle.ll_leads.specs.Path.{Leads}
use Rattle.ll_texts.specs.Stands.{Stands}
use Rattle.rtyper_layout.specs.declared.kind.Kind.TheVariants as kind
use Rattle.rtyper_op.specs.Lowering.{lower_op}
use Rattle.rtyper_data.specs.Seen.{Around, Operand, Place, type_of, type_at, kind_of, Writing}

-- the operands stand for these values, one for each
abbrev pub AllStand : Around → Core → List Operand → List Meant → Type 0
AllStand around core [] [] = Unit {0}
AllStand around core (a ∷ args) (v ∷ vs) = Stands core.blocks core.statics (type_of around a) (operand core.vars a.x) v × AllStand around core args vs
AllStand around core args vs = ⊥

-- The operations are done, and what comes behind them is next. A variable has what stands for the result; of the first so many no other
-- is changed, and nothing else is.
pub record Did (p : LlProgram) (args : List (List ℕ)) (s : State) (rest : List LlOp) (e : LlExit) (frames : List Frame) (core : Core) (t : LlType) (into below : ℕ) (w : World) (v : Meant) (w' : World) : Type 0 where
  pub end : Core
  pub leads : Leads p args 0 s [] (At rest e frames end)
  pub memory : forgotten end ≡ forgotten core
  pub stands : Stands end.blocks end.statics t (read end.vars into) v
  pub others : (n : ℕ) → n < below → n ≢ into → read end.vars n ≡ read core.vars n
  pub room : length end.vars ≡ length core.vars
  pub function : end.function ≡ core.function
  pub block : end.block ≡ core.block
  pub same : w' ≡ w

-- of what neither pays, fails nor raises
abbrev pub Follows : LlProgram → List (List ℕ) → State → List LlOp → LlExit → List Frame → Core → LlType → ℕ → ℕ → World → Answer → Type 0
Follows p args s rest e frames core t into below w (Gives v w') = Did p args s rest e frames core t into below w v w'
Follows p args s rest e frames core t into below w (Throws exception w') = ⊥
Follows p args s rest e frames core t into below w (Fails name) = ⊥
Follows p args s rest e frames core t into below w Lacks = ⊥
Follows p args s rest e frames core t into below w (Enters function values instead w') = ⊥
Follows p args s rest e frames core t into below w Bad = Unit {0}

-- What is written behind what was there does what the operation does, in every program, whatever comes behind and waits, where the graph
-- has room for the variables that are new.
pub record IsFollowed (around : Around) (o : RowOp) (place : Place) (args : List Operand) (w : Writing) : Type 0 where
  pub ops : List LlOp
  pub new : List LlType
  pub asked : (lower_op around o place args w).found ≡ w.found
  pub written : (lower_op around o place args w).body.ops ≡ w.body.ops ++ ops
  pub types : (lower_op around o place args w).body.types ≡ w.body.types ++ new
  pub follows : (program : Program) (covers : Covers) (p : LlProgram) (arguments : List (List ℕ)) (rest : List LlOp) (e : LlExit) (frames : List Frame) (core : Core) (world : World) (vs : List Meant)
      → length w.body.types + length new ≤ length core.vars → place.variable < length w.body.types → AllStand around core args vs
      → Follows p arguments (At (ops ++ rest) e frames core) rest e frames core (type_at around place) place.variable (length w.body.types) world (op program covers o vs world)

-- an operand that is a word, a truth value or a byte
pub record IsWord (around : Around) (a : Operand) : Type 0 where
  pub kind : kind_of a ≡ kind.Word
  pub type : type_of around a ≡ type.Signed

pub record IsFlag (around : Around) (a : Operand) : Type 0 where
  pub kind : kind_of a ≡ kind.Flag
  pub type : type_of around a ≡ type.Bool

pub record IsByte (around : Around) (a : Operand) : Type 0 where
  pub kind : kind_of a ≡ kind.Byte
  pub type : type_of around a ≡ type.Char

-- the operation on two words, or on one, is followed where the place is of this type
abbrev pub OnWords : RowOp → LlType → Type 0
OnWords o t = (around : Around) (place : Place) (a b : Operand) (w : Writing) → IsWord around a → IsWord around b → type_at around place ≡ t → IsFollowed around o place (a ∷ b ∷ []) w

abbrev pub OnWord : RowOp → LlType → Type 0
OnWord o t = (around : Around) (place : Place) (a : Operand) (w : Writing) → IsWord around a → type_at around place ≡ t → IsFollowed around o place (a ∷ []) w

abbrev pub OnFlag : RowOp → LlType → Type 0
OnFlag o t = (around : Around) (place : Place) (a : Operand) (w : Writing) → IsFlag around a → type_at around place ≡ t → IsFollowed around o place (a ∷ []) w

abbrev pub OnByte : RowOp → LlType → Type 0
OnByte o t = (around : Around) (place : Place) (a : Operand) (w : Writing) → IsByte around a → type_at around place ≡ t → IsFollowed around o place (a ∷ []) w
