-- The references that variables own.
use Rattle.std.specs.Prelude.{◌≡◌, ◌<◌, ◌^◌, ℕ, ◌+◌, ◌&&◌, Bool, true, false, List, [], ◌∷◌, Option, Some, None, is_some}
use Rattle.csub_tree.specs.State.{Value, Ptr, Core}
use Rattle.csub_tree.specs.Statement.{read, operand}
use Rattle.csub_tree.specs.declared.tree.COperand.{COperand}
use Rattle.ll_code.specs.State.{Frame, State, At}
use Rattle.ll_code.specs.declared.program.LlOp.{LlOp}
use Rattle.ll_code.specs.declared.program.LlExit.{LlExit}
use Rattle.ll_code.specs.declared.program.LlProgram.{LlProgram}
use Rattle.ll_held.specs.Roots.{kept}
use Rattle.refcount_transform.specs.Plan.{root_of}
use Rattle.refcount_transform.specs.Changes.{Around, var_referred, operand_referred, is_given_later}
use Rattle.refcount_laws.specs.Graphs.{Counts}
use Rattle.refcount_laws.specs.Ghost.{Ghost, Fixed, Alone, F, fixed_at, count, hit, occurs, LeadsTo}
use Rattle.refcount_laws.specs.Runs.{here}
use Rattle.refcount_laws.specs.Touched.{Done}

-- the variable is used, and refers to a struct that is counted
abbrev pub owns : Around → (ℕ → Bool) → ℕ → Bool
owns around uses v = uses v && is_some (var_referred around v)

-- how often these variables hold the reference
abbrev pub owned : Around → (ℕ → Bool) → List Value → Value → ℕ
owned around uses vars r = occurs r (kept (owns around uses) 0 vars)

-- each such variable leads to a root, and has a place
pub record Leading (q : LlProgram) (around : Around) (g : Ghost) (uses : ℕ → Bool) (vars : List Value) : Type 0 where
  pub root : (v n : ℕ) → uses v ≡ true → var_referred around v ≡ Some n → root_of around.plan n ≡ n
  pub leads : (v n : ℕ) → uses v ≡ true → var_referred around v ≡ Some n → LeadsTo q g n (read vars v)

-- some steps on in a block
pub record DoneTo (q : LlProgram) (args : List (List ℕ)) (c : Counts) (g : Ghost) (own : Value → ℕ) (from : State) (rest : List LlOp) (ex : LlExit) (frames : List Frame) (core : Core) (f b : ℕ) (vars : List Value) : Type 0 where
  pub at : ℕ
  pub done : Done q args c g own from (λ h s. At rest ex frames (here core f b at vars h s))

-- the references among operands, each where it is one
abbrev pub hits_by : Option ℕ → Value → Value → ℕ
hits_by None v r = 0
hits_by (Some n) v r = hit r v

abbrev pub operand_hits : Around → List Value → COperand → Value → ℕ
operand_hits around vars x r = hits_by (operand_referred around x) (operand vars x) r

abbrev pub all_hits : Around → List Value → List COperand → Value → ℕ
all_hits around vars [] r = 0
all_hits around vars (x ∷ xs) r = operand_hits around vars x r + all_hits around vars xs r

-- an operand that is a reference leads to a root, and what it leads to is owned
pub record OperandLeads (q : LlProgram) (around : Around) (g : Ghost) (own : Value → ℕ) (vars : List Value) (x : COperand) : Type 0 where
  pub root : (n : ℕ) → operand_referred around x ≡ Some n → root_of around.plan n ≡ n
  pub leads : (n : ℕ) → operand_referred around x ≡ Some n → LeadsTo q g n (operand vars x)
  pub owned : (n a : ℕ) → operand_referred around x ≡ Some n → operand vars x ≡ Ptr a → 0 < own (Ptr a)

abbrev pub OperandsLead : LlProgram → Around → Ghost → (Value → ℕ) → List Value → List COperand → Type 0
OperandsLead q around g own vars [] = Unit {0}
OperandsLead q around g own vars (x ∷ xs) = OperandLeads q around g own vars x × OperandsLead q around g own vars xs

abbrev pub HasRoomBy : Fixed → ℕ → Type 0
HasRoomBy (Alone block) k = Unit {0}
HasRoomBy (F n kind fields items) k = n + k < 2 ^ 63

-- each count may rise so often
pub record Roomy (g : Ghost) (k : ℕ) : Type 0 where
  pub blocks : (b : ℕ) → count g.blocks b + k < 2 ^ 63
  pub statics : (s : ℕ) → HasRoomBy (fixed_at g.statics s) k

-- an exit has one reference for each operand; the last occurrence of a variable gives its own
abbrev pub given_hits_if : Bool → Around → List Value → COperand → Value → ℕ
given_hits_if true around vars x r = operand_hits around vars x r
given_hits_if false around vars x r = 0

abbrev pub given_hits : Around → List Value → List COperand → Value → ℕ
given_hits around vars [] r = 0
given_hits around vars (x ∷ xs) r = given_hits_if (is_given_later x xs) around vars x r + given_hits around vars xs r
