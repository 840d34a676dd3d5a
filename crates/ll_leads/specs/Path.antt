-- Ways of the machine from one state to another, and how many references are written on the way.
use Rattle.std.specs.Prelude.{◌≡◌, ◌≤◌, ℕ, ◌+◌, List, [], ◌∷◌, cond}
use Rattle.csub_tree.specs.State.{Value, Event}
use Rattle.csub_tree.specs.Statement.{operand}
use Rattle.ll_code.specs.State.{State, At, Goes, Puts, Tells}
use Rattle.ll_code.specs.Machine.{step}
use Rattle.ll_code.specs.declared.program.LlOp.TheVariants as op
use Rattle.ll_code.specs.declared.program.LlProgram.{LlProgram}
use Rattle.ll_held.specs.Held.{is_reference}

-- ---- ways

-- some steps lead from the one state to the other, and put this text
pub data Path (p : LlProgram) (args : List (List ℕ)) : State → List ℕ → State → Type 0 where
  Stay : (s : State) → Path p args s [] s
  Go : {s t u : State} {text : List ℕ} → step p args s ≡ Goes t → Path p args t text u → Path p args s text u
  Put : {s t u : State} {text : List ℕ} {byte : ℕ} → step p args s ≡ Puts byte t → Path p args t text u → Path p args s (byte ∷ text) u
  Tell : {s t u : State} {text : List ℕ} {event : Event} → step p args s ≡ Tells event t → Path p args t text u → Path p args s text u

-- ---- references

abbrev pub reference_in : Value → ℕ
reference_in value = cond (is_reference value) 1 0

-- whether the next operation writes a reference into a block
abbrev pub stored : State → ℕ
stored (At (op.SetField n b k x ∷ ops) e frames core) = reference_in (operand core.vars x)
stored (At (op.SetItem n b i x ∷ ops) e frames core) = reference_in (operand core.vars x)
stored other = 0

-- how many references are written on the way
abbrev pub total : {p : LlProgram} {args : List (List ℕ)} {s t : State} {text : List ℕ} → Path p args s text t → ℕ
total (Stay s) = 0
total (Go {s} e path) = stored s + total path
total (Put {s} e path) = stored s + total path
total (Tell {s} e path) = stored s + total path

-- Some steps lead from the one state to the other, put this text, and write no more than so many references into blocks.
pub record Leads (p : LlProgram) (args : List (List ℕ)) (most : ℕ) (s : State) (text : List ℕ) (t : State) : Type 0 where
  pub path : Path p args s text t
  pub few : total path ≤ most
