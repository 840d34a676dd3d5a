-- What operations and exits read and set, and what is live: what the rest of a block reads before it sets it.
use Rattle.std.specs.Prelude.{ℕ, ◌==◌, ◌||◌, ◌&&◌, not, Bool, false, List, [], ◌∷◌, ◌++◌, Option, Some, None}
use Rattle.csub_tree.specs.declared.tree.COperand.{COperand}
use Rattle.csub_tree.specs.declared.tree.COperand.TheVariants.{Var, Const}
use Rattle.ll_code.specs.declared.program.LlOp.{LlOp}
use Rattle.ll_code.specs.declared.program.LlOp.TheVariants as op
use Rattle.ll_code.specs.declared.program.LlExit.{LlExit}
use Rattle.ll_code.specs.declared.program.LlExit.TheVariants as exit

abbrev pub among : ℕ → List ℕ → Bool
among v [] = false
among v (w ∷ variables) = (w == v) || among v variables

-- ---- what is read

abbrev pub variables_of : COperand → List ℕ
variables_of (Var v) = v ∷ []
variables_of (Const c) = []

abbrev pub variables_in : List COperand → List ℕ
variables_in [] = []
variables_in (x ∷ xs) = variables_of x ++ variables_in xs

abbrev pub reads : LlOp → List ℕ
reads (op.Set a x) = variables_of x
reads (op.Unary a o x) = variables_of x
reads (op.Binary a o x y) = variables_of x ++ variables_of y
reads (op.GetField a n b k) = b ∷ []
reads (op.SetField n b k x) = b ∷ variables_of x
reads (op.GetItem a n b i) = b ∷ variables_of i
reads (op.SetItem n b i x) = b ∷ variables_of i ++ variables_of x
reads (op.New a m n) = []
reads (op.NewArray a m n x) = variables_of x
reads (op.Free a) = a ∷ []
reads (op.Step x) = variables_of x
reads (op.Call into f xs) = variables_in xs
reads (op.CallFn into result params b xs) = b ∷ variables_in xs
reads (op.ExcType a n) = []
reads (op.ExcValue a n) = []
reads (op.ExcSet a b) = a ∷ b ∷ []
reads op.ExcClear = []
reads (op.Argc a) = []
reads (op.ArgLen a x) = variables_of x
reads (op.Arg a x y) = variables_of x ++ variables_of y
reads (op.Put x) = variables_of x
reads (op.Raise a) = a ∷ []

abbrev pub set_by : LlOp → Option ℕ
set_by (op.Set a x) = Some a
set_by (op.Unary a o x) = Some a
set_by (op.Binary a o x y) = Some a
set_by (op.GetField a n b k) = Some a
set_by (op.GetItem a n b i) = Some a
set_by (op.New a m n) = Some a
set_by (op.NewArray a m n x) = Some a
set_by (op.Call into f xs) = into
set_by (op.CallFn into result params b xs) = into
set_by (op.ExcType a n) = Some a
set_by (op.ExcValue a n) = Some a
set_by (op.Argc a) = Some a
set_by (op.ArgLen a x) = Some a
set_by (op.Arg a x y) = Some a
set_by other = None

abbrev pub variables_given : Option COperand → List ℕ
variables_given None = []
variables_given (Some x) = variables_of x

abbrev pub exit_variables : LlExit → List ℕ
exit_variables (exit.Goto link) = variables_in link.args
exit_variables (exit.If w there elsewhere) = w ∷ variables_in there.args ++ variables_in elsewhere.args
exit_variables (exit.OnRaise a by without) = variables_in without.args
exit_variables (exit.Return x) = variables_given x
exit_variables (exit.Raise w) = w ∷ []
exit_variables (exit.Fail n) = []
exit_variables (exit.Raised w) = w ∷ []

-- what a way by an exception reads: the variable of the exception is set there
abbrev pub handler_variable : LlExit → ℕ → Bool
handler_variable (exit.OnRaise a (Some by) without) v = not (a == v) && among v (variables_in by.args)
handler_variable other v = false

abbrev pub exit_reads : LlExit → ℕ → Bool
exit_reads exit v = among v (exit_variables exit) || handler_variable exit v

-- ---- what is live

abbrev pub sets : Option ℕ → ℕ → Bool
sets None v = false
sets (Some a) v = a == v

-- what operations and the exit behind them read before they set it
abbrev pub live : List LlOp → LlExit → ℕ → Bool
live [] exit v = exit_reads exit v
live (o ∷ ops) exit v = among v (reads o) || (not (sets (set_by o) v) && live ops exit v)
