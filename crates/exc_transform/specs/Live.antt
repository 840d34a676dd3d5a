-- What the rest of a block reads before it sets it, each variable once.
use Rattle.std.specs.Prelude.{ℕ, ◌||◌, Bool, false, cond, List, [], ◌∷◌, ◌++◌, map, Option, Some, None}
use Rattle.csub_tree.specs.declared.tree.COperand.{COperand}
use Rattle.csub_tree.specs.declared.tree.COperand.TheVariants.{Var}
use Rattle.ll_code.specs.declared.program.LlLink.{LlLink}
use Rattle.ll_code.specs.declared.program.LlOp.{LlOp}
use Rattle.ll_code.specs.declared.program.LlExit.{LlExit}
use Rattle.ll_code.specs.declared.program.LlExit.TheVariants as exit
use Rattle.ll_live.specs.Live.{among, variables_in, reads, set_by, exit_variables}
use Rattle.exc_transform.specs.Raising.{may_raise}

-- ---- what is live

-- the variables that are in neither list, behind those that are in the second
abbrev pub new_ones : List ℕ → List ℕ → List ℕ → List ℕ
new_ones [] set into = into
new_ones (v ∷ variables) set into = new_ones variables set (cond (among v set || among v into) into (into ++ v ∷ []))

-- what a link reads but the variable
abbrev pub read_behind : ℕ → LlLink → List ℕ
read_behind a link = new_ones (variables_in link.args) (a ∷ []) []

-- what an exit reads where the operation before the others raised an exception, which it takes
abbrev pub handler_reads : List LlOp → LlExit → List ℕ
handler_reads [] (exit.OnRaise a (Some by) without) = read_behind a by
handler_reads rest other = []

-- what the exit reads; by an exception only where the last operation may raise one
abbrev pub exit_reads : Bool → LlExit → List ℕ
exit_reads raises exit = cond raises (handler_reads [] exit) [] ++ exit_variables exit

abbrev pub and_this : List ℕ → Option ℕ → List ℕ
and_this set None = set
and_this set (Some a) = set ++ a ∷ []

-- where these are set and those are read so far, and the operation before may raise or not
abbrev pub live_from : List Bool → Bool → Bool → List ℕ → List ℕ → List LlOp → LlExit → List ℕ
live_from marks any raises set live [] exit = new_ones (exit_reads raises exit) set live
live_from marks any raises set live (o ∷ ops) exit = live_from marks any (may_raise marks any o) (and_this set (set_by o)) (new_ones (reads o) set live) ops exit

-- what operations and the exit behind them read before they set it
abbrev pub live : List Bool → Bool → List LlOp → LlExit → List ℕ
live marks any ops exit = live_from marks any false [] [] ops exit

abbrev pub as_operands : List ℕ → List COperand
as_operands variables = map Var variables
