-- Programs by words, for worked runs.
use Rattle.std.specs.Prelude.{ℕ, ◌-◌, ◌++◌, false, pos, negsuc, List, [], ◌∷◌, replicate, Option, Some, None, codes}
use Rattle.rpy_base.specs.declared.outcome.Outcome.{Outcome}
use Rattle.rpy_tree.specs.declared.syntax.BinOp.{BinOp}
use Rattle.rpy_tree.specs.declared.syntax.CmpOp.{CmpOp}
use Rattle.rpy_meaning.specs.declared.row.RowOp.{RowOp}
use Rattle.rpy_meaning.specs.declared.row.RowOp.TheVariants as row
use Rattle.rpy_meaning.specs.Tree.{Expr, Apply, Exprs, none, more, Pairs, no_pairs, pair, Target, Name, Targets, no_targets, more_targets, Stmt, Do, Assign, Block, done, line, Function, Class, Program}
use Rattle.rpy_meaning.specs.Meaning.{Run, mean}

-- ---- lists of parts

abbrev pub exprs : List Expr → Exprs
exprs [] = none
exprs (e ∷ es) = more e (exprs es)

abbrev pub lines : List Stmt → Block
lines [] = done
lines (s ∷ ss) = line s (lines ss)

abbrev pub targets : List Target → Targets
targets [] = no_targets
targets (t ∷ ts) = more_targets t (targets ts)

abbrev pub pairs : List (Expr × Expr) → Pairs
pairs [] = no_pairs
pairs (p ∷ ps) = pair p.0 p.1 (pairs ps)

-- ---- expressions

abbrev pub num : ℕ → Expr
num n = Apply (row.Word (pos n)) none

abbrev pub minus : ℕ → Expr
minus n = Apply (row.Word (negsuc (n - 1))) none

abbrev pub text : List ℕ → Expr
text bytes = Apply (row.Str bytes) none

abbrev pub apply_one : RowOp → Expr → Expr
apply_one o a = Apply o (more a none)

abbrev pub apply_two : RowOp → Expr → Expr → Expr
apply_two o a b = Apply o (more a (more b none))

abbrev pub binary : BinOp → Expr → Expr → Expr
binary f = apply_two (row.Binary f None)

abbrev pub compare : CmpOp → Expr → Expr → Expr
compare f = apply_two (row.Compare f)

abbrev pub index : Expr → Expr → Expr
index = apply_two (row.Index None)

abbrev pub call : ℕ → List Expr → Expr
call f es = Apply (row.Call f) (exprs es)

abbrev pub new : ℕ → Expr
new d = Apply (row.New d) none

abbrev pub list : List Expr → Expr
list es = Apply (row.List 1) (exprs es)

abbrev pub len : Expr → Expr
len = apply_one row.Len

-- ---- statements

abbrev pub print : List Expr → Stmt
print es = Do (Apply row.Print (exprs es))

abbrev pub raise : Expr → Stmt
raise e = Do (apply_one row.Raise e)

abbrev pub set : ℕ → Expr → Stmt
set i e = Assign (more_targets (Name i) no_targets) e

-- ---- programs

abbrev pub function : ℕ → ℕ → List Stmt → Function
function params locals body = record { defaults = replicate params None; takes_more = false; locals = locals; body = lines body }

abbrev pub builtin : List ℕ → Option ℕ → Class
builtin name base = record { name = name; base = base; constants = []; methods = [] }

abbrev pub builtins : List Class
builtins =
    builtin (codes "Exception") None
    ∷ builtin (codes "StandardError") (Some 0)
    ∷ builtin (codes "ArithmeticError") (Some 1)
    ∷ builtin (codes "OverflowError") (Some 2)
    ∷ builtin (codes "ZeroDivisionError") (Some 2)
    ∷ builtin (codes "LookupError") (Some 1)
    ∷ builtin (codes "IndexError") (Some 5)
    ∷ builtin (codes "KeyError") (Some 5)
    ∷ builtin (codes "ValueError") (Some 1)
    ∷ builtin (codes "AttributeError") (Some 1)
    ∷ builtin (codes "AssertionError") (Some 1)
    ∷ builtin (codes "RuntimeError") (Some 1)
    ∷ builtin (codes "NotImplementedError") (Some 11)
    ∷ []

abbrev pub program : List Class → List Function → Program
program classes functions = record { functions = functions; classes = builtins ++ classes; sites = []; entry = 0 }

-- a program of one function, with its parameter and three further locals
abbrev pub alone : List Stmt → Program
alone body = program [] (function 1 4 body ∷ [])

-- ---- runs

-- how a run of so many steps ends, what it prints, and how many steps are left
abbrev pub shown : Run → Option Outcome × List ℕ × ℕ
shown r = (r.outcome, r.world.out, r.world.left)

abbrev pub running : Program → ℕ → Option Outcome × List ℕ × ℕ
running p n = shown (mean p (codes "program" ∷ []) n)
