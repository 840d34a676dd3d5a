-- Programs of one function whose statements bind names to sums, print sums and return one, as programs of the whole language.
use Rattle.std.specs.Prelude.{◌≡◌, ℕ, List, [], ◌∷◌, map, Option, Some, None, false}
use Rattle.rpy_base.specs.declared.outcome.Outcome.{Outcome}
use Rattle.rpy_tree.specs.Pure as first
use Rattle.rpy_tree.specs.Meaning.{Meant}
use Rattle.rpy_meaning.specs.declared.row.RowOp.TheVariants as row
use Rattle.rpy_meaning.specs.Tree.{Expr, Local, Apply, Exprs, none, more, Name, no_targets, more_targets, Stmt, Return, Do, Assign, Block, done, line, Function, Program}
use Rattle.rpy_meaning.specs.Meaning.{Run}

abbrev pub expr : first.Expr → Expr
expr (first.Int z) = Apply (row.Word z) none
expr (first.Local i) = Local i
expr (first.Binary op a b) = Apply (row.Binary op None) (more (expr a) (more (expr b) none))

abbrev pub exprs : first.Exprs → Exprs
exprs first.none = none
exprs (first.more e es) = more (expr e) (exprs es)

abbrev pub stmt : first.Stmt → Stmt
stmt (first.Assign (first.Name i) e) = Assign (more_targets (Name i) no_targets) (expr e)
stmt (first.Print es) = Do (Apply row.Print (exprs es))
stmt (first.Return e) = Return (expr e)

abbrev pub block : first.Block → Block
block first.done = done
block (first.line s rest) = line (stmt s) (block rest)

-- with one parameter
abbrev pub function : first.Function → Function
function f = record { defaults = None ∷ []; takes_more = false; locals = f.locals; body = block f.body }

abbrev pub program : first.Program → Program
program p = record { functions = map function p.functions; classes = []; sites = []; entry = p.entry }

-- where the first run has an outcome, the second one has it too, and the same output
abbrev pub AgreesIf : Option Outcome → List ℕ → Run → Type 0
AgreesIf None output r = Unit {0}
AgreesIf (Some outcome) output r = (r.outcome ≡ Some outcome) × (r.world.out ≡ output)

abbrev pub Agrees : Meant → Run → Type 0
Agrees m r = AgreesIf m.outcome m.output r
