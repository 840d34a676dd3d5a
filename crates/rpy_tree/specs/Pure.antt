-- Programs as their meaning sees them: each name is the number of a local, and nothing is said of where a tree lies in memory.
use Rattle.std.specs.Prelude.{ℕ, ℤ, List}
use Rattle.rpy_tree.specs.declared.syntax.BinOp.{BinOp}

mutual
  pub data Expr : Type 0 where
    Int : ℤ → Expr
    Local : ℕ → Expr
    Binary : BinOp → Expr → Expr → Expr

  pub data Exprs : Type 0 where
    none : Exprs
    more : Expr → Exprs → Exprs

-- what is bound to
pub data Target : Type 0 where
  Name : ℕ → Target

mutual
  pub data Stmt : Type 0 where
    Assign : Target → Expr → Stmt
    Print : Exprs → Stmt
    Return : Expr → Stmt

  pub data Block : Type 0 where
    done : Block
    line : Stmt → Block → Block

-- the parameters are the first locals
pub record Function : Type 0 where
  pub locals : ℕ
  pub body : Block

-- the functions by number, that of the entry point, and the names of the classes by number
pub record Program : Type 0 where
  pub functions : List Function
  pub entry : ℕ
  pub classes : List (List ℕ)
