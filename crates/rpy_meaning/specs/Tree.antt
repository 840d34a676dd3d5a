-- Programs as their meaning sees them. Each name is what it stands for, and nothing is said of where a tree lies in memory. An expression
-- whose operands are all evaluated, from left to right, is an operation on them; what is evaluated otherwise has a form of its own.
use Rattle.std.specs.Prelude.{ℕ, ℤ, Bool, List, Option}
use Rattle.rpy_tree.specs.Value.{Value, Object}
use Rattle.rpy_meaning.specs.declared.row.RowOp.{RowOp}

mutual
  pub data Expr : Type 0 where
    Local : ℕ → Expr
    -- a constant of a module or class, or a function by its name
    Constant : Value → Expr
    Apply : RowOp → Exprs → Expr
    And : Expr → Expr → Expr
    Or : Expr → Expr → Expr
    -- the site and the pairs
    Display : ℕ → Pairs → Expr
    -- the site, the item, the target, what is walked, and the condition
    Comprehension : ℕ → Expr → Target → Subject → Condition → Expr

  pub data Exprs : Type 0 where
    none : Exprs
    more : Expr → Exprs → Exprs

  pub data Pairs : Type 0 where
    no_pairs : Pairs
    pair : Expr → Expr → Pairs → Pairs

  -- a value with the site of its walk, or a range: perhaps its start, its end and its step
  pub data Subject : Type 0 where
    Over : ℕ → Expr → Subject
    UpTo : Expr → Subject
    FromTo : Expr → Expr → ℤ → Subject

  pub data Condition : Type 0 where
    Always : Condition
    Where : Expr → Condition

  -- what a value is bound to: a local, an attribute, a place in a container, or targets for the items of a tuple
  pub data Target : Type 0 where
    Name : ℕ → Target
    Attribute : Expr → List ℕ → Target
    Item : Expr → Expr → Target
    Parts : Targets → Target

  pub data Targets : Type 0 where
    no_targets : Targets
    more_targets : Target → Targets → Targets

mutual
  pub data Stmt : Type 0 where
    Pass : Stmt
    Break : Stmt
    Continue : Stmt
    Return : Expr → Stmt
    -- an expression, also `raise`, `del` and `print`
    Do : Expr → Stmt
    Assign : Targets → Expr → Stmt
    -- an operation on what stands at the target and a value
    Augment : Target → RowOp → Expr → Stmt
    If : Expr → Block → Block → Stmt
    While : Expr → Block → Stmt
    For : Target → Subject → Block → Stmt
    -- `try` with clauses, and what follows a body without exception
    Try : Block → Clauses → Block → Stmt
    Finally : Block → Block → Stmt

  pub data Block : Type 0 where
    done : Block
    line : Stmt → Block → Block

  -- the classes, or none where the clause is bare; the local that is bound, and the body
  pub data Clauses : Type 0 where
    no_clauses : Clauses
    clause : Option (List ℕ) → Option ℕ → Block → Clauses → Clauses

-- The parameters are the first locals. Each has its default, where there is one. A function that takes any number of further arguments
-- is never called.
pub record Function : Type 0 where
  pub defaults : List (Option Value)
  pub takes_more : Bool
  pub locals : ℕ
  pub body : Block

-- A class has the constants and the methods that its own body gives.
pub record Class : Type 0 where
  pub name : List ℕ
  pub base : Option ℕ
  pub constants : List (List ℕ × Value)
  pub methods : List (List ℕ × ℕ)

-- Functions and classes stand by their numbers, the first classes being the builtin exceptions. A site has an object where a list or dict
-- of a module is made there.
pub record Program : Type 0 where
  pub functions : List Function
  pub classes : List Class
  pub sites : List (Option Object)
  pub entry : ℕ
