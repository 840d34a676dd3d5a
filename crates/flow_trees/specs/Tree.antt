-- Trees with nodes. What has a node has it first; else they are those of the meaning, `plain` without nodes.
use Rattle.std.specs.Prelude.{ℕ, ℤ, Bool, List, Option}
use Rattle.rpy_tree.specs.declared.program.Const.{Const}
use Rattle.rpy_tree.specs.Value.{Value}
use Rattle.rpy_meaning.specs.declared.row.RowOp.{RowOp}
use Rattle.rpy_meaning.specs.Tree as tree

mutual
  pub data Expr : Type 0 where
    Local : ℕ → ℕ → Expr
    -- with its value
    Constant : ℕ → Const → Value → Expr
    -- the flag says that the result is the value of the node
    Apply : ℕ → Bool → RowOp → Exprs → Expr
    And : ℕ → Expr → Expr → Expr
    Or : ℕ → Expr → Expr → Expr
    Display : ℕ → ℕ → Pairs → Expr
    Comprehension : ℕ → ℕ → Expr → Target → Subject → Condition → Expr

  pub data Exprs : Type 0 where
    none : Exprs
    more : Expr → Exprs → Exprs

  pub data Pairs : Type 0 where
    no_pairs : Pairs
    pair : Expr → Expr → Pairs → Pairs

  pub data Subject : Type 0 where
    Over : ℕ → Expr → Subject
    UpTo : Expr → Subject
    FromTo : Expr → Expr → ℤ → Subject

  pub data Condition : Type 0 where
    Always : Condition
    Where : Expr → Condition

  pub data Target : Type 0 where
    Name : ℕ → ℕ → Target
    Attribute : ℕ → Expr → List ℕ → Target
    Item : ℕ → Expr → Expr → Target
    Parts : ℕ → Targets → Target

  pub data Targets : Type 0 where
    no_targets : Targets
    more_targets : Target → Targets → Targets

mutual
  pub data Stmt : Type 0 where
    Pass : ℕ → Stmt
    Break : ℕ → Stmt
    Continue : ℕ → Stmt
    Return : ℕ → Expr → Stmt
    Do : ℕ → Expr → Stmt
    Assign : ℕ → Targets → Expr → Stmt
    Augment : ℕ → Target → RowOp → Expr → Stmt
    If : ℕ → Expr → Block → Block → Stmt
    While : ℕ → Expr → Block → Stmt
    For : ℕ → Target → Subject → Block → Stmt
    Try : ℕ → Block → Clauses → Block → Stmt
    Finally : ℕ → Block → Block → Stmt

  pub data Block : Type 0 where
    done : Block
    line : Stmt → Block → Block

  pub data Clauses : Type 0 where
    no_clauses : Clauses
    clause : Option (List ℕ) → Option ℕ → Block → Clauses → Clauses

pub record Function : Type 0 where
  pub node : ℕ
  pub defaults : List (Option Value)
  pub takes_more : Bool
  pub locals : ℕ
  pub body : Block

abbrev pub node_of : Stmt → ℕ
node_of (Pass node) = node
node_of (Break node) = node
node_of (Continue node) = node
node_of (Return node e) = node
node_of (Do node e) = node
node_of (Assign node ts e) = node
node_of (Augment node t o e) = node
node_of (If node e so other) = node
node_of (While node e body) = node
node_of (For node t subject body) = node
node_of (Try node body cs other) = node
node_of (Finally node body last) = node

-- ---- without nodes

abbrev mutual
  pub plain : Expr → tree.Expr
  plain (Local node i) = tree.Local i
  plain (Constant node c v) = tree.Constant v
  plain (Apply node value o es) = tree.Apply o (plain_exprs es)
  plain (And node a e) = tree.And (plain a) (plain e)
  plain (Or node a e) = tree.Or (plain a) (plain e)
  plain (Display node site pairs) = tree.Display site (plain_pairs pairs)
  plain (Comprehension node site item target subject condition) =
      tree.Comprehension site (plain item) (plain_target target) (plain_subject subject) (plain_condition condition)

  pub plain_exprs : Exprs → tree.Exprs
  plain_exprs none = tree.none
  plain_exprs (more e es) = tree.more (plain e) (plain_exprs es)

  pub plain_pairs : Pairs → tree.Pairs
  plain_pairs no_pairs = tree.no_pairs
  plain_pairs (pair key e rest) = tree.pair (plain key) (plain e) (plain_pairs rest)

  pub plain_subject : Subject → tree.Subject
  plain_subject (Over site e) = tree.Over site (plain e)
  plain_subject (UpTo e) = tree.UpTo (plain e)
  plain_subject (FromTo a e step) = tree.FromTo (plain a) (plain e) step

  pub plain_condition : Condition → tree.Condition
  plain_condition Always = tree.Always
  plain_condition (Where e) = tree.Where (plain e)

  pub plain_target : Target → tree.Target
  plain_target (Name node i) = tree.Name i
  plain_target (Attribute node e name) = tree.Attribute (plain e) name
  plain_target (Item node a i) = tree.Item (plain a) (plain i)
  plain_target (Parts node parts) = tree.Parts (plain_targets parts)

  pub plain_targets : Targets → tree.Targets
  plain_targets no_targets = tree.no_targets
  plain_targets (more_targets t ts) = tree.more_targets (plain_target t) (plain_targets ts)

abbrev mutual
  pub plain_stmt : Stmt → tree.Stmt
  plain_stmt (Pass node) = tree.Pass
  plain_stmt (Break node) = tree.Break
  plain_stmt (Continue node) = tree.Continue
  plain_stmt (Return node e) = tree.Return (plain e)
  plain_stmt (Do node e) = tree.Do (plain e)
  plain_stmt (Assign node ts e) = tree.Assign (plain_targets ts) (plain e)
  plain_stmt (Augment node t o e) = tree.Augment (plain_target t) o (plain e)
  plain_stmt (If node e so other) = tree.If (plain e) (plain_block so) (plain_block other)
  plain_stmt (While node e body) = tree.While (plain e) (plain_block body)
  plain_stmt (For node t subject body) = tree.For (plain_target t) (plain_subject subject) (plain_block body)
  plain_stmt (Try node body cs other) = tree.Try (plain_block body) (plain_clauses cs) (plain_block other)
  plain_stmt (Finally node body last) = tree.Finally (plain_block body) (plain_block last)

  pub plain_block : Block → tree.Block
  plain_block done = tree.done
  plain_block (line s rest) = tree.line (plain_stmt s) (plain_block rest)

  pub plain_clauses : Clauses → tree.Clauses
  plain_clauses no_clauses = tree.no_clauses
  plain_clauses (clause classes local body rest) = tree.clause classes local (plain_block body) (plain_clauses rest)

abbrev pub plain_function : Function → tree.Function
plain_function f = record { defaults = f.defaults; takes_more = f.takes_more; locals = f.locals; body = plain_block f.body }
