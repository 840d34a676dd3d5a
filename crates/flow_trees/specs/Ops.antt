-- Which operations the parts of a tree have, by the node, the mark and what is done: one that gives the value of the part's node, or any at
-- that node that gives no value.
use Rattle.std.specs.Prelude.{◌≡◌, ◌⊎◌, ℕ, Bool, true, false, List, [], ◌∷◌}
use Rattle.rpy_meaning.specs.declared.row.RowOp.{RowOp}
use Rattle.rpy_meaning.specs.declared.row.RowOp.TheVariants as row
use Rattle.flow_graph.specs.declared.graph.Block.{Block}
use Rattle.flow_graph.specs.declared.graph.Op.{Op}
use Rattle.flow_stands.specs.Places.{Shape, Go, Fork, Does, Plain, GiveBack, GiveUp}
use Rattle.flow_trees.specs.Marks.{Path}
use Rattle.flow_trees.specs.Tree as tree
use Rattle.flow_trees.specs.Tree.{Expr, Local, Constant, Apply, And, Or, Display, Comprehension, Exprs, none, more, Pairs, no_pairs, pair, Subject, Over, UpTo, FromTo, Condition, Always, Where, Target, Name, Attribute, Item, Parts, Targets, no_targets, more_targets, Stmt, Pass, Break, Continue, Return, Do, Assign, Augment, If, While, For, Try, Finally, Clauses, no_clauses, clause, Function, node_of}

-- of a node, the mark, and what is done
abbrev pub Property : Type 1
Property = ℕ → Bool → RowOp → Type 0

module _ (P : Property) where
  abbrev pub OfOps : List Op → Type 0
  OfOps [] = Unit {0}
  OfOps (op ∷ ops) = P op.node op.value op.op × OfOps ops

  -- it holds of each operation of these blocks
  abbrev pub OfBlocks : List Block → Type 0
  OfBlocks [] = Unit {0}
  OfBlocks (block ∷ blocks) = OfOps block.ops × OfBlocks blocks

abbrev pub target_node : Target → ℕ
target_node (Name node i) = node
target_node (Attribute node e name) = node
target_node (Item node a i) = node
target_node (Parts node parts) = node

-- the operation in question
module _ (at : ℕ) (gives : Bool) (o : RowOp) where
  abbrev pub IsOp : ℕ → Bool → RowOp → Type 0
  IsOp node value op = (at ≡ node) × (gives ≡ value) × (o ≡ op)

  -- the one of a block
  abbrev pub InShape : ℕ → Bool → Shape → Type 0
  InShape node value (Go jump) = ⊥
  InShape node value (Fork test so other_way) = ⊥
  InShape node value (Does op args covers hands default norm) = IsOp node value op
  InShape node value (Plain op jump) = IsOp node value op
  InShape node value GiveBack = ⊥
  InShape node value GiveUp = ⊥

  -- it gives no value, at the node
  abbrev pub Helps : ℕ → Type 0
  Helps node = (at ≡ node) × (gives ≡ false)

  -- the copy with which different ways to the value of the node end, or one on them
  abbrev pub Meets : ℕ → Type 0
  Meets node = IsOp node true row.Copy ⊎ Helps node

  -- ---- expressions

  abbrev mutual
    pub InExpr : Expr → Type 0
    InExpr (Local node i) = IsOp node true row.Copy
    InExpr (Constant node c v) = IsOp node true (row.Constant c)
    InExpr (Apply node value op es) = IsOp node value op ⊎ ((op ≡ row.Not) × Meets node) ⊎ InExprs es
    InExpr (And node a e) = Meets node ⊎ InExpr a ⊎ InExpr e
    InExpr (Or node a e) = Meets node ⊎ InExpr a ⊎ InExpr e
    InExpr (Display node site pairs) = Meets node ⊎ InPairs pairs
    InExpr (Comprehension node site item target subject condition) = Meets node ⊎ InExpr item ⊎ InTarget target ⊎ InSubject subject ⊎ InCondition condition

    pub InExprs : Exprs → Type 0
    InExprs none = ⊥
    InExprs (more e es) = InExpr e ⊎ InExprs es

    pub InPairs : Pairs → Type 0
    InPairs no_pairs = ⊥
    InPairs (pair key e rest) = InExpr key ⊎ InExpr e ⊎ InPairs rest

    pub InSubject : Subject → Type 0
    InSubject (Over site e) = InExpr e
    InSubject (UpTo e) = InExpr e
    InSubject (FromTo a e step) = InExpr a ⊎ InExpr e

    pub InCondition : Condition → Type 0
    InCondition Always = ⊥
    InCondition (Where e) = InExpr e

    -- the operation that stores gives the value of the target
    pub InTarget : Target → Type 0
    InTarget (Name node i) = IsOp node true row.Copy
    InTarget (Attribute node e name) = IsOp node true (row.StoreAttr name) ⊎ InExpr e
    InTarget (Item node a i) = IsOp node true row.StoreIndex ⊎ InExpr a ⊎ InExpr i
    InTarget (Parts node parts) = Meets node ⊎ InTargets parts

    pub InTargets : Targets → Type 0
    InTargets no_targets = ⊥
    InTargets (more_targets t ts) = InTarget t ⊎ InTargets ts

  -- one of those that take the items of tuples on the way
  abbrev pub InPath : Path → Type 0
  InPath [] = ⊥
  InPath (step ∷ path) = Helps step.node ⊎ InPath path

  -- ---- statements: none gives the value of a statement's node

  abbrev mutual
    pub InParts : Stmt → Type 0
    InParts (Pass node) = ⊥
    InParts (Break node) = ⊥
    InParts (Continue node) = ⊥
    InParts (Return node e) = InExpr e
    InParts (Do node e) = InExpr e
    InParts (Assign node ts e) = InTargets ts ⊎ InExpr e
    InParts (Augment node target op e) = Helps (target_node target) ⊎ InTarget target ⊎ InExpr e
    InParts (If node e so other_way) = InExpr e ⊎ InBlock so ⊎ InBlock other_way
    InParts (While node e body) = InExpr e ⊎ InBlock body
    InParts (For node target subject body) = InTarget target ⊎ InSubject subject ⊎ InBlock body
    InParts (Try node body clauses other) = InBlock body ⊎ InClauses clauses ⊎ InBlock other
    InParts (Finally node body last) = InBlock body ⊎ InBlock last

    pub InBlock : tree.Block → Type 0
    InBlock tree.done = ⊥
    InBlock (tree.line s rest) = Helps (node_of s) ⊎ InParts s ⊎ InBlock rest

    pub InClauses : Clauses → Type 0
    InClauses no_clauses = ⊥
    InClauses (clause classes local body rest) = InBlock body ⊎ InClauses rest

  abbrev pub InStmt : Stmt → Type 0
  InStmt s = Helps (node_of s) ⊎ InParts s

  abbrev pub InFunction : Function → Type 0
  InFunction function = Helps function.node ⊎ InBlock function.body
