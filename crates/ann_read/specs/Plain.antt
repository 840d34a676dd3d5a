-- Functions that give back nothing that only says what a test found: a narrowing is an operation that is meant for graphs alone.
use Rattle.std.specs.Prelude.{◌≡◌, false}
use Rattle.ann_rules.specs.Rules.{is_narrowing}
use Rattle.flow_trees.specs.Tree.{Expr, Apply, Stmt, Pass, Break, Continue, Return, Do, Assign, Augment, If, While, For, Try, Finally, Block, done, line, Clauses, no_clauses, clause}

abbrev pub IsPlain : Expr → Type 0
IsPlain (Apply node value o es) = is_narrowing o ≡ false
IsPlain _ = Unit {0}

abbrev mutual
  pub ReturnsPlainly : Stmt → Type 0
  ReturnsPlainly (Pass node) = Unit {0}
  ReturnsPlainly (Break node) = Unit {0}
  ReturnsPlainly (Continue node) = Unit {0}
  ReturnsPlainly (Return node e) = IsPlain e
  ReturnsPlainly (Do node e) = Unit {0}
  ReturnsPlainly (Assign node ts e) = Unit {0}
  ReturnsPlainly (Augment node target o e) = Unit {0}
  ReturnsPlainly (If node e so other) = AllReturnPlainly so × AllReturnPlainly other
  ReturnsPlainly (While node e body) = AllReturnPlainly body
  ReturnsPlainly (For node target subject body) = AllReturnPlainly body
  ReturnsPlainly (Try node body clauses other) = AllReturnPlainly body × ClausesReturnPlainly clauses × AllReturnPlainly other
  ReturnsPlainly (Finally node body last) = AllReturnPlainly body × AllReturnPlainly last

  pub AllReturnPlainly : Block → Type 0
  AllReturnPlainly done = Unit {0}
  AllReturnPlainly (line s rest) = ReturnsPlainly s × AllReturnPlainly rest

  pub ClausesReturnPlainly : Clauses → Type 0
  ClausesReturnPlainly no_clauses = Unit {0}
  ClausesReturnPlainly (clause classes local body rest) = AllReturnPlainly body × ClausesReturnPlainly rest
