-- The rules for blocks, and for the statements that have some.
use Rattle.std.proofs.Common.{ℕ, List, [], length, Some, None, arith}
use Rattle.rpy_tree.specs.declared.syntax.Stmt.{Stmt}
use Rattle.rpy_tree.specs.declared.syntax.Target.{Target}
use Rattle.rpy_parse.specs.declared.found.Aimed.{Aimed}
use Rattle.rpy_parse.specs.declared.found.Arms.{Arms}
use Rattle.rpy_parse.specs.declared.found.Body.{Body}
use Rattle.rpy_parse.specs.declared.found.Got.{Got}
use Rattle.rpy_parse.specs.declared.found.Head.{Head}
use Rattle.rpy_parse.specs.declared.found.Headed.{Headed}
use Rattle.rpy_parse.specs.declared.found.Place.{Place}
use Rattle.rpy_parse.specs.declared.found.Tried.{Tried}
use Rattle.rpy_parse.specs.Build.{Lines, arm, with_lines, tried_of}
use Rattle.rpy_parse.specs.Shapes.{Simples, OneSimple, SimplesRest, SimplesMore, Block, Statements, Statement, Compound, If, IfThen, FirstArm, Elifs, ElseBody, Elif, ElifArm, ElifBody, While, WhileBody, For, ForIn, ForBody, Try, TryRest, Finish, Clauses, NextClause, OneClause, Handler, TryEnd, TryFinally}
use Rattle.parse_nodes.proofs.Kept.{Keeps}
use Rattle.parse_nodes.proofs.Seen.{seen_more}
use Rattle.parse_nodes.proofs.Held.{held_tree}
use Rattle.parse_nodes.proofs.Stmts.{pushed_grows, headed_grows, more_arms_grows, chosen_grows, repeated_grows, walked_grows, handled_grows, more_clauses_grows, finished_grows}

module _ (k : ℕ) where
  -- ---- blocks

  pub simples_keeps : (x : Place × Body) → Keeps k Simples x
  simples_keeps x = λ b p v q. omega (arith, p, q)

  pub one_simple_keeps : (x : Place × Body) → Keeps k OneSimple x
  one_simple_keeps x = λ a p. omega (arith, p, pushed_grows k x.1.stmts a)

  pub simples_rest_keeps : (x : Place × Body) → Keeps k SimplesRest x
  simples_rest_keeps x = (λ t v p. p, λ t. omega arith)

  pub simples_more_keeps : (x : Place × Body) → Keeps k SimplesMore x
  simples_more_keeps x = (λ t. omega arith, λ v p. p)

  pub block_keeps : (x : Place × Lines) → Keeps k Block x
  block_keeps x = (λ t u b p v q. omega (arith, p, q), λ v p. p)

  pub statements_keeps : (x : Place × Body) → Keeps k Statements x
  statements_keeps x = (λ t. omega arith, λ b p v q. omega (arith, p, q))

  pub statement_keeps : (x : Place × Body) → Keeps k Statement x
  statement_keeps x = (λ m p. omega (arith, p, pushed_grows k x.1.stmts m), λ v p. p)

  pub compound_keeps : (x : Place × Lines) → Keeps k Compound x
  compound_keeps x = (λ v p. p, (λ v p. p, (λ v p. p, λ v p. p)))

  -- ---- `if`

  pub if_keeps : (x : Place × Lines) → Keeps k If x
  if_keeps x = λ t c p v q. omega (arith, p, q)

  pub if_then_keeps : (x : Place × ℕ × Got) → Keeps k IfThen x
  if_then_keeps x = λ t e p v q. omega (arith, p, q, headed_grows k x.2 x.1)

  pub first_arm_keeps : (x : Place × Headed) → Keeps k FirstArm x
  first_arm_keeps x = λ b p. omega (arith, p, more_arms_grows k x.1.node [] (arm x.1.tree b))

  pub elifs_keeps : (x : Place × Arms) → Keeps k Elifs x
  elifs_keeps x = (
    λ t y p v q. omega (arith, p, q),
    (λ t b p. omega (arith, p, chosen_grows k (with_lines x.1.node x.1.arms b.lines) b.stmts), omega (arith, chosen_grows k x.1 [])),
  )

  pub else_body_keeps : (x : Place × Lines) → Keeps k ElseBody x
  else_body_keeps x = λ t v p. p

  pub elif_keeps : (x : Place × Arms) → Keeps k Elif x
  elif_keeps x = λ a p. omega (arith, p, more_arms_grows k x.1.node x.1.arms a)

  pub elif_arm_keeps : (x : Place × Lines) → Keeps k ElifArm x
  elif_arm_keeps x = λ c p v q. omega (arith, p, q)

  pub elif_body_keeps : (x : Place × Got) → Keeps k ElifBody x
  elif_body_keeps x = λ t b p. omega (arith, p, held_tree k x.1)

  -- ---- loops

  pub while_keeps : (x : Place × Lines) → Keeps k While x
  while_keeps x = λ t c p v q. omega (arith, p, q)

  pub while_body_keeps : (x : Place × ℕ × Got) → Keeps k WhileBody x
  while_body_keeps x = λ t b p. omega (arith, p, held_tree k x.2, seen_more k x.2.lines x.1, repeated_grows k (length x.2.lines) x.2.tree b)

  pub for_keeps : (x : Place × Lines) → Keeps k For x
  for_keeps x = λ t g p v q. omega (arith, p, q)

  pub for_in_keeps : (x : Place × ℕ × Aimed) → Keeps k ForIn x
  for_in_keeps x = λ t c p v q. omega (arith, p, q)

  pub for_body_keeps : (x : Place × ℕ × Target × Got) → Keeps k ForBody x
  for_body_keeps x = λ t b p. omega (arith, p, held_tree k x.3, seen_more k x.3.lines x.1, walked_grows k (length x.3.lines) x.2 x.3.tree b)

  -- ---- `try`

  pub try_keeps : (x : Place × Lines) → Keeps k Try x
  try_keeps x = λ t u b p v q. omega (arith, p, q, seen_more k x.1 t.line)

  pub try_rest_keeps : (x : Place × Tried) → Keeps k TryRest x
  try_rest_keeps x = (λ y p v q. omega (arith, p, q), λ g t v p. omega (arith, p))

  pub finish_keeps : (x : Tried × List Stmt) → Keeps k Finish x
  finish_keeps x = λ b p. omega (arith, p, finished_grows k (tried_of x.0.node x.0.body x.0.clauses x.0.bare b.lines) x.1 (Some b.stmts))

  pub clauses_keeps : (x : Place × Tried) → Keeps k Clauses x
  clauses_keeps x = (λ g y p v q. omega (arith, p, q), λ v p. p)

  pub next_clause_keeps : (x : Place × Tried) → Keeps k NextClause x
  next_clause_keeps x = λ c p. omega (arith, p, more_clauses_grows k x.1.node x.1.body x.1.clauses c)

  pub one_clause_keeps : (x : Place × Lines) → Keeps k OneClause x
  one_clause_keeps x = λ t h r v p. p

  pub handler_keeps : (x : Place × ℕ × Lines × Head) → Keeps k Handler x
  handler_keeps x = λ t b p. omega (arith, p, seen_more k x.2 x.1, handled_grows k (length x.2) x.3 b)

  pub try_end_keeps : (x : Place × Tried) → Keeps k TryEnd x
  try_end_keeps x = (λ t b p v q. omega (arith, p, q), λ v p. omega (arith, p))

  pub try_finally_keeps : (x : Place × Tried × List Stmt) → Keeps k TryFinally x
  try_finally_keeps x = (λ g t v p. p, omega (arith, finished_grows k x.1 x.2 None))
