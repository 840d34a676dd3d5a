-- What the rules make of statements has no more trees than nodes.
use Rattle.std.proofs.Common.{ℕ, ◌+◌, List, length, Option, Some, None, arith}
use Rattle.rpy_tree.specs.declared.syntax.BinOp.{BinOp}
use Rattle.rpy_tree.specs.declared.syntax.Clause.{Clause}
use Rattle.rpy_tree.specs.declared.syntax.Expr.{Expr}
use Rattle.rpy_tree.specs.declared.syntax.Stmt.{Stmt}
use Rattle.rpy_tree.specs.declared.syntax.Target.{Target}
use Rattle.rpy_parse.specs.declared.found.Got.{Got}
use Rattle.rpy_parse.specs.declared.found.Listed.{Listed}
use Rattle.rpy_parse.specs.declared.found.Indexed.{Indexed}
use Rattle.rpy_parse.specs.declared.found.Assigned.{Assigned}
use Rattle.rpy_parse.specs.declared.found.Made.{Made}
use Rattle.rpy_parse.specs.declared.found.Body.{Body}
use Rattle.rpy_parse.specs.declared.found.Arm.{Arm}
use Rattle.rpy_parse.specs.declared.found.Arms.{Arms}
use Rattle.rpy_parse.specs.declared.found.Handled.{Handled}
use Rattle.rpy_parse.specs.declared.found.Head.{Head}
use Rattle.rpy_parse.specs.declared.found.Tried.{Tried}
use Rattle.rpy_parse.specs.Build.{Lines, passed, broken, continued, returned, returned_value, raised, asserted, deleted, printed, assignment, changed, evaluated, pushed, headed, more_arms, chosen, repeated, walked, handled, more_clauses, finished}
use Rattle.resolver_names.specs.Nodes.{nodes, target_nodes, stmt_nodes, clause_nodes, block_nodes, arm_nodes, last_nodes}
use Rattle.parse_nodes.proofs.Counts.{total_push, pass_nodes, break_nodes, continue_nodes, return_nodes, raise_nodes, assert_nodes, del_nodes, print_nodes, assign_nodes, aug_nodes, do_nodes, if_nodes, while_nodes, for_nodes, try_nodes, clause_has}
use Rattle.parse_nodes.proofs.Seen.{seen, seen_more}
use Rattle.parse_nodes.proofs.Weights.{Grows, held, arms_nodes, clauses_nodes, of_start, of_got, of_listed, of_indexed, of_assigned, of_made, of_body, of_headed, of_arms, of_handled, of_tried}
use Rattle.parse_nodes.proofs.Held.{held_tree, list_trees}

module _ (k : ℕ) where
  -- ---- simple statements

  pub passed_grows : (n : Lines) (l : ℕ) → Grows (of_start k n) (of_made k (passed n l))
  passed_grows n l = omega (arith, pass_nodes k (length n), seen_more k n l)

  pub broken_grows : (n : Lines) (l : ℕ) → Grows (of_start k n) (of_made k (broken n l))
  broken_grows n l = omega (arith, break_nodes k (length n), seen_more k n l)

  pub continued_grows : (n : Lines) (l : ℕ) → Grows (of_start k n) (of_made k (continued n l))
  continued_grows n l = omega (arith, continue_nodes k (length n), seen_more k n l)

  pub returned_grows : (n : Lines) (l : ℕ) → Grows (of_start k n) (of_made k (returned n l))
  returned_grows n l = omega (arith, return_nodes k (length n) None, seen_more k n l)

  pub returned_value_grows : (l : ℕ) (a : Got) → Grows (of_got k a) (of_made k (returned_value l a))
  returned_value_grows l a = omega (arith, return_nodes k (length a.lines) (Some a.tree), seen_more k a.lines l, held_tree k a)

  pub raised_grows : (l : ℕ) (a : Got) → Grows (of_got k a) (of_made k (raised l a))
  raised_grows l a = omega (arith, raise_nodes k (length a.lines) a.tree, seen_more k a.lines l, held_tree k a)

  pub asserted_grows : (l : ℕ) (a : Got) → Grows (of_got k a) (of_made k (asserted l a))
  asserted_grows l a = omega (arith, assert_nodes k (length a.lines) a.tree, seen_more k a.lines l, held_tree k a)

  pub deleted_grows : (l : ℕ) (x : Indexed) → Grows (of_indexed k x) (of_made k (deleted l x))
  deleted_grows l x = omega (arith, del_nodes k (length x.lines) x.of x.index, seen_more k x.lines l)

  pub printed_grows : (x : Listed) → Grows (of_listed k x) (of_made k (printed x))
  printed_grows x = omega (arith, print_nodes k (length x.lines) x.trees, seen_more k x.lines x.line, list_trees k x.goal x.trees)

  pub assignment_grows : (x : Assigned) → Grows (of_assigned k x) (of_made k (assignment x))
  assignment_grows x =
      omega (arith, assign_nodes k (length x.value.lines) x.targets x.value.tree, seen_more k x.value.lines x.line, held_tree k x.value)

  pub changed_grows : (g : Target) (l : ℕ) (op : BinOp) (v : Got)
      → Grows (target_nodes k 0 g + held k v, seen k v.lines) (of_made k (changed g l op v))
  changed_grows g l op v = omega (arith, aug_nodes k (length v.lines) g op v.tree, seen_more k v.lines l, held_tree k v)

  pub evaluated_grows : (a : Got) → Grows (of_got k a) (of_made k (evaluated a))
  evaluated_grows a = omega (arith, do_nodes k (length a.lines) a.tree, seen_more k a.lines a.line, held_tree k a)

  -- ---- blocks

  pub pushed_grows : (xs : List Stmt) (a : Made) → Grows (block_nodes k 0 xs + stmt_nodes k 0 a.stmt, seen k a.lines) (of_body k (pushed xs a))
  pushed_grows xs a = omega (arith, total_push (stmt_nodes k 0) xs a.stmt)

  pub headed_grows : (a : Got) (l : ℕ) → Grows (of_got k a) (of_headed k (headed a l))
  headed_grows a l = omega (arith, seen_more k a.lines l, held_tree k a)

  pub more_arms_grows : (node : ℕ) (xs : List (Expr × List Stmt)) (a : Arm)
      → Grows (arms_nodes k xs + (nodes k 0 a.test + block_nodes k 0 a.body), seen k a.lines) (of_arms k (more_arms node xs a))
  more_arms_grows node xs a = omega (arith, total_push (arm_nodes k 0) xs (a.test, a.body))

  pub chosen_grows : (x : Arms) (other : List Stmt) → Grows (arms_nodes k x.arms + block_nodes k 0 other, seen k x.lines) (of_made k (chosen x other))
  chosen_grows x other = omega (arith, if_nodes k x.node x.arms other)

  pub repeated_grows : (node : ℕ) (test : Expr) (b : Body)
      → Grows (nodes k 0 test + block_nodes k 0 b.stmts, seen k b.lines) (of_made k (repeated node test b))
  repeated_grows node test b = omega (arith, while_nodes k node test b.stmts)

  pub walked_grows : (node : ℕ) (g : Target) (a : Expr) (b : Body)
      → Grows (target_nodes k 0 g + nodes k 0 a + block_nodes k 0 b.stmts, seen k b.lines) (of_made k (walked node g a b))
  walked_grows node g a b = omega (arith, for_nodes k node g a b.stmts)

  pub handled_grows : (node : ℕ) (h : Head) (b : Body) → Grows (of_body k b) (of_handled k (handled node h b))
  handled_grows node h b = omega (arith, clause_has k (handled node h b).clause)

  pub more_clauses_grows : (node : ℕ) (body : List Stmt) (cs : List Clause) (c : Handled)
      → Grows (block_nodes k 0 body + clauses_nodes k cs + clause_nodes k 0 c.clause, seen k c.lines) (of_tried k (more_clauses node body cs c))
  more_clauses_grows node body cs c = omega (arith, total_push (clause_nodes k 0) cs c.clause)

  pub finished_grows : (x : Tried) (other : List Stmt) (last : Option (List Stmt))
      → Grows (block_nodes k 0 x.body + clauses_nodes k x.clauses + block_nodes k 0 other + last_nodes k 0 last, seen k x.lines)
      (of_made k (finished x other last))
  finished_grows x other last = omega (arith, try_nodes k x.node x.body x.clauses other last)
