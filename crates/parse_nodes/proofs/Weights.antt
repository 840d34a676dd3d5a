-- What values of the grammar weigh: how many nodes in their trees have a number, and how many of all nodes so far.
use Rattle.std.proofs.Common.{ℕ, ◌+◌, ◌≤◌, Bool, true, List, map, flat_map}
use Rattle.std.specs.Prelude.{◌||◌}
use Rattle.rpy_tree.specs.declared.syntax.Expr.{Expr}
use Rattle.rpy_tree.specs.declared.syntax.Clause.{Clause}
use Rattle.rpy_tree.specs.declared.syntax.Stmt.{Stmt}
use Rattle.rpy_tree.specs.declared.syntax.Target.{Target}
use Rattle.rpy_parse.specs.declared.found.Got.{Got}
use Rattle.rpy_parse.specs.declared.found.Listed.{Listed}
use Rattle.rpy_parse.specs.declared.found.Sliced.{Sliced}
use Rattle.rpy_parse.specs.declared.found.Indexed.{Indexed}
use Rattle.rpy_parse.specs.declared.found.Pairs.{Pairs}
use Rattle.rpy_parse.specs.declared.found.Walking.{Walking}
use Rattle.rpy_parse.specs.declared.found.Walk.{Walk}
use Rattle.rpy_parse.specs.declared.found.Aimed.{Aimed}
use Rattle.rpy_parse.specs.declared.found.Aims.{Aims}
use Rattle.rpy_parse.specs.declared.found.Assigned.{Assigned}
use Rattle.rpy_parse.specs.declared.found.Made.{Made}
use Rattle.rpy_parse.specs.declared.found.Body.{Body}
use Rattle.rpy_parse.specs.declared.found.Headed.{Headed}
use Rattle.rpy_parse.specs.declared.found.Arm.{Arm}
use Rattle.rpy_parse.specs.declared.found.Arms.{Arms}
use Rattle.rpy_parse.specs.declared.found.Handled.{Handled}
use Rattle.rpy_parse.specs.declared.found.Grown.{Grown}
use Rattle.rpy_parse.specs.declared.found.Tried.{Tried}
use Rattle.rpy_parse.specs.declared.found.Members.{Members}
use Rattle.rpy_parse.specs.Build.{Lines, goal_of}
use Rattle.resolver_names.specs.Nodes.{total, pair_total, nodes, target_nodes, nodes_if, stmt_nodes, clause_nodes, block_nodes, arm_nodes}
use Rattle.resolver_laws.specs.Made.{member_sources}
use Rattle.resolver_nodes.specs.Numbered.{count_in}
use Rattle.parse_nodes.proofs.Counts.{both}
use Rattle.parse_nodes.proofs.Most.{most}
use Rattle.parse_nodes.proofs.Seen.{seen}

-- of trees, and of nodes so far
abbrev pub Weight : Type 0
Weight = ℕ × ℕ

-- no more trees than nodes came
abbrev pub Grows : Weight → Weight → Type 0
Grows p q = q.0 + p.1 ≤ p.0 + q.1

module _ (k : ℕ) where
  -- the target that an expression is
  abbrev pub aim : Expr → ℕ
  aim e = target_nodes k 0 (goal_of e)

  abbrev pub exprs : List Expr → ℕ
  exprs es = total (map (nodes k 0) es)

  abbrev pub aims : List Expr → ℕ
  aims es = total (map aim es)

  abbrev pub targets : List Target → ℕ
  targets ts = total (map (target_nodes k 0) ts)

  -- An expression, or the target that it may become, whichever weighs more. What is no target has one by `goal_of` as
  -- well, with the node 0 in it, which must not count: so the flags say where the target does.
  unfoldable pub held : Got → ℕ
  held a = most (a.goal || a.place) (nodes k 0 a.tree) (aim a.tree)

  -- the same where the target counts whatever the flags say
  unfoldable pub placed : Got → ℕ
  placed a = most true (nodes k 0 a.tree) (aim a.tree)

  unfoldable pub list_held : Bool → List Expr → ℕ
  list_held goal es = most goal (exprs es) (aims es)

  abbrev pub of_start : Lines → Weight
  of_start n = (0, seen k n)

  abbrev pub of_got : Got → Weight
  of_got a = (held a, seen k a.lines)

  abbrev pub of_placed : Got → Weight
  of_placed a = (placed a, seen k a.lines)

  abbrev pub of_listed : Listed → Weight
  of_listed x = (list_held x.goal x.trees, seen k x.lines)

  abbrev pub of_sliced : Sliced → Weight
  of_sliced x = (nodes k 0 x.of + nodes_if k 0 x.from, seen k x.lines)

  abbrev pub of_indexed : Indexed → Weight
  of_indexed x = (nodes k 0 x.of + nodes k 0 x.index, seen k x.lines)

  abbrev pub pair_nodes : List (Expr × Expr) → ℕ
  pair_nodes ps = pair_total (map (both (nodes k 0)) ps)

  abbrev pub of_pairs : Pairs → Weight
  of_pairs x = (pair_nodes x.pairs, seen k x.lines)

  abbrev pub of_walking : Walking → Weight
  of_walking x = (nodes k 0 x.item + target_nodes k 0 x.target, seen k x.lines)

  abbrev pub of_walk : Walk → Weight
  of_walk x = (nodes k 0 x.item + target_nodes k 0 x.target + nodes k 0 x.subject, seen k x.lines)

  abbrev pub of_aimed : Aimed → Weight
  of_aimed x = (target_nodes k 0 x.target, seen k x.lines)

  abbrev pub of_aims : Aims → Weight
  of_aims x = (targets x.targets, seen k x.lines)

  abbrev pub of_assigned : Assigned → Weight
  of_assigned x = (targets x.targets + held x.value, seen k x.value.lines)

  -- where the value is one more target
  abbrev pub of_assigned_place : Assigned → Weight
  of_assigned_place x = (targets x.targets + placed x.value, seen k x.value.lines)

  abbrev pub of_made : Made → Weight
  of_made x = (stmt_nodes k 0 x.stmt, seen k x.lines)

  abbrev pub of_body : Body → Weight
  of_body x = (block_nodes k 0 x.stmts, seen k x.lines)

  abbrev pub of_headed : Headed → Weight
  of_headed x = (nodes k 0 x.tree, seen k x.lines)

  abbrev pub of_arm : Arm → Weight
  of_arm x = (nodes k 0 x.test + block_nodes k 0 x.body, seen k x.lines)

  abbrev pub arms_nodes : List (Expr × List Stmt) → ℕ
  arms_nodes xs = total (map (arm_nodes k 0) xs)

  abbrev pub of_arms : Arms → Weight
  of_arms x = (arms_nodes x.arms, seen k x.lines)

  abbrev pub of_handled : Handled → Weight
  of_handled x = (clause_nodes k 0 x.clause, seen k x.lines)

  abbrev pub clauses_nodes : List Clause → ℕ
  clauses_nodes cs = total (map (clause_nodes k 0) cs)

  abbrev pub of_tried : Tried → Weight
  of_tried x = (block_nodes k 0 x.body + clauses_nodes x.clauses, seen k x.lines)

  abbrev pub of_grown : Grown → Weight
  of_grown x = (count_in k (member_sources 0 x.member), seen k x.lines)

  abbrev pub of_members : Members → Weight
  of_members x = (count_in k (flat_map (member_sources 0) x.members), seen k x.lines)
