-- How many values the parts of what is made give at a node, and how many nodes of a text have its number: a layer at a time.
use Rattle.std.proofs.Common.{◌≡◌, ℕ, ℤ, ◌+◌, ◌≤◌, Bool, true, false, List, [], ◌∷◌, ◌++◌, map, Option, Some, None, refl, sym, ap, ◌∙◌, arith}
use Rattle.std.specs.Prelude.{option_map, if◌then◌else◌}
use Rattle.rpy_tree.specs.declared.program.Const.{Const}
use Rattle.rpy_tree.specs.declared.syntax.BinOp.{BinOp}
use Rattle.rpy_tree.specs.declared.syntax.CmpOp.{CmpOp}
use Rattle.rpy_tree.specs.declared.syntax.UnOp.{UnOp}
use Rattle.rpy_tree.specs.declared.syntax.Clause as syntax_clause
use Rattle.rpy_tree.specs.declared.syntax.Expr as syntax
use Rattle.rpy_tree.specs.declared.syntax.Expr.TheFolds as syntax_folds
use Rattle.rpy_tree.specs.declared.syntax.Expr.TheOpen as layer
use Rattle.rpy_tree.specs.declared.syntax.Expr.TheVariants as s
use Rattle.rpy_tree.specs.declared.syntax.Expr.TheViews as views
use Rattle.rpy_tree.specs.declared.syntax.Target as aim
use Rattle.rpy_tree.specs.declared.syntax.Target.TheVariants as at
use Rattle.rpy_tree.specs.declared.syntax.Stmt as syntax_stmt
use Rattle.rpy_tree.specs.declared.syntax.Stmt.TheFolds as stmt_folds
use Rattle.rpy_tree.specs.declared.syntax.Stmt.TheOpen as stmt_layer
use Rattle.rpy_tree.specs.declared.syntax.Stmt.TheVariants as c
use Rattle.rpy_tree.specs.declared.syntax.Stmt.TheViews as stmt_views
use Rattle.rpy_tree.specs.declared.syntax.UnOp.TheVariants as un
use Rattle.rpy_meaning.specs.declared.row.RowOp.{RowOp}
use Rattle.rpy_meaning.specs.declared.row.RowOp.TheVariants as row
use Rattle.rpy_resolved.specs.declared.tree.Clause.{Clause}
use Rattle.rpy_resolved.specs.declared.tree.Expr as made
use Rattle.rpy_resolved.specs.declared.tree.Expr.{Expr}
use Rattle.rpy_resolved.specs.declared.tree.Expr.TheFolds as made_folds
use Rattle.rpy_resolved.specs.declared.tree.Expr.TheOpen.{Expr-F, Subject-F, Target-F}
use Rattle.rpy_resolved.specs.declared.tree.Expr.TheVariants as m
use Rattle.rpy_resolved.specs.declared.tree.Expr.TheViews as made_views
use Rattle.rpy_resolved.specs.declared.tree.Subject.{Subject}
use Rattle.rpy_resolved.specs.declared.tree.Subject.TheVariants as ms
use Rattle.rpy_resolved.specs.declared.tree.Target.{Target}
use Rattle.rpy_resolved.specs.declared.tree.Target.TheVariants as mt
use Rattle.rpy_resolved.specs.declared.tree.Stmt as made_stmt
use Rattle.rpy_resolved.specs.declared.tree.Stmt.{Stmt}
use Rattle.rpy_resolved.specs.declared.tree.Stmt.TheFolds as made_stmt_folds
use Rattle.rpy_resolved.specs.declared.tree.Stmt.TheOpen.{Stmt-F}
use Rattle.rpy_resolved.specs.declared.tree.Stmt.TheVariants as mc
use Rattle.rpy_resolved.specs.declared.tree.Stmt.TheViews as made_stmt_views
use Rattle.resolver_names.specs.Nodes.{total, pair_total, if_some, is_not, one_at, given, value_step, walked_step, bound_step, values, walked_values, bound_values, done_step, caught_step, done_values, caught_values, block_values, node_at, expr_step, target_step, nodes, target_nodes, nodes_if, arms_step, stmt_step, clause_step, stmt_nodes, clause_nodes, block_nodes, arm_nodes, last_nodes}
use Rattle.resolver_names.specs.Forms.{both, checked_op}

-- ---- lists

pub total_append : (xs ys : List ℕ) → total (xs ++ ys) ≡ total xs + total ys
total_append [] ys = omega arith
total_append (x ∷ xs) ys = let h = total_append xs ys in omega (arith, h)

module _ {A : Type 0} (g : A → ℕ) where
  pub total_push : (xs : List A) (x : A) → total (map g (xs ++ x ∷ [])) ≡ total (map g xs) + g x
  total_push [] x = omega arith
  total_push (y ∷ xs) x = let h = total_push xs x in omega (arith, h)

pub pair_push : {A : Type 0} (g : A → ℕ × ℕ) (xs : List A) (x : A) → pair_total (map g (xs ++ x ∷ [])) ≡ pair_total (map g xs) + ((g x).0 + (g x).1)
pair_push g [] x = omega arith
pair_push g (y ∷ xs) x = let h = pair_push g xs x in omega (arith, h)

-- ---- values

module _ (k : ℕ) where
  pub local_counts : (n i : ℕ) → values k (m.Local n i) ≡ one_at k n
  local_counts n i = ap (values k) (sym (made_views.rolls-Local n i)) ∙ made.fold-roll-Expr ℕ ℕ ℕ (value_step k) (walked_step k) (bound_step k) (Expr-F.Local n i)

  pub constant_counts : (n : ℕ) (a : Const) → values k (m.Constant n a) ≡ one_at k n
  constant_counts n a = ap (values k) (sym (made_views.rolls-Constant n a)) ∙ made.fold-roll-Expr ℕ ℕ ℕ (value_step k) (walked_step k) (bound_step k) (Expr-F.Constant n a)

  pub apply_counts : (n : ℕ) (v : Bool) (o : RowOp) (es : List Expr) → values k (m.Apply n v o es) ≡ given k v o n + total (map (values k) es)
  apply_counts n v o es = ap (values k) (sym (made_views.rolls-Apply n v o es)) ∙ made.fold-roll-Expr ℕ ℕ ℕ (value_step k) (walked_step k) (bound_step k) (Expr-F.Apply n v o es)

  pub and_counts : (n : ℕ) (a b : Expr) → values k (m.And n a b) ≡ one_at k n + values k a + values k b
  and_counts n a b = ap (values k) (sym (made_views.rolls-And n a b)) ∙ made.fold-roll-Expr ℕ ℕ ℕ (value_step k) (walked_step k) (bound_step k) (Expr-F.And n a b)

  pub or_counts : (n : ℕ) (a b : Expr) → values k (m.Or n a b) ≡ one_at k n + values k a + values k b
  or_counts n a b = ap (values k) (sym (made_views.rolls-Or n a b)) ∙ made.fold-roll-Expr ℕ ℕ ℕ (value_step k) (walked_step k) (bound_step k) (Expr-F.Or n a b)

  pub display_counts : (n site : ℕ) (ps : List (Expr × Expr)) → values k (m.Display n site ps) ≡ one_at k n + pair_total (map (both (values k)) ps)
  display_counts n site ps = ap (values k) (sym (made_views.rolls-Display n site ps)) ∙ made.fold-roll-Expr ℕ ℕ ℕ (value_step k) (walked_step k) (bound_step k) (Expr-F.Display n site ps)

  pub comprehension_counts : (n site : ℕ) (item : Expr) (t : Target) (x : Subject) (test : Option Expr) → values k (m.Comprehension n site item t x test) ≡ one_at k n + values k item + bound_values k t + walked_values k x + if_some (option_map (values k) test)
  comprehension_counts n site item t x None = ap (values k) (sym (made_views.rolls-Comprehension n site item t x None)) ∙ made.fold-roll-Expr ℕ ℕ ℕ (value_step k) (walked_step k) (bound_step k) (Expr-F.Comprehension n site item t x None)
  comprehension_counts n site item t x (Some e) = ap (values k) (sym (made_views.rolls-Comprehension n site item t x (Some e))) ∙ made.fold-roll-Expr ℕ ℕ ℕ (value_step k) (walked_step k) (bound_step k) (Expr-F.Comprehension n site item t x (Some e))

  pub over_counts : (site : ℕ) (a : Expr) → walked_values k (ms.Over site a) ≡ values k a
  over_counts site a = ap (walked_values k) (sym (made_views.rolls-Over site a)) ∙ made_folds.fold-roll-Subject ℕ ℕ ℕ (value_step k) (walked_step k) (bound_step k) (Subject-F.Over site a)

  pub up_counts : (a : Expr) → walked_values k (ms.UpTo a) ≡ values k a
  up_counts a = ap (walked_values k) (sym (made_views.rolls-UpTo a)) ∙ made_folds.fold-roll-Subject ℕ ℕ ℕ (value_step k) (walked_step k) (bound_step k) (Subject-F.UpTo a)

  pub from_counts : (a b : Expr) (step : ℤ) → walked_values k (ms.FromTo a b step) ≡ values k a + values k b
  from_counts a b step = ap (walked_values k) (sym (made_views.rolls-FromTo a b step)) ∙ made_folds.fold-roll-Subject ℕ ℕ ℕ (value_step k) (walked_step k) (bound_step k) (Subject-F.FromTo a b step)

  pub name_counts : (n i : ℕ) → bound_values k (mt.Name n i) ≡ one_at k n
  name_counts n i = ap (bound_values k) (sym (made_views.rolls-Name n i)) ∙ made_folds.fold-roll-Target ℕ ℕ ℕ (value_step k) (walked_step k) (bound_step k) (Target-F.Name n i)

  pub attr_counts : (n : ℕ) (a : Expr) (name : List ℕ) → bound_values k (mt.Attr n a name) ≡ one_at k n + values k a
  attr_counts n a name = ap (bound_values k) (sym (made_views.rolls-Attr n a name)) ∙ made_folds.fold-roll-Target ℕ ℕ ℕ (value_step k) (walked_step k) (bound_step k) (Target-F.Attr n a name)

  pub item_counts : (n : ℕ) (a i : Expr) → bound_values k (mt.Item n a i) ≡ one_at k n + values k a + values k i
  item_counts n a i = ap (bound_values k) (sym (made_views.rolls-Item n a i)) ∙ made_folds.fold-roll-Target ℕ ℕ ℕ (value_step k) (walked_step k) (bound_step k) (Target-F.Item n a i)

  pub parts_counts : (n : ℕ) (ts : List Target) → bound_values k (mt.Parts n ts) ≡ one_at k n + total (map (bound_values k) ts)
  parts_counts n ts = ap (bound_values k) (sym (made_views.rolls-Parts n ts)) ∙ made_folds.fold-roll-Target ℕ ℕ ℕ (value_step k) (walked_step k) (bound_step k) (Target-F.Parts n ts)

  pub pass_counts : (n : ℕ) → done_values k (mc.Pass n) ≡ 0
  pass_counts n = ap (done_values k) (sym (made_stmt_views.rolls-Pass n)) ∙ made_stmt.fold-roll-Stmt ℕ ℕ (done_step k) (caught_step k) (Stmt-F.Pass n)

  pub break_counts : (n : ℕ) → done_values k (mc.Break n) ≡ 0
  break_counts n = ap (done_values k) (sym (made_stmt_views.rolls-Break n)) ∙ made_stmt.fold-roll-Stmt ℕ ℕ (done_step k) (caught_step k) (Stmt-F.Break n)

  pub continue_counts : (n : ℕ) → done_values k (mc.Continue n) ≡ 0
  continue_counts n = ap (done_values k) (sym (made_stmt_views.rolls-Continue n)) ∙ made_stmt.fold-roll-Stmt ℕ ℕ (done_step k) (caught_step k) (Stmt-F.Continue n)

  pub return_counts : (n : ℕ) (a : Expr) → done_values k (mc.Return n a) ≡ values k a
  return_counts n a = ap (done_values k) (sym (made_stmt_views.rolls-Return n a)) ∙ made_stmt.fold-roll-Stmt ℕ ℕ (done_step k) (caught_step k) (Stmt-F.Return n a)

  pub do_counts : (n : ℕ) (a : Expr) → done_values k (mc.Do n a) ≡ values k a
  do_counts n a = ap (done_values k) (sym (made_stmt_views.rolls-Do n a)) ∙ made_stmt.fold-roll-Stmt ℕ ℕ (done_step k) (caught_step k) (Stmt-F.Do n a)

  pub assign_counts : (n : ℕ) (ts : List Target) (a : Expr) → done_values k (mc.Assign n ts a) ≡ total (map (bound_values k) ts) + values k a
  assign_counts n ts a = ap (done_values k) (sym (made_stmt_views.rolls-Assign n ts a)) ∙ made_stmt.fold-roll-Stmt ℕ ℕ (done_step k) (caught_step k) (Stmt-F.Assign n ts a)

  pub augment_counts : (n : ℕ) (t : Target) (o : RowOp) (a : Expr) → done_values k (mc.Augment n t o a) ≡ bound_values k t + values k a
  augment_counts n t o a = ap (done_values k) (sym (made_stmt_views.rolls-Augment n t o a)) ∙ made_stmt.fold-roll-Stmt ℕ ℕ (done_step k) (caught_step k) (Stmt-F.Augment n t o a)

  pub if_counts : (n : ℕ) (a : Expr) (so other : List Stmt) → done_values k (mc.If n a so other) ≡ values k a + block_values k so + block_values k other
  if_counts n a so other = ap (done_values k) (sym (made_stmt_views.rolls-If n a so other)) ∙ made_stmt.fold-roll-Stmt ℕ ℕ (done_step k) (caught_step k) (Stmt-F.If n a so other)

  pub while_counts : (n : ℕ) (a : Expr) (ss : List Stmt) → done_values k (mc.While n a ss) ≡ values k a + block_values k ss
  while_counts n a ss = ap (done_values k) (sym (made_stmt_views.rolls-While n a ss)) ∙ made_stmt.fold-roll-Stmt ℕ ℕ (done_step k) (caught_step k) (Stmt-F.While n a ss)

  pub for_counts : (n : ℕ) (t : Target) (x : Subject) (ss : List Stmt) → done_values k (mc.For n t x ss) ≡ bound_values k t + walked_values k x + block_values k ss
  for_counts n t x ss = ap (done_values k) (sym (made_stmt_views.rolls-For n t x ss)) ∙ made_stmt.fold-roll-Stmt ℕ ℕ (done_step k) (caught_step k) (Stmt-F.For n t x ss)

  pub try_counts : (n : ℕ) (ss : List Stmt) (cs : List Clause) (other : List Stmt) → done_values k (mc.Try n ss cs other) ≡ block_values k ss + total (map (caught_values k) cs) + block_values k other
  try_counts n ss cs other = ap (done_values k) (sym (made_stmt_views.rolls-Try n ss cs other)) ∙ made_stmt.fold-roll-Stmt ℕ ℕ (done_step k) (caught_step k) (Stmt-F.Try n ss cs other)

  pub finally_counts : (n : ℕ) (ss last : List Stmt) → done_values k (mc.Finally n ss last) ≡ block_values k ss + block_values k last
  finally_counts n ss last = ap (done_values k) (sym (made_stmt_views.rolls-Finally n ss last)) ∙ made_stmt.fold-roll-Stmt ℕ ℕ (done_step k) (caught_step k) (Stmt-F.Finally n ss last)

  pub clause_counts : (x : Clause) → caught_values k x ≡ block_values k x.body
  clause_counts x =
      ap (caught_values k) (sym (made_stmt_views.rolls-struct-Clause (record { node = x.node; bare = x.bare; classes = x.classes; local = x.local; body = x.body })))
      ∙ made_stmt_folds.fold-roll-Clause ℕ ℕ (done_step k) (caught_step k) (record { node = x.node; bare = x.bare; classes = x.classes; local = x.local; body = x.body })

-- ---- nodes

module _ (k first : ℕ) where
  pub int_nodes : (n : ℕ) (z : ℤ) → nodes k first (s.Int n z) ≡ node_at k first n
  int_nodes n z = ap (nodes k first) (sym (views.rolls-Int n z)) ∙ syntax.fold-roll-Expr ℕ ℕ (expr_step k first) (target_step k first) (layer.Expr-F.Int n z)

  pub str_nodes : (n : ℕ) (text : List ℕ) → nodes k first (s.Str n text) ≡ node_at k first n
  str_nodes n text = ap (nodes k first) (sym (views.rolls-Str n text)) ∙ syntax.fold-roll-Expr ℕ ℕ (expr_step k first) (target_step k first) (layer.Expr-F.Str n text)

  pub name_nodes : (n : ℕ) (name : List ℕ) → nodes k first (s.Name n name) ≡ node_at k first n
  name_nodes n name = ap (nodes k first) (sym (views.rolls-Expr::Name n name)) ∙ syntax.fold-roll-Expr ℕ ℕ (expr_step k first) (target_step k first) (layer.Expr-F.Expr::Name n name)

  pub unary_nodes : (n : ℕ) (op : UnOp) (a : syntax.Expr) → nodes k first (s.Unary n op a) ≡ node_at k first n + nodes k first a
  unary_nodes n op a = ap (nodes k first) (sym (views.rolls-Unary n op a)) ∙ syntax.fold-roll-Expr ℕ ℕ (expr_step k first) (target_step k first) (layer.Expr-F.Unary n op a)

  pub binary_nodes : (n : ℕ) (op : BinOp) (a b : syntax.Expr) → nodes k first (s.Binary n op a b) ≡ node_at k first n + nodes k first a + nodes k first b
  binary_nodes n op a b = ap (nodes k first) (sym (views.rolls-Binary n op a b)) ∙ syntax.fold-roll-Expr ℕ ℕ (expr_step k first) (target_step k first) (layer.Expr-F.Binary n op a b)

  pub compare_nodes : (n : ℕ) (op : CmpOp) (a b : syntax.Expr) → nodes k first (s.Compare n op a b) ≡ node_at k first n + nodes k first a + nodes k first b
  compare_nodes n op a b = ap (nodes k first) (sym (views.rolls-Compare n op a b)) ∙ syntax.fold-roll-Expr ℕ ℕ (expr_step k first) (target_step k first) (layer.Expr-F.Compare n op a b)

  pub logic_nodes : (n : ℕ) (is_and : Bool) (a b : syntax.Expr) → nodes k first (s.Logic n is_and a b) ≡ node_at k first n + nodes k first a + nodes k first b
  logic_nodes n is_and a b = ap (nodes k first) (sym (views.rolls-Logic n is_and a b)) ∙ syntax.fold-roll-Expr ℕ ℕ (expr_step k first) (target_step k first) (layer.Expr-F.Logic n is_and a b)

  pub not_nodes : (n : ℕ) (a : syntax.Expr) → nodes k first (s.Not n a) ≡ node_at k first n + nodes k first a
  not_nodes n a = ap (nodes k first) (sym (views.rolls-Not n a)) ∙ syntax.fold-roll-Expr ℕ ℕ (expr_step k first) (target_step k first) (layer.Expr-F.Not n a)

  pub call_nodes : (n : ℕ) (f : syntax.Expr) (args : List syntax.Expr) → nodes k first (s.Call n f args) ≡ node_at k first n + nodes k first f + total (map (nodes k first) args)
  call_nodes n f args = ap (nodes k first) (sym (views.rolls-Call n f args)) ∙ syntax.fold-roll-Expr ℕ ℕ (expr_step k first) (target_step k first) (layer.Expr-F.Call n f args)

  pub attr_nodes : (n : ℕ) (a : syntax.Expr) (name : List ℕ) → nodes k first (s.Attr n a name) ≡ node_at k first n + nodes k first a
  attr_nodes n a name = ap (nodes k first) (sym (views.rolls-Expr::Attr n a name)) ∙ syntax.fold-roll-Expr ℕ ℕ (expr_step k first) (target_step k first) (layer.Expr-F.Expr::Attr n a name)

  pub index_nodes : (n : ℕ) (a i : syntax.Expr) → nodes k first (s.Index n a i) ≡ node_at k first n + nodes k first a + nodes k first i
  index_nodes n a i = ap (nodes k first) (sym (views.rolls-Index n a i)) ∙ syntax.fold-roll-Expr ℕ ℕ (expr_step k first) (target_step k first) (layer.Expr-F.Index n a i)

  pub slice_nodes : (n : ℕ) (a : syntax.Expr) (low high : Option syntax.Expr) → nodes k first (s.Slice n a low high) ≡ node_at k first n + nodes k first a + nodes_if k first low + nodes_if k first high
  slice_nodes n a None None = ap (nodes k first) (sym (views.rolls-Slice n a None None)) ∙ syntax.fold-roll-Expr ℕ ℕ (expr_step k first) (target_step k first) (layer.Expr-F.Slice n a None None)
  slice_nodes n a None (Some high) = ap (nodes k first) (sym (views.rolls-Slice n a None (Some high))) ∙ syntax.fold-roll-Expr ℕ ℕ (expr_step k first) (target_step k first) (layer.Expr-F.Slice n a None (Some high))
  slice_nodes n a (Some low) None = ap (nodes k first) (sym (views.rolls-Slice n a (Some low) None)) ∙ syntax.fold-roll-Expr ℕ ℕ (expr_step k first) (target_step k first) (layer.Expr-F.Slice n a (Some low) None)
  slice_nodes n a (Some low) (Some high) = ap (nodes k first) (sym (views.rolls-Slice n a (Some low) (Some high))) ∙ syntax.fold-roll-Expr ℕ ℕ (expr_step k first) (target_step k first) (layer.Expr-F.Slice n a (Some low) (Some high))

  pub tuple_nodes : (n : ℕ) (items : List syntax.Expr) → nodes k first (s.Tuple n items) ≡ node_at k first n + total (map (nodes k first) items)
  tuple_nodes n items = ap (nodes k first) (sym (views.rolls-Expr::Tuple n items)) ∙ syntax.fold-roll-Expr ℕ ℕ (expr_step k first) (target_step k first) (layer.Expr-F.Expr::Tuple n items)

  pub list_nodes : (n : ℕ) (items : List syntax.Expr) → nodes k first (s.List n items) ≡ node_at k first n + total (map (nodes k first) items)
  list_nodes n items = ap (nodes k first) (sym (views.rolls-List n items)) ∙ syntax.fold-roll-Expr ℕ ℕ (expr_step k first) (target_step k first) (layer.Expr-F.List n items)

  pub dict_nodes : (n : ℕ) (ps : List (syntax.Expr × syntax.Expr)) → nodes k first (s.Dict n ps) ≡ node_at k first n + pair_total (map (both (nodes k first)) ps)
  dict_nodes n ps = ap (nodes k first) (sym (views.rolls-Dict n ps)) ∙ syntax.fold-roll-Expr ℕ ℕ (expr_step k first) (target_step k first) (layer.Expr-F.Dict n ps)

  pub comp_nodes : (n : ℕ) (item : syntax.Expr) (t : aim.Target) (over : syntax.Expr) (test : Option syntax.Expr) → nodes k first (s.Comp n item t over test) ≡ node_at k first n + nodes k first item + target_nodes k first t + nodes k first over + nodes_if k first test
  comp_nodes n item t over None = ap (nodes k first) (sym (views.rolls-Comp n item t over None)) ∙ syntax.fold-roll-Expr ℕ ℕ (expr_step k first) (target_step k first) (layer.Expr-F.Comp n item t over None)
  comp_nodes n item t over (Some e) = ap (nodes k first) (sym (views.rolls-Comp n item t over (Some e))) ∙ syntax.fold-roll-Expr ℕ ℕ (expr_step k first) (target_step k first) (layer.Expr-F.Comp n item t over (Some e))

  pub target_name_nodes : (n : ℕ) (name : List ℕ) → target_nodes k first (at.Name n name) ≡ node_at k first n
  target_name_nodes n name = ap (target_nodes k first) (sym (views.rolls-Target::Name n name)) ∙ syntax_folds.fold-roll-Target ℕ ℕ (expr_step k first) (target_step k first) (layer.Target-F.Target::Name n name)

  pub target_attr_nodes : (n : ℕ) (a : syntax.Expr) (name : List ℕ) → target_nodes k first (at.Attr n a name) ≡ node_at k first n + nodes k first a
  target_attr_nodes n a name = ap (target_nodes k first) (sym (views.rolls-Target::Attr n a name)) ∙ syntax_folds.fold-roll-Target ℕ ℕ (expr_step k first) (target_step k first) (layer.Target-F.Target::Attr n a name)

  pub target_item_nodes : (n : ℕ) (a i : syntax.Expr) → target_nodes k first (at.Item n a i) ≡ node_at k first n + nodes k first a + nodes k first i
  target_item_nodes n a i = ap (target_nodes k first) (sym (views.rolls-Item n a i)) ∙ syntax_folds.fold-roll-Target ℕ ℕ (expr_step k first) (target_step k first) (layer.Target-F.Item n a i)

  pub target_tuple_nodes : (n : ℕ) (ts : List aim.Target) → target_nodes k first (at.Tuple n ts) ≡ node_at k first n + total (map (target_nodes k first) ts)
  target_tuple_nodes n ts = ap (target_nodes k first) (sym (views.rolls-Target::Tuple n ts)) ∙ syntax_folds.fold-roll-Target ℕ ℕ (expr_step k first) (target_step k first) (layer.Target-F.Target::Tuple n ts)

  pub pass_nodes : (n : ℕ) → stmt_nodes k first (c.Pass n) ≡ 0
  pass_nodes n = ap (stmt_nodes k first) (sym (stmt_views.rolls-Pass n)) ∙ syntax_stmt.fold-roll-Stmt ℕ ℕ (stmt_step k first) (clause_step k first) (stmt_layer.Stmt-F.Pass n)

  pub break_nodes : (n : ℕ) → stmt_nodes k first (c.Break n) ≡ 0
  break_nodes n = ap (stmt_nodes k first) (sym (stmt_views.rolls-Break n)) ∙ syntax_stmt.fold-roll-Stmt ℕ ℕ (stmt_step k first) (clause_step k first) (stmt_layer.Stmt-F.Break n)

  pub continue_nodes : (n : ℕ) → stmt_nodes k first (c.Continue n) ≡ 0
  continue_nodes n = ap (stmt_nodes k first) (sym (stmt_views.rolls-Continue n)) ∙ syntax_stmt.fold-roll-Stmt ℕ ℕ (stmt_step k first) (clause_step k first) (stmt_layer.Stmt-F.Continue n)

  pub return_nodes : (n : ℕ) (a : Option syntax.Expr) → stmt_nodes k first (c.Return n a) ≡ nodes_if k first a
  return_nodes n a = ap (stmt_nodes k first) (sym (stmt_views.rolls-Return n a)) ∙ syntax_stmt.fold-roll-Stmt ℕ ℕ (stmt_step k first) (clause_step k first) (stmt_layer.Stmt-F.Return n a)

  pub raise_nodes : (n : ℕ) (a : syntax.Expr) → stmt_nodes k first (c.Raise n a) ≡ nodes k first a
  raise_nodes n a = ap (stmt_nodes k first) (sym (stmt_views.rolls-Raise n a)) ∙ syntax_stmt.fold-roll-Stmt ℕ ℕ (stmt_step k first) (clause_step k first) (stmt_layer.Stmt-F.Raise n a)

  pub assert_nodes : (n : ℕ) (a : syntax.Expr) → stmt_nodes k first (c.Assert n a) ≡ nodes k first a
  assert_nodes n a = ap (stmt_nodes k first) (sym (stmt_views.rolls-Assert n a)) ∙ syntax_stmt.fold-roll-Stmt ℕ ℕ (stmt_step k first) (clause_step k first) (stmt_layer.Stmt-F.Assert n a)

  pub del_nodes : (n : ℕ) (a i : syntax.Expr) → stmt_nodes k first (c.Del n a i) ≡ nodes k first a + nodes k first i
  del_nodes n a i = ap (stmt_nodes k first) (sym (stmt_views.rolls-Del n a i)) ∙ syntax_stmt.fold-roll-Stmt ℕ ℕ (stmt_step k first) (clause_step k first) (stmt_layer.Stmt-F.Del n a i)

  pub print_nodes : (n : ℕ) (es : List syntax.Expr) → stmt_nodes k first (c.Print n es) ≡ total (map (nodes k first) es)
  print_nodes n es = ap (stmt_nodes k first) (sym (stmt_views.rolls-Print n es)) ∙ syntax_stmt.fold-roll-Stmt ℕ ℕ (stmt_step k first) (clause_step k first) (stmt_layer.Stmt-F.Print n es)

  pub assign_nodes : (n : ℕ) (ts : List aim.Target) (a : syntax.Expr) → stmt_nodes k first (c.Assign n ts a) ≡ total (map (target_nodes k first) ts) + nodes k first a
  assign_nodes n ts a = ap (stmt_nodes k first) (sym (stmt_views.rolls-Assign n ts a)) ∙ syntax_stmt.fold-roll-Stmt ℕ ℕ (stmt_step k first) (clause_step k first) (stmt_layer.Stmt-F.Assign n ts a)

  pub aug_nodes : (n : ℕ) (t : aim.Target) (op : BinOp) (a : syntax.Expr) → stmt_nodes k first (c.Aug n t op a) ≡ target_nodes k first t + nodes k first a
  aug_nodes n t op a = ap (stmt_nodes k first) (sym (stmt_views.rolls-Aug n t op a)) ∙ syntax_stmt.fold-roll-Stmt ℕ ℕ (stmt_step k first) (clause_step k first) (stmt_layer.Stmt-F.Aug n t op a)

  pub do_nodes : (n : ℕ) (a : syntax.Expr) → stmt_nodes k first (c.Expr n a) ≡ nodes k first a
  do_nodes n a = ap (stmt_nodes k first) (sym (stmt_views.rolls-Expr n a)) ∙ syntax_stmt.fold-roll-Stmt ℕ ℕ (stmt_step k first) (clause_step k first) (stmt_layer.Stmt-F.Expr n a)

  arms_same : (arms : List (syntax.Expr × List syntax_stmt.Stmt)) → arms_step k first (map (λ (p : syntax.Expr × List syntax_stmt.Stmt). (p.0, map (stmt_nodes k first) p.1)) arms) ≡ total (map (arm_nodes k first) arms)
  arms_same [] = refl
  arms_same (arm ∷ arms) = ap (λ t. nodes k first arm.0 + block_nodes k first arm.1 + t) (arms_same arms)

  pub if_nodes : (n : ℕ) (arms : List (syntax.Expr × List syntax_stmt.Stmt)) (other : List syntax_stmt.Stmt) → stmt_nodes k first (c.If n arms other) ≡ total (map (arm_nodes k first) arms) + block_nodes k first other
  if_nodes n arms other = ap (stmt_nodes k first) (sym (stmt_views.rolls-If n arms other)) ∙ syntax_stmt.fold-roll-Stmt ℕ ℕ (stmt_step k first) (clause_step k first) (stmt_layer.Stmt-F.If n arms other) ∙ ap (λ t. t + block_nodes k first other) (arms_same arms)

  pub while_nodes : (n : ℕ) (a : syntax.Expr) (ss : List syntax_stmt.Stmt) → stmt_nodes k first (c.While n a ss) ≡ nodes k first a + block_nodes k first ss
  while_nodes n a ss = ap (stmt_nodes k first) (sym (stmt_views.rolls-While n a ss)) ∙ syntax_stmt.fold-roll-Stmt ℕ ℕ (stmt_step k first) (clause_step k first) (stmt_layer.Stmt-F.While n a ss)

  pub for_nodes : (n : ℕ) (t : aim.Target) (a : syntax.Expr) (ss : List syntax_stmt.Stmt) → stmt_nodes k first (c.For n t a ss) ≡ target_nodes k first t + nodes k first a + block_nodes k first ss
  for_nodes n t a ss = ap (stmt_nodes k first) (sym (stmt_views.rolls-For n t a ss)) ∙ syntax_stmt.fold-roll-Stmt ℕ ℕ (stmt_step k first) (clause_step k first) (stmt_layer.Stmt-F.For n t a ss)

  pub try_nodes : (n : ℕ) (ss : List syntax_stmt.Stmt) (cs : List syntax_clause.Clause) (other : List syntax_stmt.Stmt) (last : Option (List syntax_stmt.Stmt)) → stmt_nodes k first (c.Try n ss cs other last) ≡ block_nodes k first ss + total (map (clause_nodes k first) cs) + block_nodes k first other + last_nodes k first last
  try_nodes n ss cs other None = ap (stmt_nodes k first) (sym (stmt_views.rolls-Try n ss cs other None)) ∙ syntax_stmt.fold-roll-Stmt ℕ ℕ (stmt_step k first) (clause_step k first) (stmt_layer.Stmt-F.Try n ss cs other None)
  try_nodes n ss cs other (Some last) = ap (stmt_nodes k first) (sym (stmt_views.rolls-Try n ss cs other (Some last))) ∙ syntax_stmt.fold-roll-Stmt ℕ ℕ (stmt_step k first) (clause_step k first) (stmt_layer.Stmt-F.Try n ss cs other (Some last))

  pub clause_has : (x : syntax_clause.Clause) → clause_nodes k first x ≡ block_nodes k first x.body
  clause_has x =
      ap (clause_nodes k first) (sym (stmt_views.rolls-struct-Clause (record { node = x.node; classes = x.classes; bare = x.bare; bind = x.bind; body = x.body })))
      ∙ stmt_folds.fold-roll-Clause ℕ ℕ (stmt_step k first) (clause_step k first) (record { node = x.node; classes = x.classes; bare = x.bare; bind = x.bind; body = x.body })

-- ---- `ovfcheck`

abbrev some_not : Option RowOp → Bool
some_not None = false
some_not (Some o) = is_not o

no_not : (o : RowOp) → some_not (checked_op o) ≡ false
no_not (row.Word z) = refl
no_not (row.Str text) = refl
no_not (row.Bool b) = refl
no_not row.None = refl
no_not (row.Constant c) = refl
no_not row.Copy = refl
no_not (row.Unary un.Neg) = refl
no_not (row.Unary un.Pos) = refl
no_not (row.Unary un.Invert) = refl
no_not (row.Binary b site) = refl
no_not row.AddTo = refl
no_not row.CheckedNeg = refl
no_not (row.Checked b) = refl
no_not (row.Compare c) = refl
no_not row.Not = refl
no_not row.Truth = refl
no_not row.Intmask = refl
no_not row.Min = refl
no_not row.Max = refl
no_not row.Len = refl
no_not row.Ord = refl
no_not row.Chr = refl
no_not row.ToStr = refl
no_not row.ToInt = refl
no_not row.Write = refl
no_not (row.IsInstance c) = refl
no_not (row.Index z) = refl
no_not row.StoreIndex = refl
no_not row.DeleteIndex = refl
no_not (row.Attr name) = refl
no_not (row.StoreAttr name) = refl
no_not (row.Slice site a b) = refl
no_not (row.AllButLast site) = refl
no_not row.Tuple = refl
no_not (row.List site) = refl
no_not (row.Dict site) = refl
no_not (row.Comprehension site) = refl
no_not row.AddItem = refl
no_not (row.Call f) = refl
no_not (row.CallOf c f) = refl
no_not row.CallValue = refl
no_not (row.New c) = refl
no_not (row.Method name site) = refl
no_not row.Raise = refl
no_not row.Print = refl
no_not (row.Walk site) = refl
no_not (row.HasItem s) = refl
no_not (row.Item s) = refl
no_not (row.Advance s) = refl
no_not row.Turn = refl
no_not (row.Unpack n i) = refl
no_not row.DropNone = refl
no_not row.OnlyNone = refl
no_not row.FalseNone = refl
no_not (row.Lower c) = refl
no_not row.NonNegative = refl

-- the operation with its test gives no more values than the one without
given_less : (k n : ℕ) (value : Bool) (o : RowOp) → is_not o ≡ false → (p : RowOp) → given k value o n ≤ given k value p n
given_less k n true o h p = omega arith
given_less k n false o h p = let e : given k false o n ≡ 0 = ap (λ (b : Bool). if b then one_at k n else 0) h in omega (arith, e)

pub checked_counts : (k node inner : ℕ) (value : Bool) (o p : RowOp) (es : List Expr) (e new : Expr) → e ≡ m.Apply inner value o es → checked_op o ≡ Some p → new ≡ m.Apply node true row.Copy (m.Apply inner value p es ∷ [])
    → values k new ≤ one_at k node + values k e
checked_counts k node inner value o p es e new is c n =
    let a : values k new ≡ one_at k node + (values k (m.Apply inner value p es) + 0) = ap (values k) n ∙ apply_counts k node true row.Copy (m.Apply inner value p es ∷ []) in
    let b = apply_counts k inner value p es in
    let d : values k e ≡ given k value o inner + total (map (values k) es) = ap (values k) is ∙ apply_counts k inner value o es in
    let f = given_less k inner value p (ap some_not (sym c) ∙ no_not o) o in
    omega (arith, a, b, d, f)
