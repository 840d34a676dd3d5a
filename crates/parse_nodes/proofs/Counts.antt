-- How many nodes of a tree have a number, a layer at a time.
use Rattle.std.proofs.Common.{◌≡◌, ℕ, ℤ, ◌+◌, Bool, List, [], ◌∷◌, ◌++◌, map, Option, Some, None, refl, sym, ap, ◌∙◌, arith}
use Rattle.rpy_tree.specs.declared.syntax.BinOp.{BinOp}
use Rattle.rpy_tree.specs.declared.syntax.CmpOp.{CmpOp}
use Rattle.rpy_tree.specs.declared.syntax.UnOp.{UnOp}
use Rattle.rpy_tree.specs.declared.syntax.Clause.{Clause}
use Rattle.rpy_tree.specs.declared.syntax.Expr.{Expr, map-Expr, fold-roll-Expr}
use Rattle.rpy_tree.specs.declared.syntax.Expr.TheFolds.{fold-roll-Target, map-Target}
use Rattle.rpy_tree.specs.declared.syntax.Expr.TheOpen as layer
use Rattle.rpy_tree.specs.declared.syntax.Expr.TheVariants as s
use Rattle.rpy_tree.specs.declared.syntax.Expr.TheViews as views
use Rattle.rpy_tree.specs.declared.syntax.Stmt.{Stmt, map-Stmt, fold-roll-Stmt}
use Rattle.rpy_tree.specs.declared.syntax.Stmt.TheFolds.{fold-roll-Clause}
use Rattle.rpy_tree.specs.declared.syntax.Stmt.TheOpen as stmt_layer
use Rattle.rpy_tree.specs.declared.syntax.Stmt.TheVariants as c
use Rattle.rpy_tree.specs.declared.syntax.Stmt.TheViews as stmt_views
use Rattle.rpy_tree.specs.declared.syntax.Target.{Target}
use Rattle.rpy_tree.specs.declared.syntax.Target.TheVariants as at
use Rattle.resolver_names.specs.Nodes.{total, pair_total, node_at, expr_step, target_step, nodes, target_nodes, nodes_if, arms_step, stmt_step, clause_step, stmt_nodes, clause_nodes, block_nodes, arm_nodes, last_nodes}

-- ---- lists

-- a list with one more
pub total_push : {A : Type 0} (g : A → ℕ) (xs : List A) (x : A) → total (map g (xs ++ x ∷ [])) ≡ total (map g xs) + g x
total_push g [] x = omega arith
total_push g (y ∷ xs) x = let h = total_push g xs x in omega (arith, h)

-- of both parts of a pair
abbrev pub both : {A B : Type 0} → (A → B) → A × A → B × B
both f p = (f p.0, f p.1)

pub pair_push : {A : Type 0} (g : A → ℕ × ℕ) (xs : List A) (x : A) → pair_total (map g (xs ++ x ∷ [])) ≡ pair_total (map g xs) + ((g x).0 + (g x).1)
pair_push g [] x = omega arith
pair_push g (y ∷ xs) x = let h = pair_push g xs x in omega (arith, h)

-- ---- expressions and targets

module _ (k : ℕ) where
  -- what a layer counts, from what its parts do
  rolled : (x : layer.Expr-F Expr Target) {e : Expr} → views.roll-Expr x ≡ e
      → nodes k 0 e ≡ expr_step k 0 (map-Expr Expr Target ℕ ℕ (nodes k 0) (target_nodes k 0) x)
  rolled x is = ap (nodes k 0) (sym is) ∙ fold-roll-Expr ℕ ℕ (expr_step k 0) (target_step k 0) x

  target_rolled : (x : layer.Target-F Expr Target) {e : Target} → views.roll-Target x ≡ e
      → target_nodes k 0 e ≡ target_step k 0 (map-Target Expr Target ℕ ℕ (nodes k 0) (target_nodes k 0) x)
  target_rolled x is = ap (target_nodes k 0) (sym is) ∙ fold-roll-Target ℕ ℕ (expr_step k 0) (target_step k 0) x

  pub int_nodes : (n : ℕ) (z : ℤ) → nodes k 0 (s.Int n z) ≡ node_at k 0 n
  int_nodes n z = rolled (layer.Expr-F.Int n z) (views.rolls-Int n z)

  pub str_nodes : (n : ℕ) (text : List ℕ) → nodes k 0 (s.Str n text) ≡ node_at k 0 n
  str_nodes n text = rolled (layer.Expr-F.Str n text) (views.rolls-Str n text)

  pub name_nodes : (n : ℕ) (name : List ℕ) → nodes k 0 (s.Name n name) ≡ node_at k 0 n
  name_nodes n name = rolled (layer.Expr-F.Expr::Name n name) (views.rolls-Expr::Name n name)

  pub unary_nodes : (n : ℕ) (op : UnOp) (a : Expr) → nodes k 0 (s.Unary n op a) ≡ node_at k 0 n + nodes k 0 a
  unary_nodes n op a = rolled (layer.Expr-F.Unary n op a) (views.rolls-Unary n op a)

  pub binary_nodes : (n : ℕ) (op : BinOp) (a b : Expr) → nodes k 0 (s.Binary n op a b) ≡ node_at k 0 n + nodes k 0 a + nodes k 0 b
  binary_nodes n op a b = rolled (layer.Expr-F.Binary n op a b) (views.rolls-Binary n op a b)

  pub compare_nodes : (n : ℕ) (op : CmpOp) (a b : Expr) → nodes k 0 (s.Compare n op a b) ≡ node_at k 0 n + nodes k 0 a + nodes k 0 b
  compare_nodes n op a b = rolled (layer.Expr-F.Compare n op a b) (views.rolls-Compare n op a b)

  pub logic_nodes : (n : ℕ) (is_and : Bool) (a b : Expr) → nodes k 0 (s.Logic n is_and a b) ≡ node_at k 0 n + nodes k 0 a + nodes k 0 b
  logic_nodes n is_and a b = rolled (layer.Expr-F.Logic n is_and a b) (views.rolls-Logic n is_and a b)

  pub not_nodes : (n : ℕ) (a : Expr) → nodes k 0 (s.Not n a) ≡ node_at k 0 n + nodes k 0 a
  not_nodes n a = rolled (layer.Expr-F.Not n a) (views.rolls-Not n a)

  pub call_nodes : (n : ℕ) (f : Expr) (args : List Expr)
      → nodes k 0 (s.Call n f args) ≡ node_at k 0 n + nodes k 0 f + total (map (nodes k 0) args)
  call_nodes n f args = rolled (layer.Expr-F.Call n f args) (views.rolls-Call n f args)

  pub attr_nodes : (n : ℕ) (a : Expr) (name : List ℕ) → nodes k 0 (s.Attr n a name) ≡ node_at k 0 n + nodes k 0 a
  attr_nodes n a name = rolled (layer.Expr-F.Expr::Attr n a name) (views.rolls-Expr::Attr n a name)

  pub index_nodes : (n : ℕ) (a i : Expr) → nodes k 0 (s.Index n a i) ≡ node_at k 0 n + nodes k 0 a + nodes k 0 i
  index_nodes n a i = rolled (layer.Expr-F.Index n a i) (views.rolls-Index n a i)

  pub slice_nodes : (n : ℕ) (a : Expr) (low high : Option Expr)
      → nodes k 0 (s.Slice n a low high) ≡ node_at k 0 n + nodes k 0 a + nodes_if k 0 low + nodes_if k 0 high
  slice_nodes n a None None = rolled (layer.Expr-F.Slice n a None None) (views.rolls-Slice n a None None)
  slice_nodes n a None (Some high) = rolled (layer.Expr-F.Slice n a None (Some high)) (views.rolls-Slice n a None (Some high))
  slice_nodes n a (Some low) None = rolled (layer.Expr-F.Slice n a (Some low) None) (views.rolls-Slice n a (Some low) None)
  slice_nodes n a (Some low) (Some high) = rolled (layer.Expr-F.Slice n a (Some low) (Some high)) (views.rolls-Slice n a (Some low) (Some high))

  pub tuple_nodes : (n : ℕ) (items : List Expr) → nodes k 0 (s.Tuple n items) ≡ node_at k 0 n + total (map (nodes k 0) items)
  tuple_nodes n items = rolled (layer.Expr-F.Expr::Tuple n items) (views.rolls-Expr::Tuple n items)

  pub list_nodes : (n : ℕ) (items : List Expr) → nodes k 0 (s.List n items) ≡ node_at k 0 n + total (map (nodes k 0) items)
  list_nodes n items = rolled (layer.Expr-F.List n items) (views.rolls-List n items)

  pub dict_nodes : (n : ℕ) (ps : List (Expr × Expr)) → nodes k 0 (s.Dict n ps) ≡ node_at k 0 n + pair_total (map (both (nodes k 0)) ps)
  dict_nodes n ps = rolled (layer.Expr-F.Dict n ps) (views.rolls-Dict n ps)

  pub comp_nodes : (n : ℕ) (item : Expr) (t : Target) (over : Expr) (test : Option Expr)
      → nodes k 0 (s.Comp n item t over test) ≡ node_at k 0 n + nodes k 0 item + target_nodes k 0 t + nodes k 0 over + nodes_if k 0 test
  comp_nodes n item t over None = rolled (layer.Expr-F.Comp n item t over None) (views.rolls-Comp n item t over None)
  comp_nodes n item t over (Some e) = rolled (layer.Expr-F.Comp n item t over (Some e)) (views.rolls-Comp n item t over (Some e))

  pub target_name_nodes : (n : ℕ) (name : List ℕ) → target_nodes k 0 (at.Name n name) ≡ node_at k 0 n
  target_name_nodes n name = target_rolled (layer.Target-F.Target::Name n name) (views.rolls-Target::Name n name)

  pub target_attr_nodes : (n : ℕ) (a : Expr) (name : List ℕ) → target_nodes k 0 (at.Attr n a name) ≡ node_at k 0 n + nodes k 0 a
  target_attr_nodes n a name = target_rolled (layer.Target-F.Target::Attr n a name) (views.rolls-Target::Attr n a name)

  pub target_item_nodes : (n : ℕ) (a i : Expr) → target_nodes k 0 (at.Item n a i) ≡ node_at k 0 n + nodes k 0 a + nodes k 0 i
  target_item_nodes n a i = target_rolled (layer.Target-F.Item n a i) (views.rolls-Item n a i)

  pub target_tuple_nodes : (n : ℕ) (ts : List Target) → target_nodes k 0 (at.Tuple n ts) ≡ node_at k 0 n + total (map (target_nodes k 0) ts)
  target_tuple_nodes n ts = target_rolled (layer.Target-F.Target::Tuple n ts) (views.rolls-Target::Tuple n ts)

  -- ---- statements

  stmt_rolled : (x : stmt_layer.Stmt-F Stmt Clause) {e : Stmt} → stmt_views.roll-Stmt x ≡ e
      → stmt_nodes k 0 e ≡ stmt_step k 0 (map-Stmt Stmt Clause ℕ ℕ (stmt_nodes k 0) (clause_nodes k 0) x)
  stmt_rolled x is = ap (stmt_nodes k 0) (sym is) ∙ fold-roll-Stmt ℕ ℕ (stmt_step k 0) (clause_step k 0) x

  pub pass_nodes : (n : ℕ) → stmt_nodes k 0 (c.Pass n) ≡ 0
  pass_nodes n = stmt_rolled (stmt_layer.Stmt-F.Pass n) (stmt_views.rolls-Pass n)

  pub break_nodes : (n : ℕ) → stmt_nodes k 0 (c.Break n) ≡ 0
  break_nodes n = stmt_rolled (stmt_layer.Stmt-F.Break n) (stmt_views.rolls-Break n)

  pub continue_nodes : (n : ℕ) → stmt_nodes k 0 (c.Continue n) ≡ 0
  continue_nodes n = stmt_rolled (stmt_layer.Stmt-F.Continue n) (stmt_views.rolls-Continue n)

  pub return_nodes : (n : ℕ) (a : Option Expr) → stmt_nodes k 0 (c.Return n a) ≡ nodes_if k 0 a
  return_nodes n a = stmt_rolled (stmt_layer.Stmt-F.Return n a) (stmt_views.rolls-Return n a)

  pub raise_nodes : (n : ℕ) (a : Expr) → stmt_nodes k 0 (c.Raise n a) ≡ nodes k 0 a
  raise_nodes n a = stmt_rolled (stmt_layer.Stmt-F.Raise n a) (stmt_views.rolls-Raise n a)

  pub assert_nodes : (n : ℕ) (a : Expr) → stmt_nodes k 0 (c.Assert n a) ≡ nodes k 0 a
  assert_nodes n a = stmt_rolled (stmt_layer.Stmt-F.Assert n a) (stmt_views.rolls-Assert n a)

  pub del_nodes : (n : ℕ) (a i : Expr) → stmt_nodes k 0 (c.Del n a i) ≡ nodes k 0 a + nodes k 0 i
  del_nodes n a i = stmt_rolled (stmt_layer.Stmt-F.Del n a i) (stmt_views.rolls-Del n a i)

  pub print_nodes : (n : ℕ) (es : List Expr) → stmt_nodes k 0 (c.Print n es) ≡ total (map (nodes k 0) es)
  print_nodes n es = stmt_rolled (stmt_layer.Stmt-F.Print n es) (stmt_views.rolls-Print n es)

  pub assign_nodes : (n : ℕ) (ts : List Target) (a : Expr)
      → stmt_nodes k 0 (c.Assign n ts a) ≡ total (map (target_nodes k 0) ts) + nodes k 0 a
  assign_nodes n ts a = stmt_rolled (stmt_layer.Stmt-F.Assign n ts a) (stmt_views.rolls-Assign n ts a)

  pub aug_nodes : (n : ℕ) (t : Target) (op : BinOp) (a : Expr) → stmt_nodes k 0 (c.Aug n t op a) ≡ target_nodes k 0 t + nodes k 0 a
  aug_nodes n t op a = stmt_rolled (stmt_layer.Stmt-F.Aug n t op a) (stmt_views.rolls-Aug n t op a)

  pub do_nodes : (n : ℕ) (a : Expr) → stmt_nodes k 0 (c.Expr n a) ≡ nodes k 0 a
  do_nodes n a = stmt_rolled (stmt_layer.Stmt-F.Expr n a) (stmt_views.rolls-Expr n a)

  arms_same : (arms : List (Expr × List Stmt))
      → arms_step k 0 (map (λ (p : Expr × List Stmt). (p.0, map (stmt_nodes k 0) p.1)) arms) ≡ total (map (arm_nodes k 0) arms)
  arms_same [] = refl
  arms_same (arm ∷ arms) = ap (λ t. nodes k 0 arm.0 + block_nodes k 0 arm.1 + t) (arms_same arms)

  pub if_nodes : (n : ℕ) (arms : List (Expr × List Stmt)) (other : List Stmt)
      → stmt_nodes k 0 (c.If n arms other) ≡ total (map (arm_nodes k 0) arms) + block_nodes k 0 other
  if_nodes n arms other =
      stmt_rolled (stmt_layer.Stmt-F.If n arms other) (stmt_views.rolls-If n arms other)
      ∙ ap (λ t. t + block_nodes k 0 other) (arms_same arms)

  pub while_nodes : (n : ℕ) (a : Expr) (ss : List Stmt) → stmt_nodes k 0 (c.While n a ss) ≡ nodes k 0 a + block_nodes k 0 ss
  while_nodes n a ss = stmt_rolled (stmt_layer.Stmt-F.While n a ss) (stmt_views.rolls-While n a ss)

  pub for_nodes : (n : ℕ) (t : Target) (a : Expr) (ss : List Stmt)
      → stmt_nodes k 0 (c.For n t a ss) ≡ target_nodes k 0 t + nodes k 0 a + block_nodes k 0 ss
  for_nodes n t a ss = stmt_rolled (stmt_layer.Stmt-F.For n t a ss) (stmt_views.rolls-For n t a ss)

  pub try_nodes : (n : ℕ) (ss : List Stmt) (cs : List Clause) (other : List Stmt) (last : Option (List Stmt))
      → stmt_nodes k 0 (c.Try n ss cs other last) ≡ block_nodes k 0 ss + total (map (clause_nodes k 0) cs) + block_nodes k 0 other + last_nodes k 0 last
  try_nodes n ss cs other None = stmt_rolled (stmt_layer.Stmt-F.Try n ss cs other None) (stmt_views.rolls-Try n ss cs other None)
  try_nodes n ss cs other (Some last) = stmt_rolled (stmt_layer.Stmt-F.Try n ss cs other (Some last)) (stmt_views.rolls-Try n ss cs other (Some last))

  pub clause_has : (x : Clause) → clause_nodes k 0 x ≡ block_nodes k 0 x.body
  clause_has x =
      ap (clause_nodes k 0) (sym (stmt_views.rolls-struct-Clause (record { node = x.node; classes = x.classes; bare = x.bare; bind = x.bind; body = x.body })))
      ∙ fold-roll-Clause ℕ ℕ (stmt_step k 0) (clause_step k 0) (record { node = x.node; classes = x.classes; bare = x.bare; bind = x.bind; body = x.body })
