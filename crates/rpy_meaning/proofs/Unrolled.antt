-- What the expressions and statements of a module are, by their parts.
use Rattle.std.proofs.Common.{◌≡◌, ℕ, List, Some, None, Option, sym, ap, ◌∙◌}
use Rattle.std.specs.Prelude.{ℤ, Bool, map, option_map, if◌then◌else◌}
use Rattle.rpy_tree.specs.declared.syntax.UnOp.{UnOp}
use Rattle.rpy_tree.specs.declared.syntax.BinOp.{BinOp}
use Rattle.rpy_tree.specs.declared.syntax.CmpOp.{CmpOp}
use Rattle.rpy_tree.specs.declared.syntax.Expr as syntax
use Rattle.rpy_tree.specs.declared.syntax.Expr.TheOpen.{Expr-F}
use Rattle.rpy_tree.specs.declared.syntax.Expr.TheViews as views
use Rattle.rpy_tree.specs.declared.syntax.Expr.TheVariants as e
use Rattle.rpy_tree.specs.declared.syntax.Target as aim
use Rattle.rpy_tree.specs.declared.syntax.Stmt as code
use Rattle.rpy_tree.specs.declared.syntax.Stmt.TheOpen.{Stmt-F}
use Rattle.rpy_tree.specs.declared.syntax.Stmt.TheViews as code_views
use Rattle.rpy_tree.specs.declared.syntax.Stmt.TheVariants as stmt
use Rattle.rpy_meaning.specs.declared.row.RowOp.TheVariants as row
use Rattle.rpy_meaning.specs.Tree.{Apply, And, Or, Target, Pass, Return, Do, Assign, Augment, While, For, Block}
use Rattle.rpy_meaning.specs.Resolved.{Names, Said, Part, said, value_of, values_of, zero_of, one_of, two_of, literal_of, slice_of, binary_of, made_at, named_value, attribute_value, call_of, expr_step, target_step, said_by, expr_by, target_by, targets_of, subject_of, exprs, Caught, alone, joined, raise_of, assert_of, augmented, stmt_step, clause_step, stmt_by}

module _ (names : Names) where
  abbrev part : syntax.Expr → Part
  part a = (a, said_by names a)

  pub int_is : (n : ℕ) (z : ℤ) → said_by names (e.Int n z) ≡ said (zero_of (row.Word z))
  int_is n z =
      ap (said_by names) (sym (views.rolls-Int n z)) ∙ syntax.para-roll-Expr Said Target (expr_step names) (target_step names) (Expr-F.Int n z)

  pub str_is : (n : ℕ) (text : List ℕ) → said_by names (e.Str n text) ≡ said (zero_of (row.Str text))
  str_is n text =
      ap (said_by names) (sym (views.rolls-Str n text)) ∙ syntax.para-roll-Expr Said Target (expr_step names) (target_step names) (Expr-F.Str n text)

  pub name_is : (n : ℕ) (name : List ℕ) → said_by names (e.Name n name) ≡ said (named_value names (names.meant n))
  name_is n name =
      ap (said_by names) (sym (views.rolls-Expr::Name n name)) ∙ syntax.para-roll-Expr Said Target (expr_step names) (target_step names) (Expr-F.Expr::Name n name)

  pub unary_is : (n : ℕ) (op : UnOp) (a : syntax.Expr) → said_by names (e.Unary n op a) ≡ said (one_of (row.Unary op) (expr_by names a))
  unary_is n op a =
      ap (said_by names) (sym (views.rolls-Unary n op a)) ∙ syntax.para-roll-Expr Said Target (expr_step names) (target_step names) (Expr-F.Unary n op a)

  pub binary_is : (n : ℕ) (op : BinOp) (a b : syntax.Expr) → said_by names (e.Binary n op a b) ≡ said (two_of (binary_of names n op) (expr_by names a) (expr_by names b))
  binary_is n op a b =
      ap (said_by names) (sym (views.rolls-Binary n op a b)) ∙ syntax.para-roll-Expr Said Target (expr_step names) (target_step names) (Expr-F.Binary n op a b)

  pub compare_is : (n : ℕ) (op : CmpOp) (a b : syntax.Expr) → said_by names (e.Compare n op a b) ≡ said (two_of (row.Compare op) (expr_by names a) (expr_by names b))
  compare_is n op a b =
      ap (said_by names) (sym (views.rolls-Compare n op a b)) ∙ syntax.para-roll-Expr Said Target (expr_step names) (target_step names) (Expr-F.Compare n op a b)

  pub logic_is : (n : ℕ) (is_and : Bool) (a b : syntax.Expr) → said_by names (e.Logic n is_and a b) ≡ said (if is_and then And (expr_by names a) (expr_by names b) else Or (expr_by names a) (expr_by names b))
  logic_is n is_and a b =
      ap (said_by names) (sym (views.rolls-Logic n is_and a b)) ∙ syntax.para-roll-Expr Said Target (expr_step names) (target_step names) (Expr-F.Logic n is_and a b)

  pub not_is : (n : ℕ) (a : syntax.Expr) → said_by names (e.Not n a) ≡ said (one_of row.Not (expr_by names a))
  not_is n a =
      ap (said_by names) (sym (views.rolls-Not n a)) ∙ syntax.para-roll-Expr Said Target (expr_step names) (target_step names) (Expr-F.Not n a)

  pub call_is : (n : ℕ) (f : syntax.Expr) (args : List syntax.Expr) → said_by names (e.Call n f args) ≡ call_of names n (part f) (map part args)
  call_is n f args =
      ap (said_by names) (sym (views.rolls-Call n f args)) ∙ syntax.para-roll-Expr Said Target (expr_step names) (target_step names) (Expr-F.Call n f args)

  pub attr_is : (n : ℕ) (a : syntax.Expr) (name : List ℕ) → said_by names (e.Attr n a name) ≡ said (attribute_value names (names.meant n) (expr_by names a) name)
  attr_is n a name =
      ap (said_by names) (sym (views.rolls-Expr::Attr n a name)) ∙ syntax.para-roll-Expr Said Target (expr_step names) (target_step names) (Expr-F.Expr::Attr n a name)

  pub index_is : (n : ℕ) (a i : syntax.Expr) → said_by names (e.Index n a i) ≡ said (two_of (row.Index (literal_of (expr_by names i))) (expr_by names a) (expr_by names i))
  index_is n a i =
      ap (said_by names) (sym (views.rolls-Index n a i)) ∙ syntax.para-roll-Expr Said Target (expr_step names) (target_step names) (Expr-F.Index n a i)

  pub slice_is : (n : ℕ) (a : syntax.Expr) (low high : Option syntax.Expr) → said_by names (e.Slice n a low high) ≡ said (slice_of (made_at names n) (expr_by names a) (option_map value_of (option_map part low)) (option_map value_of (option_map part high)))
  slice_is n a None None =
      ap (said_by names) (sym (views.rolls-Slice n a None None)) ∙ syntax.para-roll-Expr Said Target (expr_step names) (target_step names) (Expr-F.Slice n a None None)
  slice_is n a (Some low) None =
      ap (said_by names) (sym (views.rolls-Slice n a (Some low) None)) ∙ syntax.para-roll-Expr Said Target (expr_step names) (target_step names) (Expr-F.Slice n a (Some low) None)
  slice_is n a None (Some high) =
      ap (said_by names) (sym (views.rolls-Slice n a None (Some high))) ∙ syntax.para-roll-Expr Said Target (expr_step names) (target_step names) (Expr-F.Slice n a None (Some high))
  slice_is n a (Some low) (Some high) =
      ap (said_by names) (sym (views.rolls-Slice n a (Some low) (Some high))) ∙ syntax.para-roll-Expr Said Target (expr_step names) (target_step names) (Expr-F.Slice n a (Some low) (Some high))

  pub tuple_is : (n : ℕ) (items : List syntax.Expr) → said_by names (e.Tuple n items) ≡ said (Apply row.Tuple (values_of (map part items)))
  tuple_is n items =
      ap (said_by names) (sym (views.rolls-Expr::Tuple n items)) ∙ syntax.para-roll-Expr Said Target (expr_step names) (target_step names) (Expr-F.Expr::Tuple n items)

  pub list_is : (n : ℕ) (items : List syntax.Expr) → said_by names (e.List n items) ≡ said (Apply (row.List (made_at names n)) (values_of (map part items)))
  list_is n items =
      ap (said_by names) (sym (views.rolls-List n items)) ∙ syntax.para-roll-Expr Said Target (expr_step names) (target_step names) (Expr-F.List n items)

  -- ---- statements

  pub pass_is : (n : ℕ) → stmt_by names (stmt.Pass n) ≡ alone names Pass
  pass_is n =
      ap (stmt_by names) (sym (code_views.rolls-Pass n)) ∙ code.fold-roll-Stmt Block (Caught names) (stmt_step names) (clause_step names) (Stmt-F.Pass n)

  pub return_is : (n : ℕ) (e : syntax.Expr) → stmt_by names (stmt.Return n (Some e)) ≡ alone names (Return (expr_by names e))
  return_is n e =
      ap (stmt_by names) (sym (code_views.rolls-Return n (Some e))) ∙ code.fold-roll-Stmt Block (Caught names) (stmt_step names) (clause_step names) (Stmt-F.Return n (Some e))

  pub raise_is : (n : ℕ) (e : syntax.Expr) → stmt_by names (stmt.Raise n e) ≡ alone names (raise_of names e)
  raise_is n e =
      ap (stmt_by names) (sym (code_views.rolls-Raise n e)) ∙ code.fold-roll-Stmt Block (Caught names) (stmt_step names) (clause_step names) (Stmt-F.Raise n e)

  pub assert_is : (n : ℕ) (e : syntax.Expr) → stmt_by names (stmt.Assert n e) ≡ alone names (assert_of names e)
  assert_is n e =
      ap (stmt_by names) (sym (code_views.rolls-Assert n e)) ∙ code.fold-roll-Stmt Block (Caught names) (stmt_step names) (clause_step names) (Stmt-F.Assert n e)

  pub del_is : (n : ℕ) (a i : syntax.Expr) → stmt_by names (stmt.Del n a i) ≡ alone names (Do (two_of row.DeleteIndex (expr_by names a) (expr_by names i)))
  del_is n a i =
      ap (stmt_by names) (sym (code_views.rolls-Del n a i)) ∙ code.fold-roll-Stmt Block (Caught names) (stmt_step names) (clause_step names) (Stmt-F.Del n a i)

  pub print_is : (n : ℕ) (es : List syntax.Expr) → stmt_by names (stmt.Print n es) ≡ alone names (Do (Apply row.Print (exprs (map (expr_by names) es))))
  print_is n es =
      ap (stmt_by names) (sym (code_views.rolls-Print n es)) ∙ code.fold-roll-Stmt Block (Caught names) (stmt_step names) (clause_step names) (Stmt-F.Print n es)

  pub assign_is : (n : ℕ) (ts : List aim.Target) (e : syntax.Expr) → stmt_by names (stmt.Assign n ts e) ≡ alone names (Assign (targets_of (map (target_by names) ts)) (expr_by names e))
  assign_is n ts e =
      ap (stmt_by names) (sym (code_views.rolls-Assign n ts e)) ∙ code.fold-roll-Stmt Block (Caught names) (stmt_step names) (clause_step names) (Stmt-F.Assign n ts e)

  pub augment_is : (n : ℕ) (t : aim.Target) (op : BinOp) (e : syntax.Expr) → stmt_by names (stmt.Aug n t op e) ≡ alone names (Augment (target_by names t) (augmented names n op) (expr_by names e))
  augment_is n t op e =
      ap (stmt_by names) (sym (code_views.rolls-Aug n t op e)) ∙ code.fold-roll-Stmt Block (Caught names) (stmt_step names) (clause_step names) (Stmt-F.Aug n t op e)

  pub expression_is : (n : ℕ) (e : syntax.Expr) → stmt_by names (stmt.Expr n e) ≡ alone names (Do (expr_by names e))
  expression_is n e =
      ap (stmt_by names) (sym (code_views.rolls-Expr n e)) ∙ code.fold-roll-Stmt Block (Caught names) (stmt_step names) (clause_step names) (Stmt-F.Expr n e)

  pub while_is : (n : ℕ) (e : syntax.Expr) (body : List code.Stmt) → stmt_by names (stmt.While n e body) ≡ alone names (While (expr_by names e) (joined names (map (stmt_by names) body)))
  while_is n e body =
      ap (stmt_by names) (sym (code_views.rolls-While n e body)) ∙ code.fold-roll-Stmt Block (Caught names) (stmt_step names) (clause_step names) (Stmt-F.While n e body)

  pub for_is : (n : ℕ) (t : aim.Target) (e : syntax.Expr) (body : List code.Stmt) → stmt_by names (stmt.For n t e body) ≡ alone names (For (target_by names t) (subject_of (names.walk n) (said_by names e)) (joined names (map (stmt_by names) body)))
  for_is n t e body =
      ap (stmt_by names) (sym (code_views.rolls-For n t e body)) ∙ code.fold-roll-Stmt Block (Caught names) (stmt_step names) (clause_step names) (Stmt-F.For n t e body)
