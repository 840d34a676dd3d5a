-- No function of the trees that are made of a program gives back a narrowing: the meaning of modules makes none.
use Rattle.std.proofs.Common.{◌≡◌, ℕ, zero, suc, ◌+◌, Bool, true, false, List, [], ◌∷◌, map, slice_get, Option, Some, None, refl, sym, ap, ◌∙◌, subst}
use Rattle.std.specs.Prelude.{option_map, if◌then◌else◌}
use Rattle.std.proofs.lemmas.Option.{none-some, same_Some, slice_get-map}
use Rattle.rpy_tree.specs.declared.program.Builtin.{Builtin}
use Rattle.rpy_tree.specs.declared.program.Builtin.TheVariants as builtin
use Rattle.rpy_tree.specs.declared.program.FunInfo.{FunInfo}
use Rattle.rpy_tree.specs.declared.program.Program.{Program}
use Rattle.rpy_tree.specs.declared.program.Use.{Use}
use Rattle.rpy_tree.specs.declared.program.Use.TheVariants as use_of
use Rattle.rpy_tree.specs.declared.syntax.BinOp.{BinOp}
use Rattle.rpy_tree.specs.declared.syntax.BinOp.TheVariants as bin
use Rattle.rpy_tree.specs.declared.syntax.Clause as source_clause
use Rattle.rpy_tree.specs.declared.syntax.Expr as syntax
use Rattle.rpy_tree.specs.declared.syntax.Expr.TheOpen.{Expr-F}
use Rattle.rpy_tree.specs.declared.syntax.Expr.TheViews as views
use Rattle.rpy_tree.specs.declared.syntax.Function as source
use Rattle.rpy_tree.specs.declared.syntax.Stmt.{Stmt, fold-roll-Stmt, map-Stmt, ind-Stmt}
use Rattle.rpy_tree.specs.declared.syntax.Stmt.TheFolds.{fold-Clause, fold-roll-Clause, map-Clause}
use Rattle.rpy_tree.specs.declared.syntax.Stmt.TheOpen.{Stmt-F, Clause-F}
use Rattle.rpy_tree.specs.declared.syntax.Target as aim
use Rattle.rpy_tree.specs.declared.syntax.UnOp.TheVariants as un
use Rattle.ann_sound.proofs.Twice.{text_twice, head_twice}
use Rattle.rpy_meaning.specs.declared.row.RowOp.{RowOp}
use Rattle.rpy_meaning.specs.declared.row.RowOp.TheVariants as row
use Rattle.rpy_meaning.specs.Resolved as meaning
use Rattle.rpy_meaning.specs.Resolved.{Names, Said, Part, value_of, values_of, expr_step, target_step, said_by, expr_by, target_by, named_value, attribute_value, binary_of, slice_of, is_minus_one, named_call, builtin_call, method_call, method_of, call_by, checked_of, is_instance_of, class_named, function_call, Caught, alone, onto, joined, stmt_step, clause_step, stmt_by, if_of, try_of, finally_of, clauses_of}
use Rattle.rpy_meaning.specs.Tree as meant
use Rattle.rpy_meaning.specs.Tree.{none, more}
use Rattle.rpy_resolved.specs.declared.tree.Resolved.{Resolved}
use Rattle.resolved_laws.specs.Uncopied.{bare, uncopied_expr, uncopied_exprs, uncopied_stmt, uncopied_block, uncopied_clauses}
use Rattle.resolver_laws.specs.Listing.{tree_in, function_with, locals_in, numbered, module_pairs}
use Rattle.resolver_laws.specs.Made.{IsMadeOf}
use Rattle.flow_trees.specs.Tree as tree
use Rattle.flow_trees.specs.Tree.{plain, plain_exprs, plain_stmt, plain_block, plain_clauses, plain_function}
use Rattle.flow_space.specs.Trees.{function_of, functions_of}
use Rattle.flow_space.proofs.Plain.{function_plain}
use Rattle.ann_rules.specs.Rules.{is_narrowing}
use Rattle.ann_read.specs.Plain.{IsPlain, ReturnsPlainly, AllReturnPlainly, ClausesReturnPlainly}
use Rattle.ann_sound.proofs.Callees.{map_inside}

abbrev narrows : meant.Expr → Bool
narrows (meant.Apply o es) = is_narrowing o
narrows other = false

abbrev mutual
  Gives : meant.Stmt → Type 0
  Gives meant.Pass = Unit {0}
  Gives meant.Break = Unit {0}
  Gives meant.Continue = Unit {0}
  Gives (meant.Return e) = narrows e ≡ false
  Gives (meant.Do e) = Unit {0}
  Gives (meant.Assign ts e) = Unit {0}
  Gives (meant.Augment t o e) = Unit {0}
  Gives (meant.If e so other) = AllGive so × AllGive other
  Gives (meant.While e body) = AllGive body
  Gives (meant.For t subject body) = AllGive body
  Gives (meant.Try body clauses other) = AllGive body × ClausesGive clauses × AllGive other
  Gives (meant.Finally body last) = AllGive body × AllGive last

  AllGive : meant.Block → Type 0
  AllGive meant.done = Unit {0}
  AllGive (meant.line s rest) = Gives s × AllGive rest

  ClausesGive : meant.Clauses → Type 0
  ClausesGive meant.no_clauses = Unit {0}
  ClausesGive (meant.clause classes local body rest) = AllGive body × ClausesGive rest

-- ---- with nodes, and copies of checked operations

uncopied_narrow : (o : RowOp) (es : meant.Exprs) → narrows (bare o es) ≡ false → is_narrowing o ≡ false
uncopied_narrow (row.Word z) es h = refl
uncopied_narrow (row.Str text) es h = refl
uncopied_narrow (row.Bool b) es h = refl
uncopied_narrow row.None es h = refl
uncopied_narrow (row.Constant c) es h = refl
uncopied_narrow row.Copy es h = refl
uncopied_narrow (row.Unary u) es h = refl
uncopied_narrow (row.Binary b site) es h = refl
uncopied_narrow row.AddTo es h = refl
uncopied_narrow row.CheckedNeg es h = refl
uncopied_narrow (row.Checked b) es h = refl
uncopied_narrow (row.Compare c) es h = refl
uncopied_narrow row.Not es h = refl
uncopied_narrow row.Truth es h = refl
uncopied_narrow row.Intmask es h = refl
uncopied_narrow row.Min es h = refl
uncopied_narrow row.Max es h = refl
uncopied_narrow row.Len es h = refl
uncopied_narrow row.Ord es h = refl
uncopied_narrow row.Chr es h = refl
uncopied_narrow row.ToStr es h = refl
uncopied_narrow row.ToInt es h = refl
uncopied_narrow row.Write es h = refl
uncopied_narrow (row.IsInstance c) es h = refl
uncopied_narrow (row.Index z) es h = refl
uncopied_narrow row.StoreIndex es h = refl
uncopied_narrow row.DeleteIndex es h = refl
uncopied_narrow (row.Attr name) es h = refl
uncopied_narrow (row.StoreAttr name) es h = refl
uncopied_narrow (row.Slice site a b) es h = refl
uncopied_narrow (row.AllButLast site) es h = refl
uncopied_narrow row.Tuple es h = refl
uncopied_narrow (row.List site) es h = refl
uncopied_narrow (row.Dict site) es h = refl
uncopied_narrow (row.Comprehension site) es h = refl
uncopied_narrow row.AddItem es h = refl
uncopied_narrow (row.Call f) es h = refl
uncopied_narrow (row.CallOf c f) es h = refl
uncopied_narrow row.CallValue es h = refl
uncopied_narrow (row.New c) es h = refl
uncopied_narrow (row.Method name site) es h = refl
uncopied_narrow row.Raise es h = refl
uncopied_narrow row.Print es h = refl
uncopied_narrow (row.Walk site) es h = refl
uncopied_narrow (row.HasItem s) es h = refl
uncopied_narrow (row.Item s) es h = refl
uncopied_narrow (row.Advance s) es h = refl
uncopied_narrow row.Turn es h = refl
uncopied_narrow (row.Unpack n i) es h = refl
uncopied_narrow row.DropNone es h = h
uncopied_narrow row.OnlyNone es h = h
uncopied_narrow row.FalseNone es h = h
uncopied_narrow (row.Lower c) es h = h
uncopied_narrow row.NonNegative es h = h

is_plain : (e : tree.Expr) → narrows (uncopied_expr (plain e)) ≡ false → IsPlain e
is_plain (tree.Local node i) h = tt
is_plain (tree.Constant node c v) h = tt
is_plain (tree.Apply node value o es) h = uncopied_narrow o (uncopied_exprs (plain_exprs es)) h
is_plain (tree.And node a e) h = tt
is_plain (tree.Or node a e) h = tt
is_plain (tree.Display node site ps) h = tt
is_plain (tree.Comprehension node site item target subject condition) h = tt

mutual
  stmt_plain : (s : tree.Stmt) → Gives (uncopied_stmt (plain_stmt s)) → ReturnsPlainly s
  stmt_plain (tree.Pass node) h = tt
  stmt_plain (tree.Break node) h = tt
  stmt_plain (tree.Continue node) h = tt
  stmt_plain (tree.Return node e) h = is_plain e h
  stmt_plain (tree.Do node e) h = tt
  stmt_plain (tree.Assign node ts e) h = tt
  stmt_plain (tree.Augment node t o e) h = tt
  stmt_plain (tree.If node e so other) h = (block_plain so h.0, block_plain other h.1)
  stmt_plain (tree.While node e body) h = block_plain body h
  stmt_plain (tree.For node t subject body) h = block_plain body h
  stmt_plain (tree.Try node body clauses other) h = (block_plain body h.0, clauses_plain clauses h.1, block_plain other h.2)
  stmt_plain (tree.Finally node body last) h = (block_plain body h.0, block_plain last h.1)

  block_plain : (b : tree.Block) → AllGive (uncopied_block (plain_block b)) → AllReturnPlainly b
  block_plain tree.done h = tt
  block_plain (tree.line s rest) h = (stmt_plain s h.0, block_plain rest h.1)

  clauses_plain : (cs : tree.Clauses) → ClausesGive (uncopied_clauses (plain_clauses cs)) → ClausesReturnPlainly cs
  clauses_plain tree.no_clauses h = tt
  clauses_plain (tree.clause classes local body rest) h = (block_plain body h.0, clauses_plain rest h.1)

-- ---- what the meaning makes of expressions

checked_fine : (e : meant.Expr) → narrows (checked_of e) ≡ false
checked_fine (meant.Local i) = refl
checked_fine (meant.Constant v) = refl
checked_fine (meant.Apply (row.Word z) es) = refl
checked_fine (meant.Apply (row.Str text) es) = refl
checked_fine (meant.Apply (row.Bool b) es) = refl
checked_fine (meant.Apply row.None es) = refl
checked_fine (meant.Apply (row.Constant c) es) = refl
checked_fine (meant.Apply row.Copy es) = refl
checked_fine (meant.Apply (row.Unary un.Neg) es) = refl
checked_fine (meant.Apply (row.Unary un.Pos) es) = refl
checked_fine (meant.Apply (row.Unary un.Invert) es) = refl
checked_fine (meant.Apply (row.Binary b site) es) = refl
checked_fine (meant.Apply row.AddTo es) = refl
checked_fine (meant.Apply row.CheckedNeg es) = refl
checked_fine (meant.Apply (row.Checked b) es) = refl
checked_fine (meant.Apply (row.Compare c) es) = refl
checked_fine (meant.Apply row.Not es) = refl
checked_fine (meant.Apply row.Truth es) = refl
checked_fine (meant.Apply row.Intmask es) = refl
checked_fine (meant.Apply row.Min es) = refl
checked_fine (meant.Apply row.Max es) = refl
checked_fine (meant.Apply row.Len es) = refl
checked_fine (meant.Apply row.Ord es) = refl
checked_fine (meant.Apply row.Chr es) = refl
checked_fine (meant.Apply row.ToStr es) = refl
checked_fine (meant.Apply row.ToInt es) = refl
checked_fine (meant.Apply row.Write es) = refl
checked_fine (meant.Apply (row.IsInstance c) es) = refl
checked_fine (meant.Apply (row.Index z) es) = refl
checked_fine (meant.Apply row.StoreIndex es) = refl
checked_fine (meant.Apply row.DeleteIndex es) = refl
checked_fine (meant.Apply (row.Attr name) es) = refl
checked_fine (meant.Apply (row.StoreAttr name) es) = refl
checked_fine (meant.Apply (row.Slice site a b) es) = refl
checked_fine (meant.Apply (row.AllButLast site) es) = refl
checked_fine (meant.Apply row.Tuple es) = refl
checked_fine (meant.Apply (row.List site) es) = refl
checked_fine (meant.Apply (row.Dict site) es) = refl
checked_fine (meant.Apply (row.Comprehension site) es) = refl
checked_fine (meant.Apply row.AddItem es) = refl
checked_fine (meant.Apply (row.Call f) es) = refl
checked_fine (meant.Apply (row.CallOf c f) es) = refl
checked_fine (meant.Apply row.CallValue es) = refl
checked_fine (meant.Apply (row.New c) es) = refl
checked_fine (meant.Apply (row.Method name site) es) = refl
checked_fine (meant.Apply row.Raise es) = refl
checked_fine (meant.Apply row.Print es) = refl
checked_fine (meant.Apply (row.Walk site) es) = refl
checked_fine (meant.Apply (row.HasItem s) es) = refl
checked_fine (meant.Apply (row.Item s) es) = refl
checked_fine (meant.Apply (row.Advance s) es) = refl
checked_fine (meant.Apply row.Turn es) = refl
checked_fine (meant.Apply (row.Unpack n i) es) = refl
checked_fine (meant.Apply row.DropNone es) = refl
checked_fine (meant.Apply row.OnlyNone es) = refl
checked_fine (meant.Apply row.FalseNone es) = refl
checked_fine (meant.Apply (row.Lower c) es) = refl
checked_fine (meant.Apply row.NonNegative es) = refl
checked_fine (meant.And a b) = refl
checked_fine (meant.Or a b) = refl
checked_fine (meant.Display site ps) = refl
checked_fine (meant.Comprehension site item target subject condition) = refl

method_fine : (name : List ℕ) (site : Option ℕ) (e : meant.Expr) (args : meant.Exprs) → narrows (method_of (row.Method name site) e args) ≡ false
method_fine name site (meant.Local i) args = refl
method_fine name site (meant.Constant v) args = refl
method_fine name site (meant.Apply o none) args = refl
method_fine name site (meant.Apply o (more e none)) args = refl
method_fine name site (meant.Apply o (more e (more e' es))) args = refl
method_fine name site (meant.And a b) args = refl
method_fine name site (meant.Or a b) args = refl
method_fine name site (meant.Display d ps) args = refl
method_fine name site (meant.Comprehension d item target subject condition) args = refl

either_fine : (b : Bool) (x y : meant.Expr) → narrows x ≡ false → narrows y ≡ false → narrows (if b then x else y) ≡ false
either_fine true x y h g = h
either_fine false x y h g = g

slice_fine : (site : ℕ) (e : meant.Expr) (low high : Option meant.Expr) → narrows (slice_of site e low high) ≡ false
slice_fine site e None None = refl
slice_fine site e (Some low) None = refl
slice_fine site e None (Some high) = either_fine (is_minus_one high) _ _ refl refl
slice_fine site e (Some low) (Some high) = refl

module _ (names : Names) where
  named_fine : (u : Use) → narrows (named_value names u) ≡ false
  named_fine use_of.Nothing = refl
  named_fine (use_of.Local i) = refl
  named_fine (use_of.Function f) = refl
  named_fine (use_of.Class c) = refl
  named_fine (use_of.Value c) = refl
  named_fine (use_of.Module m) = refl
  named_fine (use_of.Builtin b) = refl

  attribute_fine : (u : Use) (e : meant.Expr) (name : List ℕ) → narrows (attribute_value names u e name) ≡ false
  attribute_fine use_of.Nothing e name = refl
  attribute_fine (use_of.Local i) e name = refl
  attribute_fine (use_of.Function f) e name = refl
  attribute_fine (use_of.Class c) e name = refl
  attribute_fine (use_of.Value c) e name = refl
  attribute_fine (use_of.Module m) e name = refl
  attribute_fine (use_of.Builtin b) e name = refl

  binary_fine : (n : ℕ) (op : BinOp) → is_narrowing (binary_of names n op) ≡ false
  binary_fine n bin.Add = refl
  binary_fine n bin.Sub = refl
  binary_fine n bin.Mul = refl
  binary_fine n bin.Div = refl
  binary_fine n bin.FloorDiv = refl
  binary_fine n bin.Mod = refl
  binary_fine n bin.Shl = refl
  binary_fine n bin.Shr = refl
  binary_fine n bin.BitAnd = refl
  binary_fine n bin.BitOr = refl
  binary_fine n bin.BitXor = refl

  instance_fine : (c : Option ℕ) (e : meant.Expr) → narrows (is_instance_of names c e) ≡ false
  instance_fine None e = refl
  instance_fine (Some c) e = refl

  function_fine : (c : Option ℕ) (f : ℕ) (es : meant.Exprs) → narrows (function_call names c f es) ≡ false
  function_fine None f es = refl
  function_fine (Some c) f es = refl

  builtin_fine : (b : Builtin) (args : List Part) → narrows (builtin_call names b args) ≡ false
  builtin_fine builtin.Len args = refl
  builtin_fine builtin.Ord args = refl
  builtin_fine builtin.Chr args = refl
  builtin_fine builtin.Str args = refl
  builtin_fine builtin.Int args = refl
  builtin_fine builtin.Bool args = refl
  builtin_fine builtin.Min args = refl
  builtin_fine builtin.Max args = refl
  builtin_fine builtin.IsInstance [] = refl
  builtin_fine builtin.IsInstance (a ∷ []) = refl
  builtin_fine builtin.IsInstance (a ∷ c ∷ []) = instance_fine (class_named names (names.meant (meaning.node_of c.0))) (value_of a)
  builtin_fine builtin.IsInstance (a ∷ c ∷ d ∷ args) = refl
  builtin_fine builtin.Ovfcheck [] = refl
  builtin_fine builtin.Ovfcheck (a ∷ []) = checked_fine (value_of a)
  builtin_fine builtin.Ovfcheck (a ∷ c ∷ args) = refl
  builtin_fine builtin.Intmask args = refl
  builtin_fine builtin.OsWrite args = refl
  builtin_fine builtin.Range args = refl
  builtin_fine builtin.Xrange args = refl

  call_fine : (u : Use) (c : Option ℕ) (callee : meant.Expr) (args : List Part) → narrows (named_call names u c callee args) ≡ false
  call_fine use_of.Nothing c callee args = refl
  call_fine (use_of.Local i) c callee args = refl
  call_fine (use_of.Function f) c callee args = function_fine c f (values_of args)
  call_fine (use_of.Class k) c callee args = refl
  call_fine (use_of.Value v) c callee args = refl
  call_fine (use_of.Module m) c callee args = refl
  call_fine (use_of.Builtin b) c callee args = builtin_fine b args

  method_call_fine : (u : Use) (n : ℕ) (name : List ℕ) (before : syntax.Expr) (callee : meant.Expr) (args : List Part) → narrows (method_call names u n name before callee args) ≡ false
  method_call_fine use_of.Nothing n name before callee args = either_fine (names.is_method name) _ _ (method_fine name (names.site n) callee (values_of args)) refl
  method_call_fine (use_of.Local i) n name before callee args = call_fine (use_of.Local i) (class_named names (names.meant (meaning.node_of before))) callee args
  method_call_fine (use_of.Function f) n name before callee args = call_fine (use_of.Function f) (class_named names (names.meant (meaning.node_of before))) callee args
  method_call_fine (use_of.Class c) n name before callee args = call_fine (use_of.Class c) (class_named names (names.meant (meaning.node_of before))) callee args
  method_call_fine (use_of.Value v) n name before callee args = call_fine (use_of.Value v) (class_named names (names.meant (meaning.node_of before))) callee args
  method_call_fine (use_of.Module m) n name before callee args = call_fine (use_of.Module m) (class_named names (names.meant (meaning.node_of before))) callee args
  method_call_fine (use_of.Builtin b) n name before callee args = call_fine (use_of.Builtin b) (class_named names (names.meant (meaning.node_of before))) callee args

  call_by_fine : (x : Expr-F syntax.Expr aim.Target) (n : ℕ) (callee : meant.Expr) (args : List Part) → narrows (call_by names x n callee args) ≡ false
  call_by_fine (Expr-F.Expr::Name m name) n callee args = call_fine (names.meant m) None callee args
  call_by_fine (Expr-F.Expr::Attr m before name) n callee args = method_call_fine (names.meant m) n name before callee args
  call_by_fine (Expr-F.Int m v) n callee args = refl
  call_by_fine (Expr-F.Str m text) n callee args = refl
  call_by_fine (Expr-F.Unary m op a) n callee args = refl
  call_by_fine (Expr-F.Binary m op a b) n callee args = refl
  call_by_fine (Expr-F.Compare m op a b) n callee args = refl
  call_by_fine (Expr-F.Logic m is_and a b) n callee args = refl
  call_by_fine (Expr-F.Not m a) n callee args = refl
  call_by_fine (Expr-F.Call m f es) n callee args = refl
  call_by_fine (Expr-F.Index m a i) n callee args = refl
  call_by_fine (Expr-F.Slice m a low high) n callee args = refl
  call_by_fine (Expr-F.Expr::Tuple m items) n callee args = refl
  call_by_fine (Expr-F.List m items) n callee args = refl
  call_by_fine (Expr-F.Dict m pairs) n callee args = refl
  call_by_fine (Expr-F.Comp m item target over test) n callee args = refl

  said_fine : (x : Expr-F Part (aim.Target × meant.Target)) → narrows (expr_step names x).value ≡ false
  said_fine (Expr-F.Int n z) = refl
  said_fine (Expr-F.Str n text) = refl
  said_fine (Expr-F.Expr::Name n name) = named_fine (names.meant n)
  said_fine (Expr-F.Unary n op a) = refl
  said_fine (Expr-F.Binary n op a b) = binary_fine n op
  said_fine (Expr-F.Compare n op a b) = refl
  said_fine (Expr-F.Logic n is_and a b) = either_fine is_and _ _ refl refl
  said_fine (Expr-F.Not n a) = refl
  said_fine (Expr-F.Call n f args) = call_by_fine (syntax.out-Expr f.0) n (value_of f) args
  said_fine (Expr-F.Expr::Attr n a name) = attribute_fine (names.meant n) (value_of a) name
  said_fine (Expr-F.Index n a i) = refl
  said_fine (Expr-F.Slice n a low high) = slice_fine (meaning.made_at names n) (value_of a) (option_map value_of low) (option_map value_of high)
  said_fine (Expr-F.Expr::Tuple n items) = refl
  said_fine (Expr-F.List n items) = refl
  said_fine (Expr-F.Dict n pairs) = refl
  said_fine (Expr-F.Comp n item target subject condition) = refl

  expr_fine : (e : syntax.Expr) → narrows (expr_by names e) ≡ false
  expr_fine e = ap (λ (x : Said). narrows x.value) (ap (said_by names) (sym (views.roll-out-Expr e)) ∙ syntax.para-roll-Expr Said meant.Target (expr_step names) (target_step names) (syntax.out-Expr e)) ∙ said_fine (syntax.map-Expr syntax.Expr aim.Target Part (aim.Target × meant.Target) (λ a. (a, said_by names a)) (λ t. (t, target_by names t)) (syntax.out-Expr e))

  -- ---- statements

  onto_gives : (a b : meant.Block) → AllGive a → AllGive b → AllGive (onto names a b)
  onto_gives meant.done b h g = g
  onto_gives (meant.line s a) b h g = (h.0, onto_gives a b h.1 g)

  abbrev SomeStmt : Type 0
  SomeStmt = (s : Stmt) × AllGive (stmt_by names s)

  abbrev caught : source_clause.Clause → Caught names
  caught = fold-Clause meant.Block (Caught names) (stmt_step names) (clause_step names)

  abbrev SomeClause : Type 0
  SomeClause = (c : source_clause.Clause) × AllGive (caught c).2

  abbrev of_stmt : SomeStmt → meant.Block
  of_stmt p = stmt_by names p.0

  abbrev of_clause : SomeClause → Caught names
  of_clause p = caught p.0

  body_gives : (ps : List SomeStmt) → AllGive (joined names (map of_stmt ps))
  body_gives [] = tt
  body_gives (p ∷ ps) = onto_gives (of_stmt p) (joined names (map of_stmt ps)) p.1 (body_gives ps)

  arms_give : (arms : List (syntax.Expr × List SomeStmt)) (other : List SomeStmt) → AllGive (if_of names (map (λ (q : syntax.Expr × List SomeStmt). (q.0, map of_stmt q.1)) arms) (map of_stmt other))
  arms_give [] other = body_gives other
  arms_give (arm ∷ arms) other = ((body_gives arm.1, arms_give arms other), tt)

  clauses_give : (cs : List SomeClause) → ClausesGive (clauses_of names (map of_clause cs))
  clauses_give [] = tt
  clauses_give (c ∷ cs) = (c.1, clauses_give cs)

  try_gives : (body : meant.Block) (cs : List SomeClause) (other : meant.Block) → AllGive body → AllGive other → AllGive (try_of names body (map of_clause cs) other)
  try_gives body [] other h g = h
  try_gives body (c ∷ cs) other h g = ((h, clauses_give (c ∷ cs), g), tt)

  abbrev filled : Stmt-F SomeStmt SomeClause → Stmt-F meant.Block (Caught names)
  filled y = map-Stmt SomeStmt SomeClause meant.Block (Caught names) of_stmt of_clause y

  stmt_ok : (y : Stmt-F SomeStmt SomeClause) → AllGive (stmt_step names (filled y))
  stmt_ok (Stmt-F.Pass n) = (tt, tt)
  stmt_ok (Stmt-F.Break n) = (tt, tt)
  stmt_ok (Stmt-F.Continue n) = (tt, tt)
  stmt_ok (Stmt-F.Return n None) = (refl, tt)
  stmt_ok (Stmt-F.Return n (Some e)) = (expr_fine e, tt)
  stmt_ok (Stmt-F.Raise n e) = (tt, tt)
  stmt_ok (Stmt-F.Assert n e) = ((tt, (tt, tt)), tt)
  stmt_ok (Stmt-F.Del n a i) = (tt, tt)
  stmt_ok (Stmt-F.Print n es) = (tt, tt)
  stmt_ok (Stmt-F.Assign n ts e) = (tt, tt)
  stmt_ok (Stmt-F.Aug n t op e) = (tt, tt)
  stmt_ok (Stmt-F.Expr n e) = (tt, tt)
  stmt_ok (Stmt-F.If n arms other) = arms_give arms other
  stmt_ok (Stmt-F.While n e body) = (body_gives body, tt)
  stmt_ok (Stmt-F.For n t e body) = (body_gives body, tt)
  stmt_ok (Stmt-F.Try n body cs other None) = try_gives (joined names (map of_stmt body)) cs (joined names (map of_stmt other)) (body_gives body) (body_gives other)
  stmt_ok (Stmt-F.Try n body cs other (Some last)) =
      ((try_gives (joined names (map of_stmt body)) cs (joined names (map of_stmt other)) (body_gives body) (body_gives other), body_gives last), tt)

  clause_ok : (y : Clause-F SomeStmt SomeClause) → AllGive (clause_step names (map-Clause SomeStmt SomeClause meant.Block (Caught names) of_stmt of_clause y)).2
  clause_ok y = body_gives y.body

  pub stmt_gives : (s : Stmt) → AllGive (stmt_by names s)
  stmt_gives = ind-Stmt (λ s. AllGive (stmt_by names s)) (λ c. AllGive (caught c).2)
      (λ x y is. subst AllGive (ap (stmt_step names) (sym (text_twice SomeStmt SomeClause Stmt source_clause.Clause meant.Block (Caught names) (λ p. p.0) (λ p. p.0) (stmt_by names) caught y) ∙ ap (map-Stmt Stmt source_clause.Clause meant.Block (Caught names) (stmt_by names) caught) is) ∙ sym (fold-roll-Stmt meant.Block (Caught names) (stmt_step names) (clause_step names) x)) (stmt_ok y))
      (λ x y is. subst (λ (c : Caught names). AllGive c.2) (ap (clause_step names) (sym (head_twice SomeStmt SomeClause Stmt source_clause.Clause meant.Block (Caught names) (λ p. p.0) (λ p. p.0) (stmt_by names) caught y) ∙ ap (map-Clause Stmt source_clause.Clause meant.Block (Caught names) (stmt_by names) caught) is) ∙ sym (fold-roll-Clause meant.Block (Caught names) (stmt_step names) (clause_step names) x)) (clause_ok y))

  joined_gives : (ss : List Stmt) → AllGive (joined names (map (stmt_by names) ss))
  joined_gives [] = tt
  joined_gives (s ∷ ss) = onto_gives (stmt_by names s) (joined names (map (stmt_by names) ss)) (stmt_gives s) (joined_gives ss)

-- ---- functions

numbered_give : (infos : List FunInfo) (n : ℕ) (xs : List (Names × source.Function)) (f : ℕ) (t : meant.Function) → slice_get (numbered infos n xs) f ≡ Some t → AllGive t.body
numbered_give infos n [] f t is = absurd (none-some t is)
numbered_give infos n (x ∷ xs) zero t is = subst (λ (g : meant.Function). AllGive g.body) (same_Some (function_with (locals_in infos n) x) t is) (joined_gives x.0 x.1.body)
numbered_give infos n (x ∷ xs) (suc f) t is = numbered_give infos (n + 1) xs f t is

module _ (p : Program) (r : Resolved) (made : IsMadeOf p r) where
  pub returns_plainly : (f : ℕ) (function : tree.Function) → slice_get (functions_of r) f ≡ Some function → AllReturnPlainly function.body
  returns_plainly f function is =
      let at = map_inside (function_of r.sites) r.functions f function is in
      let there : slice_get (numbered p.functions 0 (module_pairs p 0 p.modules)) f ≡ Some (tree_in p at.0) =
      ap (λ (us : List meant.Function). slice_get us f) (sym made.functions) ∙ slice_get-map (tree_in p) r.functions f ∙ ap (option_map (tree_in p)) at.1 in
      let same : (tree_in p at.0).body ≡ uncopied_block (plain_block function.body) =
      ap (λ (g : meant.Function). uncopied_block g.body) (sym (function_plain p.sites at.0))
      ∙ ap (λ sites. uncopied_block (plain_block (function_of sites at.0).body)) (sym made.sites)
      ∙ ap (λ (g : tree.Function). uncopied_block (plain_block g.body)) at.2 in
      block_plain function.body (subst AllGive same (numbered_give p.functions 0 (module_pairs p 0 p.modules) f (tree_in p at.0) there))
