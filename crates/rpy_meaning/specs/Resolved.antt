-- The program that modules with bound names are, as its meaning sees it.
use Rattle.std.specs.Prelude.{ℕ, suc, ◌+◌, ◌==◌, ◌&&◌, ◌||◌, nat_lt, max, Bool, true, false, ℤ, pos, List, [], ◌∷◌, ◌++◌, map, zip, slice_get, Option, Some, None, is_some, unwrap_or, option_map, if◌then◌else◌, codes}
use Rattle.std.specs.List.{flat_map, list_any}
use Rattle.std.specs.Ordering.{int_eq}
use Rattle.rpy_tree.specs.declared.syntax.UnOp.TheVariants as un
use Rattle.rpy_tree.specs.declared.syntax.BinOp.{BinOp}
use Rattle.rpy_tree.specs.declared.syntax.BinOp.TheVariants as bin
use Rattle.rpy_tree.specs.declared.syntax.Expr as syntax
use Rattle.rpy_tree.specs.declared.syntax.Expr.TheOpen.{Expr-F, Target-F}
use Rattle.rpy_tree.specs.declared.syntax.Expr.TheFolds.{para-Target}
use Rattle.rpy_tree.specs.declared.syntax.Target as aim
use Rattle.rpy_tree.specs.declared.syntax.Stmt as code
use Rattle.rpy_tree.specs.declared.syntax.Stmt.TheOpen.{Stmt-F, Clause-F}
use Rattle.rpy_tree.specs.declared.syntax.Param.{Param}
use Rattle.rpy_tree.specs.declared.syntax.Function as def
use Rattle.rpy_tree.specs.declared.syntax.Member as part
use Rattle.rpy_tree.specs.declared.syntax.Member.TheOpen.{Member-F}
use Rattle.rpy_tree.specs.declared.syntax.Module.{Module}
use Rattle.rpy_tree.specs.declared.program.Builtin.{Builtin}
use Rattle.rpy_tree.specs.declared.program.Builtin.TheVariants as builtin
use Rattle.rpy_tree.specs.declared.program.Const.{Const}
use Rattle.rpy_tree.specs.declared.program.FunInfo.{FunInfo}
use Rattle.rpy_tree.specs.declared.program.ClassInfo.{ClassInfo}
use Rattle.rpy_tree.specs.declared.program.Site.{Site}
use Rattle.rpy_tree.specs.declared.program.Program as tree
use Rattle.rpy_tree.specs.declared.program.Use.{Use}
use Rattle.rpy_tree.specs.declared.program.Use.TheVariants as use_of
use Rattle.rpy_tree.specs.Value.{Value, Word, Fun, Object, Listed, Mapped}
use Rattle.rpy_meaning.specs.declared.row.RowOp.{RowOp}
use Rattle.rpy_meaning.specs.declared.row.RowOp.TheVariants as row
use Rattle.rpy_meaning.specs.Tree.{Expr, Local, Constant, Apply, And, Or, Display, Comprehension, Exprs, none, more, Pairs, no_pairs, pair, Subject, Over, UpTo, FromTo, Condition, Always, Where, Target, Name, Attribute, Item, Parts, Targets, no_targets, more_targets, Stmt, Pass, Break, Continue, Return, Do, Assign, Augment, If, While, For, Try, Finally, Block, done, line, Clauses, no_clauses, clause, Function, Class, Program}
use Rattle.rpy_meaning.specs.Classes.{named, no_covers}
use Rattle.rpy_meaning.specs.Methods.{text_methods, list_methods, dict_methods}
use Rattle.rpy_meaning.specs.Operations.{constant}
use Rattle.rpy_meaning.specs.Meaning.{Run, mean}

-- what the names of a function's text stand for, by the nodes of its module
pub record Names : Type 0 where
  pub meant : ℕ → Use
  pub value : Const → Value
  -- the site of what a node makes, if it is one, and that of its walk
  pub site : ℕ → Option ℕ
  pub walk : ℕ → ℕ
  -- the value of the constant expression at a node: a default, or the step of a range
  pub constant : ℕ → Value
  -- some class, or strings, lists or dicts, have a method of this name
  pub is_method : List ℕ → Bool
  -- the classes in the head of a clause, and the local that it binds
  pub caught : ℕ → List ℕ
  pub bound : ℕ → Option ℕ

-- an expression, and what is walked where it stands in a `for`, if that is a range
pub record Said : Type 0 where
  pub value : Expr
  pub range : Option Subject

abbrev pub said : Expr → Said
said e = record { value = e; range = None }

abbrev pub exprs : List Expr → Exprs
exprs [] = none
exprs (e ∷ es) = more e (exprs es)

abbrev pub zero_of : RowOp → Expr
zero_of o = Apply o none

abbrev pub one_of : RowOp → Expr → Expr
one_of o a = Apply o (more a none)

abbrev pub two_of : RowOp → Expr → Expr → Expr
two_of o a b = Apply o (more a (more b none))

-- what no program that is accepted evaluates: a module, a class or a builtin function as a value
abbrev pub meaningless : Expr
meaningless = zero_of row.Copy

abbrev pub node_in : Expr-F syntax.Expr aim.Target → ℕ
node_in (Expr-F.Int n z) = n
node_in (Expr-F.Str n text) = n
node_in (Expr-F.Expr::Name n name) = n
node_in (Expr-F.Unary n op a) = n
node_in (Expr-F.Binary n op a b) = n
node_in (Expr-F.Compare n op a b) = n
node_in (Expr-F.Logic n op a b) = n
node_in (Expr-F.Not n a) = n
node_in (Expr-F.Call n f args) = n
node_in (Expr-F.Expr::Attr n a name) = n
node_in (Expr-F.Index n a i) = n
node_in (Expr-F.Slice n a low high) = n
node_in (Expr-F.Expr::Tuple n items) = n
node_in (Expr-F.List n items) = n
node_in (Expr-F.Dict n pairs) = n
node_in (Expr-F.Comp n item target subject condition) = n

abbrev pub node_of : syntax.Expr → ℕ
node_of e = node_in (syntax.out-Expr e)

-- ---- operations by the form of their operands

-- an integer literal
abbrev pub literal_of : Expr → Option ℤ
literal_of (Apply (row.Word z) es) = Some z
literal_of e = None

abbrev pub is_minus_one : Expr → Bool
is_minus_one (Apply (row.Unary un.Neg) (more (Apply (row.Word z) none) none)) = int_eq z (pos 1)
is_minus_one e = false

-- `ovfcheck` of an operation
abbrev pub checked_of : Expr → Expr
checked_of (Apply (row.Unary un.Neg) es) = Apply row.CheckedNeg es
checked_of (Apply (row.Binary op site) es) = Apply (row.Checked op) es
checked_of e = meaningless

-- the method call whose callee is the reading of an attribute
abbrev pub method_of : RowOp → Expr → Exprs → Expr
method_of o (Apply attribute (more e none)) args = Apply o (more e args)
method_of o e args = meaningless

abbrev pub slice_of : ℕ → Expr → Option Expr → Option Expr → Expr
slice_of site e None None = one_of (row.Slice site false false) e
slice_of site e (Some low) None = two_of (row.Slice site true false) e low
slice_of site e None (Some high) = if is_minus_one high then one_of (row.AllButLast site) e else two_of (row.Slice site false true) e high
slice_of site e (Some low) (Some high) = Apply (row.Slice site true true) (more e (more low (more high none)))

abbrev pub builtin_op : Builtin → Option RowOp
builtin_op builtin.Len = Some row.Len
builtin_op builtin.Ord = Some row.Ord
builtin_op builtin.Chr = Some row.Chr
builtin_op builtin.Str = Some row.ToStr
builtin_op builtin.Int = Some row.ToInt
builtin_op builtin.Bool = Some row.Truth
builtin_op builtin.Min = Some row.Min
builtin_op builtin.Max = Some row.Max
builtin_op builtin.Intmask = Some row.Intmask
builtin_op builtin.OsWrite = Some row.Write
builtin_op other = None

abbrev pub applied : Option RowOp → Exprs → Expr
applied None args = meaningless
applied (Some o) args = Apply o args

abbrev pub pairs_of : List (Said × Said) → Pairs
pairs_of [] = no_pairs
pairs_of (p ∷ ps) = pair p.0.value p.1.value (pairs_of ps)

abbrev pub targets_of : List Target → Targets
targets_of [] = no_targets
targets_of (t ∷ ts) = more_targets t (targets_of ts)

abbrev pub subject_of : ℕ → Said → Subject
subject_of site a = unwrap_or a.range (Over site a.value)

abbrev pub condition_of : Option Said → Condition
condition_of None = Always
condition_of (Some a) = Where a.value

-- ---- expressions

-- a part with what it is
abbrev pub Part : Type 0
Part = syntax.Expr × Said

abbrev pub value_of : Part → Expr
value_of p = p.1.value

abbrev pub values_of : List Part → Exprs
values_of parts = exprs (map value_of parts)

module _ (names : Names) where
  abbrev pub made_at : ℕ → ℕ
  made_at n = unwrap_or (names.site n) 0

  -- the site of a sum or product
  abbrev pub binary_of : ℕ → BinOp → RowOp
  binary_of n bin.Add = row.Binary bin.Add (names.site n)
  binary_of n bin.Mul = row.Binary bin.Mul (names.site n)
  binary_of n op = row.Binary op None

  abbrev pub named_value : Use → Expr
  named_value (use_of.Local i) = Local i
  named_value (use_of.Function f) = Constant (Fun f)
  named_value (use_of.Value a) = Constant (names.value a)
  named_value other = meaningless

  abbrev pub attribute_value : Use → Expr → List ℕ → Expr
  attribute_value use_of.Nothing e name = one_of (row.Attr name) e
  attribute_value other e name = named_value other

  abbrev pub class_named : Use → Option ℕ
  class_named (use_of.Class c) = Some c
  class_named other = None

  abbrev pub is_instance_of : Option ℕ → Expr → Expr
  is_instance_of None e = meaningless
  is_instance_of (Some c) e = one_of (row.IsInstance c) e

  abbrev pub builtin_call : Builtin → List Part → Expr
  builtin_call builtin.IsInstance (a ∷ c ∷ []) = is_instance_of (class_named (names.meant (node_of c.0))) (value_of a)
  builtin_call builtin.Ovfcheck (a ∷ []) = checked_of (value_of a)
  builtin_call other args = applied (builtin_op other) (values_of args)

  -- the step of a range, which is a constant
  abbrev pub step_of : Value → ℤ
  step_of (Word z) = z
  step_of other = pos 1

  abbrev pub range_of : List Part → Option Subject
  range_of (a ∷ []) = Some (UpTo (value_of a))
  range_of (a ∷ b ∷ []) = Some (FromTo (value_of a) (value_of b) (pos 1))
  range_of (a ∷ b ∷ s ∷ []) = Some (FromTo (value_of a) (value_of b) (step_of (names.constant (node_of s.0))))
  range_of other = None

  abbrev pub range_call : Use → List Part → Option Subject
  range_call (use_of.Builtin builtin.Range) args = range_of args
  range_call (use_of.Builtin builtin.Xrange) args = range_of args
  range_call other args = None

  abbrev pub function_call : Option ℕ → ℕ → Exprs → Expr
  function_call None f args = Apply (row.Call f) args
  function_call (Some c) f args = Apply (row.CallOf c f) args

  -- a call by what the callee's name stands for: before an attribute's name stands this class, if any
  abbrev pub named_call : Use → Option ℕ → Expr → List Part → Expr
  named_call (use_of.Function f) class callee args = function_call class f (values_of args)
  named_call (use_of.Class c) class callee args = Apply (row.New c) (values_of args)
  named_call (use_of.Builtin b) class callee args = builtin_call b args
  named_call (use_of.Module m) class callee args = meaningless
  named_call other class callee args = Apply row.CallValue (more callee (values_of args))

  -- a name with a dot that stands for nothing is a method, where some value has one of that name
  abbrev pub method_call : Use → ℕ → List ℕ → syntax.Expr → Expr → List Part → Expr
  method_call use_of.Nothing n name before callee args =
      if names.is_method name
      then method_of (row.Method name (names.site n)) callee (values_of args)
      else Apply row.CallValue (more callee (values_of args))
  method_call other n name before callee args = named_call other (class_named (names.meant (node_of before))) callee args

  abbrev pub call_by : Expr-F syntax.Expr aim.Target → ℕ → Expr → List Part → Expr
  call_by (Expr-F.Expr::Name m name) n callee args = named_call (names.meant m) None callee args
  call_by (Expr-F.Expr::Attr m before name) n callee args = method_call (names.meant m) n name before callee args
  call_by other n callee args = Apply row.CallValue (more callee (values_of args))

  abbrev pub range_by : Expr-F syntax.Expr aim.Target → List Part → Option Subject
  range_by (Expr-F.Expr::Name m name) args = range_call (names.meant m) args
  range_by other args = None

  abbrev pub call_of : ℕ → Part → List Part → Said
  call_of n callee args = record {
    value = call_by (syntax.out-Expr callee.0) n (value_of callee) args;
    range = range_by (syntax.out-Expr callee.0) args;
  }

  abbrev pub expr_step : Expr-F Part (aim.Target × Target) → Said
  expr_step (Expr-F.Int n z) = said (zero_of (row.Word z))
  expr_step (Expr-F.Str n text) = said (zero_of (row.Str text))
  expr_step (Expr-F.Expr::Name n name) = said (named_value (names.meant n))
  expr_step (Expr-F.Unary n op a) = said (one_of (row.Unary op) (value_of a))
  expr_step (Expr-F.Binary n op a b) = said (two_of (binary_of n op) (value_of a) (value_of b))
  expr_step (Expr-F.Compare n op a b) = said (two_of (row.Compare op) (value_of a) (value_of b))
  expr_step (Expr-F.Logic n is_and a b) = said (if is_and then And (value_of a) (value_of b) else Or (value_of a) (value_of b))
  expr_step (Expr-F.Not n a) = said (one_of row.Not (value_of a))
  expr_step (Expr-F.Call n callee args) = call_of n callee args
  expr_step (Expr-F.Expr::Attr n a name) = said (attribute_value (names.meant n) (value_of a) name)
  expr_step (Expr-F.Index n a i) = said (two_of (row.Index (literal_of (value_of i))) (value_of a) (value_of i))
  expr_step (Expr-F.Slice n a low high) = said (slice_of (made_at n) (value_of a) (option_map value_of low) (option_map value_of high))
  expr_step (Expr-F.Expr::Tuple n items) = said (Apply row.Tuple (values_of items))
  expr_step (Expr-F.List n items) = said (Apply (row.List (made_at n)) (values_of items))
  expr_step (Expr-F.Dict n pairs) = said (Display (made_at n) (pairs_of (map (λ (p : Part × Part). (p.0.1, p.1.1)) pairs)))
  expr_step (Expr-F.Comp n item target subject condition) =
      said (Comprehension (made_at n) (value_of item) target.1 (subject_of (names.walk n) subject.1) (condition_of (option_map (λ (p : Part). p.1) condition)))

  abbrev pub bound_name : Use → Target
  bound_name (use_of.Local i) = Name i
  bound_name other = Parts no_targets

  abbrev pub target_step : Target-F Part (aim.Target × Target) → Target
  target_step (Target-F.Target::Name n name) = bound_name (names.meant n)
  target_step (Target-F.Target::Attr n a name) = Attribute (value_of a) name
  target_step (Target-F.Item n a i) = Item (value_of a) (value_of i)
  target_step (Target-F.Target::Tuple n items) = Parts (targets_of (map (λ (p : aim.Target × Target). p.1) items))

  abbrev pub said_by : syntax.Expr → Said
  said_by = syntax.para-Expr Said Target expr_step target_step

  abbrev pub expr_by : syntax.Expr → Expr
  expr_by e = (said_by e).value

  abbrev pub target_by : aim.Target → Target
  target_by = para-Target Said Target expr_step target_step

  -- ---- statements

  abbrev pub alone : Stmt → Block
  alone s = line s done

  abbrev pub onto : Block → Block → Block
  onto done rest = rest
  onto (line s body) rest = line s (onto body rest)

  -- one after the other
  abbrev pub joined : List Block → Block
  joined [] = done
  joined (b ∷ bs) = onto b (joined bs)

  -- a clause with its body
  abbrev pub Caught : Type 0
  Caught = Option (List ℕ) × Option ℕ × Block

  abbrev pub clauses_of : List Caught → Clauses
  clauses_of [] = no_clauses
  clauses_of (c ∷ cs) = clause c.0 c.1 c.2 (clauses_of cs)

  -- a class that is raised is called first
  abbrev pub raised_by : Option ℕ → Expr → Expr
  raised_by None e = e
  raised_by (Some c) e = zero_of (row.New c)

  -- what an expression's own name stands for
  abbrev pub name_in : Expr-F syntax.Expr aim.Target → Use
  name_in (Expr-F.Expr::Name n name) = names.meant n
  name_in (Expr-F.Expr::Attr n a name) = names.meant n
  name_in other = use_of.Nothing

  abbrev pub raise_of : syntax.Expr → Stmt
  raise_of e = Do (one_of row.Raise (raised_by (class_named (name_in (syntax.out-Expr e))) (expr_by e)))

  -- `AssertionError`
  abbrev pub assert_of : syntax.Expr → Stmt
  assert_of e = If (expr_by e) done (line (Do (one_of row.Raise (zero_of (row.New 10)))) done)

  abbrev pub augmented : ℕ → BinOp → RowOp
  augmented n bin.Add = row.AddTo
  augmented n bin.Mul = row.Binary bin.Mul (names.site n)
  augmented n op = row.Binary op None

  abbrev pub if_of : List (syntax.Expr × List Block) → List Block → Block
  if_of [] other = joined other
  if_of (arm ∷ arms) other = line (If (expr_by arm.0) (joined arm.1) (if_of arms other)) done

  abbrev pub try_of : Block → List Caught → Block → Block
  try_of body [] other = body
  try_of body (c ∷ cs) other = line (Try body (clauses_of (c ∷ cs)) other) done

  abbrev pub finally_of : Block → Option (List Block) → Block
  finally_of body None = body
  finally_of body (Some last) = line (Finally body (joined last)) done

  -- a statement as a block
  abbrev pub stmt_step : Stmt-F Block Caught → Block
  stmt_step (Stmt-F.Pass n) = alone Pass
  stmt_step (Stmt-F.Break n) = alone Break
  stmt_step (Stmt-F.Continue n) = alone Continue
  stmt_step (Stmt-F.Return n None) = alone (Return (zero_of row.None))
  stmt_step (Stmt-F.Return n (Some e)) = alone (Return (expr_by e))
  stmt_step (Stmt-F.Raise n e) = alone (raise_of e)
  stmt_step (Stmt-F.Assert n e) = alone (assert_of e)
  stmt_step (Stmt-F.Del n a i) = alone (Do (two_of row.DeleteIndex (expr_by a) (expr_by i)))
  stmt_step (Stmt-F.Print n es) = alone (Do (Apply row.Print (exprs (map expr_by es))))
  stmt_step (Stmt-F.Assign n targets e) = alone (Assign (targets_of (map target_by targets)) (expr_by e))
  stmt_step (Stmt-F.Aug n target op e) = alone (Augment (target_by target) (augmented n op) (expr_by e))
  stmt_step (Stmt-F.Expr n e) = alone (Do (expr_by e))
  stmt_step (Stmt-F.If n arms other) = if_of arms other
  stmt_step (Stmt-F.While n e body) = alone (While (expr_by e) (joined body))
  stmt_step (Stmt-F.For n target e body) = alone (For (target_by target) (subject_of (names.walk n) (said_by e)) (joined body))
  stmt_step (Stmt-F.Try n body clauses other last) = finally_of (try_of (joined body) clauses (joined other)) last

  abbrev pub clause_step : Clause-F Block Caught → Caught
  clause_step c = (if c.bare then None else Some (names.caught c.node), names.bound c.node, joined c.body)

  abbrev pub stmt_by : code.Stmt → Block
  stmt_by = code.fold-Stmt Block Caught stmt_step clause_step

  -- ---- functions

  abbrev pub default_of : Option syntax.Expr → Option Value
  default_of None = None
  default_of (Some e) = Some (names.constant (node_of e))

  abbrev pub function_by : FunInfo → def.Function → Function
  function_by info f = record {
    defaults = map (λ (p : Param). default_of p.default) f.params;
    takes_more = f.star;
    locals = info.locals;
    body = joined (map stmt_by f.body);
  }

-- ---- programs

-- the functions and the classes of members, in order
abbrev pub functions_step : Member-F (List def.Function) (List def.Function) → List def.Function
functions_step (Member-F.Def f) = f ∷ []
functions_step (Member-F.Class fs) = fs
functions_step other = []

abbrev pub functions_of : part.Member → List def.Function
functions_of = part.fold-Member (List def.Function) (List def.Function) functions_step (λ c. flat_map (λ fs. fs) c.members)

abbrev pub names_step : Member-F (List (List ℕ)) (List (List ℕ)) → List (List ℕ)
names_step (Member-F.Class names) = names
names_step other = []

abbrev pub class_names_of : part.Member → List (List ℕ)
class_names_of = part.fold-Member (List (List ℕ)) (List (List ℕ)) names_step (λ c. c.name ∷ [])

abbrev pub builtin_names : List (List ℕ)
builtin_names =
    codes "Exception"
    ∷ codes "StandardError"
    ∷ codes "ArithmeticError"
    ∷ codes "OverflowError"
    ∷ codes "ZeroDivisionError"
    ∷ codes "LookupError"
    ∷ codes "IndexError"
    ∷ codes "KeyError"
    ∷ codes "ValueError"
    ∷ codes "AttributeError"
    ∷ codes "AssertionError"
    ∷ codes "RuntimeError"
    ∷ codes "NotImplementedError"
    ∷ []

-- what a program says beside the names, by its nodes: the classes in the head of a clause, the local that it binds, and the value of a
-- default or of the step of a range
pub record Further : Type 0 where
  pub caught : ℕ → List ℕ
  pub bound : ℕ → Option ℕ
  pub constant : ℕ → Const

module _ (p : tree.Program) (further : Further) where
  -- the first site at a node, from this one on
  abbrev pub site_from : ℕ → List Site → ℕ → Option ℕ
  site_from i [] n = None
  site_from i (s ∷ sites) n = if (s.node == n) && nat_lt 0 i then Some i else site_from (suc i) sites n

  -- a site that makes something comes before that of a walk
  abbrev pub walk_from : ℕ → List Site → ℕ → ℕ
  walk_from i [] n = 0
  walk_from i (s ∷ sites) n = if (s.node == n) && nat_lt 0 i then max i (walk_from (suc i) sites n) else walk_from (suc i) sites n

  abbrev pub items_of_site : Bool → Option (List (Const × Const)) → (Const → Value) → Option Object
  items_of_site dict None value = None
  items_of_site false (Some pairs) value = Some (Listed (map (λ (q : Const × Const). value q.1) pairs))
  items_of_site true (Some pairs) value = Some (Mapped (map (λ (q : Const × Const). (value q.0, value q.1)) pairs))

  -- where the objects of sites stand is known before what they hold
  abbrev pub empty_at : Site → Option Object
  empty_at s = option_map (λ pairs. Listed []) s.prebuilt

  abbrev pub value_in : Const → Value
  value_in = constant (map empty_at p.sites)

  abbrev pub object_at : Site → Option Object
  object_at s = items_of_site s.dict s.prebuilt value_in

  abbrev pub has_method : List ℕ → ClassInfo → Bool
  has_method name class = is_some (named name class.methods)

  abbrev pub is_method : List ℕ → Bool
  is_method name =
      is_some (named name text_methods) || is_some (named name (list_methods no_covers)) || is_some (named name dict_methods)
      || list_any (has_method name) p.classes

  abbrev pub use_at : ℕ → Use
  use_at n = unwrap_or (slice_get p.uses n) use_of.Nothing

  -- the names of a module whose first node is this one
  abbrev pub names_at : ℕ → Names
  names_at first = record {
    meant = λ n. use_at (first + n);
    value = value_in;
    site = λ n. site_from 0 p.sites (first + n);
    walk = λ n. walk_from 0 p.sites (first + n);
    is_method = is_method;
    caught = λ n. further.caught (first + n);
    bound = λ n. further.bound (first + n);
    constant = λ n. value_in (further.constant (first + n));
  }

  -- each function with the names of its module
  abbrev pub functions_from : ℕ → List Module → List (Names × def.Function)
  functions_from first [] = []
  functions_from first (m ∷ modules) =
      map (λ f. (names_at first, f)) (flat_map functions_of m.members) ++ functions_from (first + m.nodes) modules

  abbrev pub class_names_from : List (List ℕ) → List Module → List (List ℕ)
  class_names_from [] modules = []
  class_names_from names [] = []
  class_names_from (name ∷ names) (m ∷ modules) =
      map (λ class. name ++ codes "." ++ class) (flat_map class_names_of m.members) ++ class_names_from names modules

  abbrev pub class_by : List ℕ → ClassInfo → Class
  class_by name info = record {
    name = name;
    base = info.base;
    constants = map (λ (a : List ℕ × Const). (a.0, value_in a.1)) info.constants;
    methods = info.methods;
  }

  abbrev pub program_of : Program
  program_of = record {
    functions = map (λ (f : FunInfo × (Names × def.Function)). function_by f.1.0 f.0 f.1.1) (zip p.functions (functions_from 0 p.modules));
    classes = map (λ (c : List ℕ × ClassInfo). class_by c.0 c.1) (zip (builtin_names ++ class_names_from p.names p.modules) p.classes);
    sites = map object_at p.sites;
    entry = p.entry;
  }

  -- what the program means, with arguments and a bound on steps
  abbrev pub program_means : List (List ℕ) → ℕ → Run
  program_means args n = mean program_of args n
