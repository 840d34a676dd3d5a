-- What the expressions that are made mean, form by form.
use Rattle.std.proofs.Common.{◌≡◌, ℕ, zero, suc, ◌+◌, ◌-◌, ◌<◌, ◌≤◌, ℤ, Bool, true, false, List, [], ◌∷◌, ◌++◌, map, length, get_or, take, drop, Bor, Option, Some, None, Result, Ok, Err, refl, sym, ap, ◌∙◌, arith, append_assoc}
use Rattle.std.proofs.lemmas.List.{map-append}
use Rattle.std.specs.Prelude.{if◌then◌else◌, option_map, slice_get, unwrap_or, IfOk, OnOk}
use Rattle.rpy_base.specs.declared.fault.NoMem.{NoMem}
use Rattle.rpy_tree.specs.declared.program.Use.{Use}
use Rattle.rpy_tree.specs.declared.program.Use.TheVariants as use_of
use Rattle.rpy_tree.specs.declared.program.Builtin.{Builtin}
use Rattle.rpy_tree.specs.declared.program.Builtin.TheVariants as builtin
use Rattle.rpy_tree.specs.declared.syntax.UnOp.{UnOp}
use Rattle.rpy_tree.specs.declared.syntax.BinOp.{BinOp}
use Rattle.rpy_tree.specs.declared.syntax.CmpOp.{CmpOp}
use Rattle.rpy_tree.specs.declared.syntax.Expr as syntax
use Rattle.rpy_tree.specs.declared.program.Site.{Site}
use Rattle.rpy_tree.specs.declared.syntax.Expr.{out-Expr}
use Rattle.rpy_tree.specs.declared.syntax.Expr.TheOpen.{Expr-F}
use Rattle.rpy_tree.specs.declared.syntax.Expr.TheViews as views
use Rattle.rpy_tree.specs.declared.syntax.Expr.TheViews.{roll-out-Expr}
use Rattle.rpy_tree.specs.declared.syntax.Target.TheVariants as at
use Rattle.rpy_tree.specs.declared.syntax.Expr.TheVariants as s
use Rattle.rpy_tree.specs.declared.syntax.Target as aim
use Rattle.rpy_meaning.specs.declared.row.RowOp.{RowOp}
use Rattle.rpy_meaning.specs.declared.row.RowOp.TheVariants as row
use Rattle.rpy_meaning.specs.Tree as tree
use Rattle.rpy_meaning.specs.Tree.{Apply, none, more}
use Rattle.rpy_meaning.specs.Resolved as meaning
use Rattle.rpy_meaning.specs.Resolved.{Names, Said, expr_by, said_by, target_by}
use Rattle.rpy_meaning.proofs.Unrolled.{int_is, str_is, name_is, unary_is, binary_is, compare_is, logic_is, not_is, call_is, attr_is, index_is}
use Rattle.rpy_resolved.specs.declared.tree.Expr.{Expr}
use Rattle.rpy_resolved.specs.declared.tree.Expr.TheVariants as m
use Rattle.rpy_resolved.specs.declared.tree.Subject.{Subject}
use Rattle.rpy_resolved.specs.declared.tree.Subject.TheVariants as ms
use Rattle.rpy_resolved.specs.declared.tree.Target.{Target}
use Rattle.rpy_resolved.specs.declared.tree.Target.TheVariants as mt
use Rattle.resolved_meaning.specs.Trees.{pairs}
use Rattle.resolved_laws.specs.Uncopied.{bare}
use Rattle.resolver_names.specs.declared.names.Names as code
use Rattle.resolver_names.specs.Forms.{both, function_op, minus_in, range_args, range_or}
use Rattle.resolver_names.specs.Told.{the_names, tree_of, walked_of, aim_of}
use Rattle.resolver_names.proofs.Making.{ok_map, apply_made, display_made, over_made, up_made, attr_made, item_made, parts_made, values_are, target_name, target_attr, target_item, target_tuple}
use Rattle.resolver_names.proofs.Plain.{binary_bare, minus_same, unranged}
use Rattle.rpy_resolver.specs.Parts.{parts, and_or}

-- ---- operations that are no copy

some_is : {A : Type 0} {a b : A} → Some a ≡ Some b → a ≡ b
some_is {a = a} h = ap (λ x. unwrap_or x a) h

not_copied : (es : tree.Exprs) (p o : RowOp) → p ≡ o → bare p es ≡ Apply p es → bare o es ≡ Apply o es
not_copied es p o e h = ap (λ (x : RowOp). bare x es) (sym e) ∙ h ∙ ap (λ (x : RowOp). Apply x es) e

bare_builtin : (b : Builtin) (o : RowOp) (es : tree.Exprs) → meaning.builtin_op b ≡ Some o → bare o es ≡ Apply o es
bare_builtin builtin.Len o es h = not_copied es row.Len o (some_is h) refl
bare_builtin builtin.Ord o es h = not_copied es row.Ord o (some_is h) refl
bare_builtin builtin.Chr o es h = not_copied es row.Chr o (some_is h) refl
bare_builtin builtin.Str o es h = not_copied es row.ToStr o (some_is h) refl
bare_builtin builtin.Int o es h = not_copied es row.ToInt o (some_is h) refl
bare_builtin builtin.Bool o es h = not_copied es row.Truth o (some_is h) refl
bare_builtin builtin.Min o es h = not_copied es row.Min o (some_is h) refl
bare_builtin builtin.Max o es h = not_copied es row.Max o (some_is h) refl
bare_builtin builtin.IsInstance o es h = absurd cc
bare_builtin builtin.Ovfcheck o es h = absurd cc
bare_builtin builtin.Intmask o es h = not_copied es row.Intmask o (some_is h) refl
bare_builtin builtin.OsWrite o es h = not_copied es row.Write o (some_is h) refl
bare_builtin builtin.Range o es h = absurd cc
bare_builtin builtin.Xrange o es h = absurd cc

-- ---- what is made

module _ (names : code.Names) where
  pub all_whole : (n : ℕ) (v : Bool) (o : RowOp) (es : List Expr) (ts : List tree.Expr) → map (tree_of names) es ≡ ts → tree_of names (m.Apply n v o es) ≡ bare o (meaning.exprs ts)
  all_whole n v o es ts h = apply_made names.program.now.sites n v o es ∙ ap (λ (us : List tree.Expr). bare o (meaning.exprs us)) h

-- ---- what is meant

module _ (names : Names) where
  abbrev said : syntax.Expr → tree.Expr
  said e = expr_by names e

  abbrev value : Said → tree.Expr
  value x = x.value

  pub int_said : (e : syntax.Expr) (n : ℕ) (z : ℤ) → e ≡ s.Int n z → Apply (row.Word z) none ≡ said e
  int_said e n z is = sym (ap said is ∙ ap value (int_is names n z))

  pub str_said : (e : syntax.Expr) (n : ℕ) (text : List ℕ) → e ≡ s.Str n text → Apply (row.Str text) none ≡ said e
  str_said e n text is = sym (ap said is ∙ ap value (str_is names n text))

  pub name_said : (e : syntax.Expr) (n : ℕ) (name : List ℕ) → e ≡ s.Name n name → meaning.named_value names (names.meant n) ≡ said e
  name_said e n name is = sym (ap said is ∙ ap value (name_is names n name))

  pub unary_said : (e : syntax.Expr) (n : ℕ) (op : UnOp) (a : syntax.Expr) → e ≡ s.Unary n op a → bare (row.Unary op) (more (said a) none) ≡ said e
  unary_said e n op a is = sym (ap said is ∙ ap value (unary_is names n op a))

  pub not_said : (e : syntax.Expr) (n : ℕ) (a : syntax.Expr) → e ≡ s.Not n a → bare row.Not (more (said a) none) ≡ said e
  not_said e n a is = sym (ap said is ∙ ap value (not_is names n a))

  pub binary_said : (e : syntax.Expr) (n : ℕ) (op : BinOp) (a b : syntax.Expr) (o : RowOp) → e ≡ s.Binary n op a b → o ≡ meaning.binary_of names n op
      → bare o (more (said a) (more (said b) none)) ≡ said e
  binary_said e n op a b o is o_is =
      ap (λ (x : RowOp). bare x (more (said a) (more (said b) none))) o_is
      ∙ binary_bare names n op (more (said a) (more (said b) none))
      ∙ sym (ap said is ∙ ap value (binary_is names n op a b))

  pub compare_said : (e : syntax.Expr) (n : ℕ) (op : CmpOp) (a b : syntax.Expr) → e ≡ s.Compare n op a b → bare (row.Compare op) (more (said a) (more (said b) none)) ≡ said e
  compare_said e n op a b is = sym (ap said is ∙ ap value (compare_is names n op a b))

  pub logic_said : (e : syntax.Expr) (n : ℕ) (is_and : Bool) (a b : syntax.Expr) → e ≡ s.Logic n is_and a b → and_or is_and (said a) (said b) ≡ said e
  logic_said e n is_and a b is = sym (ap said is ∙ ap value (logic_is names n is_and a b))

  pub index_said : (e : syntax.Expr) (n : ℕ) (a i : syntax.Expr) (z : Option ℤ) → e ≡ s.Index n a i → z ≡ meaning.literal_of (said i) → bare (row.Index z) (more (said a) (more (said i) none)) ≡ said e
  index_said e n a i z is z_is =
      ap (λ (x : Option ℤ). tree.Apply (row.Index x) (more (said a) (more (said i) none))) z_is ∙ sym (ap said is ∙ ap value (index_is names n a i))

  pub attr_said : (e : syntax.Expr) (n : ℕ) (a : syntax.Expr) (name : List ℕ) → e ≡ s.Attr n a name → meaning.attribute_value names (names.meant n) (said a) name ≡ said e
  attr_said e n a name is = sym (ap said is ∙ ap value (attr_is names n a name))

  pub call_said : (e : syntax.Expr) (n : ℕ) (f : syntax.Expr) (args : List syntax.Expr) → e ≡ s.Call n f args → meaning.call_by names (out-Expr f) n (said f) (parts names args) ≡ said e
  call_said e n f args is = sym (ap said is ∙ ap value (call_is names n f args))

  -- ---- calls

  pub function_said : (class : Option ℕ) (f : ℕ) (es : tree.Exprs) (o : RowOp) → o ≡ function_op class f → bare o es ≡ meaning.function_call names class f es
  function_said None f es o is = ap (λ (x : RowOp). bare x es) is
  function_said (Some c) f es o is = ap (λ (x : RowOp). bare x es) is

  pub builtin_said : (b : Builtin) (o : RowOp) (es : tree.Exprs) → meaning.builtin_op b ≡ Some o → bare o es ≡ meaning.applied (meaning.builtin_op b) es
  builtin_said b o es h = bare_builtin b o es h ∙ ap (λ (x : Option RowOp). meaning.applied x es) (sym h)

-- where something holds behind a success, so does what follows from it
pub on_map : {A E : Type 0} {P Q : Type 0} (r : Result A E) → (P → Q) → OnOk r P → OnOk r Q
on_map (Ok a) g h = g h
on_map (Err x) g h = h

-- one more is made, and one less is left
pub one_more : {A B C : Type 0} (f : A → C) (g : B → C) (old new : List A) (made : A) (x : B) (rest tail : List B) (whole : List C)
    → new ≡ old ++ made ∷ [] → f made ≡ g x → rest ≡ x ∷ tail → map f old ++ map g rest ≡ whole → map f new ++ map g tail ≡ whole
one_more f g old new made x rest tail whole is same_x split h =
    ap (λ us. map f us ++ map g tail) is
    ∙ ap (λ us. us ++ map g tail) (map-append f old (made ∷ []))
    ∙ append_assoc (map f old) (f made ∷ []) (map g tail)
    ∙ ap (λ c. map f old ++ c ∷ map g tail) same_x
    ∙ ap (λ us. map f old ++ map g us) (sym split)
    ∙ h

pub same_tree : (names : code.Names) (r : Result Expr NoMem) (t u : tree.Expr) → t ≡ u → IfOk r (λ made. tree_of names made ≡ t) → IfOk r (λ made. tree_of names made ≡ u)
same_tree names r t u e = ok_map r (λ made h. h ∙ e)

pub same_walk : (names : code.Names) (r : Result Subject NoMem) (t u : tree.Subject) → t ≡ u → IfOk r (λ made. walked_of names made ≡ t) → IfOk r (λ made. walked_of names made ≡ u)
same_walk names r t u e = ok_map r (λ made h. h ∙ e)

pub drop_at : {A : Type 0} (xs : List A) (i : ℕ) (x : A) → i < length xs → x ≡ get_or xs i x → drop i xs ≡ x ∷ drop (i + 1) xs
drop_at {A = A} [] i x lt e = absurd (omega (arith, lt))
drop_at {A = A} (y ∷ xs) zero x lt e = ap (λ (u : A). u ∷ xs) (sym e)
drop_at {A = A} (y ∷ xs) (suc i) x lt e =
    let next : suc i + 1 ≡ suc (i + 1) = omega arith in
    drop_at xs i x (omega (arith, lt)) e ∙ ap (λ k. x ∷ drop k (y ∷ xs)) (sym next)

pub one_item : {A : Type 0} (xs : List A) (a : A) → 1 ≤ length xs → length xs < 2 → a ≡ get_or xs 0 a → xs ≡ a ∷ []
one_item {A = A} [] a le lt e = absurd (omega arith)
one_item {A = A} (x ∷ []) a le lt e = ap (λ (y : A). y ∷ []) (sym e)
one_item {A = A} (x ∷ y ∷ xs) a le lt e = absurd (omega arith)

pub two_items : {A : Type 0} (xs : List A) (a b : A) → 2 ≤ length xs → length xs < 3 → a ≡ get_or xs 0 a → b ≡ get_or xs 1 b → xs ≡ a ∷ b ∷ []
two_items {A = A} [] a b le lt e f = absurd (omega arith)
two_items {A = A} (x ∷ []) a b le lt e f = absurd (omega arith)
two_items {A = A} (x ∷ y ∷ []) a b le lt e f = ap (λ (u : A). u ∷ y ∷ []) (sym e) ∙ ap (λ (u : A). a ∷ u ∷ []) (sym f)
two_items {A = A} (x ∷ y ∷ z ∷ xs) a b le lt e f = absurd (omega arith)

pub three_items : {A : Type 0} (xs : List A) (a b c : A) → 3 ≤ length xs → length xs < 4 → a ≡ get_or xs 0 a → b ≡ get_or xs 1 b → c ≡ get_or xs 2 c → xs ≡ a ∷ b ∷ c ∷ []
three_items {A = A} [] a b c le lt e f g = absurd (omega arith)
three_items {A = A} (x ∷ xs) a b c le lt e f g = ap (λ (us : List A). x ∷ us) (two_items xs b c (omega (arith, le)) (omega (arith, lt)) f g) ∙ ap (λ (u : A). u ∷ b ∷ c ∷ []) (sym e)

-- ---- the forms, as they are made

module _ (names : code.Names) where
  abbrev the : Names
  the = the_names names

  abbrev sites : List Site
  sites = names.program.now.sites

  pub leaf_whole : (n : ℕ) (v : Bool) (o : RowOp) (made : Expr) → made ≡ m.Apply n v o [] → tree_of names made ≡ bare o none
  leaf_whole n v o made is = ap (tree_of names) is ∙ apply_made sites n v o []

  pub display_whole : (k site n : ℕ) (ps : List (Expr × Expr)) (qs : List (syntax.Expr × syntax.Expr)) → site ≡ meaning.made_at the n → map (both (tree_of names)) ps ≡ map (both (expr_by the)) qs
      → tree_of names (m.Display k site ps) ≡ tree.Display (meaning.made_at the n) (pairs (map (both (expr_by the)) qs))
  display_whole k site n ps qs e h = display_made sites k site ps ∙ ap (λ (i : ℕ). tree.Display i (pairs (map (both (tree_of names)) ps))) e ∙ ap (λ us. tree.Display (meaning.made_at the n) (pairs us)) h

  -- calls

  pub instance_whole : (args : List syntax.Expr) (a c : syntax.Expr) (u : Option ℕ) (class : ℕ) → args ≡ a ∷ c ∷ [] → u ≡ meaning.class_named the (the.meant (meaning.node_of c)) → u ≡ Some class
      → tree.Apply (row.IsInstance class) (more (expr_by the a) none) ≡ meaning.builtin_call the builtin.IsInstance (parts the args)
  instance_whole args a c u class is h i =
      ap (λ (x : Option ℕ). meaning.is_instance_of the x (expr_by the a)) (sym i ∙ h) ∙ ap (λ us. meaning.builtin_call the builtin.IsInstance (parts the us)) (sym is)

  pub checked_whole : (args : List syntax.Expr) (a : syntax.Expr) (e : Expr) → args ≡ a ∷ [] → tree_of names e ≡ expr_by the a
      → meaning.checked_of (tree_of names e) ≡ meaning.builtin_call the builtin.Ovfcheck (parts the args)
  checked_whole args a e is h = ap meaning.checked_of h ∙ ap (λ us. meaning.builtin_call the builtin.Ovfcheck (parts the us)) (sym is)

  pub builtin_whole : (b : Builtin) (o : RowOp) (args : List syntax.Expr) → meaning.builtin_op b ≡ Some o → bare o (meaning.exprs (map (expr_by the) args)) ≡ meaning.builtin_call the b (parts the args)
  builtin_whole builtin.Len o args h = builtin_said the builtin.Len o (meaning.exprs (map (expr_by the) args)) h ∙ ap (λ us. tree.Apply row.Len us) (sym (values_are the args))
  builtin_whole builtin.Ord o args h = builtin_said the builtin.Ord o (meaning.exprs (map (expr_by the) args)) h ∙ ap (λ us. tree.Apply row.Ord us) (sym (values_are the args))
  builtin_whole builtin.Chr o args h = builtin_said the builtin.Chr o (meaning.exprs (map (expr_by the) args)) h ∙ ap (λ us. tree.Apply row.Chr us) (sym (values_are the args))
  builtin_whole builtin.Str o args h = builtin_said the builtin.Str o (meaning.exprs (map (expr_by the) args)) h ∙ ap (λ us. tree.Apply row.ToStr us) (sym (values_are the args))
  builtin_whole builtin.Int o args h = builtin_said the builtin.Int o (meaning.exprs (map (expr_by the) args)) h ∙ ap (λ us. tree.Apply row.ToInt us) (sym (values_are the args))
  builtin_whole builtin.Bool o args h = builtin_said the builtin.Bool o (meaning.exprs (map (expr_by the) args)) h ∙ ap (λ us. tree.Apply row.Truth us) (sym (values_are the args))
  builtin_whole builtin.Min o args h = builtin_said the builtin.Min o (meaning.exprs (map (expr_by the) args)) h ∙ ap (λ us. tree.Apply row.Min us) (sym (values_are the args))
  builtin_whole builtin.Max o args h = builtin_said the builtin.Max o (meaning.exprs (map (expr_by the) args)) h ∙ ap (λ us. tree.Apply row.Max us) (sym (values_are the args))
  builtin_whole builtin.IsInstance o args h = absurd cc
  builtin_whole builtin.Ovfcheck o args h = absurd cc
  builtin_whole builtin.Intmask o args h = builtin_said the builtin.Intmask o (meaning.exprs (map (expr_by the) args)) h ∙ ap (λ us. tree.Apply row.Intmask us) (sym (values_are the args))
  builtin_whole builtin.OsWrite o args h = builtin_said the builtin.OsWrite o (meaning.exprs (map (expr_by the) args)) h ∙ ap (λ us. tree.Apply row.Write us) (sym (values_are the args))
  builtin_whole builtin.Range o args h = absurd cc
  builtin_whole builtin.Xrange o args h = absurd cc

  abbrev given : List syntax.Expr → tree.Exprs
  given args = meaning.exprs (map (expr_by the) args)

  pub function_whole : (of : Use) (f : ℕ) (class : Option ℕ) (callee : tree.Expr) (o : RowOp) (args : List syntax.Expr) → of ≡ use_of.Function f → o ≡ function_op class f
      → bare o (given args) ≡ meaning.named_call the of class callee (parts the args)
  function_whole of f class callee o args is h =
      function_said the class f (given args) o h ∙ ap (λ us. meaning.function_call the class f us) (sym (values_are the args)) ∙ ap (λ (x : Use). meaning.named_call the x class callee (parts the args)) (sym is)

  pub new_whole : (of : Use) (c : ℕ) (class : Option ℕ) (callee : tree.Expr) (args : List syntax.Expr) → of ≡ use_of.Class c
      → bare (row.New c) (given args) ≡ meaning.named_call the of class callee (parts the args)
  new_whole of c class callee args is = ap (tree.Apply (row.New c)) (sym (values_are the args)) ∙ ap (λ (x : Use). meaning.named_call the x class callee (parts the args)) (sym is)

  abbrev called : tree.Expr → List syntax.Expr → tree.Expr
  called callee args = tree.Apply row.CallValue (more callee (given args))

  called_is : (callee : tree.Expr) (args : List syntax.Expr) → called callee args ≡ tree.Apply row.CallValue (more callee (meaning.values_of (parts the args)))
  called_is callee args = ap (λ us. tree.Apply row.CallValue (more callee us)) (sym (values_are the args))

  pub value_whole : (of : Use) (class : Option ℕ) (callee : tree.Expr) (args : List syntax.Expr)
      → ((f : ℕ) → of ≡ use_of.Function f → ⊥) → ((c : ℕ) → of ≡ use_of.Class c → ⊥) → ((x : ℕ) → of ≡ use_of.Module x → ⊥) → ((b : Builtin) → of ≡ use_of.Builtin b → ⊥)
      → called callee args ≡ meaning.named_call the of class callee (parts the args)
  value_whole use_of.Nothing class callee args f c x b = called_is callee args
  value_whole (use_of.Local i) class callee args f c x b = called_is callee args
  value_whole (use_of.Function g) class callee args f c x b = absurd (f g refl)
  value_whole (use_of.Class d) class callee args f c x b = absurd (c d refl)
  value_whole (use_of.Value v) class callee args f c x b = called_is callee args
  value_whole (use_of.Module y) class callee args f c x b = absurd (x y refl)
  value_whole (use_of.Builtin d) class callee args f c x b = absurd (b d refl)

  abbrev as_called : ℕ → syntax.Expr → List syntax.Expr → tree.Expr
  as_called n callee args = meaning.call_by the (out-Expr callee) n (expr_by the callee) (parts the args)

  attr_layer : (callee before : syntax.Expr) (k : ℕ) (name : List ℕ) (n : ℕ) (args : List syntax.Expr) → callee ≡ s.Attr k before name
      → meaning.method_call the (the.meant k) n name before (expr_by the callee) (parts the args) ≡ as_called n callee args
  attr_layer callee before k name n args is = ap (λ x. meaning.call_by the x n (expr_by the callee) (parts the args)) (sym (ap out-Expr is ∙ views.outs-Expr::Attr k before name))

  -- a name with a dot that stands for nothing, and is a method's
  pub method_whole : (callee before : syntax.Expr) (k : ℕ) (name : List ℕ) (n : ℕ) (args : List syntax.Expr) (u : Use) (o : RowOp)
      → callee ≡ s.Attr k before name → u ≡ the.meant k → u ≡ use_of.Nothing → the.is_method name ≡ true → o ≡ row.Method name (the.site n)
      → bare o (more (expr_by the before) (given args)) ≡ as_called n callee args
  method_whole callee before k name n args u o is h i known o_is =
      ap (λ (x : RowOp). bare x (more (expr_by the before) (given args))) o_is
      ∙ ap (λ us. tree.Apply (row.Method name (the.site n)) (more (expr_by the before) us)) (sym (values_are the args))
      ∙ ap (λ (b : Bool). if b then meaning.method_of (row.Method name (the.site n)) (meaning.one_of (row.Attr name) (expr_by the before)) (meaning.values_of (parts the args)) else tree.Apply row.CallValue (more (meaning.one_of (row.Attr name) (expr_by the before)) (meaning.values_of (parts the args)))) (sym known)
      ∙ ap (λ (x : Use). meaning.method_call the x n name before (meaning.attribute_value the x (expr_by the before) name) (parts the args)) (sym i ∙ h)
      ∙ ap (λ (x : tree.Expr). meaning.method_call the (the.meant k) n name before x (parts the args)) (attr_said the callee k before name is)
      ∙ attr_layer callee before k name n args is

  pub no_method_whole : (callee before : syntax.Expr) (k : ℕ) (name : List ℕ) (n : ℕ) (args : List syntax.Expr) (u : Use)
      → callee ≡ s.Attr k before name → u ≡ the.meant k → u ≡ use_of.Nothing → the.is_method name ≡ false
      → called (expr_by the callee) args ≡ as_called n callee args
  no_method_whole callee before k name n args u is h i unknown =
      called_is (expr_by the callee) args
      ∙ ap (λ (b : Bool). if b then meaning.method_of (row.Method name (the.site n)) (expr_by the callee) (meaning.values_of (parts the args)) else tree.Apply row.CallValue (more (expr_by the callee) (meaning.values_of (parts the args)))) (sym unknown)
      ∙ ap (λ (x : Use). meaning.method_call the x n name before (expr_by the callee) (parts the args)) (sym i ∙ h)
      ∙ attr_layer callee before k name n args is

  pub other_whole : (callee : syntax.Expr) (n : ℕ) (args : List syntax.Expr) → ((k : ℕ) (name : List ℕ) → callee ≡ s.Name k name → ⊥) → ((k : ℕ) (a : syntax.Expr) (name : List ℕ) → callee ≡ s.Attr k a name → ⊥)
      → called (expr_by the callee) args ≡ as_called n callee args
  other_whole callee n args no_name no_attr = called_is (expr_by the callee) args ∙ by (out-Expr callee) refl
    where
      by : (x : Expr-F syntax.Expr aim.Target) → out-Expr callee ≡ x → tree.Apply row.CallValue (more (expr_by the callee) (meaning.values_of (parts the args))) ≡ meaning.call_by the x n (expr_by the callee) (parts the args)
      by (Expr-F.Int k z) h = refl
      by (Expr-F.Str k text) h = refl
      by (Expr-F.Expr::Name k name) h = absurd (no_name k name (sym (roll-out-Expr callee) ∙ ap views.roll-Expr h ∙ views.rolls-Expr::Name k name))
      by (Expr-F.Unary k op a) h = refl
      by (Expr-F.Binary k op a b) h = refl
      by (Expr-F.Compare k op a b) h = refl
      by (Expr-F.Logic k is_and a b) h = refl
      by (Expr-F.Not k a) h = refl
      by (Expr-F.Call k f xs) h = refl
      by (Expr-F.Expr::Attr k a name) h = absurd (no_attr k a name (sym (roll-out-Expr callee) ∙ ap views.roll-Expr h ∙ views.rolls-Expr::Attr k a name))
      by (Expr-F.Index k a i) h = refl
      by (Expr-F.Slice k a low high) h = refl
      by (Expr-F.Expr::Tuple k items) h = refl
      by (Expr-F.List k items) h = refl
      by (Expr-F.Dict k ps) h = refl
      by (Expr-F.Comp k item target subject condition) h = refl

  -- slices whose end alone is said

  pub but_last_whole : (site : ℕ) (a h : syntax.Expr) (low high : Option syntax.Expr) → low ≡ None → high ≡ Some h → minus_in (out-Expr h) ≡ true
      → tree.Apply (row.AllButLast site) (more (expr_by the a) none) ≡ meaning.slice_of site (expr_by the a) (option_map (expr_by the) low) (option_map (expr_by the) high)
  but_last_whole site a h low high l e known =
      ap (λ (b : Bool). if b then meaning.one_of (row.AllButLast site) (expr_by the a) else meaning.two_of (row.Slice site false true) (expr_by the a) (expr_by the h)) (sym (sym (minus_same the h) ∙ known))
      ∙ ap (λ x. meaning.slice_of site (expr_by the a) (option_map (expr_by the) x) (Some (expr_by the h))) (sym l)
      ∙ ap (λ x. meaning.slice_of site (expr_by the a) (option_map (expr_by the) low) (option_map (expr_by the) x)) (sym e)

  pub end_whole : (site : ℕ) (a h : syntax.Expr) (low high : Option syntax.Expr) → low ≡ None → high ≡ Some h → minus_in (out-Expr h) ≡ false
      → tree.Apply (row.Slice site false true) (more (expr_by the a) (more (expr_by the h) none)) ≡ meaning.slice_of site (expr_by the a) (option_map (expr_by the) low) (option_map (expr_by the) high)
  end_whole site a h low high l e unknown =
      ap (λ (b : Bool). if b then meaning.one_of (row.AllButLast site) (expr_by the a) else meaning.two_of (row.Slice site false true) (expr_by the a) (expr_by the h)) (sym (sym (minus_same the h) ∙ unknown))
      ∙ ap (λ x. meaning.slice_of site (expr_by the a) (option_map (expr_by the) x) (Some (expr_by the h))) (sym l)
      ∙ ap (λ x. meaning.slice_of site (expr_by the a) (option_map (expr_by the) low) (option_map (expr_by the) x)) (sym e)

  -- what is walked

  pub up_whole : (site : ℕ) (args : List syntax.Expr) (a : syntax.Expr) (e : Expr) → args ≡ a ∷ [] → tree_of names e ≡ expr_by the a → walked_of names (ms.UpTo e) ≡ range_or site (meaning.range_of the (parts the args))
  up_whole site args a e is h = up_made sites e ∙ ap tree.UpTo h ∙ ap (λ us. range_or site (meaning.range_of the (parts the us))) (sym is)

  pub step_whole : (site : ℕ) (args : List syntax.Expr) (a b c : syntax.Expr) (step : ℤ) → args ≡ a ∷ b ∷ c ∷ [] → step ≡ meaning.step_of the (the.constant (meaning.node_of c))
      → tree.FromTo (expr_by the a) (expr_by the b) step ≡ range_or site (meaning.range_of the (parts the args))
  step_whole site args a b c step is h = ap (tree.FromTo (expr_by the a) (expr_by the b)) h ∙ ap (λ us. range_or site (meaning.range_of the (parts the us))) (sym is)

  pub over_whole : (site : ℕ) (x : syntax.Expr) (e : Expr) → range_args the (out-Expr x) ≡ None → tree_of names e ≡ expr_by the x → walked_of names (ms.Over site e) ≡ meaning.subject_of site (said_by the x)
  over_whole site x e none_is h = over_made sites site e ∙ ap (tree.Over site) h ∙ unranged the x site none_is

  many_range : (site : ℕ) (args : List syntax.Expr) → 4 ≤ length args → tree.Over site meaning.meaningless ≡ range_or site (meaning.range_of the (parts the args))
  many_range site [] le = absurd (omega arith)
  many_range site (a ∷ []) le = absurd (omega arith)
  many_range site (a ∷ b ∷ []) le = absurd (omega arith)
  many_range site (a ∷ b ∷ c ∷ []) le = absurd (omega arith)
  many_range site (a ∷ b ∷ c ∷ d ∷ args) le = refl

  pub many_whole : (site n : ℕ) (args : List syntax.Expr) (e : Expr) → 4 ≤ length args → e ≡ m.Apply n true row.Copy [] → walked_of names (ms.Over site e) ≡ range_or site (meaning.range_of the (parts the args))
  many_whole site n args e le is = over_made sites site e ∙ ap (tree.Over site) (leaf_whole n true row.Copy e is) ∙ many_range site args le

  -- targets

  pub name_aim : (t : aim.Target) (n : ℕ) (name : List ℕ) (made : Target) → t ≡ at.Name n name → aim_of names made ≡ meaning.bound_name the (the.meant n) → aim_of names made ≡ target_by the t
  name_aim t n name made is h = h ∙ sym (target_name the n name) ∙ ap (target_by the) (sym is)

  pub attr_aim : (t : aim.Target) (n k : ℕ) (a : syntax.Expr) (name copy : List ℕ) (e : Expr) → t ≡ at.Attr n a name → tree_of names e ≡ expr_by the a → copy ≡ name → aim_of names (mt.Attr k e copy) ≡ target_by the t
  attr_aim t n k a name copy e is h i =
      attr_made sites k e copy ∙ ap (λ (x : tree.Expr). tree.Attribute x copy) h ∙ ap (tree.Attribute (expr_by the a)) i ∙ sym (target_attr the n a name) ∙ ap (target_by the) (sym is)

  pub item_aim : (t : aim.Target) (n k : ℕ) (a i : syntax.Expr) (x y : Expr) → t ≡ at.Item n a i → tree_of names x ≡ expr_by the a → tree_of names y ≡ expr_by the i → aim_of names (mt.Item k x y) ≡ target_by the t
  item_aim t n k a i x y is h j =
      item_made sites k x y ∙ ap (λ (u : tree.Expr). tree.Item u (tree_of names y)) h ∙ ap (tree.Item (expr_by the a)) j ∙ sym (target_item the n a i) ∙ ap (target_by the) (sym is)

  pub tuple_aim : (t : aim.Target) (n k : ℕ) (items : List aim.Target) (xs : List Target) → t ≡ at.Tuple n items → map (aim_of names) xs ≡ map (target_by the) items → aim_of names (mt.Parts k xs) ≡ target_by the t
  tuple_aim t n k items xs is h =
      parts_made sites k xs ∙ ap (λ us. tree.Parts (meaning.targets_of us)) h ∙ sym (target_tuple the n items) ∙ ap (target_by the) (sym is)

pub none_at : {A : Type 0} (xs : List A) (n : ℕ) → length xs ≤ n → slice_get xs n ≡ None
none_at {A = A} [] n le = refl
none_at {A = A} (x ∷ xs) zero le = absurd (omega (arith, le))
none_at {A = A} (x ∷ xs) (suc n) le = none_at xs n (omega (arith, le))

pub some_at : {A : Type 0} (xs : List A) (n : ℕ) (x : A) → n < length xs → x ≡ get_or xs n x → slice_get xs n ≡ Some x
some_at {A = A} [] n x lt e = absurd (omega (arith, lt))
some_at {A = A} (y ∷ xs) zero x lt e = ap Some (sym e)
some_at {A = A} (y ∷ xs) (suc n) x lt e = some_at xs n x (omega (arith, lt)) e

take_all : {A : Type 0} (xs : List A) → take (length xs) xs ≡ xs
take_all [] = refl
take_all (x ∷ xs) = ap (λ us. x ∷ us) (take_all xs)

pub first_rest : {A : Type 0} (xs : List A) (a : A) → 1 ≤ length xs → a ≡ get_or xs 0 a → xs ≡ a ∷ take (length xs - 1) (drop 1 xs)
first_rest {A = A} [] a le e = absurd (omega arith)
first_rest {A = A} (x ∷ xs) a le e =
    let n : length (x ∷ xs) - 1 ≡ length xs = omega arith in
    ap (λ (u : A). u ∷ xs) (sym e) ∙ ap (λ (u : List A). a ∷ u) (sym (ap (λ (k : ℕ). take k xs) n ∙ take_all xs))

-- what `range_args` answers, as the definitions have it
pub none_ranged : (names : Names) (e : syntax.Expr) (r : Option (Bor (List syntax.Expr))) → option_map (λ (args : Bor (List syntax.Expr)). args.now) r ≡ range_args names (out-Expr e) → r ≡ None → range_args names (out-Expr e) ≡ None
none_ranged names e r h is = sym h ∙ ap (option_map (λ (args : Bor (List syntax.Expr)). args.now)) is

pub some_ranged : (names : Names) (e : syntax.Expr) (r : Option (Bor (List syntax.Expr))) (args : Bor (List syntax.Expr)) → option_map (λ (args : Bor (List syntax.Expr)). args.now) r ≡ range_args names (out-Expr e) → r ≡ Some args
    → range_args names (out-Expr e) ≡ Some args.now
some_ranged names e r args h is = sym h ∙ ap (option_map (λ (args : Bor (List syntax.Expr)). args.now)) is

pub drop_all : {A : Type 0} (xs : List A) (i : ℕ) → length xs ≤ i → drop i xs ≡ []
drop_all {A = A} [] zero le = refl
drop_all {A = A} [] (suc i) le = refl
drop_all {A = A} (x ∷ xs) zero le = absurd (omega (arith, le))
drop_all {A = A} (x ∷ xs) (suc i) le = drop_all xs i (omega (arith, le))
